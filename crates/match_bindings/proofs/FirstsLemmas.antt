-- What is true of a tree under some Firsts, by that tree.
use Rattle.std.proofs.Common.{◌≡◌, ℕ, zero, suc, ◌+◌, List, ◌∷◌, ◌++◌, refl, sym, ◌∙◌, ap, arith, append_assoc, append-nil, ◌⊎◌, inl, inr}
use Rattle.std.specs.Prelude.{replicate, codes}
use Rattle.std.specs.List.{repeat}
use Rattle.std.specs.Rc.{rc_value}
use Rattle.match_bindings.specs.declared.bind.Bind.{Bind}
use Rattle.match_bindings.specs.declared.bind.Bind.TheVariants.{First as OfFirst, Second as OfSecond}
use Rattle.match_bindings.specs.BindTree.{BindTree, First, Second, firsts, tree_of, has, disjoint, greatest}
use Rattle.match_bindings.specs.Flat.{flat}
use Rattle.match_bindings.specs.Line.{entries_text}
use Rattle.match_bindings.proofs.BindTreeLemmas.{tree_first, tree_second}

pub firsts_more : (n : ℕ) (x : BindTree) → firsts (n + 1) x ≡ First (firsts n x)
firsts_more n x = let e : n + 1 ≡ suc n = omega arith in ap (λ k. firsts k x) e

pub firsts_first : (n : ℕ) (x : BindTree) → firsts n (First x) ≡ First (firsts n x)
firsts_first zero x = refl
firsts_first (suc n) x = ap First (firsts_first n x)

firsts_add : (m n : ℕ) (x : BindTree) → firsts (m + n) x ≡ firsts m (firsts n x)
firsts_add zero n x = let e : 0 + n ≡ n = omega arith in ap (λ k. firsts k x) e
firsts_add (suc m) n x = (let e : suc m + n ≡ suc (m + n) = omega arith in ap (λ k. firsts k x) e) ∙ ap First (firsts_add m n x)

-- a run of so many more
pub run_longer : (count more : ℕ) (x : BindTree) → First (firsts (more + count) x) ≡ firsts count (First (firsts more x))
run_longer count more x =
    ap First ((let e : more + count ≡ count + more = omega arith in ap (λ k. firsts k x) e) ∙ firsts_add count more x)
    ∙ sym (firsts_first count (firsts more x))

pub has_firsts : (m n : ℕ) (x : BindTree) → has m (firsts n x) ≡ has m x
has_firsts m zero x = refl
has_firsts m (suc n) x = has_firsts m n x

pub disjoint_firsts : (y : BindTree) (n : ℕ) (x : BindTree) → disjoint (firsts n x) y ≡ disjoint x y
disjoint_firsts y zero x = refl
disjoint_firsts y (suc n) x = disjoint_firsts y n x

pub greatest_firsts : (n : ℕ) (x : BindTree) → greatest (firsts n x) ≡ greatest x
greatest_firsts zero x = refl
greatest_firsts (suc n) x = greatest_firsts n x

-- what is the same of a tree and of it under Firsts or a Second is that of the part
pub of_part : {A : Type 0} (f : BindTree → A) → ((n : ℕ) (x : BindTree) → f (First (firsts n x)) ≡ f x) → ((x : BindTree) → f (Second x) ≡ f x) →
    (bind : Bind) (part : _) → ((n : ℕ) × (bind ≡ OfFirst n part)) ⊎ (bind ≡ OfSecond part) → f (tree_of bind) ≡ f (tree_of (rc_value part))
of_part f first second bind part (inl is) =
    ap (λ b. f (tree_of b)) is.1 ∙ ap f (tree_first is.0 part) ∙ first is.0 (tree_of (rc_value part))
of_part f first second bind part (inr is) = ap (λ b. f (tree_of b)) is ∙ ap f (tree_second part) ∙ second (tree_of (rc_value part))

-- ---- what is before a part

flat_firsts : (n : ℕ) (x : BindTree) → flat (firsts n x) ≡ replicate n 0 ++ flat x
flat_firsts zero x = refl
flat_firsts (suc n) x = ap (λ z. 0 ∷ z) (flat_firsts n x)

pub flat_first : (n : ℕ) (part : _) → flat (tree_of (OfFirst n part)) ≡ replicate (n + 1) 0 ++ flat (tree_of (rc_value part))
flat_first n part =
    ap flat (tree_first n part ∙ sym (firsts_more n (tree_of (rc_value part)))) ∙ flat_firsts (n + 1) (tree_of (rc_value part))

entries_firsts : (n : ℕ) (x : BindTree) → entries_text (firsts n x) ≡ repeat n (codes " L") ++ entries_text x
entries_firsts zero x = refl
entries_firsts (suc n) x =
    ap (λ z. codes " L" ++ z) (entries_firsts n x) ∙ sym (append_assoc (codes " L") (repeat n (codes " L")) (entries_text x))

pub entries_first : (n : ℕ) (part : _) → entries_text (tree_of (OfFirst n part)) ≡ repeat (n + 1) (codes " L") ++ entries_text (tree_of (rc_value part))
entries_first n part =
    ap entries_text (tree_first n part ∙ sym (firsts_more n (tree_of (rc_value part)))) ∙ entries_firsts (n + 1) (tree_of (rc_value part))

repeat_last : (n : ℕ) (xs : List ℕ) → repeat n xs ++ xs ≡ repeat (suc n) xs
repeat_last zero xs = sym (append-nil xs)
repeat_last (suc n) xs = append_assoc xs (repeat n xs) xs ∙ ap (λ z. xs ++ z) (repeat_last n xs)

-- one letter more
pub repeat_more : (n : ℕ) (xs : List ℕ) → repeat n xs ++ xs ≡ repeat (n + 1) xs
repeat_more n xs = repeat_last n xs ∙ (let e : suc n ≡ n + 1 = omega arith in ap (λ k. repeat k xs) e)
