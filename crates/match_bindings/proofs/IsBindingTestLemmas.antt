-- The test of a bind, step by step.
use Rattle.std.proofs.Common.{◌≡◌, ℕ, zero, suc, ◌+◌, ◌<◌, ◌≤◌, List, [], ◌∷◌, ◌++◌, length, take, drop, get_or, drop-cons, refl, sym, ◌∙◌, ap, arith}
use Rattle.std.specs.Prelude.{Bool, true, false, ◌&&◌, nat_lt, map, Some, None, slice_get}
use Rattle.std.proofs.lemmas.Bool.{and_parts}
use Rattle.std.proofs.lemmas.Option.{cond_some, none-some, same_Some}
use Rattle.std.proofs.lemmas.List.{take_more, length-map, length-take}
use Rattle.std.proofs.lemmas.Grind.{common_steps}
use Rattle.match_bindings.specs.declared.span.Span.{Span}
use Rattle.match_bindings.specs.declared.bind.Bind.{Bind}
use Rattle.match_bindings.specs.declared.join.Join.TheVariants as join
use Rattle.match_bindings.specs.NumberedPattern.{NumberedPattern, Leaf, Both, Then, Either, Within, Between, Repeats}
use Rattle.match_bindings.specs.BindTree.{tree_of, BindTree, Pair, Single, More, disjoint, greatest, more_of, many_of}
use Rattle.match_bindings.specs.Log.{Observed}
use Rattle.match_bindings.specs.Test.{is_binding, are_repeats}
use Rattle.match_bindings.specs.inner.Kinds.{is_pair}
use Rattle.match_bindings.proofs.PartsLemmas.{proceed}
use Rattle.match_bindings.specs.inner.Candidates.{span_of, span_if, joined_span, admits, verified}
use Rattle.match_bindings.proofs.ManyLemmas.{of_many, many_last}
use Rattle.match_bindings.proofs.ListLemmas.{map_append}

-- how many parts a pattern has: each call of the test falls
abbrev pub size : NumberedPattern → ℕ
size (Leaf k) = 1
size (Both p q) = size p + size q + 1
size (Then p q) = size p + size q + 1
size (Either p q) = size p + size q + 1
size (Within p x) = size p + 1
size (Between p x y) = size p + 1
size (Repeats p n) = size p + 1

pub no_pair : (o : Observed) (p q : NumberedPattern) (x : BindTree) → is_pair x ≡ false → is_binding o (Both p q) x ≡ false
no_pair o p q (Pair a b) h = absurd (cc)
no_pair o p q x h = refl

pub either_many : (o : Observed) (p q : NumberedPattern) (xs : List BindTree) → is_binding o (Either p q) (many_of xs) ≡ false
either_many o p q xs = of_many (λ x. is_binding o (Either p q) x ≡ false) refl (λ a. refl) (λ m a. refl) xs

-- a span that a test let through
pub passed : (b : Bool) (s t : Span) → span_if b s ≡ Some t → (b ≡ true) × (s ≡ t)
passed b s t h = cond_some b s t h

pub failed : (b : Bool) (s : Span) → span_if b s ≡ None → b ≡ false
failed true s h = absurd (cc)
failed false s h = refl

pub no_ordered_pair : (o : Observed) (p q : NumberedPattern) (x : BindTree) → is_pair x ≡ false → is_binding o (Then p q) x ≡ false
no_ordered_pair o p q (Pair a b) h = absurd (cc)
no_ordered_pair o p q x h = refl

-- no span of what is no binding
pub no_span : (b : Bool) (s : Span) → b ≡ false → None ≡ span_if b s
no_span b s e = sym (ap (λ b. span_if b s) e)

-- ---- two sides

pub left_fails : (o : Observed) (p q : NumberedPattern) (a b x : BindTree) → x ≡ Pair a b → verified o p a ≡ None →
    (is_binding o (Both p q) x ≡ false) × (is_binding o (Then p q) x ≡ false)
left_fails o p q a b x e n =
    let no_it_isnt = failed (is_binding o p a) (span_of o a) n in
    rw (e, no_it_isnt) (refl, refl)

pub right_fails : (o : Observed) (p q : NumberedPattern) (a b x : BindTree) (s : Span) → x ≡ Pair a b → verified o p a ≡ Some s → verified o q b ≡ None →
    (is_binding o (Both p q) x ≡ false) × (is_binding o (Then p q) x ≡ false)
right_fails o p q a b x s e h n =
    let yes_it_is = (passed (is_binding o p a) (span_of o a) s h).0 in
    let no_it_isnt = failed (is_binding o q b) (span_of o b) n in
    rw (e, yes_it_is, no_it_isnt) (refl, refl)

pub sides_pass : (o : Observed) (p q : NumberedPattern) (a b x : BindTree) (s t : Span) (d : Bool) → x ≡ Pair a b → verified o p a ≡ Some s → verified o q b ≡ Some t → d ≡ disjoint a b →
    (span_if (admits join.Both s t && d) (joined_span s t) ≡ verified o (Both p q) x) × (span_if (admits join.Then s t && d) (joined_span s t) ≡ verified o (Then p q) x)
sides_pass o p q a b x s t d e h k apart =
    let left = passed (is_binding o p a) (span_of o a) s h in
    let right = passed (is_binding o q b) (span_of o b) t k in
    let yes_left = left.0 in
    let yes_right = right.0 in
    rw (apart, ← left.1, ← right.1, e, yes_left, yes_right) (refl, refl)

-- how many parts a chain has
abbrev parts_in : BindTree → ℕ
parts_in (Single a) = 1
parts_in (More m a) = suc (parts_in m)
parts_in _ = 0

more_parts : (m : BindTree) (xs : List BindTree) → parts_in (more_of m xs) ≡ parts_in m + length xs
more_parts m [] = omega arith
more_parts m (x ∷ xs) = omega (arith, more_parts (More m x) xs)

many_parts : (xs : List BindTree) → parts_in (many_of xs) ≡ length xs
many_parts [] = refl
many_parts (x ∷ xs) = omega (arith, more_parts (Single x) xs)

counted : (f : BindTree → Bool) (n : ℕ) (x : BindTree) → are_repeats f n x ≡ true → parts_in x ≡ n
counted f zero x h = absurd (cc)
counted f (suc zero) (Single a) h = refl
counted f (suc (suc n)) (More m a) h =
    let parts = and_parts (are_repeats f (suc n) m && f a) (nat_lt (greatest m) (greatest a) && disjoint m a) h in
    ap suc (counted f (suc n) m (and_parts (are_repeats f (suc n) m) (f a) parts.0).0)
counted f n x h = absurd (cc)

pub wrong_count : (f : BindTree → Bool) (n : ℕ) (xs : List BindTree) → (length xs ≡ n → ⊥) → are_repeats f n (many_of xs) ≡ false
wrong_count f n xs h = by_test (are_repeats f n (many_of xs)) refl where
  by_test : (b : Bool) → are_repeats f n (many_of xs) ≡ b → are_repeats f n (many_of xs) ≡ false
  by_test true e = absurd (h (sym (many_parts xs) ∙ counted f n (many_of xs) e))
  by_test false e = e

and_one : (p : Bool) → p ≡ (p && true)
and_one true = refl
and_one false = refl

more_continue : (f : BindTree → Bool) (k : ℕ) (m : BindTree) (xs : List BindTree) → are_repeats f (suc (k + length xs)) (more_of m xs) ≡ (are_repeats f (suc k) m && proceed f m xs)
more_continue f k m [] = ap (λ n. are_repeats f (suc n) m) (let e : k + 0 ≡ k = omega arith in e) ∙ and_one (are_repeats f (suc k) m)
more_continue f k m (x ∷ xs) =
    let e : suc (k + length (x ∷ xs)) ≡ suc (suc k + length xs) = omega arith in
    ap (λ n. are_repeats f n (more_of (More m x) xs)) e
    ∙ more_continue f (suc k) (More m x) xs
    ∙ regroup (are_repeats f (suc k) m) (f x) (nat_lt (greatest m) (greatest x) && disjoint m x) (proceed f (More m x) xs) where
      regroup : (p q r s : Bool) → (((p && q) && r) && s) ≡ (p && ((q && r) && s))
      regroup true q r s = refl
      regroup false q r s = refl

-- the parts after the first go on from it
pub first_continues : (f : BindTree → Bool) (x : BindTree) (xs : List BindTree) → are_repeats f (length (x ∷ xs)) (many_of (x ∷ xs)) ≡ (f x && proceed f (Single x) xs)
first_continues f x xs =
    let e : length (x ∷ xs) ≡ suc (0 + length xs) = omega arith in
    ap (λ n. are_repeats f n (more_of (Single x) xs)) e ∙ more_continue f 0 (Single x) xs

-- ---- the parts of a Many in a loop

starts : (f : BindTree → Bool) (parts : List Bind) (n : ℕ) (x : Bind) → slice_get parts 0 ≡ Some x → length parts ≡ n →
    are_repeats f n (many_of (map tree_of parts)) ≡ (f (tree_of x) && proceed f (many_of (map tree_of (take 1 parts))) (map tree_of (drop 1 parts)))
starts f [] n x h e = absurd (none-some x h)
starts f (y ∷ ys) n x h e =
    let same : y ≡ x = same_Some y x h in
    let long : n ≡ length (map tree_of (y ∷ ys)) = sym e ∙ sym (length-map (y ∷ ys) tree_of) in
    let front : take 1 (y ∷ ys) ≡ y ∷ [] = grind (arith, common_steps) in
    let back : drop 1 (y ∷ ys) ≡ ys = grind (arith, common_steps) in
    ap (λ m. are_repeats f m (many_of (map tree_of (y ∷ ys)))) long
    ∙ first_continues f (tree_of y) (map tree_of ys)
    ∙ ap (λ b. f (tree_of b) && proceed f (Single (tree_of y)) (map tree_of ys)) same
    ∙ ap (λ bs. f (tree_of x) && proceed f (many_of (map tree_of bs)) (map tree_of ys)) (sym front)
    ∙ ap (λ bs. f (tree_of x) && proceed f (many_of (map tree_of (take 1 (y ∷ ys)))) (map tree_of bs)) (sym back)

pub starts_well : (f : BindTree → Bool) (parts : List Bind) (n : ℕ) (x : Bind) → slice_get parts 0 ≡ Some x → length parts ≡ n → f (tree_of x) ≡ true →
    are_repeats f n (many_of (map tree_of parts)) ≡ proceed f (many_of (map tree_of (take 1 parts))) (map tree_of (drop 1 parts))
starts_well f parts n x h e yes_it_is =
    starts f parts n x h e ∙ ap (λ b. b && proceed f (many_of (map tree_of (take 1 parts))) (map tree_of (drop 1 parts))) yes_it_is

pub starts_badly : (f : BindTree → Bool) (parts : List Bind) (n : ℕ) (x : Bind) → slice_get parts 0 ≡ Some x → length parts ≡ n → f (tree_of x) ≡ false →
    are_repeats f n (many_of (map tree_of parts)) ≡ false
starts_badly f parts n x h e no_it_isnt =
    starts f parts n x h e ∙ ap (λ b. b && proceed f (many_of (map tree_of (take 1 parts))) (map tree_of (drop 1 parts))) no_it_isnt

pub first_span : (o : Observed) (parts : List Bind) (x : Bind) → slice_get parts 0 ≡ Some x → span_of o (tree_of x) ≡ span_of o (many_of (map tree_of (take 1 parts)))
first_span o [] x h = absurd (none-some x h)
first_span o (y ∷ ys) x h =
    let front : take 1 (y ∷ ys) ≡ y ∷ [] = grind (arith, common_steps) in
    ap (λ b. span_of o (tree_of b)) (sym (same_Some y x h)) ∙ ap (λ bs. span_of o (many_of (map tree_of bs))) (sym front)

-- the chain of one part more
pub next_chain : (parts : List Bind) (at : ℕ) (x : Bind) → 1 ≤ at → at < length parts → get_or parts at x ≡ x →
    many_of (map tree_of (take (at + 1) parts)) ≡ More (many_of (map tree_of (take at parts))) (tree_of x)
next_chain parts at x low high e =
    ap (λ bs. many_of (map tree_of bs)) (take_more parts at x high)
    ∙ ap (λ b. many_of (map tree_of (take at parts ++ b ∷ []))) e
    ∙ ap many_of (map_append tree_of (take at parts) (x ∷ []))
    ∙ not_first (take at parts) (omega (arith, length-take at parts)) where
      not_first : (bs : List Bind) → 1 ≤ length bs → many_of (map tree_of bs ++ tree_of x ∷ []) ≡ More (many_of (map tree_of bs)) (tree_of x)
      not_first [] h = absurd (omega arith)
      not_first (b ∷ bs) h = many_last (tree_of b) (tree_of x) (map tree_of bs)

-- what is left before a part is that part and what is left after it
next_rest : (f : BindTree → Bool) (parts : List Bind) (at : ℕ) (x : Bind) → 1 ≤ at → at < length parts → get_or parts at x ≡ x →
    proceed f (many_of (map tree_of (take at parts))) (map tree_of (drop at parts))
    ≡ ((f (tree_of x) && (nat_lt (greatest (many_of (map tree_of (take at parts)))) (greatest (tree_of x)) && disjoint (many_of (map tree_of (take at parts))) (tree_of x)))
    && proceed f (many_of (map tree_of (take (at + 1) parts))) (map tree_of (drop (at + 1) parts)))
next_rest f parts at x low high e =
    let m = many_of (map tree_of (take at parts)) in
    let left : drop at parts ≡ x ∷ drop (at + 1) parts = cut at parts high e in
    ap (λ bs. proceed f m (map tree_of bs)) left
    ∙ ap (λ t. (f (tree_of x) && (nat_lt (greatest m) (greatest (tree_of x)) && disjoint m (tree_of x))) && proceed f t (map tree_of (drop (at + 1) parts)))
    (sym (next_chain parts at x low high e)) where
      cut : (at : ℕ) (parts : List Bind) → at < length parts → get_or parts at x ≡ x → drop at parts ≡ x ∷ drop (at + 1) parts
      cut at parts high e = drop-cons parts at x high ∙ ap (λ b. b ∷ drop (suc at) parts) e ∙ ap (λ n. x ∷ drop n parts) (let s : suc at ≡ at + 1 = omega arith in s)

pub goes_well : (f : BindTree → Bool) (parts : List Bind) (at : ℕ) (x : Bind) (r : Bool) → 1 ≤ at → at < length parts → get_or parts at x ≡ x →
    r ≡ proceed f (many_of (map tree_of (take at parts))) (map tree_of (drop at parts)) → f (tree_of x) ≡ true →
    (nat_lt (greatest (many_of (map tree_of (take at parts)))) (greatest (tree_of x)) && disjoint (many_of (map tree_of (take at parts))) (tree_of x)) ≡ true →
    r ≡ proceed f (many_of (map tree_of (take (at + 1) parts))) (map tree_of (drop (at + 1) parts))
goes_well f parts at x r low high e h one two =
    h ∙ next_rest f parts at x low high e
    ∙ ap (λ b. (b && (nat_lt (greatest (many_of (map tree_of (take at parts)))) (greatest (tree_of x)) && disjoint (many_of (map tree_of (take at parts))) (tree_of x)))
    && proceed f (many_of (map tree_of (take (at + 1) parts))) (map tree_of (drop (at + 1) parts))) one
    ∙ ap (λ b. b && proceed f (many_of (map tree_of (take (at + 1) parts))) (map tree_of (drop (at + 1) parts))) two
