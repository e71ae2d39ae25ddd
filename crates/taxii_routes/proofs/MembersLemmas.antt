-- Lists read a member at a time.
use Rattle.std.proofs.Common.{◌≡◌, ◌≢◌, ℕ, zero, suc, ◌+◌, ◌<◌, List, [], ◌∷◌, ◌++◌, length, take, get_or, map, Bool, true, false, ◌==◌, refl, sym, ap, subst, ◌∙◌, arith}
use Rattle.std.specs.Prelude.{All}
use Rattle.std.specs.List.{AllZip}
use Rattle.std.proofs.lemmas.Bool.{eqb-true, eq-eqb, false≢true}
use Rattle.std.proofs.lemmas.List.{take_more}
use Rattle.std.proofs.lemmas.List.Elements.{All-push}
use Rattle.taxii_routes.specs.Value.{AreValueTexts, value_members}
use denote.Ref.{Bor}

-- the texts that these lend
abbrev pub texts_of : List (Bor (List ℕ)) → List (List ℕ)
texts_of lent = map (λ (text : Bor (List ℕ)). text.now) lent

-- the first so many value_members, each with what it means
zip_next : {A B : Type 0} (R : A → B → Type 0) (xs : List A) (ys : List B) (i : ℕ) (x : A) (y : B)
    → i < length xs → x ≡ get_or xs i x → AllZip R (take i xs) ys → R x y → AllZip R (take (suc i) xs) (ys ++ y ∷ [])
zip_next R [] ys i x y inside is each more = absurd (omega arith)
zip_next R (a ∷ xs) [] zero x y inside is each more = (subst (λ z. R z y) is more, tt)
zip_next R (a ∷ xs) (b ∷ ys) zero x y inside is each more = absurd each
zip_next R (a ∷ xs) [] (suc i) x y inside is each more = absurd each
zip_next R (a ∷ xs) (b ∷ ys) (suc i) x y inside is each more = (each.0, zip_next R xs ys i x y (omega arith) is each.1 more)

pub zip_grows : {A B : Type 0} (R : A → B → Type 0) (xs : List A) (ys : List B) (i : ℕ) (x : A) (y : B)
    → i < length xs → x ≡ get_or xs i x → AllZip R (take i xs) ys → R x y → AllZip R (take (i + 1) xs) (ys ++ y ∷ [])
zip_grows R xs ys i x y inside is each more =
    subst (λ n. AllZip R (take n xs) (ys ++ y ∷ [])) (next i) (zip_next R xs ys i x y inside is each more)
  where
    next : (i : ℕ) → suc i ≡ i + 1
    next i = omega arith

-- a member that means nothing leaves the list without a meaning
pub zip_stops : {A B : Type 0} (R : A → B → Type 0) (xs : List A) (ys : List B) (i : ℕ) (x : A)
    → i < length xs → x ≡ get_or xs i x → ((y : B) → ¬ R x y) → ¬ AllZip R xs ys
zip_stops R [] ys i x inside is none each = absurd (omega arith)
zip_stops R (a ∷ xs) [] i x inside is none each = each
zip_stops R (a ∷ xs) (b ∷ ys) zero x inside is none each = none b (subst (λ z. R z b) (sym is) each.0)
zip_stops R (a ∷ xs) (b ∷ ys) (suc i) x inside is none each = zip_stops R xs ys i x (omega arith) is none each.1

-- ---- lent value_members

length-texts_of : (items : List (Bor (List ℕ))) → length (texts_of items) ≡ length items
length-texts_of [] = refl
length-texts_of (x ∷ items) = ap suc (length-texts_of items)

-- the text that is lent at a place
abbrev pub text_at : List (Bor (List ℕ)) → ℕ → List ℕ
text_at items i = (get_or items i (record { ref_ptr = (0, 0); now = [] })).now

at_place : (items : List (Bor (List ℕ))) (i : ℕ) → i < length items → text_at items i ≡ get_or (texts_of items) i (text_at items i)
at_place [] i inside = absurd (omega arith)
at_place (x ∷ items) zero inside = refl
at_place (x ∷ items) (suc i) inside = at_place items i (omega arith)

within : (items : List (Bor (List ℕ))) (i : ℕ) → i < length items → i < length (texts_of items)
within items i inside = let count = length-texts_of items in omega arith

-- the invariant of a loop over value_members
pub record ReadsEach {B : Type 0} (R : List ℕ → B → Type 0) (value : List ℕ) (items : List (Bor (List ℕ))) (i : ℕ) (ys : List B) : Type 0 where
  pub same : texts_of items ≡ value_members value
  pub each : AllZip R (take i (texts_of items)) ys

pub each_next : {B : Type 0} (R : List ℕ → B → Type 0) (value : List ℕ) (items : List (Bor (List ℕ))) (old new : List B) (i : ℕ) (y : B) → ReadsEach R value items i old → i < length items
    → R (text_at items i) y → new ≡ old ++ y ∷ [] → ReadsEach R value items (i + 1) new
each_next R value items old new i y reads inside more is = record {
  same = reads.same;
  each = subst (λ ys. AllZip R (take (i + 1) (texts_of items)) ys) (sym is) (zip_grows R (texts_of items) old i (text_at items i) y (within items i inside) (at_place items i inside) reads.each more);
}

pub each_stops : {B : Type 0} (R : List ℕ → B → Type 0) (value : List ℕ) (items : List (Bor (List ℕ))) (old : List B) (i : ℕ) → ReadsEach R value items i old → i < length items
    → ((y : B) → ¬ R (text_at items i) y) → (ys : List B) → ¬ AllZip R (value_members value) ys
each_stops R value items old i reads inside none ys each =
    zip_stops R (texts_of items) ys i (text_at items i) (within items i inside) (at_place items i inside) none (subst (λ xs. AllZip R xs ys) (sym reads.same) each)

-- ---- value_members as they are

-- the first so many value_members, of which none is empty
pub record ReadsTexts (value : List ℕ) (items : List (Bor (List ℕ))) (i : ℕ) (texts : List (List ℕ)) : Type 0 where
  pub same : texts_of items ≡ value_members value
  pub some : All (λ text. text ≢ []) texts
  pub front : texts ≡ take i (texts_of items)

pub texts_next : (value : List ℕ) (items : List (Bor (List ℕ))) (old new : List (List ℕ)) (i : ℕ) → ReadsTexts value items i old → i < length items → text_at items i ≢ []
    → new ≡ old ++ text_at items i ∷ [] → ReadsTexts value items (i + 1) new
texts_next value items old new i reads inside some is = record {
  same = reads.same;
  some = subst (All (λ text. text ≢ [])) (sym is) (All-push (λ text. text ≢ []) old (text_at items i) reads.some some);
  front =
      is ∙ ap (λ ts. ts ++ text_at items i ∷ []) reads.front ∙ ap (λ t. take i (texts_of items) ++ t ∷ []) (at_place items i inside)
      ∙ sym (take_more (texts_of items) i (text_at items i) (within items i inside));
}

pub texts_stop : (value : List ℕ) (items : List (Bor (List ℕ))) (old : List (List ℕ)) (i : ℕ) → ReadsTexts value items i old → i < length items → text_at items i ≡ []
    → (texts : List (List ℕ)) → ¬ AreValueTexts value texts
texts_stop value items old i reads inside empty texts are =
    let all : texts ≡ texts_of items = are.all ∙ sym reads.same in
    let there : get_or texts i (text_at items i) ≡ [] = ap (λ ts. get_or ts i (text_at items i)) all ∙ sym (at_place items i inside) ∙ empty in
    are.some i (text_at items i) (subst (λ ts. i < length ts) (sym all) (within items i inside)) there

-- what the test for no bytes says
pub none_if_empty : (text : List ℕ) (b : Bool) → b ≡ (length text == 0) → b ≡ true → text ≡ []
none_if_empty [] b is tells = refl
none_if_empty (x ∷ text) b is tells = let none = eqb-true (length (x ∷ text)) 0 (sym is ∙ tells) in absurd (omega arith)

pub some_if_full : (text : List ℕ) (b : Bool) → b ≡ (length text == 0) → b ≡ false → text ≢ []
some_if_full text b is tells none = false≢true (sym tells ∙ is ∙ eq-eqb (length text) 0 (ap length none))
