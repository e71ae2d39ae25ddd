-- A String' text is that of one list of characters.
use Rattle.std.proofs.Common.{◌≡◌, ℕ, Bool, true, false, ◌||◌, ◌==◌, List, [], ◌∷◌, ◌++◌, flat_map, if◌then◌else◌, codes, refl, sym, ap, ◌∙◌, subst, ℤ}
use Rattle.stix_times.specs.Reading.{IsTextOfInstant}
use Rattle.pattern_lexer.specs.Values.{escaped, IsStringText, IsTimestampText}
use Rattle.pattern_lexer.proofs.QuotedLemmas.{one_inside}

-- whether a backslash is written before it
abbrev pub special : ℕ → Bool
special c = c == 39 || c == 92

pub same_first : (b d : Bool) (x y : ℕ) (xs ys : List ℕ) → special x ≡ b → special y ≡ d → (if b then 92 ∷ x ∷ [] else x ∷ []) ++ xs ≡ (if d then 92 ∷ y ∷ [] else y ∷ []) ++ ys → (x ≡ y) × (xs ≡ ys)
same_first true true x y xs ys p q e = (cc, cc)
same_first false false x y xs ys p q e = (cc, cc)
same_first true false x y xs ys p q e = let h : 92 ≡ y = cc in let g : true ≡ false = ap special h ∙ q in absurd (cc)
same_first false true x y xs ys p q e = let h : x ≡ 92 = cc in let g : true ≡ false = sym (ap special h) ∙ p in absurd (cc)

pub nothing_first : (b : Bool) (c : ℕ) (l : List ℕ) → [] ≡ (if b then 92 ∷ c ∷ [] else c ∷ []) ++ l → ⊥
nothing_first true c l h = cc
nothing_first false c l h = cc

one_list : (xs ys : List ℕ) → flat_map escaped xs ≡ flat_map escaped ys → xs ≡ ys
one_list [] [] e = refl
one_list [] (y ∷ ys) e = absurd (nothing_first (special y) y (flat_map escaped ys) e)
one_list (x ∷ xs) [] e = absurd (nothing_first (special x) x (flat_map escaped xs) (sym e))
one_list (x ∷ xs) (y ∷ ys) e =
    let h = same_first (special x) (special y) x y (flat_map escaped xs) (flat_map escaped ys) refl refl e in
    let g = one_list xs ys h.1 in
    let k = h.0 in
    cc

pub one_words : (text first second : List ℕ) → IsStringText text first → IsStringText text second → first ≡ second
one_words text first second x y = one_list first second (one_inside (codes "'") (flat_map escaped first) (flat_map escaped second) text x y)

pub one_timestamp : ((text : List ℕ) (first second : ℤ) → IsTextOfInstant text first → IsTextOfInstant text second → first ≡ second) → (text : List ℕ) (first second : ℤ) → IsTimestampText text first → IsTimestampText text second → first ≡ second
one_timestamp one text first second x y =
    let same = one_inside (codes "t'") x.0 y.0 text x.1 y.1 in
    let P : List ℕ → Type 0 = λ l. IsTextOfInstant l first in
    one y.0 first second (subst P same x.2) y.2
