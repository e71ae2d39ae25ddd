-- A text in quotes, read from the left: what it means has one end.
use Rattle.std.proofs.Common.{◌≡◌, ◌≢◌, ℕ, Bool, true, false, ◌||◌, ◌==◌, List, [], ◌∷◌, ◌++◌, inl, inr, flat_map, if◌then◌else◌, refl, sym, ap, ◌∙◌, append_assoc, append-nil, arith}
use Rattle.std.proofs.lemmas.List.Concat.{flat_map-append}
use Rattle.std.proofs.lemmas.Bool.Decides.{nat_tests}
use Rattle.pattern_lexer.specs.Values.{escaped, IsSpecial}

-- whether a backslash is written before it
abbrev special : ℕ → Bool
special c = c == 39 || c == 92

special_is : (c : ℕ) → IsSpecial c → special c ≡ true
special_is c (inl e) = ap special e
special_is c (inr e) = ap special e

is_special : (c : ℕ) → special c ≡ true → IsSpecial c
is_special c e = grind (arith, nat_tests)

ordinary : (c : ℕ) → c ≢ 39 → c ≢ 92 → special c ≡ false
ordinary c p q = grind (arith, nat_tests)

abbrev spelled : Bool → ℕ → List ℕ → List ℕ
spelled b x xs = (if b then 92 ∷ x ∷ [] else x ∷ []) ++ xs

same_first : (b d : Bool) (x y : ℕ) (xs ys : List ℕ) → special x ≡ b → special y ≡ d → spelled b x xs ≡ spelled d y ys → (x ≡ y) × (xs ≡ ys)
same_first true true x y xs ys p q e = (cc, cc)
same_first false false x y xs ys p q e = (cc, cc)
same_first true false x y xs ys p q e = let h : 92 ≡ y = cc in let g : true ≡ false = ap special h ∙ q in absurd (cc)
same_first false true x y xs ys p q e = let h : x ≡ 92 = cc in let g : true ≡ false = sym (ap special h) ∙ p in absurd (cc)

apart : {xs ys : List ℕ} → 39 ∷ xs ≡ 92 ∷ ys → ⊥
apart e = cc

-- no escape of a character begins with the closing quote
no_end : (b : Bool) (x : ℕ) (xs rest : List ℕ) → special x ≡ b → 39 ∷ rest ≡ spelled b x xs → ⊥
no_end true x xs rest p e = absurd (apart e)
no_end false x xs rest p e = let h : 39 ≡ x = cc in let g : true ≡ false = ap special h ∙ p in absurd (cc)

-- one end alone
pub one_end : (a b x y : List ℕ) → flat_map escaped a ++ 39 ∷ x ≡ flat_map escaped b ++ 39 ∷ y → (a ≡ b) × (x ≡ y)
one_end [] [] x y e = (refl, cc)
one_end [] (d ∷ ds) x y e = absurd (no_end (special d) d (flat_map escaped ds ++ 39 ∷ y) x refl (e ∙ append_assoc (escaped d) (flat_map escaped ds) (39 ∷ y)))
one_end (c ∷ cs) [] x y e = absurd (no_end (special c) c (flat_map escaped cs ++ 39 ∷ x) y refl (sym e ∙ append_assoc (escaped c) (flat_map escaped cs) (39 ∷ x)))
one_end (c ∷ cs) (d ∷ ds) x y e =
    let h = same_first (special c) (special d) c d (flat_map escaped cs ++ 39 ∷ x) (flat_map escaped ds ++ 39 ∷ y) refl refl
    (sym (append_assoc (escaped c) (flat_map escaped cs) (39 ∷ x)) ∙ e ∙ append_assoc (escaped d) (flat_map escaped ds) (39 ∷ y)) in
    let g = one_end cs ds x y h.1 in
    let p : c ≡ d = h.0 in
    let q : cs ≡ ds = g.0 in
    (cc, g.1)

-- what follows the text of some characters, in a text that has an end
ahead : (a b rest y : List ℕ) → flat_map escaped a ++ rest ≡ flat_map escaped b ++ 39 ∷ y → (left : List ℕ) × (rest ≡ flat_map escaped left ++ 39 ∷ y)
ahead [] b rest y e = (b, e)
ahead (c ∷ cs) [] rest y e = absurd (no_end (special c) c (flat_map escaped cs ++ rest) y refl (sym e ∙ append_assoc (escaped c) (flat_map escaped cs) rest))
ahead (c ∷ cs) (d ∷ ds) rest y e =
    let h = same_first (special c) (special d) c d (flat_map escaped cs ++ rest) (flat_map escaped ds ++ 39 ∷ y) refl refl
    (sym (append_assoc (escaped c) (flat_map escaped cs) rest) ∙ e ∙ append_assoc (escaped d) (flat_map escaped ds) (39 ∷ y)) in
    ahead cs ds rest y h.1

-- the text of some characters, and more
pub record ReadInside (inside rest : List ℕ) : Type 0 where
  pub words : List ℕ
  pub is : inside ≡ flat_map escaped words ++ rest

push : (inside words rest more : List ℕ) (c : ℕ) → inside ≡ flat_map escaped words ++ rest → rest ≡ escaped c ++ more → ReadInside inside more
push inside words rest more c e f = record {
  words = words ++ c ∷ [];
  is =
      e ∙ ap (λ (l : List ℕ). flat_map escaped words ++ l) f
      ∙ sym (append_assoc (flat_map escaped words) (escaped c) more)
      ∙ ap (λ (l : List ℕ). (flat_map escaped words ++ l) ++ more) (sym (append-nil (escaped c)))
      ∙ ap (λ (l : List ℕ). l ++ more) (sym (flat_map-append escaped words (c ∷ [])));
}

alone : (b : Bool) (c : ℕ) (more : List ℕ) → b ≡ false → c ∷ more ≡ spelled b c more
alone true c more e = absurd (cc)
alone false c more e = refl

strip_byte : (b : Bool) (c : ℕ) (more : List ℕ) → b ≡ true → 92 ∷ c ∷ more ≡ spelled b c more
strip_byte true c more e = refl
strip_byte false c more e = absurd (cc)

-- one character more
pub plain_read : (inside rest more : List ℕ) (c : ℕ) → ReadInside inside rest → rest ≡ c ∷ more → c ≢ 39 → c ≢ 92 → ReadInside inside more
plain_read inside rest more c read e p q = push inside read.words rest more c read.is (e ∙ alone (special c) c more (ordinary c p q))

pub special_read : (inside rest after more : List ℕ) (c d : ℕ) → ReadInside inside rest → rest ≡ d ∷ after → d ≡ 92 → after ≡ c ∷ more → IsSpecial c → ReadInside inside more
special_read inside rest after more c d read e p f s =
    let g : rest ≡ 92 ∷ c ∷ more = cc in
    push inside read.words rest more c read.is (g ∙ strip_byte (special c) c more (special_is c s))

empty_by : (b : Bool) (c : ℕ) (cs : List ℕ) → [] ≡ spelled b c cs → ⊥
empty_by true c cs e = absurd (cc)
empty_by false c cs e = absurd (cc)

empty : (left more : List ℕ) → [] ≡ flat_map escaped left ++ 39 ∷ more → ⊥
empty [] more e = absurd (cc)
empty (c ∷ cs) more e = empty_by (special c) c (flat_map escaped cs ++ 39 ∷ more) (e ∙ append_assoc (escaped c) (flat_map escaped cs) (39 ∷ more))

lone_by : (b : Bool) (c : ℕ) (cs after : List ℕ) → special c ≡ b → ((c : ℕ) (more : List ℕ) → IsSpecial c → after ≢ c ∷ more) → 92 ∷ after ≡ spelled b c cs → ⊥
lone_by true c cs after p none e = none c cs (is_special c p) (cc)
lone_by false c cs after p none e = let h : 92 ≡ c = cc in let g : true ≡ false = ap special h ∙ p in absurd (cc)

lone : (left after more : List ℕ) → ((c : ℕ) (more : List ℕ) → IsSpecial c → after ≢ c ∷ more) → 92 ∷ after ≡ flat_map escaped left ++ 39 ∷ more → ⊥
lone [] after more none e = absurd (apart (sym e))
lone (c ∷ cs) after more none e = lone_by (special c) c (flat_map escaped cs ++ 39 ∷ more) after refl none (e ∙ append_assoc (escaped c) (flat_map escaped cs) (39 ∷ more))

left_of : (inside rest words more : List ℕ) → ReadInside inside rest → inside ≡ flat_map escaped words ++ 39 ∷ more → (left : List ℕ) × (rest ≡ flat_map escaped left ++ 39 ∷ more)
left_of inside rest words more read e = ahead read.words words rest more (sym read.is ∙ e)

-- no end, where nothing is left
pub no_more : (inside rest : List ℕ) → ReadInside inside rest → rest ≡ [] → (words more : List ℕ) → inside ≢ flat_map escaped words ++ 39 ∷ more
no_more inside rest read e words more is =
    let left = left_of inside rest words more read is in
    empty left.0 more (sym e ∙ left.1)

-- and none, where a backslash is left before another character
pub no_special : (inside rest after : List ℕ) (d : ℕ) → ReadInside inside rest → rest ≡ d ∷ after → d ≡ 92 → ((c : ℕ) (more : List ℕ) → IsSpecial c → after ≢ c ∷ more) → (words more : List ℕ) → inside ≢ flat_map escaped words ++ 39 ∷ more
no_special inside rest after d read e p none words more is =
    let left = left_of inside rest words more read is in
    let g : 92 ∷ after ≡ flat_map escaped left.0 ++ 39 ∷ more = let h : rest ≡ 92 ∷ after = cc in sym h ∙ left.1 in
    lone left.0 after more none g
