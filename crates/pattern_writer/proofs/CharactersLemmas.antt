-- Characters other than `'` and `\` are written as they are.
use Rattle.std.proofs.Common.{◌≡◌, ◌≢◌, ℕ, suc, ◌<◌, List, [], ◌∷◌, ◌++◌, length, get_or, refl, sym, ◌∙◌, ap, append-nil, arith}
use Rattle.std.specs.Prelude.{flat_map}
use Rattle.std.specs.Char.{encode_utf8}
use Rattle.std.specs.Str.{encode_utf8_all}
use Rattle.std.proofs.lemmas.Str.{inside_one, encodes-append}
use Rattle.std.proofs.lemmas.Grind.{flat_map-append}
use Rattle.std.proofs.lemmas.Bool.Decides.{nat_tests}
use Rattle.pattern_lexer.specs.Values.{escaped}

escaped_other : (c : ℕ) → c ≢ 39 → c ≢ 92 → escaped c ≡ c ∷ []
escaped_other c h k = grind (arith, nat_tests)

all_other : (xs : List ℕ) → ((k : ℕ) → k < length xs → (get_or xs k 0 ≢ 39) × (get_or xs k 0 ≢ 92)) → flat_map escaped xs ≡ xs
all_other [] h = refl
all_other (x ∷ xs) h =
    let here = h 0 (omega arith) in
    let rest = all_other xs (λ k b. h (suc k) (omega arith)) in
    rw (escaped_other x here.0 here.1) (ap (λ (ys : List ℕ). x ∷ ys) rest)

pub other_character : (c : ℕ) → c ≢ 39 → c ≢ 92 → flat_map escaped (encode_utf8 c) ≡ encode_utf8 c
other_character c h k =
    let inside = λ (i : ℕ) (b : i < length (encode_utf8 c)) (low : get_or (encode_utf8 c) i 0 < 128). inside_one c [] (encode_utf8 c) i (sym (append-nil (encode_utf8 c))) b low in
    all_other (encode_utf8 c) (λ i b. (λ e. h (inside i b (omega arith) ∙ e), λ e. k (inside i b (omega arith) ∙ e)))

pub escaped_more : (cs : List ℕ) (c : ℕ) → flat_map escaped (encode_utf8_all (cs ++ c ∷ [])) ≡ flat_map escaped (encode_utf8_all cs) ++ flat_map escaped (encode_utf8 c)
escaped_more cs c = ap (flat_map escaped) (encodes-append cs (c ∷ []) ∙ ap (λ (x : List ℕ). encode_utf8_all cs ++ x) (append-nil (encode_utf8 c))) ∙ flat_map-append escaped (encode_utf8_all cs) (encode_utf8 c)
