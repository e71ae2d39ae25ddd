-- Values of fields: those of a name, and tests of each.
use Rattle.std.proofs.Common.{◌≡◌, ℕ, ◌≤◌, Bool, true, false, ◌&&◌, ◌||◌, List, [], ◌∷◌, ◌++◌, length, take, map, refl, sym, ap, ◌∙◌, Bor, Some, codes, reverse, Result, Ok, Err, MatchResult, is_ok}
use Rattle.std.specs.List.{list_all, list_any, flat_map}
use Rattle.std.specs.Str.{IsUtf8, is_utf8, str_eq_ignore_ascii_case}
use Rattle.std.proofs.lemmas.List.{take_all, reverse-reverse}
use Rattle.std.proofs.lemmas.Str.{IsUtf8-from_is_utf8, is_utf8-from_IsUtf8}
use Rattle.httparse.specs.Grammar.{skip_ows, trim_ows}
use Rattle.http_messages.specs.Fields.{joined_values, is_close}

-- a test of what references point to
pub all_of : {A : Type 0} (p : A → Bool) (xs : List (Bor A)) (ys : List A) → map (λ (x : Bor A). x.now) xs ≡ ys → list_all (λ (x : Bor A). p x.now) xs ≡ list_all p ys
all_of p [] ys same = ap (list_all p) same
all_of {A} p (x ∷ xs) ys same = ap (λ (t : Bool). p x.now && t) (all_of p xs (map (λ (x : Bor A). x.now) xs) refl) ∙ ap (list_all p) same

pub any_of : {A : Type 0} (p : A → Bool) (xs : List (Bor A)) (ys : List A) → map (λ (x : Bor A). x.now) xs ≡ ys → list_any (λ (x : Bor A). p x.now) xs ≡ list_any p ys
any_of p [] ys same = ap (list_any p) same
any_of {A} p (x ∷ xs) ys same = ap (λ (t : Bool). p x.now || t) (any_of p xs (map (λ (x : Bor A). x.now) xs) refl) ∙ ap (list_any p) same

-- what from_utf8 answers is the test
pub utf8_test : {B E : Type 0} (now : B → List ℕ) (bytes : List ℕ) (P : E → Type 0) (r : Result B E)
    → MatchResult r (λ (s : B). (now s ≡ bytes) × IsUtf8 bytes) (λ (e : E). (IsUtf8 bytes → ⊥) × P e) → is_ok r ≡ is_utf8 bytes
utf8_test now bytes P (Ok s) told = sym (is_utf8-from_IsUtf8 bytes told.1)
utf8_test now bytes P (Err e) told = by_test (is_utf8 bytes) refl
  where
    by_test : (t : Bool) → is_utf8 bytes ≡ t → false ≡ is_utf8 bytes
    by_test true is = absurd (told.0 (IsUtf8-from_is_utf8 bytes is))
    by_test false is = sym is

-- ---- values that are joined_values

flat_map_now : (sep : List ℕ) (xs : List (Bor (List ℕ))) → flat_map (λ (x : Bor (List ℕ)). sep ++ x.now) xs ≡ flat_map (λ (y : List ℕ). sep ++ y) (map (λ (x : Bor (List ℕ)). x.now) xs)
flat_map_now sep [] = refl
flat_map_now sep (x ∷ xs) = ap (λ (rest : List ℕ). (sep ++ x.now) ++ rest) (flat_map_now sep xs)

pub joined_is : (values : List (Bor (List ℕ))) (first : Bor (List ℕ)) (others : List (Bor (List ℕ))) (text initial : List ℕ) (i : ℕ) → values ≡ first ∷ others → initial ≡ first.now
    → text ≡ initial ++ flat_map (λ (x : Bor (List ℕ)). codes ", " ++ x.now) (take i others) → length others ≤ i
    → Some text ≡ joined_values (map (λ (x : Bor (List ℕ)). x.now) values)
joined_is values first others text initial i cut begins is all =
    let whole : take i others ≡ others = take_all i others all in
    let rest : flat_map (λ (x : Bor (List ℕ)). codes ", " ++ x.now) (take i others) ≡ flat_map (λ (y : List ℕ). codes ", " ++ y) (map (λ (x : Bor (List ℕ)). x.now) others) =
    ap (flat_map (λ (x : Bor (List ℕ)). codes ", " ++ x.now)) whole ∙ flat_map_now (codes ", ") others in
    let here : text ≡ first.now ++ flat_map (λ (y : List ℕ). codes ", " ++ y) (map (λ (x : Bor (List ℕ)). x.now) others) =
    is ∙ ap (λ (t : List ℕ). t ++ flat_map (λ (x : Bor (List ℕ)). codes ", " ++ x.now) (take i others)) begins ∙ ap (λ (t : List ℕ). first.now ++ t) rest in
    ap Some here ∙ ap (λ (xs : List (Bor (List ℕ))). joined_values (map (λ (x : Bor (List ℕ)). x.now) xs)) (sym cut)

-- a member without the spaces and tabs around it
pub trimmed : (member start end : List ℕ) → start ≡ skip_ows member → reverse end ≡ skip_ows (reverse start) → end ≡ trim_ows member
unfolding trim_ows
trimmed member start end front back =
    sym (reverse-reverse end) ∙ ap reverse back ∙ ap (λ (t : List ℕ). reverse (skip_ows (reverse t))) front

pub close_member : (member start end : List ℕ) (r : Bool) → r ≡ str_eq_ignore_ascii_case end (codes "close") → start ≡ skip_ows member → reverse end ≡ skip_ows (reverse start)
    → r ≡ is_close member
close_member member start end r is front back = is ∙ ap (λ (m : List ℕ). str_eq_ignore_ascii_case m (codes "close")) (trimmed member start end front back)
