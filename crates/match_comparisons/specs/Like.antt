-- When a text matches a LIKE pattern (STIX 2.1, section 9.6.1). Texts and patterns are lists of
-- code points.
use Rattle.std.specs.Prelude.{◌≡◌, ◌≢◌, ℕ, List, [], ◌∷◌, length}
use Rattle.std.specs.List.{concat}

-- `%`
abbrev pub any_run : ℕ
any_run = 37

-- `_`
abbrev pub any_one : ℕ
any_one = 95

-- a segment of the text fits a character of the pattern: any segment fits `%`, one code point fits
-- `_`, and any other character fits itself
pub record FitsCharacter (segment : List ℕ) (character : ℕ) : Type 0 where
  pub one : character ≡ any_one → length segment ≡ 1
  pub itself : character ≢ any_run → character ≢ any_one → segment ≡ character ∷ []

-- as many segments as characters, and each fits its character
abbrev pub AllFit : List (List ℕ) → List ℕ → Type 0
AllFit [] [] = Unit {0}
AllFit (segment ∷ segments) (character ∷ characters) = FitsCharacter segment character × AllFit segments characters
AllFit [] (character ∷ characters) = ⊥
AllFit (segment ∷ segments) [] = ⊥

-- a cut of the whole text into segments that fit the pattern's characters, in order
pub record Cut (text pattern : List ℕ) : Type 0 where
  pub segments : List (List ℕ)
  pub whole : text ≡ concat segments
  pub fit : AllFit segments pattern

-- the text matches the pattern if there is such a cut
unfoldable pub IsLike : List ℕ → List ℕ → Type 0
IsLike text pattern = Cut text pattern
