-- For private clauses: steps of `string_of`.
use Rattle.std.specs.Prelude.{◌≡◌, ◌≢◌, ℕ, List, [], ◌∷◌, flat_map}
use Rattle.pattern_lexer.specs.Values.{escaped, IsSpecial}

-- the text is the escaped string, without quotes around it
abbrev pub IsEscapedText : List ℕ → List ℕ → Type 0
IsEscapedText text words = text ≡ flat_map escaped words

-- a special character begins the text, and more follows
pub record BeginsEscaped (text first more : List ℕ) : Type 0 where
  pub special : ℕ
  pub is : IsSpecial special
  pub alone : first ≡ special ∷ []
  pub spelled : text ≡ special ∷ more

-- no special character does
abbrev pub BeginsNone : List ℕ → Type 0
BeginsNone text = (special : ℕ) (more : List ℕ) → IsSpecial special → text ≢ special ∷ more
