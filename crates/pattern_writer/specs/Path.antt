-- The text of object paths (STIX 2.1, section 9.7).
use Rattle.std.specs.Prelude.{◌≡◌, ◌≢◌, ◌⊎◌, ℕ, List, [], ◌∷◌, ◌++◌, codes, decimal}
use Rattle.pattern_lexer.specs.Word.{IsWord}
use Rattle.pattern_lexer.specs.Values.{IsStringText}
use Rattle.pattern_types.specs.declared.path.Step.{Step}
use Rattle.pattern_types.specs.declared.path.Step.TheVariants.{Name, Place, Each}
use Rattle.pattern_types.specs.declared.path.Path.{Path}
use Rattle.pattern_writer.specs.Parts.{IsAfterText, AreSides, AreJoined}

-- a name that needs no quotes: a Word other than MATCHES, which is reserved
pub record IsBare (name : List ℕ) : Type 0 where
  pub word : IsWord name
  pub used : name ≢ codes "MATCHES"

-- a name, without quotes if it needs none
abbrev pub IsNameText : List ℕ → List ℕ → Type 0
IsNameText name text = (IsBare name × (text ≡ name)) ⊎ ((¬ IsBare name) × IsStringText text name)

-- step = "." name | "[" ( Number | "*" ) "]"
abbrev pub IsStepText : Step → List ℕ → Type 0
IsStepText (Name name) text = IsAfterText (codes ".") (IsNameText name) text
IsStepText (Place place) text = text ≡ codes "[" ++ decimal place ++ codes "]"
IsStepText Each text = text ≡ codes "[*]"

-- the first step, a name, follows the colon without a dot
abbrev pub IsFirstText : Step → List ℕ → Type 0
IsFirstText (Name name) text = IsNameText name text
IsFirstText step text = IsStepText step text

-- the steps, one after another
abbrev pub AreStepsText : List Step → List ℕ → Type 0
AreStepsText [] text = text ≡ []
AreStepsText (first ∷ steps) text = AreSides (IsFirstText first) [] (AreJoined [] IsStepText steps) text

-- path = kind ":" name { step }
abbrev pub IsPathText : Path → List ℕ → Type 0
IsPathText path = IsAfterText (path.kind ++ codes ":") (AreStepsText path.steps)
