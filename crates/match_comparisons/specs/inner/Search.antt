-- For private clauses: a search for a value that a path reaches and that meets a check, and the
-- soundness of its memo.
use Rattle.std.specs.Prelude.{◌≡◌, false, ℕ, List, ◌∷◌, ◌++◌, length, Contains, Option, Some, None, slice_get, option_map}
use Rattle.std.specs.Borrow.{Bor}
use Rattle.serde_json.specs.Data.{Data}
use Rattle.stix_bundles.specs.Objects.{data_in}
use Rattle.pattern_types.specs.declared.path.Step.{Step}
use Rattle.pattern_types.specs.Soundness.{IsSoundCheck}
use Rattle.match_comparisons.specs.Selection.{Reaches}
use Rattle.pattern_types.specs.declared.leaf.Test.{Test}
use Rattle.match_comparisons.specs.Tests.{NegatedIf, MeetsCheck, IsAbsence, last_property}
use Rattle.match_comparisons.specs.declared.search.Search.{Search}
use Rattle.match_comparisons.specs.declared.memo.SearchMemo.{SearchMemo}
use Rattle.match_comparisons.specs.inner.VisitSet.{HasVisit}

-- a borrowed name as plain data
abbrev pub borrowed_name : Option (Bor (List ℕ)) → Option (List ℕ)
borrowed_name last = option_map (λ (name : Bor (List ℕ)). name.now) last

-- the value is one that the search looks for
abbrev pub IsTarget : Search → Data → Type 0
IsTarget search value = NegatedIf search.negated (MeetsCheck (borrowed_name search.last) value search.check.now)

-- the steps reach such a value
abbrev pub Finds : Search → Option (List ℕ) → List Step → Data → Type 0
Finds search last steps value = (found : Data) × Reaches (data_in search.bundle.now) last steps value found × IsTarget search found

-- the same from one of the values
abbrev pub SomeFinds : Search → Option (List ℕ) → List Step → List Data → Type 0
SomeFinds search last steps values = (value : Data) × Contains values value × Finds search last steps value

-- the same from the object at the position
abbrev pub FindsAt : Search → List Step → ℕ → Type 0
FindsAt search steps at = (object : Data) × (slice_get (data_in search.bundle.now) at ≡ Some object) × Finds search None steps object

-- these are the last steps of the path
abbrev pub AreLastSteps : Search → List Step → Type 0
AreLastSteps search steps = (front : List Step) × (search.steps.now ≡ front ++ steps)

-- each finding of the memo is correct: from a negative entry the step and those left after it reach
-- no target, from a positive one they do
pub record IsSoundSearchMemo (search : Search) (memo : SearchMemo) : Type 0 where
  pub negative : (step : Step) (rest : List Step) (at : ℕ) → AreLastSteps search (step ∷ rest)
      → HasVisit memo.negative (length rest) at → ¬ FindsAt search (step ∷ rest) at
  pub positive : (step : Step) (rest : List Step) (at : ℕ) → AreLastSteps search (step ∷ rest)
      → HasVisit memo.positive (length rest) at → FindsAt search (step ∷ rest) at

-- the search is before these last steps of its path, and its memo is sound
pub record IsSearchState (search : Search) (steps : List Step) (memo : SearchMemo) : Type 0 where
  pub sound : IsSoundCheck search.check.now
  pub last : AreLastSteps search steps
  pub right : IsSoundSearchMemo search memo

-- the search of a comparison: NOT EXISTS searches for any value, any other test with NOT for one
-- that doesn't meet its check
pub record IsSearchOf (test : Test) (search : Search) : Type 0 where
  pub steps : search.steps.now ≡ test.path.steps
  pub last : borrowed_name search.last ≡ last_property test.path
  pub check : search.check.now ≡ test.check
  pub absence : IsAbsence test → search.negated ≡ false
  pub negated : (¬ IsAbsence test) → search.negated ≡ test.negated
