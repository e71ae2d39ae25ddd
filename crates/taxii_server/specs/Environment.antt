-- The environment of a server: links, the clock, and the keeper's count of faults.
use Rattle.std.specs.Prelude.{◌≡◌, ℕ, ◌+◌, ◌-◌, ◌^◌, ◌≤◌, List, ◌++◌, length, min, slice_get, Option, Some, None, IfSome, MatchOption}

-- the observable state of a link, with what was left when its last read began, and its counts of
-- failed reads and writes
pub record LinkView : Type 0 where
  pub left : Option (List ℕ)
  pub began : Option (List ℕ)
  pub written : Option (List ℕ)
  pub read_faults : ℕ
  pub write_faults : ℕ

-- the view of a link, from its observable parts
abbrev pub client_view : {L : Type 0} → (L → Option (List ℕ)) → (L → Option (List ℕ)) → (L → Option (List ℕ)) → (L → ℕ) → (L → ℕ) → L → LinkView
client_view left began written read_faults write_faults link = record {
  left = left link;
  began = began link;
  written = written link;
  read_faults = read_faults link;
  write_faults = write_faults link;
}

-- the moments that the clock will give, and the keeper's number of faults
pub record Environment : Type 0 where
  pub moments : ℕ → Option ℕ
  pub faults : ℕ

-- these bytes were taken from those left on the link, as far as they are observable
abbrev pub TakesFromClient : List ℕ → Option (List ℕ) → Option (List ℕ) → Type 0
TakesFromClient taken before now = MatchOption before (now ≡ None) (λ bytes. (left : List ℕ) × (bytes ≡ taken ++ left) × (now ≡ Some left))

-- these are the next moments of a clock, as far as they are observable, and the clock continues
-- after them
pub record GivesMoments (moments : List ℕ) (before now : ℕ → Option ℕ) : Type 0 where
  pub given : (n moment : ℕ) → slice_get moments n ≡ Some moment → IfSome (before n) (λ observable. moment ≡ observable)
  pub continues : (n : ℕ) → now n ≡ before (n + length moments)

-- a count has increased by at least `many`; a saturated count counts as increased
abbrev pub HasIncreasedBy : ℕ → ℕ → ℕ → Type 0
HasIncreasedBy many before now = min (before + many) (2 ^ 64 - 1) ≤ now
