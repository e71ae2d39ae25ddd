-- Counts of faults: an I/O object counts its failed calls. A count never decreases, and it
-- saturates at 2^64 - 1.
use Rattle.std.specs.Prelude.{◌≡◌, ℕ, ◌+◌, ◌-◌, ◌^◌, ◌≤◌, min}

-- a count after one more fault
abbrev pub counted : ℕ → ℕ
counted count = min (count + 1) (2 ^ 64 - 1)

-- the count increased; a saturated count counts as increased
abbrev pub HasIncreased : ℕ → ℕ → Type 0
HasIncreased before now = counted before ≤ now

-- the effect of a call on the object's count: it never decreases, it increases if the call failed
-- for this cause, and it is unchanged otherwise
pub record Counted (Failed : Type 0) (before now : ℕ) : Type 0 where
  pub later : before ≤ now
  pub failed : Failed → HasIncreased before now
  pub quiet : ¬ Failed → now ≡ before
