-- Hints state which row is a later or an earlier version of an object. What no hint states may be
-- true, too.
use Rattle.std.specs.Prelude.{◌≡◌, ◌≢◌, ℕ, List, Bool, true, not, cond, All, map, filter}
use Rattle.std.specs.List.{Contains}
use Rattle.taxii_rows.specs.declared.stored_row.StoredRow.{StoredRow}
use Rattle.taxii_rows.specs.Identity.{is_row_of}
use Rattle.taxii_index.specs.declared.hints.Hint.{Hint}
use Rattle.taxii_index.specs.Index.{IsBefore}

-- the row of the first date is an earlier version of an object than the row of the second
pub record ComesBefore (rows : List StoredRow) (first second : ℕ) : Type 0 where
  pub row : StoredRow
  pub other : StoredRow
  pub row_here : Contains rows row
  pub other_here : Contains rows other
  pub row_date : row.date ≡ first
  pub other_date : other.date ≡ second
  pub its : is_row_of row.collection row.id other ≡ true
  pub before : IsBefore row other

-- what the hint states is true: of a later version, and of an earlier one, if it names their dates
pub record IsTrueOf (rows : List StoredRow) (hint : Hint) : Type 0 where
  pub later : hint.later ≢ 0 → ComesBefore rows hint.date hint.later
  pub earlier : hint.earlier ≢ 0 → ComesBefore rows hint.earlier hint.date

-- what all hints state is true
abbrev pub AreTrueOf : List StoredRow → List Hint → Type 0
AreTrueOf rows hints = All (IsTrueOf rows) hints

-- a hint without references to the rows of these dates
abbrev pub forgotten : (ℕ → Bool) → Hint → Hint
forgotten gone hint = record { date = hint.date; later = cond (gone hint.later) 0 hint.later; earlier = cond (gone hint.earlier) 0 hint.earlier }

-- the hints of the other rows, without references to the rows of these dates
abbrev pub hints_without : (ℕ → Bool) → List Hint → List Hint
hints_without gone hints = map (forgotten gone) (filter (λ hint. not (gone hint.date)) hints)
