-- Which statements are run, with which values, and what they answer. What a statement does and
-- answers is said by `Executes` and `QueriesRow` of the crate `sqlite`.
use Rattle.std.specs.Prelude.{◌≡◌, ℕ, ◌-◌, ℤ, Bool, true, false, nat_eq, MatchBool, List, [], ◌∷◌, length, slice_get, Option, None, Some, Ok, Err}
use Rattle.sqlite_value.specs.declared.value.Value.{Value}
use Rattle.sqlite_value.specs.declared.value.Value.TheVariants.{Int}
use Rattle.sqlite_value.specs.Order.{column}
use Rattle.sqlite.specs.State.{State, Executes, Commits, QueriesRow}
use Rattle.sqlite.specs.Held.{Held}
use Rattle.sqlite.specs.declared.error.Error.TheVariants.{QueryReturnedNoRows}
use Rattle.taxii_rows.specs.declared.stored_row.StoredRow.{StoredRow}
use Rattle.taxii_sqlite.specs.Columns.{HoldsRow, date_value}
use Rattle.taxii_sqlite.specs.declared.schema.TheConstants.{COUNT_EARLY_ROWS, NEXT_ROW, READ_WATERMARK, INSERT_ROW, DELETE_ROW, WRITE_WATERMARK, KEEP_WATERMARK}

-- the first row that is later than the date: the columns that `NEXT_ROW` answers hold it, or it
-- answers no row
abbrev pub AnswersNextRow : ℕ → State → State → Option StoredRow → Type 0
AnswersNextRow date before after None = QueriesRow NEXT_ROW.now (date_value date ∷ []) before after (Err QueryReturnedNoRows)
AnswersNextRow date before after (Some row) =
    (columns : List Value) × HoldsRow columns row × QueriesRow NEXT_ROW.now (date_value date ∷ []) before after (Ok columns)

-- the watermark: the value of the column that `READ_WATERMARK` returns
abbrev pub AnswersWatermark : State → State → ℕ → Type 0
AnswersWatermark before after watermark =
    (columns : List Value) × (column columns 0 ≡ date_value watermark) × QueriesRow READ_WATERMARK.now [] before after (Ok columns)

-- how many rows are early: no `NEXT_ROW` gives them, since their dates are not past 0, and
-- `COUNT_EARLY_ROWS` answers their count
abbrev pub AnswersCount : State → State → ℤ → Type 0
AnswersCount before after count =
    (columns : List Value) × (column columns 0 ≡ Int count) × QueriesRow COUNT_EARLY_ROWS.now [] before after (Ok columns)

-- a step was done for each of the list, in order
abbrev pub InTurn : {X H : Type 0} → (X → H → H → Type 0) → List X → H → H → Type 0
InTurn step [] before after = after ≡ before
InTurn step (x ∷ more) before after = (between : _) × step x before between × InTurn step more between after

-- whether there is a row, and has the date
abbrev pub has_date : Option StoredRow → ℕ → Bool
has_date None date = false
has_date (Some row) date = nat_eq row.date date

-- whether the last of the rows has the date
abbrev pub ends_at : List StoredRow → ℕ → Bool
ends_at rows date = has_date (slice_get rows (length rows - 1)) date

-- the same connection, in a transaction that was begun
abbrev pub begun : {S : Type 0} → Held S → Held S
begun before = record before { in_transaction = true }

-- `shown` is what a connection shows
module _ {S : Type 0} (shown : Held S → State) where
  -- a transaction was begun, this was run in it and nothing else, and it was committed
  pub record Transacts (Run : Held S → Held S → Type 0) (before after : Held S) : Type 0 where
    pub last : Held S
    pub run : Run (begun before) last
    pub commits : Commits (shown last) (shown after)

  -- a statement was run with these values
  abbrev pub RunsStatement : List ℕ → List Value → Held S → Held S → Type 0
  RunsStatement text values before after = (count : ℕ) × Executes text values (shown before) (shown after) (Ok count)

  -- the row was added: the columns that `INSERT_ROW` was given hold it
  abbrev pub Inserts : StoredRow → Held S → Held S → Type 0
  Inserts row before after = (columns : List Value) × HoldsRow columns row × RunsStatement INSERT_ROW.now columns before after

  -- the row of the date was removed
  abbrev pub DeletesRow : ℕ → Held S → Held S → Type 0
  DeletesRow date = RunsStatement DELETE_ROW.now (date_value date ∷ [])

  -- the date was stored as the watermark
  abbrev pub WritesWatermark : ℕ → Held S → Held S → Type 0
  WritesWatermark watermark = RunsStatement WRITE_WATERMARK.now (date_value watermark ∷ [])

  -- the date became the watermark: if it is the last row's date, nothing was written; otherwise it
  -- was stored
  abbrev pub SetsWatermark : List StoredRow → ℕ → Held S → Held S → Type 0
  SetsWatermark rows watermark before after = MatchBool (ends_at rows watermark) (after ≡ before) (WritesWatermark watermark before after)

  -- the rows were inserted in order, and then the date became the watermark
  abbrev pub InsertsRows : List StoredRow → ℕ → Held S → Held S → Type 0
  InsertsRows rows watermark before after = (with_rows : Held S) × InTurn Inserts rows before with_rows × SetsWatermark rows watermark with_rows after

  -- the watermark was stored as it is read, so that it survives the last row, and then the rows of
  -- the dates were removed in order
  abbrev pub DeletesAll : List ℕ → Held S → Held S → Type 0
  DeletesAll dates before after = (marked : Held S) × RunsStatement KEEP_WATERMARK.now [] before marked × InTurn DeletesRow dates marked after
