-- The layout of a database, and how a database becomes a store.
use Rattle.std.specs.Prelude.{◌≡◌, ◌⊎◌, ℕ, ℤ, pos, List, [], ◌∷◌, Ok}
use Rattle.sqlite_value.specs.declared.value.Value.{Value}
use Rattle.sqlite_value.specs.declared.value.Value.TheVariants.{Int, Text}
use Rattle.sqlite_value.specs.Order.{column}
use Rattle.sqlite.specs.State.{State, QueriesRow}
use Rattle.sqlite.specs.Held.{Held}
use Rattle.taxii_sqlite.specs.Statements.{AnswersWatermark, AnswersCount, RunsStatement, Transacts}
use Rattle.taxii_sqlite.specs.declared.layout.Layout.{Layout}
use Rattle.taxii_sqlite.specs.declared.layout.Layout.TheVariants.{Blank, Unnamed, Named, Other}
use Rattle.taxii_sqlite.specs.declared.schema.TheConstants.{VERSION, VERSION_BEFORE, ROW_TABLE, WATERMARK_TABLE, LAYOUT_TABLE, FIRST_WATERMARK, NAME_LAYOUT, COUNT_TABLES, READ_VERSION}

-- the layout from three counts of tables: all, those of rows and watermark, and that of the layout
-- version. No tables, those of earlier programs, all of a store, or any others
abbrev pub IsLayoutOf : ℤ → ℤ → ℤ → Layout → Type 0
IsLayoutOf all rows names Blank = (all ≡ pos 0) × (rows ≡ pos 0) × (names ≡ pos 0)
IsLayoutOf all rows names Unnamed = (all ≡ pos 2) × (rows ≡ pos 2) × (names ≡ pos 0)
IsLayoutOf all rows names Named = (all ≡ pos 3) × (rows ≡ pos 2) × (names ≡ pos 1)
IsLayoutOf all rows names Other =
    ¬ ((all ≡ pos 0) × (rows ≡ pos 0) × (names ≡ pos 0)) × ¬ ((all ≡ pos 2) × (rows ≡ pos 2) × (names ≡ pos 0)) × ¬ ((all ≡ pos 3) × (rows ≡ pos 2) × (names ≡ pos 1))

-- the schema, counted by `COUNT_TABLES`, has this layout
pub record AnswersLayout (before after : State) (layout : Layout) : Type 0 where
  pub columns : List Value
  pub asked : QueriesRow COUNT_TABLES.now (Text ROW_TABLE.now ∷ Text WATERMARK_TABLE.now ∷ Text LAYOUT_TABLE.now ∷ []) before after (Ok columns)
  pub all : ℤ
  pub rows : ℤ
  pub names : ℤ
  pub all_is : column columns 0 ≡ Int all
  pub rows_are : column columns 1 ≡ Int rows
  pub names_are : column columns 2 ≡ Int names
  pub layout_is : IsLayoutOf all rows names layout

-- the layout version: the value of the column that `READ_VERSION` returns
abbrev pub AnswersVersion : State → State → ℤ → Type 0
AnswersVersion before after version = (columns : List Value) × (column columns 0 ≡ Int version) × QueriesRow READ_VERSION.now [] before after (Ok columns)

-- `shown` is what a connection shows
module _ {S : Type 0} (shown : Held S → State) where
  -- the tables of rows and watermark were created, without rows and with the watermark 0
  pub record MakesRows (before after : Held S) : Type 0 where
    pub with_rows : Held S
    pub with_watermark : Held S
    pub rows : RunsStatement shown ROW_TABLE.now [] before with_rows
    pub watermark : RunsStatement shown WATERMARK_TABLE.now [] with_rows with_watermark
    pub first : RunsStatement shown FIRST_WATERMARK.now [] with_watermark after

  -- the layout version was recorded
  abbrev pub NamesLayout : Held S → Held S → Type 0
  NamesLayout before after = (made : Held S) × RunsStatement shown LAYOUT_TABLE.now [] before made × RunsStatement shown NAME_LAYOUT.now [] made after

  -- all tables were made
  abbrev pub MakesTables : Held S → Held S → Type 0
  MakesTables before after = (made : Held S) × MakesRows before made × NamesLayout made after

  -- this version was written over another one
  abbrev pub WritesVersion : Held S → Held S → Type 0
  WritesVersion = RunsStatement shown NAME_LAYOUT.now []

  -- a database of this layout got the tables that it lacked, and nothing else
  abbrev pub CompletesLayout : Layout → Held S → Held S → Type 0
  CompletesLayout Blank before after = Transacts shown MakesTables before after
  CompletesLayout Unnamed before after = Transacts shown NamesLayout before after
  CompletesLayout Named before after = after ≡ before
  CompletesLayout Other before after = ⊥

  -- a store of this version stayed as it was, one of the version before got this one, and nothing
  -- else
  abbrev pub Migrates : ℤ → Held S → Held S → Type 0
  Migrates version before after =
      ((version ≡ VERSION) × (after ≡ before)) ⊎ ((version ≡ VERSION_BEFORE) × Transacts shown WritesVersion before after)

  -- the layout was read, the database got the tables that it lacked, and its version is this one,
  -- or was the previous one and was migrated
  pub record IsAcceptedStore (before after : Held S) : Type 0 where
    pub layout : Layout
    pub listed : Held S
    pub complete : Held S
    pub version : ℤ
    pub read : Held S
    pub has_layout : AnswersLayout (shown before) (shown listed) layout
    pub completes : CompletesLayout layout listed complete
    pub has_version : AnswersVersion (shown complete) (shown read) version
    pub migrates : Migrates version read after

  -- it was accepted as a store, then a watermark was read, and then no row with a date up to 0 was
  -- found
  pub record IsReadyStore (before after : Held S) : Type 0 where
    pub taken : Held S
    pub marked : Held S
    pub watermark : ℕ
    pub takes : IsAcceptedStore before taken
    pub has_watermark : AnswersWatermark (shown taken) (shown marked) watermark
    pub has_none_early : AnswersCount (shown marked) (shown after) (pos 0)
