-- What it is to load the rows of a keeper, and which row of it is bad, where they are read by date.
use Rattle.std.specs.Prelude.{◌≡◌, ◌⊎◌, ℕ, ◌≤◌, ◌<◌, List, option_map, MatchOption}
use Rattle.std.specs.List.{Contains}
use Rattle.taxii_rows.specs.declared.stored_row.StoredRow.{StoredRow}
use Rattle.taxii_rows.specs.declared.stored_row.TheConstants.{LAST_DATE}
use Rattle.taxii_rows.specs.StoreState.{StoreState}
use Rattle.taxii_rows.specs.SoundRow.{IsSoundRow, IsSoundState}
use Rattle.taxii_rows.specs.Keeper.{Kept, row_after}
use Rattle.taxii_rows.specs.declared.keeper_refusal.KeeperRefusal.{KeeperRefusal}
use Rattle.taxii_rows.specs.declared.keeper_refusal.KeeperRefusal.TheVariants.{Fault, NoMemory as KeeperWants}
use Rattle.taxii_store.specs.Agreement.{Agrees}
use Rattle.taxii_store.specs.declared.load_refusal.LoadRefusal.{LoadRefusal}
use Rattle.taxii_store.specs.declared.load_refusal.LoadRefusal.TheVariants.{KeeperFault, NoMemory as OutOfMemory}

-- what a keeper's refusal is to a load
abbrev pub load_refusal : KeeperRefusal → LoadRefusal
load_refusal Fault = KeeperFault
load_refusal KeeperWants = OutOfMemory

-- the row is sound, and neither after the watermark nor after the last valid date
pub record IsFitRow (watermark : ℕ) (row : StoredRow) : Type 0 where
  pub marked : row.date ≤ watermark
  pub last : row.date ≤ LAST_DATE
  pub sound : IsSoundRow row

-- the rows up to that date are fit, of which it is the last, or there is none
pub record AreFitUpTo (state : StoreState) (after : ℕ) : Type 0 where
  pub fit : (row : StoredRow) → Contains state.rows row → row.date ≤ after → IsFitRow state.watermark row
  pub ends : (after ≡ 0) ⊎ ((row : StoredRow) × Contains state.rows row × (row.date ≡ after))

-- the first row that is not acceptable is the one after this date; or no row follows it, and the
-- watermark is after the last valid date
pub record IsBadAfter (state : StoreState) (after : ℕ) : Type 0 where
  pub before : AreFitUpTo state after
  pub bad : MatchOption (row_after after state.rows) (LAST_DATE < state.watermark) (λ row. ¬ IsFitRow state.watermark row)

-- a library was loaded from the rows that a keeper has under a name
pub record IsLoaded (name : List ℕ) (kept : Kept) (library : StoreState) : Type 0 where
  pub agrees : Agrees kept library
  pub sound : IsSoundState library
  pub named : kept.name ≡ option_map (λ _. name) kept.observable
