-- A set of version filters, given by a list of them in which repetitions count once.
use Rattle.std.specs.Prelude.{◌⊎◌, ℤ, List, IsTrue, ◌↔◌}
use Rattle.std.specs.List.{Contains}
use Rattle.std.specs.Ordering.{int_cmp}
use Rattle.std.specs.BTreeSet.{contains}
use Rattle.stix_ids.specs.declared.pick.Pick.{Pick}
use Rattle.stix_ids.specs.declared.pick.Pick.TheVariants.{Last, First, All, At}
use Rattle.taxii_rows.specs.declared.stored_row.StoredRow.{StoredRow}
use Rattle.taxii_rows.specs.Picking.{IsPickedBy}
use Rattle.taxii_store.specs.declared.pick_set.PickSet.{PickSet}

-- the set has these picks, and no other
pub record HasPicks (picks : List Pick) (set : PickSet) : Type 0 where
  pub all : IsTrue set.all ↔ Contains picks All
  pub last : IsTrue set.last ↔ Contains picks Last
  pub first : IsTrue set.first ↔ Contains picks First
  pub versions : (version : ℤ) → IsTrue (contains int_cmp set.versions version) ↔ Contains picks (At version)

-- one of the set's picks selects the last or the first version of an object
abbrev pub SelectsEnd : PickSet → List StoredRow → StoredRow → Type 0
SelectsEnd set rows row = (IsTrue set.last × IsPickedBy Last rows row) ⊎ (IsTrue set.first × IsPickedBy First rows row)

-- one of the set's picks selects the row among these
abbrev pub SelectsRow : PickSet → List StoredRow → StoredRow → Type 0
SelectsRow set rows row = IsTrue set.all ⊎ (IsTrue (contains int_cmp set.versions row.version) ⊎ SelectsEnd set rows row)
