-- Which versions of an object are picked (`match[version]` of TAXII 2.1, section 3.4), among the
-- rows of one collection and identifier that a store has.
use Rattle.std.specs.Prelude.{◌≡◌, ◌⊎◌, ◌<ℤ◌, ◌≤◌, true, ⊤, List, Any}
use Rattle.std.specs.List.{Contains}
use Rattle.stix_ids.specs.declared.pick.Pick.{Pick}
use Rattle.stix_ids.specs.declared.pick.Pick.TheVariants.{Last, First, All, At}
use Rattle.taxii_rows.specs.declared.stored_row.StoredRow.{StoredRow}
use Rattle.taxii_rows.specs.Identity.{is_row_of}

-- the second row is not later than the first: by version, and of one version by date
abbrev pub IsNotBefore : StoredRow → StoredRow → Type 0
IsNotBefore row other = (other.version <ℤ row.version) ⊎ ((other.version ≡ row.version) × (other.date ≤ row.date))

-- a rule holds of each row of the object of this row
abbrev pub ForItsRows : (StoredRow → Type 0) → List StoredRow → StoredRow → Type 0
ForItsRows Rule rows row = (other : StoredRow) → Contains rows other → is_row_of row.collection row.id other ≡ true → Rule other

-- the pick selects the row among these
abbrev pub IsPickedBy : Pick → List StoredRow → StoredRow → Type 0
IsPickedBy Last rows row = ForItsRows (IsNotBefore row) rows row
IsPickedBy First rows row = ForItsRows (λ other. IsNotBefore other row) rows row
IsPickedBy All rows row = ⊤
IsPickedBy (At version) rows row = row.version ≡ version

-- one of the picks does
abbrev pub IsPicked : List Pick → List StoredRow → StoredRow → Type 0
IsPicked picks rows row = Any (λ pick. IsPickedBy pick rows row) picks
