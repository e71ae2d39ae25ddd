-- What a line of the table `stix_row` holds, column by column.
use Rattle.std.specs.Prelude.{◌≡◌, ℕ, pos, List, length, Bool, if◌then◌else◌, IsUtf8}
use Rattle.std.specs.Int.{w128, from_be_bytes}
use Rattle.sqlite_value.specs.declared.value.Value.{Value}
use Rattle.sqlite_value.specs.declared.value.Value.TheVariants.{Int, Text, Blob}
use Rattle.sqlite_value.specs.Order.{column}
use Rattle.taxii_rows.specs.declared.stored_row.StoredRow.{StoredRow}

-- a date
abbrev pub date_value : ℕ → Value
date_value date = Int (pos date)

-- a truth is 0 or 1
abbrev pub truth_value : Bool → Value
truth_value truth = Int (if truth then pos 1 else pos 0)

-- a text is its bytes, which are UTF-8
abbrev pub HoldsText : Value → List ℕ → Type 0
HoldsText value text = (value ≡ Text text) × IsUtf8 text

-- a number is a blob of 16 bytes, the most significant first
abbrev pub HoldsNumber : Value → ℕ → Type 0
HoldsNumber value number = (bytes : List ℕ) × (value ≡ Blob bytes) × (length bytes ≡ 16) × (number ≡ from_be_bytes w128 bytes)

-- the columns hold this row
pub record HoldsRow (columns : List Value) (row : StoredRow) : Type 0 where
  pub date : column columns 0 ≡ date_value row.date
  pub collection : HoldsNumber (column columns 1) row.collection
  pub kind : HoldsText (column columns 2) row.id.kind
  pub number : HoldsNumber (column columns 3) row.id.number
  pub version : column columns 4 ≡ Int row.version
  pub dated : column columns 5 ≡ truth_value row.dated
  pub body : HoldsText (column columns 6) row.body
