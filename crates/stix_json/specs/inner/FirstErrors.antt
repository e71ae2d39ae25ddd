-- For private clauses: the first error of a value that may nest this many levels. The lemmas of
-- proofs prove that it is the refusal of specs/Refusal.antt.
use Rattle.std.specs.Prelude.{ℕ, zero, suc, ◌+◌, List, Option, Some, None, option_map}
use Rattle.serde_json.specs.Data.{Data, null, boolean, number, string, array, object, Items, no_items, item, Members, no_members, member}
use Rattle.stix_json.specs.declared.location.Location.TheVariants.{Here}
use Rattle.stix_json.specs.declared.value_error.Reason.TheVariants.{Null as IsNull}
use Rattle.stix_json.specs.declared.first_error.FirstError.{FirstError}
use Rattle.stix_json.specs.declared.first_error.FirstError.TheVariants.{TooDeep as Deep, InvalidValue}
use Rattle.stix_json.specs.declared.refusal.JsonRefusal.{JsonRefusal}
use Rattle.stix_json.specs.declared.refusal.JsonRefusal.TheVariants.{TooDeep, NotJson, NoMemory}
use Rattle.stix_json.specs.declared.read_error.ReadError.{ReadError}
use Rattle.stix_json.specs.declared.read_error.ReadError.TheVariants.{NotJson as NoValue, NoMemory as OutOfMemory}
use Rattle.stix_json.specs.Walk.{index_part}
use Rattle.stix_json.specs.inner.ValueErrors.{location_under, location_path, value_error_under, refusal_at, number_value_error, value_error_here}

-- the error as seen from one part higher
abbrev pub first_error_under : List ℕ → FirstError → FirstError
first_error_under part (Deep location) = Deep (location_under part location)
first_error_under part (InvalidValue value_error) = InvalidValue (value_error_under part value_error)

-- the error that counts of an earlier and a later one: the first that is too deep, else the first
abbrev pub deciding_error : Option FirstError → Option FirstError → Option FirstError
deciding_error None later = later
deciding_error (Some (Deep location)) later = Some (Deep location)
deciding_error (Some (InvalidValue value_error)) None = Some (InvalidValue value_error)
deciding_error (Some (InvalidValue value_error)) (Some (Deep location)) = Some (Deep location)
deciding_error (Some (InvalidValue value_error)) (Some (InvalidValue later)) = Some (InvalidValue value_error)

-- the first error of a value that may have this many levels of lists and objects
abbrev mutual
  pub first_error : ℕ → Data → Option FirstError
  first_error levels null = Some (InvalidValue (record { reason = IsNull; location = Here }))
  first_error levels (boolean b) = None
  first_error levels (number n) = option_map InvalidValue (value_error_here (number_value_error n))
  first_error levels (string s) = None
  first_error zero (array ds) = Some (Deep Here)
  first_error (suc levels) (array ds) = items_first_error levels 0 ds
  first_error zero (object ms) = Some (Deep Here)
  first_error (suc levels) (object ms) = members_first_error levels ms

  -- of the items from an index on
  pub items_first_error : ℕ → ℕ → Items → Option FirstError
  items_first_error levels at no_items = None
  items_first_error levels at (item d ds) = deciding_error (option_map (first_error_under (index_part at)) (first_error levels d)) (items_first_error levels (at + 1) ds)

  pub members_first_error : ℕ → Members → Option FirstError
  members_first_error levels no_members = None
  members_first_error levels (member name d ms) = deciding_error (option_map (first_error_under name) (first_error levels d)) (members_first_error levels ms)

-- the refusal of a whole value with this first error
abbrev pub refusal_of_first_error : FirstError → JsonRefusal
refusal_of_first_error (Deep location) = TooDeep (location_path location)
refusal_of_first_error (InvalidValue value_error) = refusal_at value_error

-- the refusal of bytes that yield no value
abbrev pub refusal_of_read_error : ReadError → JsonRefusal
refusal_of_read_error NoValue = NotJson
refusal_of_read_error OutOfMemory = NoMemory
