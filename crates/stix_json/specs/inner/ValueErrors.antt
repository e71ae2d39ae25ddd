-- For private clauses: the first invalid value and the first value past the last level, by
-- recursion. The lemmas of proofs/WalkLemmas.antt prove that these are the first in walk order.
use Rattle.std.specs.Prelude.{ℕ, zero, suc, ◌+◌, List, [], ◌∷◌, ◌++◌, nat_le, if◌then◌else◌, ℤ, unsigned_abs, Option, Some, None, option_map}
use Rattle.std.specs.Option.{option_or}
use Rattle.serde_json.specs.Data.{Num, Data, null, boolean, number, string, array, object, Items, no_items, item, Members, no_members, member}
use Rattle.serde_json.specs.Find.{as_integer}
use Rattle.stix_json.specs.declared.limits.TheConstants.{MAX_SAFE_INTEGER}
use Rattle.stix_json.specs.declared.location.Location.{Location}
use Rattle.stix_json.specs.declared.location.Location.TheVariants.{Here, Below}
use Rattle.stix_json.specs.declared.value_error.Reason.{Reason}
use Rattle.stix_json.specs.declared.value_error.Reason.TheVariants.{NotWhole as NoWhole, Null as IsNull, OutOfRange as PastRange}
use Rattle.stix_json.specs.declared.value_error.ValueError.{ValueError}
use Rattle.stix_json.specs.declared.refusal.JsonRefusal.{JsonRefusal}
use Rattle.stix_json.specs.declared.refusal.JsonRefusal.TheVariants.{NotWhole, Null, OutOfRange}
use Rattle.stix_json.specs.Walk.{index_part}

-- the location as seen from one part higher
abbrev pub location_under : List ℕ → Location → Location
location_under part Here = Below part
location_under part (Below path) = Below (part ++ 46 ∷ path)

abbrev pub location_path : Location → List ℕ
location_path Here = []
location_path (Below path) = path

abbrev pub value_error_under : List ℕ → ValueError → ValueError
value_error_under part value_error = record { reason = value_error.reason; location = location_under part value_error.location }

-- the refusal of a whole value with this error
abbrev pub refusal_for : Reason → List ℕ → JsonRefusal
refusal_for NoWhole path = NotWhole path
refusal_for IsNull path = Null path
refusal_for PastRange path = OutOfRange path

abbrev pub refusal_at : ValueError → JsonRefusal
refusal_at value_error = refusal_for value_error.reason (location_path value_error.location)

abbrev pub whole_value_error : Option ℤ → Option Reason
whole_value_error None = Some NoWhole
whole_value_error (Some whole) = if nat_le (unsigned_abs whole) MAX_SAFE_INTEGER then None else Some PastRange

abbrev pub number_value_error : Num → Option Reason
number_value_error n = whole_value_error (as_integer n)

abbrev pub value_error_here : Option Reason → Option ValueError
value_error_here found = option_map (λ reason. record { reason = reason; location = Here }) found

abbrev mutual
  pub first_value_error : Data → Option ValueError
  first_value_error null = value_error_here (Some IsNull)
  first_value_error (boolean b) = None
  first_value_error (number n) = value_error_here (number_value_error n)
  first_value_error (string s) = None
  first_value_error (array ds) = items_value_error 0 ds
  first_value_error (object ms) = members_value_error ms

  pub items_value_error : ℕ → Items → Option ValueError
  items_value_error at no_items = None
  items_value_error at (item d ds) = option_or (option_map (value_error_under (index_part at)) (first_value_error d)) (items_value_error (at + 1) ds)

  pub members_value_error : Members → Option ValueError
  members_value_error no_members = None
  members_value_error (member name d ms) = option_or (option_map (value_error_under name) (first_value_error d)) (members_value_error ms)

-- the first list or object past the levels left
abbrev mutual
  pub too_deep : ℕ → Data → Option Location
  too_deep left null = None
  too_deep left (boolean b) = None
  too_deep left (number n) = None
  too_deep left (string s) = None
  too_deep zero (array ds) = Some Here
  too_deep (suc left) (array ds) = items_too_deep left 0 ds
  too_deep zero (object ms) = Some Here
  too_deep (suc left) (object ms) = members_too_deep left ms

  pub items_too_deep : ℕ → ℕ → Items → Option Location
  items_too_deep left at no_items = None
  items_too_deep left at (item d ds) = option_or (option_map (location_under (index_part at)) (too_deep left d)) (items_too_deep left (at + 1) ds)

  pub members_too_deep : ℕ → Members → Option Location
  members_too_deep left no_members = None
  members_too_deep left (member name d ms) = option_or (option_map (location_under name) (too_deep left d)) (members_too_deep left ms)
