-- Why a JSON value is refused: it nests too deep, or has a null, a fraction or a number out of
-- range.
use Rattle.std.specs.Prelude.{ℕ, ◌+◌, ◌&&◌, List, [], ◌∷◌, length, Bool, true, false, nat_lt, nat_le, if◌then◌else◌, ℤ, unsigned_abs, Option, Some, None}
use Rattle.std.specs.Option.{option_or}
use Rattle.serde_json.specs.Data.{Data, null, boolean, number, string, array, object}
use Rattle.serde_json.specs.Find.{as_integer}
use Rattle.stix_json.specs.declared.limits.TheConstants.{MAX_LEVELS, MAX_SAFE_INTEGER}
use Rattle.stix_json.specs.declared.refusal.JsonRefusal.{JsonRefusal}
use Rattle.stix_json.specs.declared.refusal.JsonRefusal.TheVariants.{TooDeep, NotWhole, Null, OutOfRange}
use Rattle.stix_json.specs.Walk.{Visit, walk, path_text}

-- the first refusal among these values, in order
abbrev pub first_reported : (Visit → Option JsonRefusal) → List Visit → Option JsonRefusal
first_reported tell [] = None
first_reported tell (v ∷ vs) = option_or (tell v) (first_reported tell vs)

-- only lists and objects have a nesting_level
abbrev pub has_level : Data → Bool
has_level null = false
has_level (boolean b) = false
has_level (number n) = false
has_level (string s) = false
has_level (array ds) = true
has_level (object ms) = true

-- the nesting_level of a value in the whole one: each part of its path is a list or an object around it
abbrev pub nesting_level : Visit → ℕ
nesting_level v = length v.parts + 1

-- a list or an object past the last nesting_level
abbrev pub depth_refusal : Visit → Option JsonRefusal
depth_refusal v = if has_level v.value && nat_lt MAX_LEVELS (nesting_level v) then Some (TooDeep (path_text v.parts)) else None

-- a number at a path, with its integer if it has one
abbrev pub number_refusal : List ℕ → Option ℤ → Option JsonRefusal
number_refusal path None = Some (NotWhole path)
number_refusal path (Some whole) = if nat_le (unsigned_abs whole) MAX_SAFE_INTEGER then None else Some (OutOfRange path)

-- a value at a path that Json can't represent
abbrev pub value_refusal : List ℕ → Data → Option JsonRefusal
value_refusal path null = Some (Null path)
value_refusal path (boolean b) = None
value_refusal path (number n) = number_refusal path (as_integer n)
value_refusal path (string s) = None
value_refusal path (array ds) = None
value_refusal path (object ms) = None

abbrev pub visit_refusal : Visit → Option JsonRefusal
visit_refusal v = value_refusal (path_text v.parts) v.value

-- the first value that nests too deep, else the first that Json can't represent
abbrev pub data_refusal : Data → Option JsonRefusal
data_refusal d = option_or (first_reported depth_refusal (walk [] d)) (first_reported visit_refusal (walk [] d))
