-- The first value error of a value is the first in walk order, and so is the first value past the last level.
use Rattle.std.proofs.Common.{◌≡◌, ℕ, zero, suc, ◌+◌, List, [], ◌∷◌, ◌++◌, length, length-append, Bool, true, false, cond, nat_le, nat_lt, unsigned_abs, ℤ, Option, Some, None, option_map, refl, sym, ap, ◌∙◌, arith}
use Rattle.std.proofs.lemmas.Bool.Decides.{nat_tests}
use Rattle.std.specs.Option.{option_or}
use Rattle.serde_json.specs.Data.{Data, null, boolean, number, string, array, object, Items, no_items, item, Members, no_members, member}
use Rattle.serde_json.specs.Find.{as_integer}
use Rattle.stix_json.specs.declared.limits.TheConstants.{MAX_LEVELS, MAX_SAFE_INTEGER}
use Rattle.stix_json.specs.declared.location.Location.{Location}
use Rattle.stix_json.specs.declared.location.Location.TheVariants.{Here, Below}
use Rattle.stix_json.specs.declared.value_error.Reason.{Reason}
use Rattle.stix_json.specs.declared.value_error.Reason.TheVariants.{NotWhole as NoWhole, Null as IsNull, OutOfRange as PastRange}
use Rattle.stix_json.specs.declared.value_error.ValueError.{ValueError}
use Rattle.stix_json.specs.declared.refusal.JsonRefusal.{JsonRefusal}
use Rattle.stix_json.specs.declared.refusal.JsonRefusal.TheVariants.{TooDeep, NotWhole, Null, OutOfRange}
use Rattle.stix_json.specs.Walk.{Visit, walk, walk_items, walk_members, path_text, index_part}
use Rattle.stix_json.specs.Refusal.{first_reported, depth_refusal, visit_refusal, number_refusal, data_refusal}
use Rattle.stix_json.specs.Reading.{IsRefusalOf}
use Rattle.stix_json.specs.inner.ValueErrors.{location_under, location_path, value_error_under, refusal_for, refusal_at, whole_value_error, value_error_here, first_value_error, items_value_error, members_value_error, too_deep, items_too_deep, members_too_deep}

-- a place location_under some parts
abbrev placed : List (List ℕ) → Location → Location
placed [] location = location
placed (part ∷ parts) location = location_under part (placed parts location)

placed_more : (parts : List (List ℕ)) (part : List ℕ) (location : Location) → placed (parts ++ part ∷ []) location ≡ placed parts (location_under part location)
placed_more [] part location = refl
placed_more (first ∷ parts) part location = ap (location_under first) (placed_more parts part location)

under_below : (part : List ℕ) (parts : List (List ℕ)) → location_under part (placed parts Here) ≡ Below (path_text (part ∷ parts))
under_below part [] = refl
under_below part (next ∷ parts) = ap (location_under part) (under_below next parts)

path_placed : (parts : List (List ℕ)) → location_path (placed parts Here) ≡ path_text parts
path_placed [] = refl
path_placed (part ∷ parts) = ap location_path (under_below part parts)

or_again : (a b c : Option JsonRefusal) → option_or a (option_or b c) ≡ option_or (option_or a b) c
or_again None b c = refl
or_again (Some x) b c = refl

first_told_append : (tell : Visit → Option JsonRefusal) (xs ys : List Visit) → first_reported tell (xs ++ ys) ≡ option_or (first_reported tell xs) (first_reported tell ys)
first_told_append tell [] ys = refl
first_told_append tell (x ∷ xs) ys = ap (option_or (tell x)) (first_told_append tell xs ys) ∙ or_again (tell x) (first_reported tell xs) (first_reported tell ys)

-- ---- value errors

abbrev value_error_placed : List (List ℕ) → ValueError → JsonRefusal
value_error_placed parts value_error = refusal_for value_error.reason (location_path (placed parts value_error.location))

range_told : (parts : List (List ℕ)) (b : Bool) → option_or (cond b None (Some (OutOfRange (path_text parts)))) None ≡ option_map (value_error_placed parts) (value_error_here (cond b None (Some PastRange)))
range_told parts true = refl
range_told parts false = ap (λ path. Some (OutOfRange path)) (sym (path_placed parts))

number_told : (parts : List (List ℕ)) (whole : Option ℤ) → option_or (number_refusal (path_text parts) whole) None ≡ option_map (value_error_placed parts) (value_error_here (whole_value_error whole))
number_told parts None = ap (λ path. Some (NotWhole path)) (sym (path_placed parts))
number_told parts (Some whole) = range_told parts (nat_le (unsigned_abs whole) MAX_SAFE_INTEGER)

value_error_of_part : (parts : List (List ℕ)) (part : List ℕ) (found later : Option ValueError)
    → option_or (option_map (value_error_placed (parts ++ part ∷ [])) found) (option_map (value_error_placed parts) later) ≡ option_map (value_error_placed parts) (option_or (option_map (value_error_under part) found) later)
value_error_of_part parts part None later = refl
value_error_of_part parts part (Some value_error) later = ap (λ location. Some (refusal_for value_error.reason (location_path location))) (placed_more parts part value_error.location)

mutual
  walk_value_error : (parts : List (List ℕ)) (d : Data) → first_reported visit_refusal (walk parts d) ≡ option_map (value_error_placed parts) (first_value_error d)
  walk_value_error parts null = ap (λ path. Some (Null path)) (sym (path_placed parts))
  walk_value_error parts (boolean b) = refl
  walk_value_error parts (number n) = number_told parts (as_integer n)
  walk_value_error parts (string s) = refl
  walk_value_error parts (array items) = walk_items_value_error parts 0 items
  walk_value_error parts (object members) = walk_members_value_error parts members

  walk_items_value_error : (parts : List (List ℕ)) (at : ℕ) (items : Items) → first_reported visit_refusal (walk_items parts at items) ≡ option_map (value_error_placed parts) (items_value_error at items)
  walk_items_value_error parts at no_items = refl
  walk_items_value_error parts at (item d items) =
      first_told_append visit_refusal (walk (parts ++ index_part at ∷ []) d) (walk_items parts (at + 1) items)
      ∙ rw (walk_value_error (parts ++ index_part at ∷ []) d, walk_items_value_error parts (at + 1) items) (value_error_of_part parts (index_part at) (first_value_error d) (items_value_error (at + 1) items))

  walk_members_value_error : (parts : List (List ℕ)) (members : Members) → first_reported visit_refusal (walk_members parts members) ≡ option_map (value_error_placed parts) (members_value_error members)
  walk_members_value_error parts no_members = refl
  walk_members_value_error parts (member name d members) =
      first_told_append visit_refusal (walk (parts ++ name ∷ []) d) (walk_members parts members)
      ∙ rw (walk_value_error (parts ++ name ∷ []) d, walk_members_value_error parts members) (value_error_of_part parts name (first_value_error d) (members_value_error members))

-- ---- levels

abbrev deep_placed : List (List ℕ) → Location → JsonRefusal
deep_placed parts location = TooDeep (location_path (placed parts location))

past_last : (n : ℕ) → n ≡ MAX_LEVELS → nat_lt MAX_LEVELS (n + 1) ≡ true
past_last n is = grind (arith, nat_tests)

not_past : (n left : ℕ) → suc left + n ≡ MAX_LEVELS → nat_lt MAX_LEVELS (n + 1) ≡ false
not_past n left is = grind (arith, nat_tests)

deep_of_part : (parts : List (List ℕ)) (part : List ℕ) (found later : Option Location)
    → option_or (option_map (deep_placed (parts ++ part ∷ [])) found) (option_map (deep_placed parts) later) ≡ option_map (deep_placed parts) (option_or (option_map (location_under part) found) later)
deep_of_part parts part None later = refl
deep_of_part parts part (Some location) later = ap (λ location. Some (TooDeep (location_path location))) (placed_more parts part location)

told_here : (parts : List (List ℕ)) (later : Option JsonRefusal) → length parts ≡ MAX_LEVELS
    → option_or (cond (nat_lt MAX_LEVELS (length parts + 1)) (Some (TooDeep (path_text parts))) None) later ≡ Some (deep_placed parts Here)
told_here parts later is = rw (past_last (length parts) is) (ap (λ path. Some (TooDeep path)) (sym (path_placed parts)))

told_later : (parts : List (List ℕ)) (left : ℕ) (later : Option JsonRefusal) → suc left + length parts ≡ MAX_LEVELS
    → option_or (cond (nat_lt MAX_LEVELS (length parts + 1)) (Some (TooDeep (path_text parts))) None) later ≡ later
told_later parts left later is = rw (not_past (length parts) left is) refl

one_less : (parts : List (List ℕ)) (part : List ℕ) (left : ℕ) → suc left + length parts ≡ MAX_LEVELS → left + length (parts ++ part ∷ []) ≡ MAX_LEVELS
one_less parts part left is = let e : length (parts ++ part ∷ []) ≡ length parts + 1 = length-append parts (part ∷ []) in omega (arith, e)

mutual
  walk_deep : (parts : List (List ℕ)) (left : ℕ) (d : Data) → left + length parts ≡ MAX_LEVELS → first_reported depth_refusal (walk parts d) ≡ option_map (deep_placed parts) (too_deep left d)
  walk_deep parts left null is = refl
  walk_deep parts left (boolean b) is = refl
  walk_deep parts left (number n) is = refl
  walk_deep parts left (string s) is = refl
  walk_deep parts zero (array items) is = told_here parts (first_reported depth_refusal (walk_items parts 0 items)) (omega arith)
  walk_deep parts (suc left) (array items) is =
      told_later parts left (first_reported depth_refusal (walk_items parts 0 items)) is ∙ walk_items_deep parts left 0 items is
  walk_deep parts zero (object members) is = told_here parts (first_reported depth_refusal (walk_members parts members)) (omega arith)
  walk_deep parts (suc left) (object members) is =
      told_later parts left (first_reported depth_refusal (walk_members parts members)) is ∙ walk_members_deep parts left members is

  walk_items_deep : (parts : List (List ℕ)) (left at : ℕ) (items : Items) → suc left + length parts ≡ MAX_LEVELS
      → first_reported depth_refusal (walk_items parts at items) ≡ option_map (deep_placed parts) (items_too_deep left at items)
  walk_items_deep parts left at no_items is = refl
  walk_items_deep parts left at (item d items) is =
      first_told_append depth_refusal (walk (parts ++ index_part at ∷ []) d) (walk_items parts (at + 1) items)
      ∙ rw (walk_deep (parts ++ index_part at ∷ []) left d (one_less parts (index_part at) left is), walk_items_deep parts left (at + 1) items is)
      (deep_of_part parts (index_part at) (too_deep left d) (items_too_deep left (at + 1) items))

  walk_members_deep : (parts : List (List ℕ)) (left : ℕ) (members : Members) → suc left + length parts ≡ MAX_LEVELS
      → first_reported depth_refusal (walk_members parts members) ≡ option_map (deep_placed parts) (members_too_deep left members)
  walk_members_deep parts left no_members is = refl
  walk_members_deep parts left (member name d members) is =
      first_told_append depth_refusal (walk (parts ++ name ∷ []) d) (walk_members parts members)
      ∙ rw (walk_deep (parts ++ name ∷ []) left d (one_less parts name left is), walk_members_deep parts left members is)
      (deep_of_part parts name (too_deep left d) (members_too_deep left members))

-- ---- refusals

-- what the two walks find is the refusal of the value
refusal_found : (d : Data) → data_refusal d ≡ option_or (option_map (deep_placed []) (too_deep MAX_LEVELS d)) (option_map (value_error_placed []) (first_value_error d))
refusal_found d = rw (walk_deep [] MAX_LEVELS d (omega arith), walk_value_error [] d) refl

some_path : (found : Option Location) (later : Option JsonRefusal) (path : List ℕ) → Some path ≡ option_map location_path found → option_or (option_map (deep_placed []) found) later ≡ Some (TooDeep path)
some_path None later path is = absurd (cc)
some_path (Some location) later path is = let e : location_path location ≡ path = cc in ap (λ path. Some (TooDeep path)) e

pub deep_refused : (d : Data) (path : List ℕ) → Some path ≡ option_map location_path (too_deep MAX_LEVELS d) → data_refusal d ≡ Some (TooDeep path)
deep_refused d path is = refusal_found d ∙ some_path (too_deep MAX_LEVELS d) (option_map (value_error_placed []) (first_value_error d)) path is

pub nothing_refused : (d : Data) → too_deep MAX_LEVELS d ≡ None → first_value_error d ≡ None → data_refusal d ≡ None
nothing_refused d shallow good = refusal_found d ∙ rw (shallow, good) refl

told_reason : (d : Data) (reason : Reason) (path : List ℕ) → data_refusal d ≡ Some (refusal_for reason path) → IsRefusalOf d (refusal_for reason path)
told_reason d NoWhole path is = is
told_reason d IsNull path is = is
told_reason d PastRange path is = is

pub value_error_refused : (d : Data) (value_error : ValueError) → too_deep MAX_LEVELS d ≡ None → first_value_error d ≡ Some value_error → IsRefusalOf d (refusal_at value_error)
value_error_refused d value_error shallow found = told_reason d value_error.reason (location_path value_error.location) (refusal_found d ∙ rw (shallow, found) refl)

both_none : (found : Option Location) (value_error : Option ValueError) → option_or (option_map (deep_placed []) found) (option_map (value_error_placed []) value_error) ≡ None → (found ≡ None) × (value_error ≡ None)
both_none None None is = (refl, refl)
both_none None (Some value_error) is = absurd (cc)
both_none (Some location) value_error is = absurd (cc)

pub nothing_found : (d : Data) → data_refusal d ≡ None → (too_deep MAX_LEVELS d ≡ None) × (first_value_error d ≡ None)
nothing_found d good = both_none (too_deep MAX_LEVELS d) (first_value_error d) (sym (refusal_found d) ∙ good)
