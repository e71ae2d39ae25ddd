-- What stands first against a value is what it is refused for; and lists and objects that grow by one.
use Rattle.std.proofs.Common.{◌≡◌, ℕ, zero, suc, ◌+◌, List, [], ◌∷◌, ◌++◌, length, Option, Some, None, option_map, refl, sym, ap, ◌∙◌, arith}
use Rattle.std.specs.Option.{option_or}
use Rattle.serde_json.specs.Data.{Data, null, boolean, number, string, array, object, Items, no_items, item, Members, no_members, member}
use Rattle.serde_json.specs.View.{items_of}
use Rattle.stix_json.specs.declared.limits.TheConstants.{MAX_LEVELS}
use Rattle.stix_json.specs.declared.location.Location.{Location}
use Rattle.stix_json.specs.declared.value_error.ValueError.{ValueError}
use Rattle.stix_json.specs.declared.first_error.FirstError.{FirstError}
use Rattle.stix_json.specs.declared.first_error.FirstError.TheVariants.{TooDeep as Deep, InvalidValue}
use Rattle.stix_json.specs.declared.refusal.JsonRefusal.{JsonRefusal}
use Rattle.stix_json.specs.DataOf.{Member, members_of}
use Rattle.stix_json.specs.Refusal.{data_refusal}
use Rattle.stix_json.specs.declared.refusal.JsonRefusal.TheVariants.{NotJson, TooDeep, NotWhole, Null, OutOfRange, NotList, NoMemory}
use Rattle.stix_json.specs.Reading.{IsRefusalOf, IsValueOf, IsJsonRefusedAs}
use Rattle.stix_json.specs.Walk.{index_part}
use Rattle.stix_json.specs.inner.ValueErrors.{location_under, location_path, value_error_under, first_value_error, items_value_error, members_value_error, too_deep, items_too_deep, members_too_deep, number_value_error, value_error_here}
use Rattle.stix_json.specs.inner.FirstErrors.{first_error_under, deciding_error, first_error, items_first_error, members_first_error, refusal_of_first_error}
use Rattle.stix_json.proofs.WalkLemmas.{deep_refused, value_error_refused, nothing_refused}

-- ---- what counts

pub sooner_again : (a b c : Option FirstError) → deciding_error (deciding_error a b) c ≡ deciding_error a (deciding_error b c)
sooner_again None b c = refl
sooner_again (Some (Deep location)) b c = refl
sooner_again (Some (InvalidValue value_error)) None c = refl
sooner_again (Some (InvalidValue value_error)) (Some (Deep location)) c = refl
sooner_again (Some (InvalidValue value_error)) (Some (InvalidValue later)) None = refl
sooner_again (Some (InvalidValue value_error)) (Some (InvalidValue later)) (Some (Deep location)) = refl
sooner_again (Some (InvalidValue value_error)) (Some (InvalidValue later)) (Some (InvalidValue last)) = refl

pub sooner_none : (a : Option FirstError) → deciding_error a None ≡ a
sooner_none None = refl
sooner_none (Some (Deep location)) = refl
sooner_none (Some (InvalidValue value_error)) = refl

-- ---- one more after the others

next_place : (at n : ℕ) → (at + 1) + n ≡ at + suc n
next_place at n = omega arith

items_first_error_push : (levels at : ℕ) (ds : List Data) (d : Data)
    → items_first_error levels at (items_of (ds ++ d ∷ [])) ≡ deciding_error (items_first_error levels at (items_of ds)) (option_map (first_error_under (index_part (at + length ds))) (first_error levels d))
items_first_error_push levels at [] d =
    sooner_none (option_map (first_error_under (index_part at)) (first_error levels d)) ∙ ap (λ (n : ℕ). option_map (first_error_under (index_part n)) (first_error levels d)) (omega arith)
items_first_error_push levels at (e ∷ ds) d =
    ap (deciding_error (option_map (first_error_under (index_part at)) (first_error levels e))) (items_first_error_push levels (at + 1) ds d)
    ∙ sym (sooner_again (option_map (first_error_under (index_part at)) (first_error levels e)) (items_first_error levels (at + 1) (items_of ds)) (option_map (first_error_under (index_part ((at + 1) + length ds))) (first_error levels d)))
    ∙ ap (λ (n : ℕ). deciding_error (items_first_error levels at (items_of (e ∷ ds))) (option_map (first_error_under (index_part n)) (first_error levels d))) (next_place at (length ds))

pub list_first_error_push : (levels : ℕ) (ds : List Data) (d : Data)
    → items_first_error levels 0 (items_of (ds ++ d ∷ [])) ≡ deciding_error (items_first_error levels 0 (items_of ds)) (option_map (first_error_under (index_part (length ds))) (first_error levels d))
list_first_error_push levels ds d =
    items_first_error_push levels 0 ds d ∙ ap (λ (n : ℕ). deciding_error (items_first_error levels 0 (items_of ds)) (option_map (first_error_under (index_part n)) (first_error levels d))) (omega arith)

pub members_first_error_push : (levels : ℕ) (ms : List Member) (m : Member)
    → members_first_error levels (members_of (ms ++ m ∷ [])) ≡ deciding_error (members_first_error levels (members_of ms)) (option_map (first_error_under m.name) (first_error levels m.value))
members_first_error_push levels [] m = sooner_none (option_map (first_error_under m.name) (first_error levels m.value))
members_first_error_push levels (first ∷ ms) m =
    ap (deciding_error (option_map (first_error_under first.name) (first_error levels first.value))) (members_first_error_push levels ms m)
    ∙ sym (sooner_again (option_map (first_error_under first.name) (first_error levels first.value)) (members_first_error levels (members_of ms)) (option_map (first_error_under m.name) (first_error levels m.value)))

-- ---- a whole value

-- of what is too deep and what is an invalid value, what counts
abbrev graver : Option Location → Option ValueError → Option FirstError
graver None None = None
graver None (Some value_error) = Some (InvalidValue value_error)
graver (Some location) value_error = Some (Deep location)

graver_value_error : (value_error : Option ValueError) → option_map InvalidValue value_error ≡ graver None value_error
graver_value_error None = refl
graver_value_error (Some value_error) = refl

graver_sooner : (part : List ℕ) (deep later : Option Location) (value_error after : Option ValueError)
    → deciding_error (option_map (first_error_under part) (graver deep value_error)) (graver later after) ≡ graver (option_or (option_map (location_under part) deep) later) (option_or (option_map (value_error_under part) value_error) after)
graver_sooner part None None None after = refl
graver_sooner part None None (Some value_error) None = refl
graver_sooner part None None (Some value_error) (Some next) = refl
graver_sooner part None (Some location) None after = refl
graver_sooner part None (Some location) (Some value_error) after = refl
graver_sooner part (Some location) later value_error after = refl

mutual
  split : (levels : ℕ) (d : Data) → first_error levels d ≡ graver (too_deep levels d) (first_value_error d)
  split levels null = refl
  split levels (boolean b) = refl
  split levels (number n) = graver_value_error (value_error_here (number_value_error n))
  split levels (string s) = refl
  split zero (array ds) = refl
  split (suc levels) (array ds) = items_split levels 0 ds
  split zero (object ms) = refl
  split (suc levels) (object ms) = members_split levels ms

  items_split : (levels at : ℕ) (ds : Items) → items_first_error levels at ds ≡ graver (items_too_deep levels at ds) (items_value_error at ds)
  items_split levels at no_items = refl
  items_split levels at (item d ds) =
      rw (split levels d, items_split levels (at + 1) ds) (graver_sooner (index_part at) (too_deep levels d) (items_too_deep levels (at + 1) ds) (first_value_error d) (items_value_error (at + 1) ds))

  members_split : (levels : ℕ) (ms : Members) → members_first_error levels ms ≡ graver (members_too_deep levels ms) (members_value_error ms)
  members_split levels no_members = refl
  members_split levels (member name d ms) =
      rw (split levels d, members_split levels ms) (graver_sooner name (too_deep levels d) (members_too_deep levels ms) (first_value_error d) (members_value_error ms))

good_by : (d : Data) (deep : Option Location) (value_error : Option ValueError) → too_deep MAX_LEVELS d ≡ deep → first_value_error d ≡ value_error → graver deep value_error ≡ None → data_refusal d ≡ None
good_by d None None shallow good is = nothing_refused d shallow good
good_by d None (Some value_error) shallow good is = absurd cc
good_by d (Some location) value_error shallow good is = absurd cc

-- nothing is refused in a value against which nothing stands
pub no_first_error : (d : Data) → first_error MAX_LEVELS d ≡ None → data_refusal d ≡ None
no_first_error d is = good_by d (too_deep MAX_LEVELS d) (first_value_error d) refl refl (sym (split MAX_LEVELS d) ∙ is)

refused_by : (d : Data) (found : FirstError) (deep : Option Location) (value_error : Option ValueError) → too_deep MAX_LEVELS d ≡ deep → first_value_error d ≡ value_error → graver deep value_error ≡ Some found
    → IsRefusalOf d (refusal_of_first_error found)
refused_by d found None None shallow good is = absurd cc
refused_by d (Deep location) None (Some value_error) shallow good is = absurd cc
refused_by d (InvalidValue one) None (Some value_error) shallow good is = let same : value_error ≡ one = cc in value_error_refused d one shallow (good ∙ ap Some same)
refused_by d (Deep one) (Some location) value_error deep good is = let same : location ≡ one = cc in deep_refused d (location_path one) (ap (λ (p : Location). Some (location_path p)) (sym same) ∙ sym (ap (option_map location_path) deep))
refused_by d (InvalidValue one) (Some location) value_error deep good is = absurd cc

-- what stands first against a value is what it is refused for
pub first_error_refused : (d : Data) (found : FirstError) → first_error MAX_LEVELS d ≡ Some found → IsRefusalOf d (refusal_of_first_error found)
first_error_refused d found is = refused_by d found (too_deep MAX_LEVELS d) (first_value_error d) refl refl (sym (split MAX_LEVELS d) ∙ is)

-- bytes whose value is refused are refused so
pub refused_json : (bytes : List ℕ) (d : Data) (refusal : JsonRefusal) → IsValueOf bytes d → IsRefusalOf d refusal → IsJsonRefusedAs bytes refusal
refused_json bytes d NotJson value refused = absurd refused
refused_json bytes d (TooDeep path) value refused = (d, value, refused)
refused_json bytes d (NotWhole path) value refused = (d, value, refused)
refused_json bytes d (Null path) value refused = (d, value, refused)
refused_json bytes d (OutOfRange path) value refused = (d, value, refused)
refused_json bytes d NotList value refused = absurd refused
refused_json bytes d NoMemory value refused = absurd refused
