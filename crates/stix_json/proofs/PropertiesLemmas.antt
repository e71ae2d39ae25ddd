-- The properties of an object: the last of a name as they are gone through, and what an object has under a name by what they hold.
use Rattle.std.proofs.Common.{◌≡◌, ℕ, ◌+◌, ◌<◌, List, ◌∷◌, [], ◌++◌, Bool, true, false, bytes_eq, ◌⊎◌, inl, inr, Option, None, Some, option_map, take, length, get_or, if◌then◌else◌, refl, sym, ap, subst, ◌∙◌}
use Rattle.std.proofs.lemmas.List.{take_more}
use Rattle.stix_json.specs.declared.property_value.Property.{Property}
use Rattle.stix_json.specs.declared.property_value.PropertyValue.{PropertyValue}
use Rattle.stix_json.specs.inner.Insertion.{last_named}
use Rattle.serde_json.specs.Data.{Data, Members, object, no_items}
use Rattle.serde_json.specs.Find.{get_member}
use Rattle.stix_json.specs.Entries.{list_or_none}
use Rattle.stix_json.specs.inner.PropertyValue.{property_name, MayBePropertyValue, HoldsProperties}
use Rattle.stix_json.specs.declared.refusal.JsonRefusal.{JsonRefusal}
use Rattle.stix_json.specs.declared.refusal.JsonRefusal.TheVariants.{NotList, NoMemory as OutOfMemory}
use Rattle.stix_json.specs.Envelopes.{more_in, next_in, IsNoPage, HasNoEnvelopeAs}
use Rattle.stix_json.specs.Reading.{IsValueOf}
use Rattle.stix_json.proofs.InsertionLemmas.{last_pushed}

-- the last of that name among those, and what it holds
abbrev pub property_value_of : List ℕ → List Property → Option PropertyValue
property_value_of name ps = option_map (λ (property : Property). property.property_value) (last_named property_name name ps)

pub property_value_pushed : (name : List ℕ) (ps : List Property) (p : Property) → bytes_eq p.name name ≡ true → property_value_of name (ps ++ p ∷ []) ≡ Some p.property_value
property_value_pushed name ps p is =
    ap (option_map (λ (property : Property). property.property_value)) (last_pushed property_name name ps p ∙ ap (λ (b : Bool). if b then Some p else last_named property_name name ps) is)

pub last_passed : (name : List ℕ) (ps : List Property) (p : Property) → bytes_eq p.name name ≡ false → last_named property_name name (ps ++ p ∷ []) ≡ last_named property_name name ps
last_passed name ps p is = last_pushed property_name name ps p ∙ ap (λ (b : Bool). if b then Some p else last_named property_name name ps) is

-- with the one after the first this many
pub property_value_found : (name : List ℕ) (ps : List Property) (i : ℕ) (p : Property) → i < length ps → p ≡ get_or ps i p → bytes_eq p.name name ≡ true
    → property_value_of name (take (i + 1) ps) ≡ Some p.property_value
property_value_found name ps i p within is same =
    ap (property_value_of name) (take_more ps i p within ∙ ap (λ (q : Property). take i ps ++ q ∷ []) (sym is)) ∙ property_value_pushed name (take i ps) p same

pub property_value_passed : (name : List ℕ) (ps : List Property) (i : ℕ) (p : Property) → i < length ps → p ≡ get_or ps i p → bytes_eq p.name name ≡ false
    → property_value_of name (take (i + 1) ps) ≡ property_value_of name (take i ps)
property_value_passed name ps i p within is other =
    ap (property_value_of name) (take_more ps i p within ∙ ap (λ (q : Property). take i ps ++ q ∷ []) (sym is)) ∙ ap (option_map (λ (property : Property). property.property_value)) (last_passed name (take i ps) p other)

-- ---- what an object has under a name

-- nothing represents no items
no_list_by : (found : Option Data) (p : Option Property) → MayBePropertyValue found p → None ≡ option_map (λ (property : Property). property.property_value) p → list_or_none found ≡ Some no_items
no_list_by None None property_value is = refl
no_list_by None (Some p) property_value is = absurd property_value
no_list_by (Some d) None property_value is = absurd property_value
no_list_by (Some d) (Some p) property_value is = absurd cc

pub no_list : (name : List ℕ) (ms : Members) (ps : List Property) → HoldsProperties ms ps → None ≡ property_value_of name ps → list_or_none (get_member name ms) ≡ Some no_items
no_list name ms ps holds is = no_list_by (get_member name ms) (last_named property_name name ps) (holds name) is

-- an object that says that there is more and not what asks for it is no page
no_next_by : (ms : Members) (more : Bool) → Some more ≡ more_in (object ms) → next_in more (object ms) ≡ None → IsNoPage (object ms)
no_next_by ms true says none = inr (inr (sym says, none))
no_next_by ms false says none = let both : Some None ≡ None = none in absurd cc

pub no_next : (bytes : List ℕ) (ms : Members) (ps : List Property) (more : Bool) (refusal : JsonRefusal) → IsValueOf bytes (object ms) → HoldsProperties ms ps
    → Some more ≡ more_in (object ms) → (refusal ≡ OutOfMemory) ⊎ ((refusal ≡ NotList) × ((ns : Members) → HoldsProperties ns ps → next_in more (object ns) ≡ None))
    → HasNoEnvelopeAs bytes refusal
no_next bytes ms ps more refusal value holds says (inl is) = subst (HasNoEnvelopeAs bytes) (sym is) tt
no_next bytes ms ps more refusal value holds says (inr is) = subst (HasNoEnvelopeAs bytes) (sym is.0) (object ms, value, no_next_by ms more says (is.1 ms holds))
