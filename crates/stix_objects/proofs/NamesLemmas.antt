-- Where the names of all fields have their slots taken, a name whose slot isn't taken isn't there.
use Rattle.std.proofs.Common.{◌≡◌, ℕ, List, [], ◌∷◌, All, map, Ordering, Less, Equal, Greater, Bool, true, false, Some, None, nat_cmp, refl, sym, ap, ◌∙◌}
use Rattle.std.specs.Ordering.{match_ordering}
use Rattle.std.specs.Cmp.Lexicographic.{slice_cmp}
use Rattle.std.proofs.lemmas.Map.Lookups.{exact_bytes}
use Rattle.std.proofs.lemmas.List.Elements.{All-head, All-tail}
use Rattle.serde_json.specs.Data.{Data}
use Rattle.serde_json.specs.Find.{get_member}
use Rattle.stix_json.specs.declared.value.Field.{Field}
use Rattle.stix_json.specs.DataOf.{data_of, field_data, members_of}
use Rattle.stix_objects.specs.inner.Names.{is_taken}

-- a member of another name is passed
passed : (order : Ordering) (value : Data) → ¬ (order ≡ Equal) → match_ordering order None (Some value) None ≡ None
passed Less value other = refl
passed Equal value other = absurd (other refl)
passed Greater value other = refl

-- names whose slots differ differ
apart : (taken : List Bool) (own name : List ℕ) → is_taken taken own ≡ true → is_taken taken name ≡ false → ¬ (slice_cmp nat_cmp name own ≡ Equal)
apart taken own name there free same =
    let is : name ≡ own = exact_bytes name own same in
    let both : is_taken taken own ≡ false = ap (is_taken taken) (sym is) ∙ free in
    cc

pub lacks_untaken : (taken : List Bool) (fields : List Field) → All (λ field. is_taken taken field.name ≡ true) fields → (name : List ℕ) → is_taken taken name ≡ false
    → get_member name (members_of (map field_data fields)) ≡ None
lacks_untaken taken [] all name free = refl
lacks_untaken taken (field ∷ fields) all name free =
    let rest = lacks_untaken taken fields (All-tail (λ (f : Field). is_taken taken f.name ≡ true) field fields all) name free in
    let other = apart taken field.name name (All-head (λ (f : Field). is_taken taken f.name ≡ true) field fields all) free in
    rw (rest) (passed (slice_cmp nat_cmp name field.name) (data_of field.value) other)
