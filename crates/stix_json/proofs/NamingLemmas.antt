-- The first member of a name, a member at a time.
use Rattle.std.proofs.Common.{◌≡◌, ℕ, ◌<◌, List, ◌∷◌, length, map, Option, Some, Ordering, Less, Equal, Greater, true, false, bytes_eq, is_eq, nat_cmp, drop, get_or, refl, sym, ap, ◌∙◌, ◌+◌}
use Rattle.std.specs.Ordering.{match_ordering}
use Rattle.std.specs.Cmp.Lexicographic.{slice_cmp}
use Rattle.std.proofs.lemmas.Map.Text.{is_eq-slice_cmp}
use Rattle.std.proofs.lemmas.Cmp.{nat_list_eq_equiv}
use Rattle.std.proofs.lemmas.List.{drop_more}
use Rattle.stix_json.specs.DataOf.{data_of, field_data, members_of}
use Rattle.stix_json.specs.declared.value.Field.{Field}
use Rattle.serde_json.specs.Data.{Data, Members, member}
use Rattle.serde_json.specs.Find.{get_member}

by_test : (o : Ordering) (e : Data) (later : Option Data) → is_eq o ≡ true → match_ordering o later (Some e) later ≡ Some e
by_test Less e later is = absurd (cc)
by_test Equal e later is = refl
by_test Greater e later is = absurd (cc)

past_test : (o : Ordering) (e : Data) (later : Option Data) → is_eq o ≡ false → match_ordering o later (Some e) later ≡ later
past_test Less e later is = refl
past_test Equal e later is = absurd (cc)
past_test Greater e later is = refl

found_at : (name l : List ℕ) (e : Data) (ms : Members) → bytes_eq l name ≡ true → get_member name (member l e ms) ≡ Some e
found_at name l e ms is = by_test (slice_cmp nat_cmp name l) e (get_member name ms) (is_eq-slice_cmp name l ∙ nat_list_eq_equiv.symm name l ∙ is)

passed_at : (name l : List ℕ) (e : Data) (ms : Members) → bytes_eq l name ≡ false → get_member name (member l e ms) ≡ get_member name ms
passed_at name l e ms is = past_test (slice_cmp nat_cmp name l) e (get_member name ms) (is_eq-slice_cmp name l ∙ nat_list_eq_equiv.symm name l ∙ is)

-- the members of the fields from a place on, the first of which is this field
pub opened : (fields : List Field) (i : ℕ) (field : Field) → i < length fields → field ≡ get_or fields i field
    → members_of (map field_data (drop i fields)) ≡ member field.name (data_of field.value) (members_of (map field_data (drop (i + 1) fields)))
opened fields i field within is =
    let here : drop i fields ≡ field ∷ drop (i + 1) fields = drop_more fields i field within ∙ ap (λ f. f ∷ drop (i + 1) fields) (sym is) in
    ap (λ fs. members_of (map field_data fs)) here

pub found_field : (name : List ℕ) (fields : List Field) (i : ℕ) (field : Field) → i < length fields → field ≡ get_or fields i field → bytes_eq field.name name ≡ true
    → get_member name (members_of (map field_data (drop i fields))) ≡ Some (data_of field.value)
found_field name fields i field within is same =
    ap (get_member name) (opened fields i field within is) ∙ found_at name field.name (data_of field.value) (members_of (map field_data (drop (i + 1) fields))) same

pub passed_field : (name : List ℕ) (fields : List Field) (i : ℕ) (field : Field) → i < length fields → field ≡ get_or fields i field → bytes_eq field.name name ≡ false
    → get_member name (members_of (map field_data (drop i fields))) ≡ get_member name (members_of (map field_data (drop (i + 1) fields)))
passed_field name fields i field within is other =
    ap (get_member name) (opened fields i field within is) ∙ passed_at name field.name (data_of field.value) (members_of (map field_data (drop (i + 1) fields))) other
