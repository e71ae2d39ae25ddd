-- Fields whose names ascend: each stands before all later ones, and a name finds one of them at most.
use Rattle.std.proofs.Common.{◌≡◌, ◌≢◌, ◌⊎◌, inl, inr, ℕ, zero, suc, ◌<◌, ◌≤◌, List, [], ◌∷◌, length, map, Some, None, Option, Result, Ok, Err, slice_get, unwrap_or, IsTrue, ◌↔◌, ◌+◌, Bool, true, drop, is_lt, Ordering, Less, Equal, Greater, nat_cmp, get_or, refl, sym, ap, subst, ◌∙◌, arith}
use Rattle.std.specs.Ordering.{ordering_index, ordering_reverse, match_ordering}
use Rattle.std.specs.List.{HoldsAt}
use Rattle.std.specs.List.Sorted.{IsNonDecreasingBy, IsPartitionPoint, IsSearchInRange, IsBinarySearchResult}
use Rattle.std.specs.Cmp.Lexicographic.{slice_cmp}
use Rattle.std.proofs.lemmas.Cmp.{nat_list_cmp_total}
use Rattle.std.proofs.lemmas.Option.{slice_get_read, slice_get_within}
use Rattle.serde_json.specs.Data.{Data, Members}
use Rattle.serde_json.specs.Find.{get_member}
use Rattle.stix_json.specs.declared.value.Field.{Field}
use Rattle.stix_json.specs.DataOf.{data_of, field_data, members_of}
use Rattle.stix_json.specs.Ordered.{IsNameBefore, IsOrdered, MembersAreOrdered}
use Rattle.stix_json.specs.inner.Naming.{IsFieldAt}
use Rattle.stix_json.proofs.NamingLemmas.{opened}

-- the members that fields are
abbrev pub named : List Field → Members
named fields = members_of (map field_data fields)

-- a name before the first of the fields is before each
after_first : (name : List ℕ) (fields : List Field) → IsNameBefore name (named fields) → MembersAreOrdered (named fields)
    → (j : ℕ) (d : Field) → j < length fields → slice_cmp nat_cmp name (get_or fields j d).name ≡ Less
after_first name [] before ordered j d within = absurd (omega arith)
after_first name (f ∷ fs) before ordered zero d within = before
after_first name (f ∷ fs) before ordered (suc j) d within =
    nat_list_cmp_total.trans name f.name (get_or fs j d).name before (after_first f.name fs ordered.0 ordered.2 j d (omega arith))

-- an earlier field's name is before a later one's
ascending : (fields : List Field) → MembersAreOrdered (named fields) → (i j : ℕ) (d : Field) → i < j → j < length fields
    → slice_cmp nat_cmp (get_or fields i d).name (get_or fields j d).name ≡ Less
ascending [] ordered i j d below within = absurd (omega arith)
ascending (f ∷ fs) ordered i zero d below within = absurd (omega arith)
ascending (f ∷ fs) ordered zero (suc j) d below within = after_first f.name fs ordered.0 ordered.2 j d (omega arith)
ascending (f ∷ fs) ordered (suc i) (suc j) d below within = ascending fs ordered.2 i j d (omega arith) (omega arith)

-- what is before a name that is this one is before this one
less_of_equal : (a b name : List ℕ) → slice_cmp nat_cmp a b ≡ Less → slice_cmp nat_cmp b name ≡ Equal → slice_cmp nat_cmp a name ≡ Less
less_of_equal a b name less same =
    nat_list_cmp_total.antisymm a name
    ∙ ap ordering_reverse (sym (nat_list_cmp_total.congr b name a same))
    ∙ sym (nat_list_cmp_total.antisymm a b)
    ∙ less

less_lowest : (o p : Ordering) → o ≡ Less → ordering_index o ≤ ordering_index p
less_lowest Less p is = omega arith
less_lowest Equal p is = absurd cc
less_lowest Greater p is = absurd cc

greater_highest : (o : Ordering) → ordering_index o ≤ 2
greater_highest Less = omega arith
greater_highest Equal = omega arith
greater_highest Greater = omega arith

step_by : (a b name : List ℕ) → slice_cmp nat_cmp a b ≡ Less → (o : Ordering) → slice_cmp nat_cmp b name ≡ o
    → ordering_index (slice_cmp nat_cmp a name) ≤ ordering_index o
step_by a b name less Less is = less_lowest (slice_cmp nat_cmp a name) Less (nat_list_cmp_total.trans a b name less is)
step_by a b name less Equal is = less_lowest (slice_cmp nat_cmp a name) Equal (less_of_equal a b name less is)
step_by a b name less Greater is = greater_highest (slice_cmp nat_cmp a name)

at_places : (name : List ℕ) (fields : List Field) → MembersAreOrdered (named fields) → (i j : ℕ) (d : Field) → j < length fields → (i < j) ⊎ (i ≡ j)
    → ordering_index (slice_cmp nat_cmp (get_or fields i d).name name) ≤ ordering_index (slice_cmp nat_cmp (get_or fields j d).name name)
at_places name fields ordered i j d within (inl below) =
    step_by (get_or fields i d).name (get_or fields j d).name name (ascending fields ordered i j d below within) (slice_cmp nat_cmp (get_or fields j d).name name) refl
at_places name fields ordered i j d within (inr same) =
    rw same (omega arith)

-- how the names compare with a name doesn't fall
pub non_decreasing : (name : List ℕ) (fields : List Field) → MembersAreOrdered (named fields)
    → IsNonDecreasingBy (λ f. ordering_index (slice_cmp nat_cmp f.name name)) fields
non_decreasing name fields ordered i j d up within = at_places name fields ordered i j d within (grind arith)

found_by : (o : Ordering) (e : Data) (later : Option Data) → o ≡ Equal → match_ordering o later (Some e) later ≡ Some e
found_by Less e later is = absurd cc
found_by Equal e later is = refl
found_by Greater e later is = absurd cc

passed_by : (o : Ordering) (e : Data) (later : Option Data) → o ≢ Equal → match_ordering o later (Some e) later ≡ later
passed_by Less e later other = refl
passed_by Equal e later other = absurd (other refl)
passed_by Greater e later other = refl

turned_equal : (a b : List ℕ) → slice_cmp nat_cmp a b ≡ Equal → slice_cmp nat_cmp b a ≡ Equal
turned_equal a b same = nat_list_cmp_total.antisymm b a ∙ ap ordering_reverse same

turned_less : (a b : List ℕ) → slice_cmp nat_cmp a b ≡ Less → slice_cmp nat_cmp b a ≢ Equal
turned_less a b less same = let two : slice_cmp nat_cmp a b ≡ Equal = turned_equal b a same in absurd cc

-- the field of a name is the one that the name finds
pub found_in_order : (name : List ℕ) (fields : List Field) → MembersAreOrdered (named fields) → (k : ℕ) (d : Field) → k < length fields
    → slice_cmp nat_cmp (get_or fields k d).name name ≡ Equal → get_member name (named fields) ≡ Some (data_of (get_or fields k d).value)
found_in_order name [] ordered k d within same = absurd (omega arith)
found_in_order name (f ∷ fs) ordered zero d within same =
    found_by (slice_cmp nat_cmp name f.name) (data_of f.value) (get_member name (named fs)) (turned_equal f.name name same)
found_in_order name (f ∷ fs) ordered (suc k) d within same =
    let less = less_of_equal f.name (get_or fs k d).name name (after_first f.name fs ordered.0 ordered.2 k d (omega arith)) same in
    passed_by (slice_cmp nat_cmp name f.name) (data_of f.value) (get_member name (named fs)) (turned_less f.name name less)
    ∙ found_in_order name fs ordered.2 k d (omega arith) same

-- a name that no field has finds none
pub none_named : (name : List ℕ) (fields : List Field) → ((k : ℕ) (d : Field) → k < length fields → slice_cmp nat_cmp (get_or fields k d).name name ≢ Equal)
    → get_member name (named fields) ≡ None
none_named name [] others = refl
none_named name (f ∷ fs) others =
    passed_by (slice_cmp nat_cmp name f.name) (data_of f.value) (get_member name (named fs)) (λ same. others 0 f (omega arith) (turned_equal name f.name same))
    ∙ none_named name fs (λ k d within. others (suc k) d (omega arith))

abbrev unwrap_at : Result ℕ ℕ → ℕ
unwrap_at (Ok k) = k
unwrap_at (Err k) = k

same_Ok : (answer : Result ℕ ℕ) (k at : ℕ) → answer ≡ Ok k → answer ≡ Ok at → k ≡ at
same_Ok answer k at is also = sym (ap unwrap_at is) ∙ ap unwrap_at also

-- the field at a place
field_there : (fields : List Field) (at : ℕ) → at < length fields → (field : Field) × (slice_get fields at ≡ Some field) × (field ≡ get_or fields at field)
field_there [] at within = absurd (omega arith)
field_there (f ∷ fs) zero within = (f, refl, refl)
field_there (f ∷ fs) (suc at) within = field_there fs at (omega arith)

found_there : (name : List ℕ) (fields : List Field) (at : ℕ) → MembersAreOrdered (named fields) → at < length fields
    → HoldsAt (λ f. slice_cmp nat_cmp f.name name ≡ Equal) fields at → IsFieldAt name fields at
found_there name fields at ordered within same =
    let one = field_there fields at within in
    record {
      field = one.0;
      there = one.1;
      found = found_in_order name fields ordered at one.0 within (same one.0) ∙ ap (λ (f : Field). Some (data_of f.value)) (sym one.2);
    }

-- where a search among the fields ends well, it ends at the field of the name
pub searched_found : (name : List ℕ) (fields : List Field) (answer : Result ℕ ℕ) (at : ℕ) → MembersAreOrdered (named fields) → IsSearchInRange answer (length fields)
    → IsBinarySearchResult (λ f. slice_cmp nat_cmp f.name name) fields answer → answer ≡ Ok at → IsFieldAt name fields at
searched_found name fields (Ok k) at ordered within same is =
    subst (IsFieldAt name fields) (same_Ok (Ok k) k at refl is) (found_there name fields k ordered within same)
searched_found name fields (Err k) at ordered within same is = absurd cc

less_other : (o : Ordering) → o ≡ Less → o ≢ Equal
less_other o is same = let two : Less ≡ Equal = sym is ∙ same in absurd cc

greater_other : (o : Ordering) → o ≡ Greater → o ≢ Equal
greater_other o is same = let two : Greater ≡ Equal = sym is ∙ same in absurd cc

others_by : (name : List ℕ) (fields : List Field) (i k : ℕ) (d : Field) → IsPartitionPoint (λ f. slice_cmp nat_cmp f.name name ≡ Less) (λ f. slice_cmp nat_cmp f.name name ≡ Greater) fields i
    → k < length fields → (k < i) ⊎ (i ≤ k) → slice_cmp nat_cmp (get_or fields k d).name name ≢ Equal
others_by name fields i k d point within (inl below) = less_other (slice_cmp nat_cmp (get_or fields k d).name name) (point.0 k d (omega arith) below)
others_by name fields i k d point within (inr above) = greater_other (slice_cmp nat_cmp (get_or fields k d).name name) (point.1 k d above within)

-- and where it ends at none, no field has the name
pub searched_none : (name : List ℕ) (fields : List Field) (answer : Result ℕ ℕ) (at : ℕ) → MembersAreOrdered (named fields)
    → IsBinarySearchResult (λ f. slice_cmp nat_cmp f.name name) fields answer → answer ≡ Err at → get_member name (named fields) ≡ None
searched_none name fields (Ok k) at ordered found is = absurd cc
searched_none name fields (Err k) at ordered point is =
    none_named name fields (λ n d within. others_by name fields k n d (point (non_decreasing name fields ordered)) within (grind arith))

-- the value of each field is ordered
pub value_at_ordered : (fields : List Field) (field : Field) (at : ℕ) → MembersAreOrdered (named fields) → at < length fields → field ≡ get_or fields at field → IsOrdered (data_of field.value)
value_at_ordered [] field at ordered within is = absurd (omega arith)
value_at_ordered (f ∷ fs) field zero ordered within is = subst (λ (g : Field). IsOrdered (data_of g.value)) (sym is) ordered.1
value_at_ordered (f ∷ fs) field (suc at) ordered within is = value_at_ordered fs field at ordered.2 (omega arith) is

same_field : (fields : List Field) (at : ℕ) (one field : Field) → at < length fields → one ≡ get_or fields at one → slice_get fields at ≡ Some field → one ≡ field
same_field fields at one field within is there =
    ap (λ (o : Option Field). unwrap_or o one) (sym (slice_get_read fields (length fields) at one refl within is) ∙ there)

lt_less : (o : Ordering) → is_lt o ≡ true → o ≡ Less
lt_less Less is = refl
lt_less Equal is = absurd cc
lt_less Greater is = absurd cc

-- a name is before the fields from the next place on exactly where it is before the next name
pub before_next : (fields : List Field) (at : ℕ) (one next field : Field) (here there : List ℕ) (less : Bool) → at < length fields → one ≡ get_or fields at one → slice_get fields at ≡ Some field
    → at + 1 < length fields → next ≡ get_or fields (at + 1) next → here ≡ (get_or fields at one).name → there ≡ next.name → less ≡ is_lt (slice_cmp nat_cmp here there)
    → IsTrue less ↔ IsNameBefore field.name (named (drop (at + 1) fields))
before_next fields at one next field here there less within is found beyond next_is here_is there_is less_is =
    let name : here ≡ field.name = here_is ∙ ap (λ (f : Field). f.name) (sym is ∙ same_field fields at one field within is found) in
    let tested : less ≡ is_lt (slice_cmp nat_cmp field.name next.name) =
    less_is ∙ ap (λ (n : List ℕ). is_lt (slice_cmp nat_cmp n there)) name ∙ ap (λ (n : List ℕ). is_lt (slice_cmp nat_cmp field.name n)) there_is in
    let rest = opened fields (at + 1) next beyond next_is in (
      λ yes. subst (IsNameBefore field.name) (sym rest) (lt_less (slice_cmp nat_cmp field.name next.name) (sym tested ∙ yes)),
      λ before. let order : slice_cmp nat_cmp field.name next.name ≡ Less = subst (IsNameBefore field.name) rest before in tested ∙ ap is_lt order,
    )

-- the fields from a place on are ordered where the first is before the others and its value and the others are
pub open_ordered : (fields : List Field) (at : ℕ) (field : Field) → at < length fields → field ≡ get_or fields at field → MembersAreOrdered (named (drop at fields))
    → IsNameBefore field.name (named (drop (at + 1) fields)) × IsOrdered (data_of field.value) × MembersAreOrdered (named (drop (at + 1) fields))
open_ordered fields at field within is ordered = subst MembersAreOrdered (opened fields at field within is) ordered

pub close_ordered : (fields : List Field) (at : ℕ) (field : Field) → at < length fields → field ≡ get_or fields at field
    → IsNameBefore field.name (named (drop (at + 1) fields)) × IsOrdered (data_of field.value) × MembersAreOrdered (named (drop (at + 1) fields)) → MembersAreOrdered (named (drop at fields))
close_ordered fields at field within is ordered = subst MembersAreOrdered (sym (opened fields at field within is)) ordered

-- where a field stands, there is a place
pub place_within : (name : List ℕ) (fields : List Field) (at : ℕ) → IsFieldAt name fields at → at < length fields
place_within name fields at is = slice_get_within fields at is.field is.there
