-- What is kept of versions of one `modified`, one version more.
use Rattle.std.proofs.Common.{arith, ◌≡◌, ◌↔◌, inl, inr, ◌+◌, ◌<◌, ◌≤◌, ℕ, ℤ, List, length, Option, Some, None, Bool, true, false, nat_lt, cond, unwrap_or, not, IsTrue, slice_get, slice_index_or, sym, ap, refl, subst, ◌∙◌}
use Rattle.std.specs.Ordering.{nat_cmp, int_cmp, ordering_then, ordering_reverse, is_eq}
use Rattle.std.specs.declared.cmp.Ordering.{Ordering}
use Rattle.std.specs.declared.cmp.Ordering.TheVariants.{Less, Equal, Greater}
use Rattle.std.specs.Cmp.{nat_cmp_total, int_cmp_total}
use Rattle.std.proofs.lemmas.Map.Lookups.{exact_unsigned, exact_signed}
use Rattle.std.specs.BTreeMap.{get}
use Rattle.std.proofs.lemmas.Bool.{cases_Bool, false≢true}
use Rattle.std.proofs.lemmas.Bool.Decides.{nat_tests}
use Rattle.std.proofs.lemmas.Option.{slice_get_within}
use Rattle.std.proofs.lemmas.List.{length-map}
use Rattle.serde_json.specs.Data.{Data}
use Rattle.stix_ids.specs.declared.id.Id.{Id}
use Rattle.stix_json.specs.declared.value.Json.{Json}
use Rattle.stix_json.specs.DataOf.{data_of}
use Rattle.stix_bundles.specs.Objects.{data_in}
use Rattle.stix_versions.specs.declared.version.Version.{Version}
use Rattle.stix_versions.specs.declared.version_break.VersionRule.TheVariants as rule
use Rattle.stix_versions.specs.declared.duplicates.FirstDuplicate.{FirstDuplicate}
use Rattle.stix_versions.specs.declared.duplicates.Duplicates.{Duplicates}
use Rattle.stix_versions.specs.Versions.{IsVersion, BreaksVersionRule}
use Rattle.stix_versions.specs.inner.Version.{IsVersionAs, IsNoVersion, HasOther}
use Rattle.stix_versions.specs.inner.Duplicates.{IsDuplicate, IsDuplicateBefore, duplicate_at, AreDuplicatesBefore, IsNextDuplicate}
use Rattle.stix_versions.proofs.FirstObjectsLemmas.{data_read}
use Rattle.stix_versions.proofs.VersionLemmas.{one_some}
use Rattle.stix_versions.proofs.FirstValueLemmas.{none_more, kept_beside, kept_first, none_other, other_told, kept_next}
use Rattle.stix_versions.proofs.IsVersionLemmas.{Laws, one_object, one_version_id, one_modified, one_group, one_grouped}

less : (a b : ℕ) → true ≡ nat_lt a b → a < b
less a b is = grind (arith, nat_tests)

not_less : (a b : ℕ) → false ≡ nat_lt a b → b ≤ a
not_less a b is = grind (arith, nat_tests)

pub stands_here : (values : List Json) (at : ℕ) (value : Json) (d : Data) → true ≡ nat_lt at (length values) → value ≡ slice_index_or values at value → (told : Bool)
    → (IsTrue told ↔ (data_of value ≡ d)) → IsTrue told ↔ (slice_get (data_in values) at ≡ Some d)
stands_here values at value d inside is told same =
    let there = data_read values at value (less at (length values) inside) is in (
      λ so. there ∙ ap Some (same.0 so),
      λ stands. same.1 (one_some (data_of value) d (sym there ∙ stands)),
    )

pub stands_nowhere : (values : List Json) (at : ℕ) (d : Data) → false ≡ nat_lt at (length values) → IsTrue false ↔ (slice_get (data_in values) at ≡ Some d)
stands_nowhere values at d past = (
  λ so. absurd (false≢true so),
  λ stands.
      let inside = slice_get_within (data_in values) at d stands in
      let count = length-map values data_of in
      let outside = not_less at (length values) past in
      absurd (omega arith),
)

-- how the map compares its keys
abbrev pub key_cmp : ℕ × ℤ → ℕ × ℤ → Ordering
key_cmp x y = ordering_then (nat_cmp x.0 y.0) (int_cmp x.1 y.1)

equal_then : (o p : Ordering) → is_eq (ordering_then o p) ≡ true → (o ≡ Equal) × (p ≡ Equal)
equal_then Less p is = absurd (false≢true is)
equal_then Greater p is = absurd (false≢true is)
equal_then Equal Less is = absurd (false≢true is)
equal_then Equal Greater is = absurd (false≢true is)
equal_then Equal Equal is = (refl, refl)

then_equal : (o p : Ordering) → o ≡ Equal → p ≡ Equal → is_eq (ordering_then o p) ≡ true
then_equal o p is also = ap is_eq (ap (λ x. ordering_then x p) is ∙ also)

self_equal : (o : Ordering) → o ≡ ordering_reverse o → o ≡ Equal
self_equal Less is = absurd cc
self_equal Equal is = refl
self_equal Greater is = absurd cc

pub same_instant : (g h : ℕ) (m t : ℤ) → g ≡ h → m ≡ t → is_eq (key_cmp (g, m) (h, t)) ≡ true
same_instant g h m t is also =
    then_equal (nat_cmp g h) (int_cmp m t) (subst (λ n. nat_cmp g n ≡ Equal) is (self_equal (nat_cmp g g) (nat_cmp_total.antisymm g g))) (subst (λ (n : ℤ). int_cmp m n ≡ Equal) also (self_equal (int_cmp m m) (int_cmp_total.antisymm m m)))

pub instant_apart : (g h : ℕ) (m t : ℤ) → is_eq (key_cmp (g, m) (h, t)) ≡ true → (g ≡ h) × (m ≡ t)
instant_apart g h m t is =
    let both = equal_then (nat_cmp g h) (int_cmp m t) is in (exact_unsigned g h both.0, exact_signed m t both.1)

-- no such version stands at the place
duplicate_beside : (objects : List Data) (at : ℕ) (id : Id) (modified : ℤ) (kept : Option FirstDuplicate) → ((d : Data) → ¬ IsDuplicate objects id modified at d)
    → IsDuplicateBefore objects at id modified kept → IsDuplicateBefore objects (at + 1) id modified kept
duplicate_beside objects at id modified None not_here is = none_more Data (IsDuplicate objects id modified) at is not_here
duplicate_beside objects at id modified (Some first) not_here is = record {
  object = is.object;
  there = is.there;
  kept = kept_beside Data (IsDuplicate objects id modified) at is.object first.differs is.kept not_here;
}

pub duplicates_past : (objects : List Data) (at : ℕ) (kept : Duplicates) → IsNoVersion objects at → AreDuplicatesBefore objects at kept → AreDuplicatesBefore objects (at + 1) kept
duplicates_past objects at kept none is = λ id group modified latest.
    duplicate_beside objects at id modified (duplicate_at kept group modified) (λ d duplicate. none id duplicate.created modified d duplicate.version) (is id group modified latest)

one_duplicate : (objects : List Data) (at : ℕ) (id : Id) (modified : ℤ) (v w : Data) → IsDuplicate objects id modified at v → IsDuplicate objects id modified at w → v ≡ w
one_duplicate objects at id modified v w is also = one_object objects at id id is.created modified also.created modified v w is.version also.version

duplicate : (objects : List Data) (at : ℕ) (seen : Version) (is : IsVersionAs objects at seen) → IsDuplicate objects is.id seen.modified at is.object
duplicate objects at seen is = record { created = seen.created; version = is.version }

-- the object kept is this one where this one stands at its place
same_kept : (objects : List Data) (place : ℕ) (kept d : Data) → slice_get objects place ≡ Some kept → (same : Bool)
    → (IsTrue same ↔ (slice_get objects place ≡ Some d)) → IsTrue same ↔ (kept ≡ d)
same_kept objects place kept d there same told = (
  λ so. one_some kept d (sym there ∙ told.0 so),
  λ one. told.1 (there ∙ ap Some one),
)

duplicate_here : (objects : List Data) (at : ℕ) (seen : Version) (is : IsVersionAs objects at seen) (kept : Option FirstDuplicate) (next : FirstDuplicate)
    → IsNextDuplicate objects kept is.object at next → IsDuplicateBefore objects at is.id seen.modified kept
    → IsDuplicateBefore objects (at + 1) is.id seen.modified (Some next)
duplicate_here objects at seen is None next is_next before =
    subst (λ (n : FirstDuplicate). IsDuplicateBefore objects (at + 1) is.id seen.modified (Some n)) (sym is_next)
    (record {
      object = is.object;
      there = is.version.there;
      kept = kept_first Data (IsDuplicate objects is.id seen.modified) at is.object (one_duplicate objects at is.id seen.modified) before (duplicate objects at seen is);
    })
duplicate_here objects at seen is (Some first) next is_next before =
    subst (λ (n : FirstDuplicate). IsDuplicateBefore objects (at + 1) is.id seen.modified (Some n)) (sym is_next.2)
    (record {
      object = before.object;
      there = before.there;
      kept = kept_next Data (IsDuplicate objects is.id seen.modified) at is.object before.object first.differs is_next.0 (one_duplicate objects at is.id seen.modified)
          (same_kept objects first.at before.object is.object before.there is_next.0 is_next.1) (duplicate objects at seen is) before.kept;
    })

-- what is kept already, or else this object, and the same object once more
pub next_of_kept : (objects : List Data) (kept : Option FirstDuplicate) (d : Data) (at : ℕ) (first next : FirstDuplicate) → slice_get objects at ≡ Some d
    → first ≡ unwrap_or kept (record { at = at; differs = false }) → IsNextDuplicate objects (Some first) d at next → IsNextDuplicate objects kept d at next
next_of_kept objects (Some known) d at first next there is is_next = subst (λ (f : FirstDuplicate). IsNextDuplicate objects (Some f) d at next) is is_next
next_of_kept objects None d at first next there is is_next =
    let its = subst (λ (f : FirstDuplicate). IsNextDuplicate objects (Some f) d at next) is is_next in
    let with_same : Bool → FirstDuplicate = λ same. record { at = at; differs = not same } in
    its.2 ∙ ap with_same (its.1.1 there)

pub duplicates_more : Laws → (before after : Duplicates) (seen : Version) (next : FirstDuplicate) (objects : List Data) (at : ℕ) (is : IsVersionAs objects at seen)
    → IsNextDuplicate objects (duplicate_at before seen.group seen.modified) is.object at next
    → ((q : ℕ × ℤ) → get key_cmp after.instants q ≡ cond (is_eq (key_cmp (seen.group, seen.modified) q)) (Some next) (get key_cmp before.instants q))
    → AreDuplicatesBefore objects at before → AreDuplicatesBefore objects (at + 1) after
duplicates_more laws before after seen next objects at is is_next put kept = λ id group modified latest.
    elim (cases_Bool (is_eq (key_cmp (seen.group, seen.modified) (group, modified)))) [
      | inl same ↦
          let both = instant_apart seen.group group seen.modified modified same in
          let its : is.id ≡ id = one_grouped laws objects is.id id seen.group group is.grouped latest both.0 in
          let found : duplicate_at after group modified ≡ Some next =
          put (group, modified) ∙ ap (λ (b : Bool). cond b (Some next) (duplicate_at before group modified)) same in
          let here = duplicate_here objects at seen is (duplicate_at before seen.group seen.modified) next is_next (kept is.id seen.group seen.modified is.grouped) in
          subst (λ (o : Option FirstDuplicate). IsDuplicateBefore objects (at + 1) id modified o) (sym found)
          (subst (λ (m : ℤ). IsDuplicateBefore objects (at + 1) id m (Some next)) both.1
          (subst (λ (i : Id). IsDuplicateBefore objects (at + 1) i seen.modified (Some next)) its here))
      | inr different ↦
          let found : duplicate_at after group modified ≡ duplicate_at before group modified =
          put (group, modified) ∙ ap (λ (b : Bool). cond b (Some next) (duplicate_at before group modified)) different in
          subst (λ (o : Option FirstDuplicate). IsDuplicateBefore objects (at + 1) id modified o) (sym found)
          (duplicate_beside objects at id modified (duplicate_at before group modified)
          (λ d other.
          let one = one_version_id laws objects at is.id id seen.created seen.modified other.created modified is.object d is.version other.version in
          let groups = one_group laws objects is.id id seen.group group is.grouped latest one in
          let times = one_modified laws objects at is.id id seen.created seen.modified other.created modified is.object d is.version other.version in
          false≢true (sym different ∙ same_instant seen.group group seen.modified modified groups times))
          (kept id group modified latest))
    ]

breaks_as : (objects : List Data) (at : ℕ) (seen : Version) (is : IsVersionAs objects at seen) → HasOther Data (IsDuplicate objects is.id seen.modified) at is.object
    → BreaksVersionRule objects at rule.SameVersionTwice
breaks_as objects at seen is other = record {
  id = is.id;
  created = seen.created;
  modified = seen.modified;
  object = is.object;
  version = is.version;
  breaks = record {
    earlier = other.place;
    before = other.before;
    other_created = other.has.created;
    other = other.other;
    version = other.has.version;
    differs = other.differs;
  };
}

broken_as : Laws → (objects : List Data) (at : ℕ) (seen : Version) (is : IsVersionAs objects at seen) → BreaksVersionRule objects at rule.SameVersionTwice
    → HasOther Data (IsDuplicate objects is.id seen.modified) at is.object
broken_as laws objects at seen is broken =
    let its = broken.breaks in
    let id : broken.id ≡ is.id = one_version_id laws objects at broken.id is.id broken.created broken.modified seen.created seen.modified broken.object is.object
    broken.version is.version in
    let time : broken.modified ≡ seen.modified = one_modified laws objects at broken.id is.id broken.created broken.modified seen.created seen.modified broken.object
    is.object broken.version is.version in
    let object : broken.object ≡ is.object = one_object objects at broken.id is.id broken.created broken.modified seen.created seen.modified broken.object
    is.object broken.version is.version in record {
      place = its.earlier;
      other = its.other;
      before = its.before;
      has = record {
        created = its.other_created;
        version = subst (λ (m : ℤ). IsVersion objects its.earlier is.id its.other_created m its.other) time
            (subst (λ (i : Id). IsVersion objects its.earlier i its.other_created broken.modified its.other) id its.version);
      };
      differs = λ one. its.differs (one ∙ sym object);
    }

told_here : (objects : List Data) (at : ℕ) (seen : Version) (is : IsVersionAs objects at seen) (kept : Option FirstDuplicate) (next : FirstDuplicate)
    → IsNextDuplicate objects kept is.object at next → IsDuplicateBefore objects at is.id seen.modified kept
    → IsTrue next.differs ↔ HasOther Data (IsDuplicate objects is.id seen.modified) at is.object
told_here objects at seen is None next is_next before = (
  λ so. absurd (false≢true (sym (ap (λ (n : FirstDuplicate). n.differs) is_next) ∙ so)),
  λ other. absurd (none_other Data (IsDuplicate objects is.id seen.modified) at is.object before other),
)
told_here objects at seen is (Some first) next is_next before =
    let told = other_told Data (IsDuplicate objects is.id seen.modified) at is.object before.object first.differs is_next.0
    (same_kept objects first.at before.object is.object before.there is_next.0 is_next.1) before.kept in
    let same = ap (λ (n : FirstDuplicate). n.differs) is_next.2 in (
      λ so. told.0 (sym same ∙ so),
      λ other. same ∙ told.1 other,
    )

pub duplicates_told : Laws → (before : Duplicates) (seen : Version) (next : FirstDuplicate) (objects : List Data) (at : ℕ) (is : IsVersionAs objects at seen)
    → IsNextDuplicate objects (duplicate_at before seen.group seen.modified) is.object at next → AreDuplicatesBefore objects at before
    → IsTrue next.differs ↔ BreaksVersionRule objects at rule.SameVersionTwice
duplicates_told laws before seen next objects at is is_next kept =
    let told = told_here objects at seen is (duplicate_at before seen.group seen.modified) next is_next (kept is.id seen.group seen.modified is.grouped) in (
      λ so. breaks_as objects at seen is (told.0 so),
      λ broken. told.1 (broken_as laws objects at seen is broken),
    )
