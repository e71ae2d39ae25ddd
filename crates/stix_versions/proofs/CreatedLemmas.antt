-- What is kept of the times at which versions were created, one version more.
use Rattle.std.proofs.Common.{arith, ◌≡◌, ◌≢◌, ◌↔◌, inl, inr, ◌+◌, ℕ, ℤ, List, Option, Some, None, Bool, true, false, not, cond, unwrap_or, IsTrue, sym, ap, refl, subst, ◌∙◌}
use Rattle.std.specs.Ordering.{nat_cmp, is_eq}
use Rattle.std.specs.BTreeMap.{get}
use Rattle.std.proofs.lemmas.Bool.{cases_eq, false≢true}
use Rattle.std.proofs.lemmas.Bool.Decides.{nat_tests}
use Rattle.serde_json.specs.Data.{Data}
use Rattle.stix_ids.specs.declared.id.Id.{Id}
use Rattle.stix_versions.specs.declared.version.Version.{Version}
use Rattle.stix_versions.specs.declared.version_break.VersionRule.TheVariants as rule
use Rattle.stix_versions.specs.declared.created.FirstCreated.{FirstCreated}
use Rattle.stix_versions.specs.declared.created.Created.{Created}
use Rattle.stix_versions.specs.Versions.{IsVersion, BreaksVersionRule}
use Rattle.stix_versions.specs.inner.Version.{IsVersionAs, IsNoVersion, HasOther}
use Rattle.stix_versions.specs.inner.FirstVersions.{WasCreated, IsCreatedBefore, AreCreatedBefore, IsNextCreated}
use Rattle.stix_versions.proofs.FirstValueLemmas.{none_more, kept_beside, kept_first, none_other, other_told, kept_next}
use Rattle.stix_versions.proofs.IsVersionLemmas.{Laws, one_version_id, one_created, one_group, one_grouped}

pub same_key : (a b : ℕ) → a ≡ b → is_eq (nat_cmp a b) ≡ true
same_key a b is = grind (arith, nat_tests)

pub other_key : (a b : ℕ) → a ≢ b → is_eq (nat_cmp a b) ≡ false
other_key a b is = grind (arith, nat_tests)

-- what is kept already, or else this time, unchanged, and the same time once more
pub next_of_kept : (kept : Option FirstCreated) (created : ℤ) (first next : FirstCreated) → first ≡ unwrap_or kept (record { created = created; changed = false })
    → IsNextCreated (Some first) created next → IsNextCreated kept created next
next_of_kept (Some known) created first next is is_next = subst (λ (f : FirstCreated). IsNextCreated (Some f) created next) is is_next
next_of_kept None created first next is is_next =
    let its = subst (λ (f : FirstCreated). IsNextCreated (Some f) created next) is is_next in
    let with_same : Bool → FirstCreated = λ same. record { created = created; changed = not same } in
    its.2 ∙ ap with_same (its.1.1 refl)

-- no version of the identifier stands at the place
created_beside : (objects : List Data) (at : ℕ) (id : Id) (kept : Option FirstCreated) → ((c : ℤ) → ¬ WasCreated objects id at c)
    → IsCreatedBefore objects at id kept → IsCreatedBefore objects (at + 1) id kept
created_beside objects at id None not_here is = none_more ℤ (WasCreated objects id) at is not_here
created_beside objects at id (Some first) not_here is = kept_beside ℤ (WasCreated objects id) at first.created first.changed is not_here

pub created_past : (objects : List Data) (at : ℕ) (kept : Created) → IsNoVersion objects at → AreCreatedBefore objects at kept → AreCreatedBefore objects (at + 1) kept
created_past objects at kept none is = λ id group latest.
    created_beside objects at id (get nat_cmp kept.groups group) (λ c was. none id c was.modified was.object was.version) (is id group latest)

one_time : Laws → (objects : List Data) (at : ℕ) (id : Id) (v w : ℤ) → WasCreated objects id at v → WasCreated objects id at w → v ≡ w
one_time laws objects at id v w is also = one_created laws objects at id id v is.modified w also.modified is.object also.object is.version also.version

was : (objects : List Data) (at : ℕ) (seen : Version) (is : IsVersionAs objects at seen) → WasCreated objects is.id at seen.created
was objects at seen is = record { modified = seen.modified; object = is.object; version = is.version }

created_here : Laws → (objects : List Data) (at : ℕ) (seen : Version) (is : IsVersionAs objects at seen) (kept : Option FirstCreated) (next : FirstCreated)
    → IsNextCreated kept seen.created next → IsCreatedBefore objects at is.id kept → IsCreatedBefore objects (at + 1) is.id (Some next)
created_here laws objects at seen is None next is_next before =
    subst (λ (n : FirstCreated). IsCreatedBefore objects (at + 1) is.id (Some n)) (sym is_next)
    (kept_first ℤ (WasCreated objects is.id) at seen.created (one_time laws objects at is.id) before (was objects at seen is))
created_here laws objects at seen is (Some first) next is_next before =
    subst (λ (n : FirstCreated). IsCreatedBefore objects (at + 1) is.id (Some n)) (sym is_next.2)
    (kept_next ℤ (WasCreated objects is.id) at seen.created first.created first.changed is_next.0 (one_time laws objects at is.id) is_next.1 (was objects at seen is) before)

pub created_more : Laws → (before after : Created) (seen : Version) (next : FirstCreated) → IsNextCreated (get nat_cmp before.groups seen.group) seen.created next
    → ((q : ℕ) → get nat_cmp after.groups q ≡ cond (is_eq (nat_cmp seen.group q)) (Some next) (get nat_cmp before.groups q))
    → (objects : List Data) (at : ℕ) → IsVersionAs objects at seen → AreCreatedBefore objects at before → AreCreatedBefore objects (at + 1) after
created_more laws before after seen next is_next put objects at is kept = λ id group latest.
    elim (cases_eq seen.group group) [
      | inl same ↦
          let its : is.id ≡ id = one_grouped laws objects is.id id seen.group group is.grouped latest same in
          let found : get nat_cmp after.groups group ≡ Some next =
          put group ∙ ap (λ (b : Bool). cond b (Some next) (get nat_cmp before.groups group)) (same_key seen.group group same) in
          let here = created_here laws objects at seen is (get nat_cmp before.groups seen.group) next is_next (kept is.id seen.group is.grouped) in
          subst (λ (o : Option FirstCreated). IsCreatedBefore objects (at + 1) id o) (sym found)
          (subst (λ (i : Id). IsCreatedBefore objects (at + 1) i (Some next)) its here)
      | inr different ↦
          let found : get nat_cmp after.groups group ≡ get nat_cmp before.groups group =
          put group ∙ ap (λ (b : Bool). cond b (Some next) (get nat_cmp before.groups group)) (other_key seen.group group different) in
          subst (λ (o : Option FirstCreated). IsCreatedBefore objects (at + 1) id o) (sym found)
          (created_beside objects at id (get nat_cmp before.groups group)
          (λ c other.
          different (one_group laws objects is.id id seen.group group is.grouped latest
          (one_version_id laws objects at is.id id seen.created seen.modified c other.modified is.object other.object is.version other.version)))
          (kept id group latest))
    ]

breaks_as : (objects : List Data) (at : ℕ) (seen : Version) (is : IsVersionAs objects at seen) → HasOther ℤ (WasCreated objects is.id) at seen.created
    → BreaksVersionRule objects at rule.CreatedChanged
breaks_as objects at seen is other = record {
  id = is.id;
  created = seen.created;
  modified = seen.modified;
  object = is.object;
  version = is.version;
  breaks = record {
    earlier = other.place;
    before = other.before;
    other_created = other.other;
    other_modified = other.has.modified;
    other = other.has.object;
    version = other.has.version;
    changed = other.differs;
  };
}

broken_as : Laws → (objects : List Data) (at : ℕ) (seen : Version) (is : IsVersionAs objects at seen) → BreaksVersionRule objects at rule.CreatedChanged
    → HasOther ℤ (WasCreated objects is.id) at seen.created
broken_as laws objects at seen is broken =
    let its = broken.breaks in
    let id : broken.id ≡ is.id = one_version_id laws objects at broken.id is.id broken.created broken.modified seen.created seen.modified broken.object is.object
    broken.version is.version in
    let time : broken.created ≡ seen.created = one_created laws objects at broken.id is.id broken.created broken.modified seen.created seen.modified broken.object
    is.object broken.version is.version in record {
      place = its.earlier;
      other = its.other_created;
      before = its.before;
      has = record {
        modified = its.other_modified;
        object = its.other;
        version = subst (λ (i : Id). IsVersion objects its.earlier i its.other_created its.other_modified its.other) id its.version;
      };
      differs = λ one. its.changed (one ∙ sym time);
    }

told_here : (objects : List Data) (at : ℕ) (seen : Version) (is : IsVersionAs objects at seen) (kept : Option FirstCreated) (next : FirstCreated)
    → IsNextCreated kept seen.created next → IsCreatedBefore objects at is.id kept → IsTrue next.changed ↔ HasOther ℤ (WasCreated objects is.id) at seen.created
told_here objects at seen is None next is_next before = (
  λ yes. absurd (false≢true (sym (ap (λ (n : FirstCreated). n.changed) is_next) ∙ yes)),
  λ other. absurd (none_other ℤ (WasCreated objects is.id) at seen.created before other),
)
told_here objects at seen is (Some first) next is_next before =
    let told = other_told ℤ (WasCreated objects is.id) at seen.created first.created first.changed is_next.0 is_next.1 before in
    let same = ap (λ (n : FirstCreated). n.changed) is_next.2 in (
      λ yes. told.0 (sym same ∙ yes),
      λ other. same ∙ told.1 other,
    )

pub created_told : Laws → (before : Created) (seen : Version) (next : FirstCreated) → IsNextCreated (get nat_cmp before.groups seen.group) seen.created next
    → (objects : List Data) (at : ℕ) → IsVersionAs objects at seen → AreCreatedBefore objects at before
    → IsTrue next.changed ↔ BreaksVersionRule objects at rule.CreatedChanged
created_told laws before seen next is_next objects at is kept =
    let told = told_here objects at seen is (get nat_cmp before.groups seen.group) next is_next (kept is.id seen.group is.grouped) in (
      λ yes. breaks_as objects at seen is (told.0 yes),
      λ broken. told.1 (broken_as laws objects at seen is broken),
    )
