-- What is kept of the versions that are revoked, one version more.
use Rattle.std.proofs.Common.{arith, ◌≡◌, ◌↔◌, inl, inr, ◌+◌, ◌<◌, ℕ, ℤ, ◌<ℤ◌, List, length, Option, Some, None, Bool, cond, IsTrue, IfSome, IfNone, slice_get, sym, ap, subst, ◌∙◌}
use Rattle.std.specs.Ordering.{nat_cmp, is_eq}
use Rattle.std.specs.BTreeMap.{get}
use Rattle.std.proofs.lemmas.Int.{ints, by_lt_z}
use Rattle.std.proofs.lemmas.Bool.{cases_eq, cases_lt}
use Rattle.std.proofs.lemmas.Option.{slice_get_within}
use Rattle.serde_json.specs.Data.{Data}
use Rattle.stix_ids.specs.declared.id.Id.{Id}
use Rattle.stix_versions.specs.declared.version.Version.{Version}
use Rattle.stix_versions.specs.declared.version_break.VersionRule.TheVariants as rule
use Rattle.stix_versions.specs.declared.revoked.Revoked.{Revoked}
use Rattle.stix_versions.specs.Versions.{IsVersion, IsRevoked, BreaksVersionRule}
use Rattle.stix_versions.specs.inner.Version.{IsVersionAs, IsNoVersion}
use Rattle.stix_versions.specs.inner.FirstVersions.{WasRevoked, IsRevokedAs, IsNotRevoked, IsFirstRevoked, IsRevokedBefore, AreRevokedBefore, IsNextRevoked}
use Rattle.stix_versions.proofs.VersionLemmas.{one_some}
use Rattle.stix_versions.proofs.FirstValueLemmas.{none_more}
use Rattle.stix_versions.proofs.CreatedLemmas.{same_key, other_key}
use Rattle.stix_versions.proofs.IsVersionLemmas.{Laws, one_version_id, one_modified, one_group, one_grouped}

-- no version of the identifier that is revoked stands at the place
revoked_beside : (objects : List Data) (at : ℕ) (id : Id) (kept : Option ℤ) → ((m : ℤ) → ¬ WasRevoked objects id at m)
    → IsRevokedBefore objects at id kept → IsRevokedBefore objects (at + 1) id kept
revoked_beside objects at id None not_here is = none_more ℤ (WasRevoked objects id) at is not_here
revoked_beside objects at id (Some first) not_here is =
    let before = is.before in record {
      place = is.place;
      before = omega arith;
      was = is.was;
      least = λ other modified less was. elim (cases_lt other at) [
        | inl earlier ↦ is.least other modified earlier was
        | inr not_earlier ↦ let here : other ≡ at = omega arith in absurd (not_here modified (subst (λ (p : ℕ). WasRevoked objects id p modified) here was))
      ];
    }

pub revoked_past : (objects : List Data) (at : ℕ) (kept : Revoked) → IsNotRevoked objects at → AreRevokedBefore objects at kept → AreRevokedBefore objects (at + 1) kept
revoked_past objects at kept none is = λ id group latest.
    revoked_beside objects at id (get nat_cmp kept.groups group) (none id) (is id group latest)

-- an object that is not revoked
pub unrevoked_here : (objects : List Data) (at : ℕ) (d : Data) → slice_get objects at ≡ Some d → ¬ IsRevoked d → IsNotRevoked objects at
unrevoked_here objects at d there not_so = λ id m was.
    not_so (subst IsRevoked (one_some was.object d (sym was.version.there ∙ there)) was.revoked)

-- an object that is revoked, and the version that was read there, if it is one
pub revoked_some : (objects : List Data) (at : ℕ) (d : Data) → slice_get objects at ≡ Some d → IsRevoked d → (found : Option Version)
    → IfSome found (IsVersionAs objects at) → IfSome found (IsRevokedAs objects at)
revoked_some objects at d there revoked None is = is
revoked_some objects at d there revoked (Some seen) is =
    record { is = is; revoked = subst IsRevoked (one_some d is.object (sym there ∙ is.version.there)) revoked }

pub revoked_unversioned : (objects : List Data) (at : ℕ) (found : Option Version) → IfNone found (IsNoVersion objects at) → IfNone found (IsNotRevoked objects at)
revoked_unversioned objects at None none = λ id m was. none id was.created m was.object was.version
revoked_unversioned objects at (Some seen) none = none

not_before_itself : (a b : ℤ) → a ≡ b → ¬ (a <ℤ b)
not_before_itself a b same less = omega (arith, ints, same, less)

not_both : (a b : ℤ) → a <ℤ b → ¬ (b <ℤ a)
not_both a b less also = omega (arith, ints, less, also)

less_than_least : (m modified first : ℤ) → ¬ (first <ℤ modified) → ¬ (m <ℤ first) → ¬ (m <ℤ modified)
less_than_least m modified first not_first not_less less =
    by_lt_z first modified (λ sooner. absurd (not_first sooner))
    (λ not_sooner. by_lt_z m first (λ sooner. absurd (not_less sooner)) (λ not_less_too. omega (arith, ints, not_sooner, not_less_too, less)))

here_same : Laws → (objects : List Data) (at : ℕ) (seen : Version) (is : IsVersionAs objects at seen) (m : ℤ) → WasRevoked objects is.id at m → m ≡ seen.modified
here_same laws objects at seen is m was = one_modified laws objects at is.id is.id was.created m seen.created seen.modified was.object is.object was.version is.version

first_here : Laws → (objects : List Data) (at : ℕ) (seen : Version) (is : IsVersionAs objects at seen) → IsRevoked is.object
    → ((other : ℕ) (m : ℤ) → other < at → WasRevoked objects is.id other m → ¬ (m <ℤ seen.modified)) → IsFirstRevoked objects (at + 1) is.id seen.modified
first_here laws objects at seen is revoked least = record {
  place = at;
  before = omega arith;
  was = record { created = seen.created; object = is.object; version = is.version; revoked = revoked };
  least = λ other m less was. elim (cases_lt other at) [
    | inl earlier ↦ least other m earlier was
    | inr not_earlier ↦
        let here : other ≡ at = omega arith in
        not_before_itself m seen.modified (here_same laws objects at seen is m (subst (λ (p : ℕ). WasRevoked objects is.id p m) here was))
  ];
}

revoked_here : Laws → (objects : List Data) (at : ℕ) (seen : Version) (is : IsVersionAs objects at seen) → IsRevoked is.object → (kept : Option ℤ) (next : ℤ)
    → IsNextRevoked kept seen.modified next → IsRevokedBefore objects at is.id kept → IsFirstRevoked objects (at + 1) is.id next
revoked_here laws objects at seen is revoked None next is_next before =
    subst (IsFirstRevoked objects (at + 1) is.id) (sym is_next)
    (first_here laws objects at seen is revoked (λ other m less was. absurd (before other m less was)))
revoked_here laws objects at seen is revoked (Some first) next (inl stays) before =
    let inside = before.before in
    subst (IsFirstRevoked objects (at + 1) is.id) (sym stays.1)
    (record {
      place = before.place;
      before = omega arith;
      was = before.was;
      least = λ other m less was. elim (cases_lt other at) [
        | inl earlier ↦ before.least other m earlier was
        | inr not_earlier ↦
            let here : other ≡ at = omega arith in
            let same = here_same laws objects at seen is m (subst (λ (p : ℕ). WasRevoked objects is.id p m) here was) in
            subst (λ (t : ℤ). ¬ (t <ℤ first)) (sym same) (not_both first seen.modified stays.0)
      ];
    })
revoked_here laws objects at seen is revoked (Some first) next (inr sooner) before =
    subst (IsFirstRevoked objects (at + 1) is.id) (sym sooner.1)
    (first_here laws objects at seen is revoked (λ other m less was. less_than_least m seen.modified first sooner.0 (before.least other m less was)))

pub revoked_more : Laws → (before after : Revoked) (seen : Version) (next : ℤ) → IsNextRevoked (get nat_cmp before.groups seen.group) seen.modified next
    → ((q : ℕ) → get nat_cmp after.groups q ≡ cond (is_eq (nat_cmp seen.group q)) (Some next) (get nat_cmp before.groups q))
    → (objects : List Data) (at : ℕ) → IsRevokedAs objects at seen → AreRevokedBefore objects at before → AreRevokedBefore objects (at + 1) after
revoked_more laws before after seen next is_next put objects at seen_as kept = λ id group latest.
    let is = seen_as.is in
    elim (cases_eq seen.group group) [
      | inl same ↦
          let its : is.id ≡ id = one_grouped laws objects is.id id seen.group group is.grouped latest same in
          let found : get nat_cmp after.groups group ≡ Some next =
          put group ∙ ap (λ (b : Bool). cond b (Some next) (get nat_cmp before.groups group)) (same_key seen.group group same) in
          let here = revoked_here laws objects at seen is seen_as.revoked (get nat_cmp before.groups seen.group) next is_next (kept is.id seen.group is.grouped) in
          subst (λ (o : Option ℤ). IsRevokedBefore objects (at + 1) id o) (sym found)
          (subst (λ (i : Id). IsRevokedBefore objects (at + 1) i (Some next)) its here)
      | inr different ↦
          let found : get nat_cmp after.groups group ≡ get nat_cmp before.groups group =
          put group ∙ ap (λ (b : Bool). cond b (Some next) (get nat_cmp before.groups group)) (other_key seen.group group different) in
          subst (λ (o : Option ℤ). IsRevokedBefore objects (at + 1) id o) (sym found)
          (revoked_beside objects at id (get nat_cmp before.groups group)
          (λ m other.
          different (one_group laws objects is.id id seen.group group is.grouped latest
          (one_version_id laws objects at is.id id seen.created seen.modified other.created m is.object other.object is.version other.version)))
          (kept id group latest))
    ]

sooner : (m first modified : ℤ) → ¬ (m <ℤ first) → m <ℤ modified → first <ℤ modified
sooner m first modified least less =
    by_lt_z first modified (λ is. is)
    (λ not_sooner. by_lt_z m first (λ is. absurd (least is)) (λ not_less_too. absurd (omega (arith, ints, not_sooner, not_less_too, less))))

-- what breaks the rule, of this version
follows_revoked : Laws → (objects : List Data) (at : ℕ) (seen : Version) (is : IsVersionAs objects at seen) → BreaksVersionRule objects at rule.AfterRevoked
    → (place : ℕ) × (m : ℤ) × WasRevoked objects is.id place m × (m <ℤ seen.modified)
follows_revoked laws objects at seen is broken =
    let its = broken.breaks in
    let id : broken.id ≡ is.id = one_version_id laws objects at broken.id is.id broken.created broken.modified seen.created seen.modified broken.object is.object
    broken.version is.version in
    let time : broken.modified ≡ seen.modified = one_modified laws objects at broken.id is.id broken.created broken.modified seen.created seen.modified broken.object
    is.object broken.version is.version in (
      its.place,
      its.other_modified,
      record {
        created = its.other_created;
        object = its.other;
        version = subst (λ (i : Id). IsVersion objects its.place i its.other_created its.other_modified its.other) id its.version;
        revoked = its.revoked;
      },
      subst (λ (t : ℤ). its.other_modified <ℤ t) time its.before,
    )

pub none_revoked : Laws → (objects : List Data) (at : ℕ) (seen : Version) (is : IsVersionAs objects at seen) → (kept : Revoked)
    → AreRevokedBefore objects (length objects) kept → None ≡ get nat_cmp kept.groups seen.group → ¬ BreaksVersionRule objects at rule.AfterRevoked
none_revoked laws objects at seen is kept all none broken =
    let it = follows_revoked laws objects at seen is broken in
    let empty = subst (λ (o : Option ℤ). IsRevokedBefore objects (length objects) is.id o) (sym none) (all is.id seen.group is.grouped) in
    empty it.0 it.1 (slice_get_within objects it.0 it.2.object it.2.version.there) it.2

pub first_revoked : Laws → (objects : List Data) (at : ℕ) (seen : Version) (is : IsVersionAs objects at seen) → (kept : Revoked)
    → AreRevokedBefore objects (length objects) kept → (first : ℤ) → Some first ≡ get nat_cmp kept.groups seen.group → (told : Bool)
    → (IsTrue told ↔ (first <ℤ seen.modified)) → IsTrue told ↔ BreaksVersionRule objects at rule.AfterRevoked
first_revoked laws objects at seen is kept all first there told is_before =
    let its = subst (λ (o : Option ℤ). IsRevokedBefore objects (length objects) is.id o) (sym there) (all is.id seen.group is.grouped) in (
      λ so. record {
        id = is.id;
        created = seen.created;
        modified = seen.modified;
        object = is.object;
        version = is.version;
        breaks = record {
          place = its.place;
          other_created = its.was.created;
          other_modified = first;
          other = its.was.object;
          version = its.was.version;
          revoked = its.was.revoked;
          before = is_before.0 so;
        };
      },
      λ broken.
          let it = follows_revoked laws objects at seen is broken in
          let least = its.least it.0 it.1 (slice_get_within objects it.0 it.2.object it.2.version.there) it.2 in
          is_before.1 (sooner it.1 first seen.modified least it.3),
    )
