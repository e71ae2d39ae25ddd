-- What is known of an indicator's versions, once there is one more object.
use Rattle.std.proofs.Common.{arith, ◌≡◌, ◌⊎◌, inl, inr, ◌↔◌, ℕ, ◌≤◌, ℤ, ◌<ℤ◌, ◌≤ℤ◌, List, length, Bool, true, false, ◌||◌, IsTrue, Option, Some, None, refl, sym, ap, subst, ◌∙◌}
use Rattle.std.proofs.lemmas.Int.{ints, by_lt_z}
use Rattle.std.proofs.lemmas.Option.{slice_get_within}
use Rattle.std.proofs.lemmas.Bool.{false≢true}
use Rattle.serde_json.specs.Data.{Data}
use Rattle.stix_ids.specs.declared.id.Id.{Id}
use Rattle.stix_objects.specs.Properties.{HasId}
use Rattle.stix_bundles.specs.Lookup.{IsModified, IsEarlier, IsOf, IsLatest, ResolvesTo}
use Rattle.hunt_feed.specs.declared.version.Version.{Version}
use Rattle.hunt_feed.specs.Indicators.{Revokes, IsRevokedId}
use Rattle.hunt_feed.specs.Gathering.{IsLatestVersionAs, IsKnown}
use Rattle.hunt_feed.specs.inner.Adding.{IsIndicatorVersion, IsNextVersion}
use Rattle.hunt_feed.proofs.GrowingLemmas.{grown, get_new, of_cases, of_version, version_old, version_cases, revoked_old, revoked_new, revoked_cases, same_some}

-- an object was modified at one time or at none, has one identifier, and a text means one place
abbrev pub OneModified : Type 0
OneModified = (d : Data) (first second : Option ℤ) → IsModified d first → IsModified d second → first ≡ second

abbrev pub OneId : Type 0
OneId = (d : Data) (first second : Id) → HasId d first → HasId d second → first ≡ second

abbrev pub OneMeaning : Type 0
OneMeaning = (objects : List Data) (text : List ℕ) (first second : Option ℕ) → ResolvesTo objects text first → ResolvesTo objects text second → first ≡ second

pub one_latest : OneMeaning → (objects : List Data) (id : Id) (first second : ℕ) → IsLatest objects id first → IsLatest objects id second → first ≡ second
one_latest one objects id first second is also =
    let has = is.version.has in
    same_some first second (one objects has.text (Some first) (Some second) (id, has.reads, is) (id, has.reads, also))

-- an object of another identifier changes nothing
latest_beside : (objects : List Data) (d : Data) (id : Id) (at : ℕ) → ¬ HasId d id → IsLatest objects id at → IsLatest (grown objects d) id at
latest_beside objects d id at other is = record {
  modified = is.modified;
  version = version_old objects d id at is.modified is.version;
  latest = λ n when version. elim (version_cases objects d id n when version) [
    | inl before ↦ is.latest n when before
    | inr here ↦ absurd (other here.1)
  ];
}

revoked_beside : (objects : List Data) (d : Data) (id : Id) → ¬ HasId d id → IsRevokedId (grown objects d) id → IsRevokedId objects id
revoked_beside objects d id other is =
    elim (revoked_cases objects d id is) [ inl before ↦ before | inr here ↦ absurd (other here.0) ]

pub known_beside : (objects : List Data) (d : Data) (id : Id) (known : Option Version) → ¬ HasId d id → IsKnown objects id known → IsKnown (grown objects d) id known
unfolding latest_beside
known_beside objects d id None other is = λ at of.
    elim (of_cases objects d id at of) [ inl before ↦ is at before | inr here ↦ other here ]
known_beside objects d id (Some version) other is = record {
  latest = latest_beside objects d id version.at other is.latest;
  modified = is.modified;
  revoked = (
    λ so. revoked_old objects d id (is.revoked.0 so),
    λ revoked. is.revoked.1 (revoked_beside objects d id other revoked),
  );
}

-- the first version is the latest
latest_alone : OneModified → (objects : List Data) (d : Data) (id : Id) (modified : ℤ) → HasId d id → IsModified d (Some modified)
    → ((at : ℕ) → ¬ IsOf objects id at) → IsLatest (grown objects d) id (length objects)
latest_alone one objects d id modified has is none = record {
  modified = Some modified;
  version = record { object = d; there = get_new objects d; has = has; when = is };
  latest = λ n when version. elim (version_cases objects d id n when version) [
    | inl before ↦ absurd (none n (of_version objects id n when before))
    | inr here ↦ inr (one d when (Some modified) here.2 is, let e = here.0 in omega arith)
  ];
}

-- an earlier version leaves the latest as it is
latest_stays : OneModified → (objects : List Data) (d : Data) (id : Id) (at : ℕ) (modified last : ℤ) → IsModified d (Some modified)
    → (is : IsLatest objects id at) → is.modified ≡ Some last → modified <ℤ last → IsLatest (grown objects d) id at
latest_stays one objects d id at modified last new is when_is earlier = record {
  modified = is.modified;
  version = version_old objects d id at is.modified is.version;
  latest = λ n when version. elim (version_cases objects d id n when version) [
    | inl before ↦ is.latest n when before
    | inr here ↦ inl (subst (λ (t : Option ℤ). IsEarlier t is.modified) (sym (one d when (Some modified) here.2 new))
        (subst (λ (t : Option ℤ). IsEarlier (Some modified) t) (sym when_is) earlier))
  ];
}

-- what isn't later than the last isn't later than one that is as late
not_less : (first second : ℤ) → ¬ (first <ℤ second) → second ≤ℤ first
not_less first second not = by_lt_z first second (λ less. absurd (not less)) (λ no_less. no_less)

no_later : (when : Option ℤ) (last modified : ℤ) (n at end : ℕ) → ¬ (modified <ℤ last) → n ≤ end
    → IsEarlier when (Some last) ⊎ ((when ≡ Some last) × (n ≤ at)) → IsEarlier when (Some modified) ⊎ ((when ≡ Some modified) × (n ≤ end))
no_later None last modified n at end not within is = inl tt
no_later (Some time) last modified n at end not within is =
    let last_is_before = not_less modified last not in
    let before : time ≤ℤ last = elim is [
      | inl earlier ↦ omega (arith, ints, earlier)
      | inr same ↦ (let e = same_some time last same.0 in omega (arith, ints, e))
    ] in
    by_lt_z time modified (λ earlier. inl earlier)
    (λ not_earlier.
    let same : time ≡ modified = omega (arith, ints, last_is_before, before, not_earlier) in
    inr (ap Some same, within))

-- a version that isn't earlier is the latest
latest_newly : OneModified → (objects : List Data) (d : Data) (id : Id) (at : ℕ) (modified last : ℤ) → HasId d id → IsModified d (Some modified)
    → (is : IsLatest objects id at) → is.modified ≡ Some last → ¬ (modified <ℤ last) → IsLatest (grown objects d) id (length objects)
latest_newly one objects d id at modified last has new is when_is not = record {
  modified = Some modified;
  version = record { object = d; there = get_new objects d; has = has; when = new };
  latest = λ n when version. elim (version_cases objects d id n when version) [
    | inl before ↦
        let within = slice_get_within objects n before.object before.there in
        no_later when last modified n at (length objects) not (omega arith)
        (subst (λ (t : Option ℤ). IsEarlier when t ⊎ ((when ≡ t) × (n ≤ at))) when_is (is.latest n when before))
    | inr here ↦ inr (one d when (Some modified) here.2 new, let e = here.0 in omega arith)
  ];
}

or_true : (a b : Bool) → IsTrue (a || b) → IsTrue a ⊎ IsTrue b
or_true true b is = inl is
or_true false b is = inr is

true_or : (a b : Bool) → IsTrue a ⊎ IsTrue b → IsTrue (a || b)
true_or true b is = refl
true_or false b (inl is) = absurd (false≢true is)
true_or false b (inr is) = is

-- whether one of the versions is revoked
revoked_alone : (objects : List Data) (d : Data) (id : Id) (new : Bool) → HasId d id → IsTrue new ↔ Revokes d → ((at : ℕ) → ¬ IsOf objects id at)
    → IsTrue new ↔ IsRevokedId (grown objects d) id
revoked_alone objects d id new has is none = (
  λ so. revoked_new objects d id has (is.0 so),
  λ revoked. elim (revoked_cases objects d id revoked) [
    | inl before ↦ absurd (none before.at (record { object = before.object; there = before.there; has = before.has }))
    | inr here ↦ is.1 here.1
  ],
)

revoked_more : (objects : List Data) (d : Data) (id : Id) (known new : Bool) → HasId d id → IsTrue new ↔ Revokes d → IsTrue known ↔ IsRevokedId objects id
    → IsTrue (known || new) ↔ IsRevokedId (grown objects d) id
revoked_more objects d id known new has is was = (
  λ so. elim (or_true known new so) [
    | inl before ↦ revoked_old objects d id (was.0 before)
    | inr now ↦ revoked_new objects d id has (is.0 now)
  ],
  λ revoked. elim (revoked_cases objects d id revoked) [
    | inl before ↦ true_or known new (inl (was.1 before))
    | inr here ↦ true_or known new (inr (is.1 here.1))
  ],
)

version_as : (objects : List Data) (id : Id) (next : Version) (at : ℕ) (modified : ℤ) (revoked : Bool) → next.at ≡ at → next.modified ≡ modified → next.revoked ≡ revoked
    → (latest : IsLatest objects id at) → latest.modified ≡ Some modified → IsTrue revoked ↔ IsRevokedId objects id → IsLatestVersionAs objects id next
version_as objects id next at modified revoked at_is modified_is revoked_is latest when_is revoked_so =
    let again : (n : ℕ) → at ≡ n → (is : IsLatest objects id n) × (is.modified ≡ Some modified) =
    λ n e. subst (λ (n : ℕ). (is : IsLatest objects id n) × (is.modified ≡ Some modified)) e (latest, when_is) in
    let found = again next.at (sym at_is) in
    record {
      latest = found.0;
      modified = found.1 ∙ ap Some (sym modified_is);
      revoked = subst (λ (b : Bool). IsTrue b ↔ IsRevokedId objects id) (sym revoked_is) revoked_so;
    }

-- a version more of the same identifier
pub known_with : OneModified → (objects : List Data) (d : Data) (id : Id) (known : Option Version) (new next : Version) → HasId d id → IsIndicatorVersion d new
    → new.at ≡ length objects → IsNextVersion known new next → IsKnown objects id known → IsLatestVersionAs (grown objects d) id next
unfolding latest_alone latest_stays latest_newly
known_with one objects d id None new next has version at_is next_is none =
    version_as (grown objects d) id next (length objects) new.modified new.revoked
    (ap (λ (v : Version). v.at) next_is ∙ at_is) (ap (λ (v : Version). v.modified) next_is) (ap (λ (v : Version). v.revoked) next_is)
    (latest_alone one objects d id new.modified has version.modified none) refl (revoked_alone objects d id new.revoked has version.revoked none)
known_with one objects d id (Some known) new next has version at_is (revoked, inl stays) is =
    version_as (grown objects d) id next known.at known.modified (known.revoked || new.revoked) stays.1 stays.2 revoked
    (latest_stays one objects d id known.at new.modified known.modified version.modified is.latest is.modified stays.0) is.modified
    (revoked_more objects d id known.revoked new.revoked has version.revoked is.revoked)
known_with one objects d id (Some known) new next has version at_is (revoked, inr newly) is =
    version_as (grown objects d) id next (length objects) new.modified (known.revoked || new.revoked) (newly.1 ∙ at_is) newly.2 revoked
    (latest_newly one objects d id known.at new.modified known.modified has version.modified is.latest is.modified newly.0) refl
    (revoked_more objects d id known.revoked new.revoked has version.revoked is.revoked)
