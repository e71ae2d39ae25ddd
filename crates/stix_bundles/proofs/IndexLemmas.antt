-- The positions of the latest versions of the objects before a place, and the object at the place.
use Rattle.std.proofs.Common.{arith, eq-eqb, ◌≡◌, ◌≢◌, ◌⊎◌, inl, inr, ◌+◌, ◌<◌, ◌≤◌, ◌&&◌, ◌==◌, ℕ, ℤ, List, Option, Some, None, Bool, true, false, cond, bytes_eq, take, slice_get, sym, ap, refl, subst, ◌∙◌}
use Rattle.std.proofs.lemmas.Int.{ints, by_lt_z}
use Rattle.std.proofs.lemmas.Bool.{cases_lt, cases_eq, cases_Bool, false≢true}
use Rattle.std.proofs.lemmas.Bool.Decides.{nat_tests}
use Rattle.std.proofs.lemmas.Slice.Eq.{bytes_eq-Decides}
use Rattle.serde_json.specs.Data.{Data}
use Rattle.stix_ids.specs.declared.id.Id.{Id}
use Rattle.stix_bundles.specs.declared.positions.Positions.{Positions}
use Rattle.stix_objects.specs.Properties.{HasId}
use Rattle.stix_bundles.specs.Lookup.{IsModified, IsEarlier, IsOf, IsVersionAt, IsLatest}
use Rattle.stix_bundles.specs.inner.Index.{position_of, same_id, PutsPosition, Supersedes, IsPositionOf, ArePositionsOf}
use Rattle.stix_bundles.proofs.ObjectsLemmas.{same_some}
use Rattle.stix_bundles.proofs.TakeLemmas.{taken, taken_before, in_taken}
use Rattle.stix_bundles.proofs.LookupLemmas.{of_version}

-- an object was modified at one time or at none, and has one identifier
abbrev pub OneModified : Type 0
OneModified = (d : Data) (first second : Option ℤ) → IsModified d first → IsModified d second → first ≡ second

abbrev pub OneId : Type 0
OneId = (d : Data) (first second : Id) → HasId d first → HasId d second → first ≡ second

-- of the objects up to a place, one stands before it or at it
version_cases : (ds : List Data) (at : ℕ) (d : Data) → slice_get ds at ≡ Some d → (id : Id) (n : ℕ) (when : Option ℤ) → IsVersionAt (take (at + 1) ds) id n when
    → IsVersionAt (take at ds) id n when ⊎ ((n ≡ at) × HasId d id × IsModified d when)
version_cases ds at d there id n when is =
    let there_too = taken (at + 1) n ds is.object is.there in
    let before = taken_before (at + 1) n ds is.object is.there in
    elim (cases_lt n at) [
      | inl less ↦ inl (record { object = is.object; there = in_taken at n ds is.object less there_too; has = is.has; when = is.when })
      | inr not_less ↦
          let here : n ≡ at = omega arith in
          let same : is.object ≡ d = same_some is.object d (sym there_too ∙ ap (slice_get ds) here ∙ there) in
          inr (here, subst (λ (x : Data). HasId x id) same is.has, subst (λ (x : Data). IsModified x when) same is.when)
    ]

of_cases : (ds : List Data) (at : ℕ) (d : Data) → slice_get ds at ≡ Some d → (id : Id) (n : ℕ) → IsOf (take (at + 1) ds) id n
    → IsOf (take at ds) id n ⊎ HasId d id
of_cases ds at d there id n is =
    let there_too = taken (at + 1) n ds is.object is.there in
    let before = taken_before (at + 1) n ds is.object is.there in
    elim (cases_lt n at) [
      | inl less ↦ inl (record { object = is.object; there = in_taken at n ds is.object less there_too; has = is.has })
      | inr not_less ↦
          let here : n ≡ at = omega arith in
          let same : is.object ≡ d = same_some is.object d (sym there_too ∙ ap (slice_get ds) here ∙ there) in
          inr (subst (λ (x : Data). HasId x id) same is.has)
    ]

version_stays : (ds : List Data) (at : ℕ) (id : Id) (n : ℕ) (when : Option ℤ) → IsVersionAt (take at ds) id n when → IsVersionAt (take (at + 1) ds) id n when
version_stays ds at id n when is =
    let before = taken_before at n ds is.object is.there in
    record { object = is.object; there = in_taken (at + 1) n ds is.object (omega arith) (taken at n ds is.object is.there); has = is.has; when = is.when }

-- the latest version stays the latest, where the new object is no later one
latest_stays : (ds : List Data) (at : ℕ) (d : Data) → slice_get ds at ≡ Some d → (id : Id) (n : ℕ) (is : IsLatest (take at ds) id n)
    → ((when : Option ℤ) → HasId d id → IsModified d when → IsEarlier when is.modified) → IsLatest (take (at + 1) ds) id n
latest_stays ds at d there id n is earlier = record {
  modified = is.modified;
  version = version_stays ds at id n is.modified is.version;
  latest = λ other when version. elim (version_cases ds at d there id other when version) [
    | inl before ↦ is.latest other when before
    | inr here ↦ inl (earlier when here.1 here.2)
  ];
}

-- an object of another identifier changes nothing
pub held_beside : (ds : List Data) (at : ℕ) (d : Data) → slice_get ds at ≡ Some d → (id : Id) → ¬ HasId d id
    → (place : Option ℕ) → IsPositionOf (take at ds) id place → IsPositionOf (take (at + 1) ds) id place
held_beside ds at d there id other None is = λ n of.
    elim (of_cases ds at d there id n of) [ inl before ↦ is n before | inr here ↦ other here ]
held_beside ds at d there id other (Some n) is = latest_stays ds at d there id n is (λ when has modified. absurd (other has))

-- nor does an object that a later one stands before
pub held_superseded : OneModified → (ds : List Data) (at : ℕ) (d : Data) → slice_get ds at ≡ Some d → (id : Id) (time : Option ℤ) → IsModified d time
    → (place : Option ℕ) → Supersedes ds place time → IsPositionOf (take at ds) id place → IsPositionOf (take (at + 1) ds) id place
held_superseded one ds at d there id time modified None over is = absurd over
held_superseded one ds at d there id time modified (Some n) over is =
    latest_stays ds at d there id n is
    (λ when has its.
    let same_object : over.0 ≡ is.version.object = same_some over.0 is.version.object (sym over.2 ∙ taken at n ds is.version.object is.version.there) in
    let its_time : IsModified is.version.object over.1 = subst (λ (x : Data). IsModified x over.1) same_object over.3 in
    let same : over.1 ≡ is.modified = one is.version.object over.1 is.modified its_time is.version.when in
    subst (λ (t : Option ℤ). IsEarlier t is.modified) (one d time when modified its)
    (subst (λ (t : Option ℤ). IsEarlier time t) same over.4))

-- of two times one is earlier, or they are the same
time_cases : (first second : Option ℤ) → IsEarlier first second ⊎ ((first ≡ second) ⊎ IsEarlier second first)
time_cases None None = inr (inl refl)
time_cases None (Some second) = inl tt
time_cases (Some first) None = inr (inr tt)
time_cases (Some first) (Some second) =
    by_lt_z first second (λ earlier. inl earlier)
    (λ not_earlier. by_lt_z second first (λ later. inr (inr later))
    (λ not_later.
    let same : first ≡ second = omega (arith, ints, not_earlier, not_later) in
    inr (inl (ap Some same))))

earlier_than_both : (first second third : Option ℤ) → IsEarlier first second → IsEarlier second third → IsEarlier first third
earlier_than_both first second None is also = also
earlier_than_both first None (Some third) is also = absurd is
earlier_than_both None (Some second) (Some third) is also = tt
earlier_than_both (Some first) (Some second) (Some third) is also = omega (arith, ints, is, also)

-- where the time isn't earlier than the last time, what is no later than the last is no later than the time
no_later : (when last time : Option ℤ) (other n at : ℕ) → ¬ IsEarlier time last → other < at → IsEarlier when last ⊎ ((when ≡ last) × (other ≤ n))
    → IsEarlier when time ⊎ ((when ≡ time) × (other ≤ at))
no_later when last time other n at not before is = elim (time_cases time last) [
  | inl earlier ↦ absurd (not earlier)
  | inr no_earlier ↦ elim no_earlier [
    | inl same ↦ elim is [
      | inl earlier ↦ inl (subst (IsEarlier when) (sym same) earlier)
      | inr as_late ↦ inr (as_late.0 ∙ sym same, omega arith)
    ]
    | inr later ↦ elim is [
      | inl earlier ↦ inl (earlier_than_both when last time earlier later)
      | inr as_late ↦ inl (subst (λ (t : Option ℤ). IsEarlier t time) (sym as_late.0) later)
    ]
  ]
]

latest_before : (ds : List Data) (at : ℕ) (id : Id) (time : Option ℤ) (place : Option ℕ) → ¬ Supersedes ds place time → IsPositionOf (take at ds) id place
    → (other : ℕ) (when : Option ℤ) → IsVersionAt (take at ds) id other when → IsEarlier when time ⊎ ((when ≡ time) × (other ≤ at))
latest_before ds at id time None not is other when before = absurd (is other (of_version (take at ds) id other when before))
latest_before ds at id time (Some n) not is other when before =
    let last = is.version.object in
    let there = taken at n ds last is.version.there in
    let less = taken_before at other ds before.object before.there in
    no_later when is.modified time other n at (λ earlier. not (last, is.modified, there, is.version.when, earlier)) less (is.latest other when before)

-- an object that isn't superseded is the latest
pub held_newly : OneModified → (ds : List Data) (at : ℕ) (d : Data) → slice_get ds at ≡ Some d → (id : Id) → HasId d id → (time : Option ℤ) → IsModified d time
    → (place : Option ℕ) → ¬ Supersedes ds place time → IsPositionOf (take at ds) id place → IsLatest (take (at + 1) ds) id at
held_newly one ds at d there id has time modified place not is = record {
  modified = time;
  version = record { object = d; there = in_taken (at + 1) at ds d (omega arith) there; has = has; when = modified };
  latest = λ other when version. elim (version_cases ds at d there id other when version) [
    | inr here ↦ inr (one d when time here.2 modified, omega arith)
    | inl before ↦ latest_before ds at id time place not is other when before
  ];
}

pub same_parts : (id other : Id) → id.kind ≡ other.kind → id.number ≡ other.number → id ≡ other
same_parts id other kinds numbers =
    let kind_first : id ≡ record { kind = other.kind; number = id.number } = ap (λ (k : List ℕ). let i : Id = record { kind = k; number = id.number } in i) kinds in
    kind_first ∙ ap (λ (n : ℕ). let i : Id = record { kind = other.kind; number = n } in i) numbers

not_eqb : (a b : ℕ) → (a ≡ b → ⊥) → (a == b) ≡ false
not_eqb a b different = grind (arith, nat_tests)

same_cases : (id other : Id) → ((same_id id other ≡ true) × (id ≡ other)) ⊎ ((same_id id other ≡ false) × (id ≢ other))
same_cases id other =
    elim (cases_Bool (bytes_eq id.kind other.kind)) [
      | inl kinds ↦ elim (cases_eq id.number other.number) [
        | inl numbers ↦ inl (
          ap (λ b. b && (id.number == other.number)) kinds ∙ eq-eqb id.number other.number numbers,
          same_parts id other ((bytes_eq-Decides id.kind other.kind).0 kinds) numbers,
        )
        | inr numbers ↦ inr (
          ap (λ b. b && (id.number == other.number)) kinds ∙ not_eqb id.number other.number numbers,
          λ same. numbers (ap (λ (i : Id). i.number) same),
        )
      ]
      | inr kinds ↦ inr (
        ap (λ b. b && (id.number == other.number)) kinds,
        λ same. false≢true (sym kinds ∙ (bytes_eq-Decides id.kind other.kind).1 (ap (λ (i : Id). i.kind) same)),
      )
    ]

-- the positions after that of an identifier's latest version was put
pub positions_put : OneId → (ds : List Data) (at : ℕ) (d : Data) → slice_get ds at ≡ Some d → (id : Id) → HasId d id → (latest : ℕ) → IsLatest (take (at + 1) ds) id latest
    → (before after : Positions) → ArePositionsOf (take at ds) before → PutsPosition before after id latest → ArePositionsOf (take (at + 1) ds) after
positions_put one_id ds at d there id has latest is_latest before after is puts = λ other.
    subst (IsPositionOf (take (at + 1) ds) other) (sym (puts other))
    (elim (same_cases id other) [
      | inl same ↦
          subst (λ (b : Bool). IsPositionOf (take (at + 1) ds) other (cond b (Some latest) (position_of before other))) (sym same.0)
          (subst (λ (i : Id). IsLatest (take (at + 1) ds) i latest) same.1 is_latest)
      | inr different ↦
          subst (λ (b : Bool). IsPositionOf (take (at + 1) ds) other (cond b (Some latest) (position_of before other))) (sym different.0)
          (held_beside ds at d there other (λ has_other. different.1 (one_id d id other has has_other)) (position_of before other) (is other))
    ])
