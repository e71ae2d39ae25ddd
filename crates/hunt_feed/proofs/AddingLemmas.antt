-- What objects are gathered, once there is one more.
use Rattle.std.proofs.Common.{arith, eq-eqb, ◌≡◌, inl, inr, ℕ, zero, suc, ◌+◌, ◌<◌, ◌==◌, List, [], ◌∷◌, ◌++◌, length, map, slice_get, slice_set, slice_index_or, All, Bool, false, cond, Option, Some, None, codes, refl, sym, ap, subst, ◌∙◌}
use Rattle.std.specs.Prelude.{Contains, option_to_list}
use Rattle.std.proofs.lemmas.Bool.{cases_eq}
use Rattle.std.proofs.lemmas.Bool.Decides.{nat_tests}
use Rattle.std.proofs.lemmas.List.{append-nil, length-append, map-append}
use Rattle.std.proofs.lemmas.List.Elements.{All-push, Contains-append_left, Contains-push}
use Rattle.std.proofs.lemmas.Option.{slice_get_within, get_or_from_slice_get}
use Rattle.serde_json.specs.Data.{Data}
use Rattle.stix_ids.specs.declared.id.Id.{Id}
use Rattle.stix_objects.specs.Properties.{HasId}
use Rattle.stix_objects.specs.Sound.{IsNamed}
use Rattle.stix_bundles.specs.Lookup.{IsLatest}
use Rattle.hunt_feed.specs.declared.kept.Kept.{Kept}
use Rattle.hunt_feed.specs.declared.version.Version.{Version}
use Rattle.hunt_feed.specs.Indicators.{IsRevokedId, IsCurrent, IsAscending}
use Rattle.hunt_feed.specs.Gathering.{Gathered, indicator_id, known_in, IsKnown, IsKeptOf, IsLatestVersionAs, kept_places, GathersFor}
use Rattle.hunt_feed.specs.inner.Adding.{IsIndicator, IsToKeep, without_pattern, DropsAt, IsOutdated, DropsOutdated, AddsIndicator}
use Rattle.hunt_feed.proofs.GrowingLemmas.{same_some, grown, get_old, get_new, get_cases, current_was}
use Rattle.hunt_feed.proofs.VersionLemmas.{OneId, OneModified, OneMeaning, one_latest, known_beside, known_with}

-- what the laws of the crates below say
pub record Laws : Type 0 where
  pub one_id : OneId
  pub one_modified : OneModified
  pub one_meaning : OneMeaning

-- a fact of all members, at the place of one
pub all_get : {A : Type 0} (P : A → Type 0) (xs : List A) (k : ℕ) (x : A) → All P xs → slice_get xs k ≡ Some x → P x
all_get P xs k x all there = subst P (get_or_from_slice_get xs k x x there) (all k x (slice_get_within xs k x there))

pub get_map : {A B : Type 0} (f : A → B) (xs : List A) (k : ℕ) (y : B) → slice_get (map f xs) k ≡ Some y → (x : A) × (slice_get xs k ≡ Some x) × (Some (f x) ≡ Some y)
get_map f [] k y is = absurd cc
get_map f (x ∷ xs) zero y is = (x, refl, is)
get_map f (x ∷ xs) (suc k) y is = get_map f xs k y is

-- a number after ascending numbers that are less
pub ascending_push : (ns : List ℕ) (n : ℕ) → IsAscending ns → ((k m : ℕ) → slice_get ns k ≡ Some m → m < n) → IsAscending (ns ++ n ∷ [])
ascending_push ns n ascend below j k first second less there also =
    elim (get_cases ns n k second also) [
      | inl before ↦
          let within = slice_get_within ns k second before in
          elim (get_cases ns n j first there) [
            | inl earlier ↦ ascend j k first second less earlier before
            | inr here ↦ absurd (let e = here.0 in omega arith)
          ]
      | inr last ↦
          elim (get_cases ns n j first there) [
            | inl earlier ↦ subst (λ m. first < m) last.1 (below j first earlier)
            | inr here ↦ absurd (let e = here.0 in let f = last.0 in omega arith)
          ]
    ]

count_more : (objects : List Data) (d : Data) (count : ℕ) → count ≡ length objects → count + 1 ≡ length (grown objects d)
count_more objects d count is = let more = length-append objects (d ∷ []) in omega arith

kept_old : (objects : List Data) (d : Data) (kept : Kept) → IsKeptOf objects kept → IsKeptOf (grown objects d) kept
kept_old objects d kept is =
    let within = slice_get_within objects kept.at is.0 is.1 in (
      is.0,
      get_old objects d kept.at is.0 is.1,
      is.2,
      λ dropped id value current. elim (current_was objects d kept.at id value current) [
        | inl before ↦ is.3 dropped id value before
        | inr here ↦ absurd (let e = here.0 in omega arith)
      ],
    )

all_kept_old : (objects : List Data) (d : Data) (kept : List Kept) → All (IsKeptOf objects) kept → All (IsKeptOf (grown objects d)) kept
all_kept_old objects d kept all = λ k x inside. kept_old objects d (slice_index_or kept k x) (all k x inside)

-- an object of another type has no indicator's identifier
pub other_ids : OneId → (d : Data) → IsNamed d → ¬ IsIndicator d → (number : ℕ) → ¬ HasId d (indicator_id number)
other_ids one d named no_indicator number has =
    let own : Id = record { kind = named.type; number = named.number } in
    let has_own : HasId d own = record { text = named.text; there = named.named; reads = named.id } in
    let kind : named.type ≡ codes "indicator" = ap (λ (i : Id). i.kind) (one d own (indicator_id number) has_own has) in
    no_indicator (named.typed ∙ ap Some kind)

-- the same, and one object more
abbrev pub counted : Gathered → Gathered
counted gathered = record { count = gathered.count + 1; kept = gathered.kept; versions = gathered.versions }

-- an object that is no indicator
pub added_other : (gathered : Gathered) (objects : List Data) (d : Data) → ((number : ℕ) → ¬ HasId d (indicator_id number)) → ¬ IsIndicator d
    → GathersFor gathered objects → GathersFor (counted gathered) (grown objects d)
added_other gathered objects d other no_indicator is = record {
  counted = count_more objects d gathered.count is.counted;
  versions = λ number. known_beside objects d (indicator_id number) (known_in gathered.versions number) (other number) (is.versions number);
  kept = all_kept_old objects d gathered.kept is.kept;
  all = λ at id value current. elim (current_was objects d at id value current) [
    | inl before ↦ is.all at id value before
    | inr here ↦ absurd (no_indicator (subst IsIndicator (sym here.1) current.indicator.typed))
  ];
  ascend = is.ascend;
}

not_eqb : (a b : ℕ) → (a ≡ b → ⊥) → (a == b) ≡ false
not_eqb a b different = grind (arith, nat_tests)

-- what is known of the versions of each indicator
added_versions : Laws → (before after : Gathered) (objects : List Data) (d : Data) → (adds : AddsIndicator before after d) → GathersFor before objects
    → (number : ℕ) → IsKnown (grown objects d) (indicator_id number) (known_in adds.put.versions number)
added_versions laws before after objects d adds is other =
    let at_is = adds.at ∙ is.counted in
    let next = known_with laws.one_modified objects d (indicator_id adds.number) (known_in before.versions adds.number) adds.new adds.next
    adds.has adds.version at_is adds.next_is (is.versions adds.number) in
    subst (IsKnown (grown objects d) (indicator_id other)) (sym (adds.puts.versions other))
    (elim (cases_eq adds.number other) [
      | inl same ↦
          subst (λ (b : Bool). IsKnown (grown objects d) (indicator_id other) (cond b (Some adds.next) (known_in before.versions other))) (sym (eq-eqb adds.number other same))
          (subst (λ (n : ℕ). IsLatestVersionAs (grown objects d) (indicator_id n) adds.next) same next)
      | inr different ↦
          subst (λ (b : Bool). IsKnown (grown objects d) (indicator_id other) (cond b (Some adds.next) (known_in before.versions other))) (sym (not_eqb adds.number other different))
          (known_beside objects d (indicator_id other) (known_in before.versions other)
          (λ has. different (ap (λ (i : Id). i.number) (laws.one_id d (indicator_id adds.number) (indicator_id other) adds.has has))) (is.versions other))
    ])

-- each kept indicator is of its object
added_kept : (objects : List Data) (d : Data) (kept : List Kept) (at number : ℕ) (next : Version) (new : Option Kept) → at ≡ length objects
    → IsToKeep d at number next new → All (IsKeptOf objects) kept → All (IsKeptOf (grown objects d)) (kept ++ option_to_list new)
added_kept objects d kept at number next None at_is keeps all =
    subst (All (IsKeptOf (grown objects d))) (sym (append-nil kept)) (all_kept_old objects d kept all)
added_kept objects d kept at number next (Some new) at_is keeps all =
    All-push (IsKeptOf (grown objects d)) kept new (all_kept_old objects d kept all)
    (d, subst (λ n. slice_get (grown objects d) n ≡ Some d) (sym (keeps.1 ∙ at_is)) (get_new objects d), keeps.0, λ dropped. absurd (keeps.2 dropped))

places_push : (kept : List Kept) (new : Kept) → kept_places kept ++ new.at ∷ [] ≡ kept_places (kept ++ new ∷ [])
places_push kept new = sym (map-append (λ (k : Kept). k.at) kept (new ∷ []))

-- the places of kept indicators are those of objects
pub place_within : (objects : List Data) (kept : List Kept) → All (IsKeptOf objects) kept → (k m : ℕ) → slice_get (kept_places kept) k ≡ Some m → m < length objects
place_within objects kept all k m there =
    let found = get_map (λ (x : Kept). x.at) kept k m there in
    let of = all_get (IsKeptOf objects) kept k found.0 all found.1 in
    let within = slice_get_within objects found.0.at of.0 of.1 in
    let same : found.0.at ≡ m = (let e = found.2 in cc) in
    omega arith

added_ascend : (objects : List Data) (d : Data) (kept : List Kept) (at number : ℕ) (next : Version) (new : Option Kept) → at ≡ length objects
    → IsToKeep d at number next new → All (IsKeptOf objects) kept → IsAscending (kept_places kept) → IsAscending (kept_places (kept ++ option_to_list new))
added_ascend objects d kept at number next None at_is keeps all ascend = subst (λ (ks : List Kept). IsAscending (kept_places ks)) (sym (append-nil kept)) ascend
added_ascend objects d kept at number next (Some new) at_is keeps all ascend =
    let end : length objects ≡ new.at = sym at_is ∙ sym keeps.1 in
    subst IsAscending (places_push kept new)
    (ascending_push (kept_places kept) new.at ascend (λ k m there. subst (λ n. m < n) end (place_within objects kept all k m there)))

-- a current indicator that is the new object is kept
added_here : Laws → (objects : List Data) (d : Data) (kept : List Kept) (at number : ℕ) (next : Version) (new : Option Kept) → at ≡ length objects
    → IsToKeep d at number next new → HasId d (indicator_id number) → IsLatestVersionAs (grown objects d) (indicator_id number) next
    → (id : Id) → IsCurrent (grown objects d) at id d → Contains (kept_places (kept ++ option_to_list new)) at
added_here laws objects d kept at number next None at_is keeps has version id current =
    let same : id ≡ indicator_id number = laws.one_id d id (indicator_id number) current.has has in
    let here : next.at ≡ at = one_latest laws.one_meaning (grown objects d) id next.at at
    (subst (λ (i : Id). IsLatest (grown objects d) i next.at) (sym same) version.latest) current.latest in
    absurd (keeps (here, (λ revoked. current.not_revoked (subst (IsRevokedId (grown objects d)) (sym same) (version.revoked.0 revoked))), current.indicator))
added_here laws objects d kept at number next (Some new) at_is keeps has version id current =
    subst (Contains (kept_places (kept ++ new ∷ []))) keeps.1
    (subst (λ (ns : List ℕ). Contains ns new.at) (places_push kept new) (Contains-push (kept_places kept) new.at))

more_places : (kept : List Kept) (new : Option Kept) (at : ℕ) → Contains (kept_places kept) at → Contains (kept_places (kept ++ option_to_list new)) at
more_places kept new at has =
    subst (λ (ns : List ℕ). Contains ns at) (sym (map-append (λ (k : Kept). k.at) kept (option_to_list new)))
    (Contains-append_left (kept_places kept) (kept_places (option_to_list new)) at has)

-- an indicator that is put
added_put : Laws → (before after : Gathered) (objects : List Data) (d : Data) → (adds : AddsIndicator before after d) → GathersFor before objects
    → GathersFor (counted adds.put) (grown objects d)
added_put laws before after objects d adds is =
    let at_is = is.counted in
    let versions = added_versions laws before after objects d adds is in
    let known = known_with laws.one_modified objects d (indicator_id adds.number) (known_in before.versions adds.number) adds.new adds.next
    adds.has adds.version (adds.at ∙ is.counted) adds.next_is (is.versions adds.number) in
    record {
      counted = count_more objects d adds.put.count (adds.puts.count ∙ is.counted);
      versions = versions;
      kept = subst (All (IsKeptOf (grown objects d))) (sym adds.puts.kept_are)
          (added_kept objects d before.kept before.count adds.number adds.next adds.kept at_is adds.to_keep is.kept);
      all = λ at id value current.
          subst (λ (ks : List Kept). Contains (kept_places ks) at) (sym adds.puts.kept_are)
          (elim (current_was objects d at id value current) [
            | inl old ↦ more_places before.kept adds.kept at (is.all at id value old)
            | inr here ↦
                let place : at ≡ before.count = here.0 ∙ sym is.counted in
                subst (Contains (kept_places (before.kept ++ option_to_list adds.kept))) (sym place)
                (added_here laws objects d before.kept before.count adds.number adds.next adds.kept at_is adds.to_keep adds.has known id
                (subst (λ n. IsCurrent (grown objects d) n id d) place (subst (IsCurrent (grown objects d) at id) (sym here.1) current)))
          ]);
      ascend = subst (λ (ks : List Kept). IsAscending (kept_places ks)) (sym adds.puts.kept_are)
          (added_ascend objects d before.kept before.count adds.number adds.next adds.kept at_is adds.to_keep is.kept is.ascend);
    }

-- ---- a pattern that is dropped

-- the positions stay
places_set : (kept : List Kept) (place : ℕ) (old : Kept) → slice_get kept place ≡ Some old → kept_places (slice_set kept place (without_pattern old)) ≡ kept_places kept
places_set [] place old is = absurd cc
places_set (k ∷ ks) zero old is = ap (λ (x : Kept). x.at ∷ kept_places ks) (same_some old k (sym is))
places_set (k ∷ ks) (suc place) old is = ap (λ (ns : List ℕ). k.at ∷ ns) (places_set ks place old is)

all_cons : (P : Kept → Type 0) (kept : Kept) (rest : List Kept) → P kept → All P rest → All P (kept ∷ rest)
all_cons P kept rest is all zero x inside = is
all_cons P kept rest is all (suc k) x inside = all k x (omega arith)

all_rest : (P : Kept → Type 0) (kept : Kept) (rest : List Kept) → All P (kept ∷ rest) → All P rest
all_rest P kept rest all k x inside = all (suc k) x (omega arith)

all_set : (P : Kept → Type 0) (kept : List Kept) (place : ℕ) (new : Kept) → P new → All P kept → All P (slice_set kept place new)
all_set P [] place new is all = all
all_set P (k ∷ ks) zero new is all = all_cons P new ks is (all_rest P k ks all)
all_set P (k ∷ ks) (suc place) new is all = all_cons P k (slice_set ks place new) (all zero k (omega arith)) (all_set P ks place new is (all_rest P k ks all))

dropped_at : (objects : List Data) (at : ℕ) (before after : List Kept) → ((id : Id) (value : Data) → ¬ IsCurrent objects at id value) → DropsAt at before after
    → All (IsKeptOf objects) before → All (IsKeptOf objects) after × (kept_places after ≡ kept_places before)
dropped_at objects at before after not (inl same) all = (subst (All (IsKeptOf objects)) (sym same) all, ap kept_places same)
dropped_at objects at before after not (inr (place, kept, there, at_is, are)) all =
    let of = all_get (IsKeptOf objects) before place kept all there in
    let new : IsKeptOf objects (without_pattern kept) = (
      of.0,
      of.1,
      record { has = of.2.has; indicator = of.2.indicator; created = of.2.created; from = of.2.from; until = of.2.until; told = tt },
      λ dropped id value current. not id value (subst (λ n. IsCurrent objects n id value) at_is current),
    ) in (
      subst (All (IsKeptOf objects)) (sym are) (all_set (IsKeptOf objects) before place (without_pattern kept) new all),
      ap kept_places are ∙ places_set before place kept there,
    )

-- what isn't the latest version any more, or has a revoked version, isn't current
outdated : Laws → (objects : List Data) (d : Data) (number : ℕ) (known next : Version) → IsLatestVersionAs objects (indicator_id number) known
    → IsLatestVersionAs (grown objects d) (indicator_id number) next → IsOutdated known next → (id : Id) (value : Data) → ¬ IsCurrent (grown objects d) known.at id value
outdated laws objects d number known next was is how id value current =
    let version = was.latest.version in
    let same : version.object ≡ value = same_some version.object value (sym (get_old objects d known.at version.object version.there) ∙ current.there) in
    let id_is : id ≡ indicator_id number = laws.one_id value id (indicator_id number) current.has (subst (λ (v : Data). HasId v (indicator_id number)) same version.has) in
    elim how [
      | inl later ↦ later (one_latest laws.one_meaning (grown objects d) (indicator_id number) next.at known.at is.latest
          (subst (λ (i : Id). IsLatest (grown objects d) i known.at) id_is current.latest))
      | inr revoked ↦ current.not_revoked (subst (IsRevokedId (grown objects d)) (sym id_is) (is.revoked.0 revoked))
    ]

-- an indicator
pub added_indicator : Laws → (before after : Gathered) (objects : List Data) (d : Data) → AddsIndicator before after d → GathersFor before objects
    → GathersFor (counted after) (grown objects d)
added_indicator laws before after objects d adds is =
    let put = added_put laws before after objects d adds is in
    elim adds.drops [
      | inl same ↦ subst (λ (g : Gathered). GathersFor (counted g) (grown objects d)) (sym same) put
      | inr drops ↦
          let next = known_with laws.one_modified objects d (indicator_id adds.number) (known_in before.versions adds.number) adds.new adds.next
          adds.has adds.version (adds.at ∙ is.counted) adds.next_is (is.versions adds.number) in
          let was : IsLatestVersionAs objects (indicator_id adds.number) drops.0 = subst (IsKnown objects (indicator_id adds.number)) drops.1 (is.versions adds.number) in
          let kept = dropped_at (grown objects d) drops.0.at adds.put.kept after.kept
          (outdated laws objects d adds.number drops.0 adds.next was next drops.2) drops.5 put.kept in
          record {
            counted = ap (λ n. n + 1) drops.3 ∙ put.counted;
            versions = λ number. subst (λ (vs : List (ℕ × Version)). IsKnown (grown objects d) (indicator_id number) (known_in vs number)) (sym drops.4) (put.versions number);
            kept = kept.0;
            all = λ at id value current. subst (λ (ns : List ℕ). Contains ns at) (sym kept.1) (put.all at id value current);
            ascend = subst IsAscending (sym kept.1) put.ascend;
          }
    ]
