-- The hunt among the kept indicators, one after another.
use Rattle.std.proofs.Common.{◌≡◌, ◌⊎◌, inl, inr, ℕ, ◌<◌, ℤ, ◌<ℤ◌, ◌≤ℤ◌, List, [], ◌∷◌, ◌++◌, length, map, slice_get, slice_index_or, All, Option, Some, None, codes, refl, sym, ap, subst, ◌∙◌}
use Rattle.std.specs.Prelude.{Contains, IfSome}
use Rattle.std.proofs.lemmas.List.{map-append}
use Rattle.std.proofs.lemmas.List.Elements.{All-push, Contains-append_left, Contains-push, Contains-push_cases}
use Rattle.std.proofs.lemmas.Option.{slice_get-get_or}
use Rattle.flow_values.specs.Answers.{FindsExactly}
use Rattle.serde_json.specs.Data.{Data}
use Rattle.stix_ids.specs.declared.id.Id.{Id}
use Rattle.stix_objects.specs.declared.form.Precision.{Precision}
use Rattle.stix_objects.specs.declared.form.Precision.TheVariants.{Any, Millis}
use Rattle.stix_objects.specs.Properties.{IsTimestampAt, HasId}
use Rattle.stix_bundles.specs.Lookup.{IsLatest}
use Rattle.hunt_feed.specs.declared.hunted.Hunted.{Hunted}
use Rattle.hunt_feed.specs.declared.hunted.Skipped.{Skipped}
use Rattle.hunt_feed.specs.declared.hunted.Hunt.{Hunt}
use Rattle.pattern_types.specs.declared.pattern.Pattern.{Pattern}
use Rattle.pattern_reader.specs.declared.pattern_refusal.PatternRefusal.{PatternRefusal}
use Rattle.pattern_reader.specs.Read.{IsReadAs, IsRefusedAs}
use Rattle.stix_json.specs.Properties.{property_text}
use Rattle.hunt_feed.specs.declared.kept.Kept.{Kept}
use Rattle.hunt_feed.specs.declared.kept.KeptPattern.{KeptPattern}
use Rattle.hunt_feed.specs.declared.kept.KeptPattern.TheVariants.{Unread, TooLong, Dropped}
use Rattle.hunt_feed.specs.declared.version.Version.{Version}
use Rattle.hunt_feed.specs.Indicators.{IsRevokedId, IsValidAt, IsCandidate, IsHunted, IsSkippedIndicator, IsAscending, hunted_places, skipped_places, IsHuntOf}
use Rattle.hunt_feed.specs.Gathering.{Gathered, indicator_id, known_in, IsKnown, IsLatestVersionAs, IsToldAs, IsKeptOf, kept_places, GathersFor}
use Rattle.hunt_feed.specs.inner.Hunting.{IsLast, IsValidIndicator, IsKeptReadAs, IsKeptRefusedAs, IsReadOf, IsRefusedOf, IsClassified, IsHuntAmong}
use Rattle.hunt_feed.proofs.GrowingLemmas.{same_some, get_old, get_new, get_front}
use Rattle.hunt_feed.proofs.VersionLemmas.{OneId, OneMeaning, one_latest}
use Rattle.hunt_feed.proofs.AddingLemmas.{all_get, ascending_push}

-- what the laws of the crates below say
pub record Laws : Type 0 where
  pub one_id : OneId
  pub one_meaning : OneMeaning
  pub one_timestamp : (precision : Precision) (name : List ℕ) (value : Data) (first second : ℤ) → IsTimestampAt precision name value first
      → IsTimestampAt precision name value second → first ≡ second

pub whole_hunt : (gathered : Gathered) (objects : List Data) (moment : ℤ) (hunt : Hunt) → GathersFor gathered objects
    → IsHuntAmong objects moment gathered.kept hunt → IsHuntOf objects moment hunt
whole_hunt gathered objects moment hunt gathers among = record {
  hunted = among.hunted;
  skipped = among.skipped;
  all = λ at id value candidate. among.all at id value candidate (gathers.all at id value candidate.current);
  hunted_ascend = among.hunted_ascend;
  skipped_ascend = among.skipped_ascend;
}

-- a kept indicator that passes the tests is a candidate
valid_until : Laws → (d : Data) (moment : ℤ) (told : Option ℤ) → FindsExactly (IsTimestampAt Any (codes "valid_until") d) told → IfSome told (λ until. moment <ℤ until)
    → (until : ℤ) → IsTimestampAt Any (codes "valid_until") d until → moment <ℤ until
valid_until laws d moment None none later until is = absurd (none until is)
valid_until laws d moment (Some told) found later until is =
    subst (λ z. moment <ℤ z) (laws.one_timestamp Any (codes "valid_until") d told until found is) later

last_as : (gathered : Gathered) (objects : List Data) (kept : Kept) → GathersFor gathered objects → (last : IsLast gathered.versions kept)
    → IsLatestVersionAs objects (indicator_id kept.number) last.0
last_as gathered objects kept gathers last = subst (IsKnown objects (indicator_id kept.number)) last.1 (gathers.versions kept.number)

pub candidate_of : Laws → (gathered : Gathered) (objects : List Data) (moment : ℤ) (kept : Kept) → GathersFor gathered objects → (of : IsKeptOf objects kept)
    → IsLast gathered.versions kept → IsValidIndicator moment kept → IsCandidate objects moment kept.at (indicator_id kept.number) of.0
candidate_of laws gathered objects moment kept gathers of last valid =
    let version = last_as gathered objects kept gathers last in
    record {
      current = record {
        there = of.1;
        has = of.2.has;
        indicator = of.2.indicator;
        latest = subst (IsLatest objects (indicator_id kept.number)) last.2 version.latest;
        not_revoked = λ revoked. last.3 (version.revoked.1 revoked);
      };
      valid = record {
        from = kept.from;
        begins = of.2.from;
        begun = valid.0;
        lasts = valid_until laws of.0 moment kept.until of.2.until valid.1;
      };
    }

-- and only such a one is
last_of : Laws → (objects : List Data) (moment : ℤ) (kept : Kept) (versions : List (ℕ × Version)) (known : Option Version) → known_in versions kept.number ≡ known
    → IsKnown objects (indicator_id kept.number) known → (id : Id) (value : Data) → id ≡ indicator_id kept.number → IsCandidate objects moment kept.at id value
    → IsLast versions kept
last_of laws objects moment kept versions None is none id value same candidate =
    absurd (none kept.at (record {
      object = value;
      there = candidate.current.there;
      has = subst (HasId value) same candidate.current.has;
    }))
last_of laws objects moment kept versions (Some version) is known id value same candidate =
    let latest = subst (λ (i : Id). IsLatest objects i kept.at) same candidate.current.latest in (
      version,
      is,
      one_latest laws.one_meaning objects (indicator_id kept.number) version.at kept.at known.latest latest,
      λ revoked. candidate.current.not_revoked (subst (IsRevokedId objects) (sym same) (known.revoked.0 revoked)),
    )

valid_in : (d : Data) (moment : ℤ) (told : Option ℤ) → FindsExactly (IsTimestampAt Any (codes "valid_until") d) told
    → ((until : ℤ) → IsTimestampAt Any (codes "valid_until") d until → moment <ℤ until) → IfSome told (λ until. moment <ℤ until)
valid_in d moment None none lasts = tt
valid_in d moment (Some told) found lasts = lasts told found

pub tests_of : Laws → (gathered : Gathered) (objects : List Data) (moment : ℤ) (kept : Kept) → GathersFor gathered objects → IsKeptOf objects kept
    → (id : Id) (value : Data) → IsCandidate objects moment kept.at id value → IsLast gathered.versions kept × IsValidIndicator moment kept
tests_of laws gathered objects moment kept gathers of id value candidate =
    let same : value ≡ of.0 = same_some value of.0 (sym candidate.current.there ∙ of.1) in
    let has : HasId of.0 id = subst (λ (d : Data). HasId d id) same candidate.current.has in
    let id_is = laws.one_id of.0 id (indicator_id kept.number) has of.2.has in
    let valid = subst (IsValidAt moment) same candidate.valid in
    let from_is = laws.one_timestamp Any (codes "valid_from") of.0 valid.from kept.from valid.begins of.2.from in (
      last_of laws objects moment kept gathered.versions (known_in gathered.versions kept.number) refl (gathers.versions kept.number) id value id_is candidate,
      (subst (λ z. z ≤ℤ moment) from_is valid.begun, valid_in of.0 moment kept.until of.2.until valid.lasts),
    )

places_push : (seen : List Kept) (kept : Kept) → kept_places (seen ++ kept ∷ []) ≡ kept_places seen ++ kept.at ∷ []
places_push seen kept = map-append (λ (k : Kept). k.at) seen (kept ∷ [])

-- a place among the indicators that were seen is one of those before, or the last one's
seen_cases : (seen : List Kept) (kept : Kept) (at : ℕ) → Contains (kept_places (seen ++ kept ∷ [])) at → Contains (kept_places seen) at ⊎ (kept.at ≡ at)
seen_cases seen kept at has = Contains-push_cases (kept_places seen) kept.at at (subst (λ (ns : List ℕ). Contains ns at) (places_push seen kept) has)

seen_more : (seen : List Kept) (kept : Kept) (at : ℕ) → Contains (kept_places seen) at → Contains (kept_places (seen ++ kept ∷ [])) at
seen_more seen kept at has = subst (λ (ns : List ℕ). Contains ns at) (sym (places_push seen kept)) (Contains-append_left (kept_places seen) (kept.at ∷ []) at has)

seen_last : (seen : List Kept) (kept : Kept) → Contains (kept_places (seen ++ kept ∷ [])) kept.at
seen_last seen kept = subst (λ (ns : List ℕ). Contains ns kept.at) (sym (places_push seen kept)) (Contains-push (kept_places seen) kept.at)

all_seen_more : (seen : List Kept) (kept : Kept) (places : List ℕ) → All (Contains (kept_places seen)) places → All (Contains (kept_places (seen ++ kept ∷ []))) places
all_seen_more seen kept places all = λ k x inside. seen_more seen kept (slice_index_or places k x) (all k x inside)

-- one that isn't a candidate
pub hunt_passed : Laws → (gathered : Gathered) (objects : List Data) (moment : ℤ) (seen : List Kept) (kept : Kept) (hunt : Hunt) → GathersFor gathered objects
    → IsKeptOf objects kept → ¬ (IsLast gathered.versions kept × IsValidIndicator moment kept) → IsHuntAmong objects moment seen hunt
    → IsHuntAmong objects moment (seen ++ kept ∷ []) hunt
hunt_passed laws gathered objects moment seen kept hunt gathers of not among = record {
  hunted = among.hunted;
  skipped = among.skipped;
  all = λ at id value candidate has. elim (seen_cases seen kept at has) [
    | inl before ↦ among.all at id value candidate before
    | inr here ↦ absurd (not (tests_of laws gathered objects moment kept gathers of id value
        (subst (λ n. IsCandidate objects moment n id value) (sym here) candidate)))
  ];
  hunted_ascend = among.hunted_ascend;
  skipped_ascend = among.skipped_ascend;
  hunted_seen = all_seen_more seen kept (hunted_places hunt) among.hunted_seen;
  skipped_seen = all_seen_more seen kept (skipped_places hunt) among.skipped_seen;
}

-- the next one is of an object too
pub next_of : (gathered : Gathered) (objects : List Data) (seen rest : List Kept) (kept : Kept) → GathersFor gathered objects → gathered.kept ≡ (seen ++ kept ∷ []) ++ rest
    → IsKeptOf objects kept
next_of gathered objects seen rest kept gathers are =
    all_get (IsKeptOf objects) gathered.kept (length seen) kept gathers.kept
    (ap (λ (ks : List Kept). slice_get ks (length seen)) are ∙ get_front (seen ++ kept ∷ []) rest (length seen) kept (get_new seen kept))

-- the places before are less than that of the next indicator
less_than_next : (gathered : Gathered) (objects : List Data) (seen rest : List Kept) (kept : Kept) → GathersFor gathered objects → gathered.kept ≡ (seen ++ kept ∷ []) ++ rest
    → (places : List ℕ) → All (Contains (kept_places seen)) places → (k m : ℕ) → slice_get places k ≡ Some m → m < kept.at
less_than_next gathered objects seen rest kept gathers are places all k m there =
    let found = all_get (Contains (kept_places seen)) places k m all there in
    let whole : kept_places gathered.kept ≡ (kept_places seen ++ kept.at ∷ []) ++ kept_places rest =
    ap kept_places are ∙ map-append (λ (x : Kept). x.at) (seen ++ kept ∷ []) rest ∙ ap (λ (ns : List ℕ). ns ++ kept_places rest) (places_push seen kept) in
    let ascend = subst IsAscending whole gathers.ascend in
    let first : slice_get (kept_places seen) found.0 ≡ Some m = slice_get-get_or (kept_places seen) found.0 m found.1 ∙ ap Some found.2 in
    ascend found.0 (length (kept_places seen)) m kept.at found.1
    (get_front (kept_places seen ++ kept.at ∷ []) (kept_places rest) found.0 m (get_old (kept_places seen) kept.at found.0 m first))
    (get_front (kept_places seen ++ kept.at ∷ []) (kept_places rest) (length (kept_places seen)) kept.at (get_new (kept_places seen) kept.at))

-- the text of a pattern that was read, and of one that was refused
read_text : (d : Data) (kept : KeptPattern) (pattern : Pattern) → IsToldAs d kept → IsKeptReadAs kept pattern
    → (text : List ℕ) × (property_text (codes "pattern") d ≡ Some text) × IsReadAs text pattern
read_text d (Unread text) pattern told is = (text, told, is)
read_text d TooLong pattern told is = absurd is
read_text d Dropped pattern told is = absurd is

refused_text : (d : Data) (kept : KeptPattern) (refusal : PatternRefusal) → IsToldAs d kept → IsKeptRefusedAs kept refusal
    → (text : List ℕ) × (property_text (codes "pattern") d ≡ Some text) × IsRefusedAs text refusal
refused_text d (Unread text) refusal told is = (text, told, is)
refused_text d TooLong refusal told is = (told.0, told.1, subst (IsRefusedAs told.0) (sym is) told.2)
refused_text d Dropped refusal told is = absurd is

hunted_as : (objects : List Data) (moment : ℤ) (kept : Kept) (of : IsKeptOf objects kept) → IsCandidate objects moment kept.at (indicator_id kept.number) of.0
    → (hunted : Hunted) → IsReadOf kept hunted → IsHunted objects moment hunted
hunted_as objects moment kept of candidate hunted is = let text = read_text of.0 kept.pattern hunted.pattern of.2.told is.read in record {
  object = of.0;
  candidate = subst (λ n. IsCandidate objects moment n hunted.id of.0) (sym is.at) (subst (λ (i : Id). IsCandidate objects moment kept.at i of.0) (sym is.id) candidate);
  created = subst (IsTimestampAt Millis (codes "created") of.0) (sym is.created) of.2.created;
  text = text.0;
  told = text.1;
  read = text.2;
}

skipped_as : (objects : List Data) (moment : ℤ) (kept : Kept) (of : IsKeptOf objects kept) → IsCandidate objects moment kept.at (indicator_id kept.number) of.0
    → (skipped : Skipped) → IsRefusedOf kept skipped → IsSkippedIndicator objects moment skipped
skipped_as objects moment kept of candidate skipped is = let text = refused_text of.0 kept.pattern skipped.refusal of.2.told is.refused in record {
  object = of.0;
  candidate = subst (λ n. IsCandidate objects moment n skipped.id of.0) (sym is.at) (subst (λ (i : Id). IsCandidate objects moment kept.at i of.0) (sym is.id) candidate);
  text = text.0;
  told = text.1;
  refused = text.2;
}

abbrev hunted_at : Hunted → ℕ
hunted_at h = h.at

abbrev skipped_at : Skipped → ℕ
skipped_at s = s.at

-- one that is hunted
hunt_hunted : (gathered : Gathered) (objects : List Data) (moment : ℤ) (seen rest : List Kept) (kept : Kept) (hs : List Hunted) (ss : List Skipped) (new : Hunted)
    → GathersFor gathered objects → gathered.kept ≡ (seen ++ kept ∷ []) ++ rest → IsHunted objects moment new → new.at ≡ kept.at
    → IsHuntAmong objects moment seen (record { hunted = hs; skipped = ss }) → IsHuntAmong objects moment (seen ++ kept ∷ []) (record { hunted = hs ++ new ∷ []; skipped = ss })
hunt_hunted gathered objects moment seen rest kept hs ss new gathers are is at_is among =
    let places : map hunted_at (hs ++ new ∷ []) ≡ map hunted_at hs ++ new.at ∷ [] = map-append hunted_at hs (new ∷ []) in
    record {
      hunted = All-push (IsHunted objects moment) hs new among.hunted is;
      skipped = among.skipped;
      all = λ at id value candidate has.
          subst (λ (ns : List ℕ). Contains ns at ⊎ Contains (map skipped_at ss) at) (sym places)
          (elim (seen_cases seen kept at has) [
            | inl before ↦ elim (among.all at id value candidate before) [
              | inl hunted ↦ inl (Contains-append_left (map hunted_at hs) (new.at ∷ []) at hunted)
              | inr skipped ↦ inr skipped
            ]
            | inr here ↦ inl (subst (Contains (map hunted_at hs ++ new.at ∷ [])) (at_is ∙ here) (Contains-push (map hunted_at hs) new.at))
          ]);
      hunted_ascend = subst IsAscending (sym places)
          (ascending_push (map hunted_at hs) new.at among.hunted_ascend
          (λ k m there. subst (λ n. m < n) (sym at_is) (less_than_next gathered objects seen rest kept gathers are (map hunted_at hs) among.hunted_seen k m there)));
      skipped_ascend = among.skipped_ascend;
      hunted_seen = subst (All (Contains (kept_places (seen ++ kept ∷ [])))) (sym places)
          (All-push (Contains (kept_places (seen ++ kept ∷ []))) (map hunted_at hs) new.at (all_seen_more seen kept (map hunted_at hs) among.hunted_seen)
          (subst (Contains (kept_places (seen ++ kept ∷ []))) (sym at_is) (seen_last seen kept)));
      skipped_seen = all_seen_more seen kept (map skipped_at ss) among.skipped_seen;
    }

-- one that is skipped
hunt_skipped : (gathered : Gathered) (objects : List Data) (moment : ℤ) (seen rest : List Kept) (kept : Kept) (hs : List Hunted) (ss : List Skipped) (new : Skipped)
    → GathersFor gathered objects → gathered.kept ≡ (seen ++ kept ∷ []) ++ rest → IsSkippedIndicator objects moment new → new.at ≡ kept.at
    → IsHuntAmong objects moment seen (record { hunted = hs; skipped = ss }) → IsHuntAmong objects moment (seen ++ kept ∷ []) (record { hunted = hs; skipped = ss ++ new ∷ [] })
hunt_skipped gathered objects moment seen rest kept hs ss new gathers are is at_is among =
    let places : map skipped_at (ss ++ new ∷ []) ≡ map skipped_at ss ++ new.at ∷ [] = map-append skipped_at ss (new ∷ []) in
    record {
      hunted = among.hunted;
      skipped = All-push (IsSkippedIndicator objects moment) ss new among.skipped is;
      all = λ at id value candidate has.
          subst (λ (ns : List ℕ). Contains (map hunted_at hs) at ⊎ Contains ns at) (sym places)
          (elim (seen_cases seen kept at has) [
            | inl before ↦ elim (among.all at id value candidate before) [
              | inl hunted ↦ inl hunted
              | inr skipped ↦ inr (Contains-append_left (map skipped_at ss) (new.at ∷ []) at skipped)
            ]
            | inr here ↦ inr (subst (Contains (map skipped_at ss ++ new.at ∷ [])) (at_is ∙ here) (Contains-push (map skipped_at ss) new.at))
          ]);
      hunted_ascend = among.hunted_ascend;
      skipped_ascend = subst IsAscending (sym places)
          (ascending_push (map skipped_at ss) new.at among.skipped_ascend
          (λ k m there. subst (λ n. m < n) (sym at_is) (less_than_next gathered objects seen rest kept gathers are (map skipped_at ss) among.skipped_seen k m there)));
      hunted_seen = all_seen_more seen kept (map hunted_at hs) among.hunted_seen;
      skipped_seen = subst (All (Contains (kept_places (seen ++ kept ∷ [])))) (sym places)
          (All-push (Contains (kept_places (seen ++ kept ∷ []))) (map skipped_at ss) new.at (all_seen_more seen kept (map skipped_at ss) among.skipped_seen)
          (subst (Contains (kept_places (seen ++ kept ∷ []))) (sym at_is) (seen_last seen kept)));
    }

same_hunt : (objects : List Data) (moment : ℤ) (seen : List Kept) (hs : List Hunted) (ss : List Skipped) (hunt : Hunt) → hunt.hunted ≡ hs → hunt.skipped ≡ ss
    → IsHuntAmong objects moment seen (record { hunted = hs; skipped = ss }) → IsHuntAmong objects moment seen hunt
same_hunt objects moment seen hs ss hunt hunted_are skipped_are among =
    subst (λ (xs : List Hunted). IsHuntAmong objects moment seen (record { hunted = xs; skipped = hunt.skipped })) (sym hunted_are)
    (subst (λ (xs : List Skipped). IsHuntAmong objects moment seen (record { hunted = hs; skipped = xs })) (sym skipped_are) among)

-- a candidate
pub hunt_judged : Laws → (gathered : Gathered) (objects : List Data) (moment : ℤ) (seen rest : List Kept) (kept : Kept) (before after : Hunt)
    → GathersFor gathered objects → gathered.kept ≡ (seen ++ kept ∷ []) ++ rest → IsKeptOf objects kept → IsLast gathered.versions kept → IsValidIndicator moment kept
    → IsClassified kept before after → IsHuntAmong objects moment seen before → IsHuntAmong objects moment (seen ++ kept ∷ []) after
hunt_judged laws gathered objects moment seen rest kept before after gathers are of last valid (inl hunted) among =
    let candidate = candidate_of laws gathered objects moment kept gathers of last valid in
    same_hunt objects moment (seen ++ kept ∷ []) (before.hunted ++ hunted.0 ∷ []) before.skipped after hunted.2 hunted.3
    (hunt_hunted gathered objects moment seen rest kept before.hunted before.skipped hunted.0 gathers are
    (hunted_as objects moment kept of candidate hunted.0 hunted.1) hunted.1.at among)
hunt_judged laws gathered objects moment seen rest kept before after gathers are of last valid (inr (inr dropped)) among =
    let candidate = candidate_of laws gathered objects moment kept gathers of last valid in
    absurd (of.3 dropped.0 (indicator_id kept.number) of.0 candidate.current)
hunt_judged laws gathered objects moment seen rest kept before after gathers are of last valid (inr (inl skipped)) among =
    let candidate = candidate_of laws gathered objects moment kept gathers of last valid in
    same_hunt objects moment (seen ++ kept ∷ []) before.hunted (before.skipped ++ skipped.0 ∷ []) after skipped.2 skipped.3
    (hunt_skipped gathered objects moment seen rest kept before.hunted before.skipped skipped.0 gathers are
    (skipped_as objects moment kept of candidate skipped.0 skipped.1) skipped.1.at among)
