-- The places that a finder finds.
use Rattle.std.proofs.Common.{arith, ◌≡◌, ◌↔◌, inl, inr, ℕ, ◌<◌, List, [], ◌∷◌, ◌++◌, length, map, get_or, Some, slice_get, sym, subst}
use Rattle.std.specs.Prelude.{Contains}
use Rattle.std.specs.List.Sorted.{IsStrictlyIncreasing}
use Rattle.std.proofs.lemmas.List.{length-map}
use Rattle.std.proofs.lemmas.List.Elements.{All-contains, Contains-append_left, Contains-append_right, Contains-append_cases, Contains-get_or, Contains-push}
use Rattle.serde_json.specs.Data.{Data}
use Rattle.pattern_types.specs.declared.leaf.Leaf.{Leaf}
use Rattle.pattern_types.specs.PlainLeaf.{PlainLeaf, plain_leaf}
use Rattle.match_comparisons.specs.Tests.{LeafHolds}
use Rattle.match_comparisons.proofs.ContainsLemmas.{in_more}
use Rattle.hunt_index.specs.declared.paths.Lookup.{Lookup}
use Rattle.hunt_index.specs.declared.finder.Finder.{Finder}
use Rattle.hunt_index.specs.inner.Indexed.{IsFoundBracket, IsEntryOf, IsOpenOf, IsFinderOf}
use Rattle.hunt_index.specs.inner.Finding.{AreAlike, AreAsked, AreSeen, FindsPlaces, IsPlaceOf, AddsFound}
use Rattle.hunt_index.specs.Candidates.{AreCandidates}
use Rattle.hunt_index.specs.Definite.{IsDefinite}
use Rattle.hunt_index.proofs.LookupLemmas.{seen_alike}
use Rattle.hunt_index.proofs.ListLemmas.{in_map, from_map, item_of_map}

abbrev pub place_of : Lookup × ℕ → ℕ
place_of entry = entry.1

pub found_none : (entries : List (Lookup × ℕ)) (old : List ℕ) → AddsFound entries [] old old
found_none entries old = record {
  kept = λ bracket has. has;
  found = λ lookup own bracket has alike there. absurd (omega (arith, has.1));
  only = λ bracket has. inl has;
}

module _ (entries : List (Lookup × ℕ)) (lookups : List Lookup) (lookup : Lookup) (old mid new : List ℕ) (part : List (Lookup × ℕ))
    (adds : AddsFound entries lookups old mid) (all : (own : Lookup) (bracket : ℕ) → AreAlike own lookup → Contains entries (own, bracket) → Contains part (own, bracket))
    (only : (entry : Lookup × ℕ) → Contains part entry → Contains entries entry) (keyed : (entry : Lookup × ℕ) → Contains part entry → AreAlike entry.0 lookup) (is : new ≡ mid ++ map place_of part) where
  still : (bracket : ℕ) → Contains mid bracket → Contains new bracket
  still bracket has = subst (λ (l : List ℕ). Contains l bracket) (sym is) (Contains-append_left mid (map place_of part) bracket has)

  now_found : (own : Lookup) (bracket : ℕ) → Contains part (own, bracket) → Contains new bracket
  now_found own bracket has =
      subst (λ (l : List ℕ). Contains l bracket) (sym is) (Contains-append_right mid (map place_of part) bracket (in_map place_of part (own, bracket) has))

  from_part : (bracket : ℕ) → Contains (map place_of part) bracket → IsPlaceOf entries (lookups ++ lookup ∷ []) bracket
  from_part bracket has =
      let from = from_map place_of part bracket has in
      record {
        lookup = lookup;
        among = Contains-push lookups lookup;
        own = from.0.0;
        alike = keyed from.0 from.1;
        entered = subst (λ (n : ℕ). Contains entries (from.0.0, n)) from.2 (only from.0 from.1);
      }

  still_of : (bracket : ℕ) → IsPlaceOf entries lookups bracket → IsPlaceOf entries (lookups ++ lookup ∷ []) bracket
  still_of bracket own = record {
    lookup = own.lookup;
    among = Contains-append_left lookups (lookup ∷ []) own.lookup own.among;
    own = own.own;
    alike = own.alike;
    entered = own.entered;
  }

  -- the entries of one look-up more
  pub found_next : AddsFound entries (lookups ++ lookup ∷ []) old new
  found_next = record {
    kept = λ bracket has. still bracket (adds.kept bracket has);
    found = λ other own bracket has alike there. elim ((in_more lookups lookup other).0 has) [
      | inl before ↦ still bracket (adds.found other own bracket before alike there)
      | inr now ↦ now_found own bracket (all own bracket (subst (λ (l : Lookup). AreAlike own l) now alike) there)
    ];
    only = λ bracket has. elim (Contains-append_cases mid (map place_of part) bracket (subst (λ (l : List ℕ). Contains l bracket) is has)) [
      | inl before ↦ elim (adds.only bracket before) [
        | inl first ↦ inl first
        | inr own ↦ inr (still_of bracket own)
      ]
      | inr now ↦ inr (from_part bracket now)
    ];
  }

-- what is looked up for the roots finds what they lead to
pub finds_places : (finder : Finder) (objects : List Data) (roots : List ℕ) (lookups : List Lookup) (old new : List ℕ) → old ≡ finder.unindexed.items
    → AreAsked finder objects roots lookups → AreSeen finder.paths.items objects roots lookups → AddsFound finder.brackets_found.entries.items lookups old new
    → FindsPlaces finder objects roots new
finds_places finder objects roots lookups old new is asked seen adds = record {
  unindexed = λ bracket has. adds.kept bracket (subst (λ (l : List ℕ). Contains l bracket) (sym is) has);
  led = λ bracket root has led.
      let looked = asked root has led.lookup led.leads in
      adds.found looked.found led.lookup bracket looked.among looked.alike led.entered;
  only = λ bracket has. elim (adds.only bracket has) [
    | inl before ↦ inl (subst (λ (l : List ℕ). Contains l bracket) is before)
    | inr now ↦
        let by = seen now.lookup now.among in
        inr (record { lookup = now.own; seen = (by.0, by.1, seen_alike finder.paths.items objects by.0 now.own now.lookup now.alike by.2); entered = now.entered })
  ];
}

module _ (brackets : List Leaf) (finder : Finder) (objects : List Data) (roots own brackets_found result : List ℕ) (finds : IsFinderOf brackets finder)
    (same_roots : (n : ℕ) → Contains own n ↔ Contains roots n) (found : FindsPlaces finder objects own brackets_found) (same : (n : ℕ) → Contains result n ↔ Contains brackets_found n) where
  below : (bracket : ℕ) → Contains result bracket → bracket < length (map plain_leaf brackets)
  below bracket has =
      let long = length-map brackets plain_leaf in
      let within : bracket < length brackets = elim (found.only bracket ((same bracket).0 has)) [
        | inl is ↦ (All-contains (IsOpenOf brackets) finder.unindexed.items bracket finds.unindexed is).below
        | inr is ↦ (All-contains (IsEntryOf brackets finder.paths.items) finder.brackets_found.entries.items (is.lookup, bracket) finds.brackets_found is.entered).below
      ] in
      omega arith

  reached : (bracket : ℕ) (leaf : Leaf) → IsFoundBracket finder leaf bracket → LeafHolds objects roots (plain_leaf leaf) → Contains brackets_found bracket
  reached bracket leaf is_found holds = elim is_found [
    | inl unindexed ↦ found.unindexed bracket unindexed
    | inr led ↦ found.led bracket holds.0 ((same_roots holds.0).1 holds.1) (led objects holds.0 holds.2)
  ]

  implies : (bracket : ℕ) (leaf : Leaf) → Contains brackets_found bracket → slice_get brackets bracket ≡ Some leaf → IsDefinite (plain_leaf leaf) → LeafHolds objects roots (plain_leaf leaf)
  implies bracket leaf has there definite = elim (found.only bracket has) [
    | inl unindexed ↦ absurd ((All-contains (IsOpenOf brackets) finder.unindexed.items bracket finds.unindexed unindexed).indefinite leaf there definite)
    | inr seen ↦
        let entry = All-contains (IsEntryOf brackets finder.paths.items) finder.brackets_found.entries.items (seen.lookup, bracket) finds.brackets_found seen.entered in
        let root = seen.seen.0 in
        (root, (same_roots root).0 seen.seen.1, entry.implies leaf there definite objects root seen.seen.2)
  ]

  -- the places in order are the candidates
  pub are_candidates : IsStrictlyIncreasing result → AreCandidates objects roots (map plain_leaf brackets) result
  are_candidates ascend = record {
    ascend = ascend;
    there = λ k d within. below (get_or result k d) (Contains-get_or result k d within);
    all = λ bracket leaf there holds.
        let own_leaf = item_of_map plain_leaf brackets bracket leaf there in
        (same bracket).1 (reached bracket own_leaf.0 (finds.found bracket own_leaf.0 own_leaf.1) (subst (λ (l : PlainLeaf). LeafHolds objects roots l) (sym own_leaf.2) holds));
    certain = λ bracket leaf has there definite.
        let own_leaf = item_of_map plain_leaf brackets bracket leaf there in
        subst (λ (l : PlainLeaf). LeafHolds objects roots l) own_leaf.2
        (implies bracket own_leaf.0 ((same bracket).0 has) own_leaf.1 (subst IsDefinite (sym own_leaf.2) definite));
  }
