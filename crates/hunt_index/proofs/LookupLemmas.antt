-- What is looked up, and that it is looked up still.
use Rattle.std.proofs.Common.{◌≡◌, ◌⊎◌, inl, inr, ℕ, ℤ, List, [], ◌∷◌, ◌++◌, Option, Some, None, slice_get, refl, sym, ap, subst, ◌∙◌}
use Rattle.std.specs.Prelude.{All, Contains, codes}
use Rattle.std.proofs.lemmas.Map.Lookups.{exact_bytes}
use Rattle.std.specs.Borrow.{Bor}
use Rattle.std.specs.Ordering.{nat_cmp}
use Rattle.std.specs.Cmp.Lexicographic.{slice_cmp}
use Rattle.std.specs.declared.cmp.Ordering.TheVariants.{Equal}
use Rattle.std.proofs.lemmas.Cmp.{tied_itself, nat_list_cmp_total}
use Rattle.stix_json.specs.Properties.{property_text}
use Rattle.match_comparisons.proofs.ContainsLemmas.{in_more}
use Rattle.hunt_index.specs.declared.finder.Finder.{Finder}
use Rattle.std.proofs.lemmas.List.Elements.{All-contains, Contains-append_left}
use Rattle.std.proofs.lemmas.Option.{same_Some}
use Rattle.serde_json.specs.Data.{Data, number as number_of}
use Rattle.serde_json.specs.Find.{of_integer}
use Rattle.match_comparisons.specs.Selection.{Reaches}
use Rattle.hunt_index.specs.declared.index_key.IndexKey.{IndexKey}
use Rattle.hunt_index.specs.declared.key.Key.{Key}
use Rattle.hunt_index.specs.declared.key.Key.TheVariants.{Any, Integer, Text}
use Rattle.hunt_index.specs.declared.paths.Lookup.{Lookup}
use Rattle.hunt_index.specs.inner.Keys.{FitsKey, AreSame, IsAskedKey}
use Rattle.hunt_index.specs.Definite.{ArePlain}
use Rattle.hunt_index.specs.inner.Indexed.{IsReachedFrom, IsSeenFrom, IsSeen, IsPathEntryOfKind}
use Rattle.hunt_index.specs.inner.Finding.{AreAlike, KeepsLookups, AsksByPath, AskByPaths, AsksFor, AreAsked, AddsOnly, IsSeenBy, AreSeen}

pub same_through : (one other third : Key) → AreSame one other → AreSame other third → AreSame one third
same_through Any Any third same also = also
same_through (Integer whole) (Integer other) (Integer third) same also = same ∙ also
same_through (Text text) (Text other) (Text third) same also = same ∙ also
same_through (Integer whole) (Integer other) Any same also = absurd also
same_through (Integer whole) (Integer other) (Text third) same also = absurd also
same_through (Text text) (Text other) Any same also = absurd also
same_through (Text text) (Text other) (Integer third) same also = absurd also
same_through Any (Integer other) third same also = absurd same
same_through Any (Text other) third same also = absurd same
same_through (Integer whole) Any third same also = absurd same
same_through (Integer whole) (Text other) third same also = absurd same
same_through (Text text) Any third same also = absurd same
same_through (Text text) (Integer other) third same also = absurd same

pub alike_through : (one other third : Lookup) → AreAlike one other → AreAlike other third → AreAlike one third
alike_through one other third first second = record { path = first.path ∙ second.path; key = same_through one.key other.key third.key first.key second.key }

-- more at the end takes nothing away
pub keeps_more : (old new : List Lookup) (more : List Lookup) → new ≡ old ++ more → KeepsLookups old new
keeps_more old new more is lookup looked = record {
  found = looked.found;
  among = subst (λ (ls : List Lookup). Contains ls looked.found) (sym is) (Contains-append_left old more looked.found looked.among);
  alike = looked.alike;
}

pub keeps_through : (old mid new : List Lookup) → KeepsLookups old mid → KeepsLookups mid new → KeepsLookups old new
keeps_through old mid new first second lookup looked = second lookup (first lookup looked)

-- a key is asked for as `Any`, or as that which was found
asked_cases : (found : Option Key) (own : Key) → IsAskedKey found own → (own ≡ Any) ⊎ ((other : Key) × (found ≡ Some other) × AreSame own other)
asked_cases found Any asked = inl refl
asked_cases None (Integer whole) asked = absurd asked
asked_cases None (Text text) asked = absurd asked
asked_cases (Some other) (Integer whole) asked = inr (other, refl, asked)
asked_cases (Some other) (Text text) asked = inr (other, refl, asked)

module _ (paths : List IndexKey) (objects : List Data) (from : Data) (number : ℕ) where
  module _ (index_key : IndexKey) (there : Some index_key ≡ slice_get paths number) where
    the_path : (lookup : Lookup) → lookup.path ≡ number → (reached : IsReachedFrom paths objects from lookup) → reached.path ≡ index_key
    the_path lookup is reached = sym (same_Some index_key reached.path (there ∙ ap (slice_get paths) (sym is) ∙ reached.there))

    -- it leads to a value, which is looked up
    pub asks_value : (lookups : List Lookup) (value_there : Data) (found : Option Key)
        → ((value : Data) → ArePlain index_key.steps.now → Reaches objects None index_key.steps.now from value → Some value_there ≡ Some value)
        → ((own : Key) → FitsKey own value_there → IsAskedKey found own) → Contains lookups (record { path = number; key = Any })
        → ((own : Key) → found ≡ Some own → Contains lookups (record { path = number; key = own })) → AsksByPath paths objects from number lookups
    asks_value lookups value_there found only asked has_any has_own lookup is reached =
        let same = the_path lookup is reached in
        let value_is : value_there ≡ reached.value = same_Some value_there reached.value (only reached.value (subst (λ (g : IndexKey). ArePlain g.steps.now) same reached.plain)
        (subst (λ (g : IndexKey). Reaches objects None g.steps.now from reached.value) same reached.reached)) in
        let cases = asked_cases found lookup.key (asked lookup.key (subst (FitsKey lookup.key) (sym value_is) reached.fits)) in
        elim cases [
          | inl any ↦ record { found = record { path = number; key = Any }; among = has_any; alike = record { path = is; key = subst (λ (k : Key). AreSame k Any) (sym any) tt } }
          | inr own ↦ record { found = record { path = number; key = own.0 }; among = has_own own.0 own.1; alike = record { path = is; key = own.2 } }
        ]

-- what was looked up by a path is looked up still
pub still_asks : (paths : List IndexKey) (objects : List Data) (from : Data) (number : ℕ) (old new : List Lookup) → KeepsLookups old new
    → AsksByPath paths objects from number old → AsksByPath paths objects from number new
still_asks paths objects from number old new keeps asks lookup is reached = keeps lookup (asks lookup is reached)

-- one path more
pub paths_next : (paths : List IndexKey) (objects : List Data) (from : Data) (numbers : List (Bor (List ℕ) × ℕ)) (entry : Bor (List ℕ) × ℕ) (old new : List Lookup)
    → AskByPaths paths objects from numbers old → KeepsLookups old new → AsksByPath paths objects from entry.1 new → AskByPaths paths objects from (numbers ++ entry ∷ []) new
paths_next paths objects from numbers entry old new before keeps asks other has = elim ((in_more numbers entry other).0 has) [
  | inl earlier ↦ still_asks paths objects from other.1 old new keeps (before other earlier)
  | inr now ↦ subst (λ (e : Bor (List ℕ) × ℕ). AsksByPath paths objects from e.1 new) (sym now) asks
]

-- one root more
pub roots_next : (finder : Finder) (objects : List Data) (roots : List ℕ) (root : ℕ) (old new : List Lookup) → AreAsked finder objects roots old → KeepsLookups old new
    → AsksFor finder objects root new → AreAsked finder objects (roots ++ root ∷ []) new
roots_next finder objects roots root old new before keeps asks other has = elim ((in_more roots root other).0 has) [
  | inl earlier ↦ λ lookup leads. keeps lookup (before other earlier lookup leads)
  | inr now ↦ subst (λ (r : ℕ). AsksFor finder objects r new) (sym now) asks
]

-- the paths for the type of a root's object are all that lead from it
pub asks_root : (finder : Finder) (objects : List Data) (root : ℕ) (from : Data) (kind : Bor (List ℕ)) (entries : List (Bor (List ℕ) × ℕ)) (lookups : List Lookup)
    → Some from ≡ slice_get objects root → Some kind.now ≡ property_text (codes "type") from
    → ((own : Bor (List ℕ)) (number : ℕ) → slice_cmp nat_cmp own.now kind.now ≡ Equal → Contains finder.kinds.entries.items (own, number) → Contains entries (own, number))
    → AskByPaths finder.paths.items objects from entries lookups → AsksFor finder objects root lookups
asks_root finder objects root from kind entries lookups there typed all asks lookup leads =
    let path = leads.reached.path in
    let same : from ≡ leads.object = same_Some from leads.object (there ∙ leads.is_root.there) in
    let kinds : kind.now ≡ path.kind.now = same_Some kind.now path.kind.now (typed ∙ ap (property_text (codes "type")) same ∙ leads.is_root.typed) in
    let tied : slice_cmp nat_cmp path.kind.now kind.now ≡ Equal =
    subst (λ (t : List ℕ). slice_cmp nat_cmp path.kind.now t ≡ Equal) (sym kinds) (tied_itself nat_list_cmp_total path.kind.now) in
    asks (path.kind, lookup.path) (all path.kind lookup.path tied leads.kinded) lookup refl
    (subst (λ (d : Data). IsReachedFrom finder.paths.items objects d lookup) (sym same) leads.reached)

-- ---- nothing else is looked up

pub only_more : (Own : Lookup → Type 0) (old new : List Lookup) (lookup : Lookup) → new ≡ old ++ lookup ∷ [] → Own lookup → AddsOnly Own old new
only_more Own old new lookup is own other has = elim ((in_more old lookup other).0 (subst (λ (l : List Lookup). Contains l other) is has)) [
  | inl before ↦ inl before
  | inr now ↦ inr (subst Own (sym now) own)
]

pub only_through : (Own : Lookup → Type 0) (old mid new : List Lookup) → AddsOnly Own old mid → AddsOnly Own mid new → AddsOnly Own old new
only_through Own old mid new first second lookup has = elim (second lookup has) [
  | inl before ↦ first lookup before
  | inr own ↦ inr own
]

pub only_weaker : (Own More : Lookup → Type 0) (old new : List Lookup) → ((lookup : Lookup) → Own lookup → More lookup) → AddsOnly Own old new → AddsOnly More old new
only_weaker Own More old new follows only lookup has = elim (only lookup has) [
  | inl before ↦ inl before
  | inr own ↦ inr (follows lookup own)
]

-- a value that a path leads to is seen by it
pub seen_value : (paths : List IndexKey) (objects : List Data) (from : Data) (number : ℕ) (index_key : IndexKey) (own : Key) (value : Data) → Some index_key ≡ slice_get paths number
    → Reaches objects None index_key.steps.now from value → FitsKey own value
    → (number ≡ number) × IsSeenFrom paths objects from (record { path = number; key = own })
seen_value paths objects from number index_key own value there reached fits =
    (refl, record { path = index_key; there = sym there; value = value; reached = reached; fits = fits })

-- what is seen by a path is seen by one of some paths
pub seen_by : (paths : List IndexKey) (objects : List Data) (from : Data) (numbers : List (Bor (List ℕ) × ℕ)) (entry : Bor (List ℕ) × ℕ) → Contains numbers entry
    → (lookup : Lookup) → (lookup.path ≡ entry.1) × IsSeenFrom paths objects from lookup → IsSeenBy paths objects from numbers lookup
seen_by paths objects from numbers entry has lookup own = record { entry = entry; among = has; path_is = own.0; seen = own.1 }

-- by the paths for a root's type it is seen from the root
pub seen_root : (paths : List IndexKey) (objects : List Data) (root : ℕ) (from : Data) (kind : Bor (List ℕ)) (kinds entries : List (Bor (List ℕ) × ℕ))
    → Some from ≡ slice_get objects root → Some kind.now ≡ property_text (codes "type") from → All (IsPathEntryOfKind paths) kinds
    → ((entry : Bor (List ℕ) × ℕ) → Contains entries entry → Contains kinds entry)
    → ((entry : Bor (List ℕ) × ℕ) → Contains entries entry → slice_cmp nat_cmp entry.0.now kind.now ≡ Equal)
    → (lookup : Lookup) → IsSeenBy paths objects from entries lookup → IsSeen paths objects root lookup
seen_root paths objects root from kind kinds entries there typed are_kinds only keyed lookup by =
    let path = by.seen.path in
    let of_kind = All-contains (IsPathEntryOfKind paths) kinds by.entry are_kinds (only by.entry by.among) in
    let kind_is : path.kind.now ≡ kind.now =
    of_kind path (ap (slice_get paths) (sym by.path_is) ∙ by.seen.there) ∙ exact_bytes by.entry.0.now kind.now (keyed by.entry by.among) in
    record {
      object = from;
      seen = by.seen;
      is_root = record { there = sym there; typed = sym typed ∙ ap Some (sym kind_is) };
    }

-- one root more
pub seen_next : (paths : List IndexKey) (objects : List Data) (roots : List ℕ) (root : ℕ) (old new : List Lookup) → Contains roots root → AreSeen paths objects roots old
    → AddsOnly (IsSeen paths objects root) old new → AreSeen paths objects roots new
seen_next paths objects roots root old new has before only lookup there = elim (only lookup there) [
  | inl earlier ↦ before lookup earlier
  | inr now ↦ (root, has, now)
]

fits_same : (own other : Key) (value : Data) → AreSame own other → FitsKey other value → FitsKey own value
fits_same Any other value same fits = tt
fits_same (Integer whole) (Integer other) value same fits = fits ∙ ap (λ (n : ℤ). number_of (of_integer n)) (sym same)
fits_same (Text text) (Text other) value same fits = fits ∙ ap Some (sym same)
fits_same (Integer whole) Any value same fits = absurd same
fits_same (Integer whole) (Text other) value same fits = absurd same
fits_same (Text text) Any value same fits = absurd same
fits_same (Text text) (Integer other) value same fits = absurd same

-- what is alike is seen as well
pub seen_alike : (paths : List IndexKey) (objects : List Data) (root : ℕ) (own lookup : Lookup) → AreAlike own lookup → IsSeen paths objects root lookup → IsSeen paths objects root own
seen_alike paths objects root own lookup alike seen = record {
  object = seen.object;
  seen = record {
    path = seen.seen.path;
    there = ap (slice_get paths) alike.path ∙ seen.seen.there;
    value = seen.seen.value;
    reached = seen.seen.reached;
    fits = fits_same own.key lookup.key seen.seen.value alike.key seen.seen.fits;
  };
  is_root = seen.is_root;
}
