-- For private clauses: what is looked up for roots, and what is found.
use Rattle.std.specs.Prelude.{◌≡◌, ◌⊎◌, ℕ, List, Contains, Some, slice_get}
use Rattle.std.specs.Borrow.{Bor}
use Rattle.serde_json.specs.Data.{Data}
use Rattle.hunt_index.specs.declared.index_key.IndexKey.{IndexKey}
use Rattle.hunt_index.specs.declared.paths.Lookup.{Lookup}
use Rattle.hunt_index.specs.declared.finder.Finder.{Finder}
use Rattle.hunt_index.specs.inner.Keys.{AreSame}
use Rattle.hunt_index.specs.inner.Indexed.{IsReachedFrom, LeadsToLookup, IsLedTo, IsSeenFrom, IsSeen}

-- equal look-ups
pub record AreAlike (lookup other : Lookup) : Type 0 where
  pub path : lookup.path ≡ other.path
  pub key : AreSame lookup.key other.key

-- the look-up is made
pub record IsLookedUp (lookups : List Lookup) (lookup : Lookup) : Type 0 where
  pub found : Lookup
  pub among : Contains lookups found
  pub alike : AreAlike lookup found

-- look-ups made before are still made
abbrev pub KeepsLookups : List Lookup → List Lookup → Type 0
KeepsLookups old new = (lookup : Lookup) → IsLookedUp old lookup → IsLookedUp new lookup

-- what the path leads to from the object is looked up
abbrev pub AsksByPath : List IndexKey → List Data → Data → ℕ → List Lookup → Type 0
AsksByPath paths objects from number lookups = (lookup : Lookup) → lookup.path ≡ number
    → IsReachedFrom paths objects from lookup → IsLookedUp lookups lookup

-- the same for some paths, each with the type of its root
abbrev pub AskByPaths : List IndexKey → List Data → Data → List (Bor (List ℕ) × ℕ) → List Lookup → Type 0
AskByPaths paths objects from numbers lookups = (entry : Bor (List ℕ) × ℕ) → Contains numbers entry → AsksByPath paths objects from entry.1 lookups

-- what the root leads to is looked up
abbrev pub AsksFor : Finder → List Data → ℕ → List Lookup → Type 0
AsksFor finder objects root lookups = (lookup : Lookup) → LeadsToLookup finder objects root lookup → IsLookedUp lookups lookup

-- the same for each of the roots
abbrev pub AreAsked : Finder → List Data → List ℕ → List Lookup → Type 0
AreAsked finder objects roots lookups = (root : ℕ) → Contains roots root → AsksFor finder objects root lookups

-- each look-up was there before, or satisfies Own
abbrev pub AddsOnly : (Lookup → Type 0) → List Lookup → List Lookup → Type 0
AddsOnly Own old new = (lookup : Lookup) → Contains new lookup → Contains old lookup ⊎ Own lookup

-- the look-up is along one of some paths, and matches from the object
pub record IsSeenBy (paths : List IndexKey) (objects : List Data) (object : Data) (numbers : List (Bor (List ℕ) × ℕ)) (lookup : Lookup) : Type 0 where
  pub entry : Bor (List ℕ) × ℕ
  pub among : Contains numbers entry
  pub path_is : lookup.path ≡ entry.1
  pub seen : IsSeenFrom paths objects object lookup

-- the look-up matches from one of the roots
abbrev pub IsSeenByOne : List IndexKey → List Data → List ℕ → Lookup → Type 0
IsSeenByOne paths objects roots lookup = (root : ℕ) × Contains roots root × IsSeen paths objects root lookup

-- each look-up matches from one of the roots
abbrev pub AreSeen : List IndexKey → List Data → List ℕ → List Lookup → Type 0
AreSeen paths objects roots lookups = (lookup : Lookup) → Contains lookups lookup → IsSeenByOne paths objects roots lookup

-- the bracket has an entry that matches from one of the roots
pub record IsPlaceSeen (finder : Finder) (objects : List Data) (roots : List ℕ) (bracket : ℕ) : Type 0 where
  pub lookup : Lookup
  pub seen : IsSeenByOne finder.paths.items objects roots lookup
  pub entered : Contains finder.brackets_found.entries.items (lookup, bracket)

-- the brackets that the roots lead to, those that are always candidates, and no others
pub record FindsPlaces (finder : Finder) (objects : List Data) (roots brackets_found : List ℕ) : Type 0 where
  pub unindexed : (bracket : ℕ) → Contains finder.unindexed.items bracket → Contains brackets_found bracket
  pub led : (bracket root : ℕ) → Contains roots root → IsLedTo finder bracket objects root → Contains brackets_found bracket
  pub only : (bracket : ℕ) → Contains brackets_found bracket → Contains finder.unindexed.items bracket ⊎ IsPlaceSeen finder objects roots bracket

-- the bracket has an entry for one of the look-ups
pub record IsPlaceOf (entries : List (Lookup × ℕ)) (lookups : List Lookup) (bracket : ℕ) : Type 0 where
  pub lookup : Lookup
  pub among : Contains lookups lookup
  pub own : Lookup
  pub alike : AreAlike own lookup
  pub entered : Contains entries (own, bracket)

-- the brackets of the entries of some look-ups were added, and no others
pub record AddsFound (entries : List (Lookup × ℕ)) (lookups : List Lookup) (old new : List ℕ) : Type 0 where
  pub kept : (bracket : ℕ) → Contains old bracket → Contains new bracket
  pub found : (lookup own : Lookup) (bracket : ℕ) → Contains lookups lookup → AreAlike own lookup → Contains entries (own, bracket) → Contains new bracket
  pub only : (bracket : ℕ) → Contains new bracket → Contains old bracket ⊎ IsPlaceOf entries lookups bracket

-- each path has its number with the type of its root
abbrev pub AreKinds : List IndexKey → List (Bor (List ℕ) × ℕ) → Type 0
AreKinds paths kinds = (number : ℕ) (path : IndexKey) → slice_get paths number ≡ Some path → Contains kinds (path.kind, number)
