-- How pages that arrived fill a store: what the keeper has, and at which moments they were
-- absorbed.
use Rattle.std.specs.Prelude.{◌≡◌, ℕ, List, [], ◌∷◌, ◌++◌, length, map, Option, Some, IfSome}
use Rattle.flow_links.specs.Dials.{DialState}
use Rattle.flow_links.specs.Moments.{IsNext, Continues}
use Rattle.stix_json.specs.declared.entry.Entry.{Entry}
use Rattle.taxii_rows.specs.Keeper.{Kept}
use Rattle.taxii_rows.specs.SoundRow.{IsSoundState}
use Rattle.taxii_rows.specs.StoreState.{StoreState}
use Rattle.taxii_client.specs.Environment.{DialView}
use Rattle.taxii_client.specs.Absorbing.{Absorbed}
use Rattle.taxii_client.specs.Mirrored.{Mirrored}
use Rattle.taxii_client.specs.Copying.{Copying}

-- the copy_environment of a run at one moment: its dial, the observable state of the keeper, and the
-- moments that the clock will give
pub record CopyEnvironment (L : Type 0) : Type 0 where
  pub dial : DialView L
  pub kept : Kept
  pub moments : ℕ → Option ℕ

-- the copy_environment, from its observable parts
abbrev pub copy_environment : {L : Type 0} → Option (DialState L) → ℕ → Kept → (ℕ → Option ℕ) → CopyEnvironment L
copy_environment observable faults kept moments = record { dial = record { observable = observable; faults = faults }; kept = kept; moments = moments }

-- a clock gave these moments, one after the other
abbrev pub GivesEachMoment : (ℕ → Option ℕ) → List ℕ → (ℕ → Option ℕ) → Type 0
GivesEachMoment before [] now = (n : ℕ) → now n ≡ before n
GivesEachMoment before (moment ∷ moments) now = (next : ℕ → Option ℕ) × IsNext before moment × Continues before next × GivesEachMoment next moments now

-- the pages that arrived were absorbed in order, each at the next moment of the clock, by the store
-- that the keeper had in the file; those that are left were not. The keeper has what they make of
-- it
pub record Fills {L : Type 0} (asked : Copying) (before now : CopyEnvironment L) (pages left : List (List Entry)) (absorbed : List Absorbed) : Type 0 where
  pub first : StoreState
  pub loaded : IfSome before.kept.observable (λ state. first ≡ state)
  pub sound : IsSoundState first
  pub last : StoreState
  pub mirrored : Mirrored asked.target.collection first absorbed last
  pub kept : IfSome now.kept.observable (λ state. state ≡ last)
  pub named : IfSome before.kept.observable (λ _. now.kept.name ≡ Some asked.file)
  pub pages_are : pages ≡ map (λ page. page.entries) absorbed ++ left
  pub late : List ℕ
  pub late_are : length late ≡ length left
  pub moments : GivesEachMoment before.moments (map (λ page. page.moment) absorbed ++ late) now.moments
