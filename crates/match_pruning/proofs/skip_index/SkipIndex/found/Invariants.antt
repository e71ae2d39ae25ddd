use Rattle.std.proofs.Common.{◌≡◌, ◌-◌, ◌⊎◌, ℕ, length}
use Rattle.std.specs.List.{Contains, AllWithin}
use Rattle.match_pruning.specs.declared.key.SortKey.{SortKey}
use Rattle.match_pruning.specs.inner.SkipIndexes.{IsExcluded}
use Rattle.match_pruning.proofs.skip_index.SkipIndex.found.Given as goal

abbrev pub invariant-keys : goal.invariant-keys
invariant-keys l = record {
  others : AllWithin (λ (key : SortKey). Contains l.places.items key.place ⊎ IsExcluded l.query key) l.self.keys.items 0 l.at;
  from : (place : ℕ) → Contains l.places.items place → (key : SortKey) × Contains l.self.keys.items key × (key.place ≡ place);
}

abbrev pub decreases-keys : goal.decreases-keys
decreases-keys l = length l.self.keys.items - l.at
