-- The entries of a page, partitioned one after the other.
use Rattle.std.specs.Prelude.{◌≡◌, ◌⊎◌, ◌+◌, List, [], ◌∷◌, ◌++◌, length}
use Rattle.stix_json.specs.declared.entry.Entry.{Entry}
use Rattle.taxii_rows.specs.declared.described.Described.{Described}
use Rattle.taxii_store.specs.Planned.{IsSound}
use Rattle.taxii_client.specs.Absorbing.{IsKeptEntry, IsSkippedEntry, SplitsPageEntries}
use Rattle.taxii_client.specs.declared.partitioned.Partitioned.{Partitioned}

-- what some entries hold: an object is kept of each, or it is skipped and counted
pub record Partitions (entries : List Entry) (partitioned : Partitioned) : Type 0 where
  pub skipped : List Entry
  pub splits : SplitsPageEntries entries partitioned.objects.items skipped
  pub count : partitioned.skipped ≡ length skipped

-- one more object
pub record KeepsObject (entry : Entry) (old new : Partitioned) : Type 0 where
  pub object : Described
  pub kept : IsKeptEntry entry object
  pub sound : IsSound object
  pub objects : new.objects.items ≡ old.objects.items ++ object ∷ []
  pub count : new.skipped ≡ old.skipped

-- one more entry that is skipped
pub record Skips (entry : Entry) (old new : Partitioned) : Type 0 where
  pub fails : IsSkippedEntry entry
  pub objects : new.objects.items ≡ old.objects.items
  pub count : new.skipped ≡ old.skipped + 1

-- one more entry
abbrev pub PartitionsOne : Entry → Partitioned → Partitioned → Type 0
PartitionsOne entry old new = KeepsObject entry old new ⊎ Skips entry old new
