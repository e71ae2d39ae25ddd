-- The environment of a client: its links, and the dial that gives them.
use Rattle.std.specs.Prelude.{◌≡◌, ◌⊎◌, ℕ, ◌≤◌, List, Option}
use Rattle.flow_edges.specs.Faults.{HasIncreased}
use Rattle.flow_links.specs.Dials.{DialState}

-- the observable state of a link, and its counts of failed reads and writes
pub record ClientLinkView : Type 0 where
  pub left : Option (List ℕ)
  pub written : Option (List ℕ)
  pub read_faults : ℕ
  pub write_faults : ℕ

-- the view of a link, from its observable parts
abbrev pub link_view : {L : Type 0} → (L → Option (List ℕ)) → (L → Option (List ℕ)) → (L → ℕ) → (L → ℕ) → L → ClientLinkView
link_view left written read_faults write_faults link = record {
  left = left link;
  written = written link;
  read_faults = read_faults link;
  write_faults = write_faults link;
}

-- one of a link's two counts has increased
abbrev pub LinkFaultsIncreased : ClientLinkView → ClientLinkView → Type 0
LinkFaultsIncreased before now = HasIncreased before.read_faults now.read_faults ⊎ HasIncreased before.write_faults now.write_faults

-- the effect of a call on the two counts of a link: neither decreases; one has increased if the
-- call failed this way, and both stay if it did not
pub record CountsLink (Failed : Type 0) (before now : ClientLinkView) : Type 0 where
  pub reads_later : before.read_faults ≤ now.read_faults
  pub writes_later : before.write_faults ≤ now.write_faults
  pub failed : Failed → LinkFaultsIncreased before now
  pub quiet_reads : ¬ Failed → now.read_faults ≡ before.read_faults
  pub quiet_writes : ¬ Failed → now.write_faults ≡ before.write_faults

-- the observable state of a dial, and its number of failed calls
pub record DialView (L : Type 0) : Type 0 where
  pub observable : Option (DialState L)
  pub faults : ℕ
