-- The keeper in memory: what contracts see of it, and which of its calls fail.
use Rattle.std.specs.Prelude.{◌≡◌, ◌↔◌, ℕ, List, Option, Result, Err, true}
use Rattle.flow_edges.specs.Faults.{counted}
use Rattle.flow_memory.specs.Streams.{is_failing}
use Rattle.taxii_rows.specs.declared.keeper_refusal.KeeperRefusal.{KeeperRefusal}
use Rattle.taxii_rows.specs.declared.keeper_refusal.KeeperRefusal.TheVariants.{Fault as KeeperFault}
use Rattle.taxii_rows.specs.StoreState.{StoreState}

-- the state of the store, the name that it was attached under, which calls fail (counted from 1),
-- and the counts of calls and faults
pub record MemoryState : Type 0 where
  pub state : StoreState
  pub name : Option (List ℕ)
  pub failing : List ℕ
  pub calls : ℕ
  pub faults : ℕ

-- what a call does to the counts: it is counted, and it fails if and only if its number is one of
-- those that fail
pub record IsMemoryCall {T : Type 0} (before now : MemoryState) (answer : Result T KeeperRefusal) : Type 0 where
  pub fails : (answer ≡ Err KeeperFault) ↔ (is_failing before.failing before.calls ≡ true)
  pub calls : now.calls ≡ counted before.calls
  pub faults : answer ≡ Err KeeperFault → now.faults ≡ counted before.faults
  pub failing : now.failing ≡ before.failing
