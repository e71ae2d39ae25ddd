-- Links, doors, dials and clocks in memory: their values in contracts.
use Rattle.std.specs.Prelude.{ℕ, ◌-◌, List, Option, length, min, slice_get}
use Rattle.flow_memory.specs.Streams.{SourceState, SinkState}
use Rattle.flow_links.specs.Doors.{DoorState}
use Rattle.flow_links.specs.Dials.{DialState}

-- the bytes from the peer, and those to it
pub record LinkState : Type 0 where
  pub source : SourceState
  pub sink : SinkState

-- the links, which calls of `listen` and `next` fail (counted together from 1), and the counts of calls and faults
pub record MemoryDoorState : Type 0 where
  pub links : DoorState LinkState
  pub failing : List ℕ
  pub calls : ℕ
  pub faults : ℕ

-- the links, which calls of `dial` fail (counted from 1), and the counts of calls and faults
pub record MemoryDialState : Type 0 where
  pub links : DialState LinkState
  pub failing : List ℕ
  pub calls : ℕ
  pub faults : ℕ

-- the times of a list, of which the last one repeats
abbrev pub moment_at : List ℕ → ℕ → Option ℕ
moment_at moments n = slice_get moments (min n (length moments - 1))
