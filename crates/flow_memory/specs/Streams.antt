-- Sources and sinks in memory: their values in contracts.
use Rattle.std.specs.Prelude.{ℕ, List, Bool, nat_eq}
use Rattle.std.specs.List.{list_any}
use Rattle.flow_edges.specs.Faults.{counted}

-- the bytes left, the bytes left when the last read began, the most bytes of a read, the numbers of
-- the calls that fail (from 1), and the counts of calls and faults
pub record SourceState : Type 0 where
  pub left : List ℕ
  pub began : List ℕ
  pub piece : ℕ
  pub failing : List ℕ
  pub calls : ℕ
  pub faults : ℕ

-- the bytes written, the capacity in bytes, the numbers of the calls that fail, and the counts of
-- calls and faults
pub record SinkState : Type 0 where
  pub written : List ℕ
  pub room : ℕ
  pub failing : List ℕ
  pub calls : ℕ
  pub faults : ℕ

-- the next call is one of those that fail
abbrev pub is_failing : List ℕ → ℕ → Bool
is_failing failing calls = list_any (λ number. nat_eq number (counted calls)) failing
