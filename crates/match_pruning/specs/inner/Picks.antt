-- For private clauses: assignments of observation numbers to the vertices of a bipartite graph.
use Rattle.std.specs.Prelude.{◌≡◌, ℕ, nat_eq, true, Some, List, length, slice_get}
use Rattle.std.specs.List.{AllZip, Contains, IsDistinct}
use Rattle.match_bindings.specs.BindTree.{BindTree, has}
use Rattle.match_pruning.specs.declared.matching.Neighbors.{Neighbors}
use Rattle.match_pruning.specs.inner.Numbers.{numbers}

-- a binding has the number, which is a neighbor of the vertex
abbrev pub MayPick : BindTree → Neighbors → ℕ → Type 0
MayPick x neighbors n = Contains neighbors.numbers.items n × (has n x ≡ true)

-- each vertex can be assigned a distinct number of the binding
pub record HasPerfectMatching (matching : List Neighbors) (x : BindTree) : Type 0 where
  pub picks : List ℕ
  pub differ : IsDistinct nat_eq picks
  pub each : AllZip (MayPick x) matching picks

-- the number at a position of the binding, counted from the left, is in the list
pub record HasNumberAt (found : List ℕ) (place : ℕ) (x : BindTree) : Type 0 where
  pub number : ℕ
  pub there : slice_get (numbers x) place ≡ Some number
  pub among : Contains found number

-- `count` of the assigned numbers are distinct and in the list
pub record IsAmong (count : ℕ) (numbers picks : List ℕ) : Type 0 where
  pub some : List ℕ
  pub differ : IsDistinct nat_eq some
  pub counted : length some ≡ count
  pub each : (n : ℕ) → Contains some n → Contains picks n × Contains numbers n
