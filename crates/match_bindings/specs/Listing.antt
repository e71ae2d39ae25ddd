-- All bindings of a pattern over a log, in order.
use Rattle.std.specs.Prelude.{◌≡◌, List}
use Rattle.match_bindings.specs.NumberedPattern.{NumberedPattern}
use Rattle.match_bindings.specs.BindTree.{BindTree}
use Rattle.match_bindings.specs.Log.{Observed}
use Rattle.match_bindings.specs.Binding.{IsBinding}
use Rattle.match_bindings.specs.Once.{count}
use Rattle.match_bindings.specs.Flat.{Ascends}

-- each binding once and nothing else, by greatest number and then by flat list
pub record IsListing (o : Observed) (p : NumberedPattern) (xs : List BindTree) : Type 0 where
  pub each_once : (x : BindTree) → IsBinding o p x → count x xs ≡ 1
  pub no_other : (x : BindTree) → ¬ (IsBinding o p x) → count x xs ≡ 0
  pub ascends : Ascends xs
