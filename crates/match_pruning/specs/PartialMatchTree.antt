-- A partial match as plain data: a binding with its earliest and latest time.
use Rattle.std.specs.Prelude.{ℤ, List, map}
use Rattle.match_bindings.specs.BindTree.{BindTree}
use Rattle.match_bindings.specs.Log.{Observed}
use Rattle.match_bindings.specs.Span.{earliest, latest}

pub record PartialMatchTree : Type 0 where
  pub tree : BindTree
  pub earliest : ℤ
  pub latest : ℤ

-- a binding with its times in a log
abbrev pub partial_match_of : Observed → BindTree → PartialMatchTree
partial_match_of o x = record { tree = x; earliest = earliest o.first x; latest = latest o.last x }

abbrev pub trees_in : List PartialMatchTree → List BindTree
trees_in held = map (λ h. h.tree) held
