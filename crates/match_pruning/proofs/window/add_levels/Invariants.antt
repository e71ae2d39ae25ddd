use Rattle.std.proofs.Common.{◌≡◌, ◌++◌, ◌≤◌, max}
use Rattle.match_bindings.specs.NumberedPattern.{NumberedPattern}
use Rattle.match_pruning.specs.Stores.{levels, windows_in}
use Rattle.match_pruning.proofs.window.add_levels.Given as goal

abbrev pub invariant-loop-level : goal.invariant-loop-level
invariant-loop-level l = (l.level ≤ max 1 l.count) × ((part : NumberedPattern) → l.out.items ≡ l.fn.out.items ++ windows_in (levels l.fn.above part l.level))
