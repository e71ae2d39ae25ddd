use Rattle.std.proofs.Common.{◌≡◌, ◌+◌, ◌*◌}
use Rattle.pattern_types.specs.Leaves.{leaves}
use Rattle.std.specs.Prelude.{take, drop, map}
use Rattle.match_bindings.specs.NumberedPattern.{numbered_from}
use Rattle.match_bindings.specs.BindTree.{tree_of, many_of}
use Rattle.match_bindings.specs.Log.{observed_in}
use Rattle.match_bindings.specs.Test.{is_binding, are_repeats}
use Rattle.match_bindings.proofs.PartsLemmas.{proceed}
use Rattle.match_bindings.specs.inner.Candidates.{span_of}
use Rattle.match_bindings.proofs.IsBindingTestLemmas.{size}
use Rattle.match_bindings.proofs.check.+verify.Given as goal

abbrev pub decreases-verify : goal.decreases-verify
decreases-verify l = 2 * size (numbered_from l.leaf l.pattern.now)

abbrev pub decreases-verify_left : goal.decreases-verify_left
decreases-verify_left l = 2 * size (numbered_from l.leaf l.pattern.now) + 1

abbrev pub decreases-verify_repeats : goal.decreases-verify_repeats
decreases-verify_repeats l = 2 * size (numbered_from l.leaf l.pattern.now) + 1

abbrev pub decreases-verify_sides : goal.decreases-verify_sides
decreases-verify_sides l = 2 * size (numbered_from l.leaf l.left.now) + 2 * size (numbered_from (l.leaf + leaves l.left.now) l.right.now) + 1

abbrev pub invariant-verify_repeats-loop-at : goal.invariant-verify_repeats-loop-at
invariant-verify_repeats-loop-at l = record {
  rest : are_repeats (is_binding (observed_in l.log) (numbered_from l.leaf l.pattern)) l.count (many_of (map tree_of l.parts))
      ≡ proceed (is_binding (observed_in l.log) (numbered_from l.leaf l.pattern)) (many_of (map tree_of (take l.at l.parts))) (map tree_of (drop l.at l.parts));
  span : l.span ≡ span_of (observed_in l.log) (many_of (map tree_of (take l.at l.parts)));
}
