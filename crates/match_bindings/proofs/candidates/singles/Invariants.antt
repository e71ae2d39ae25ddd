use Rattle.std.proofs.Common.{◌≡◌}
use Rattle.std.specs.Prelude.{take, map}
use Rattle.match_bindings.specs.BindTree.{Single}
use Rattle.match_bindings.specs.inner.Candidates.{spanned_trees, spanned_with}
use Rattle.match_bindings.proofs.candidates.singles.Given as goal

abbrev pub invariant-loop-part : goal.invariant-loop-part
invariant-loop-part l = spanned_trees l.out.items ≡ map (spanned_with Single) (spanned_trees (take l.part-index l.parts))
