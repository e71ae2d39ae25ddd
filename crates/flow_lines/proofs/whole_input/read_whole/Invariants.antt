use Rattle.std.proofs.Common.{◌++◌}
use Rattle.flow_lines.specs.inner.TakenInput.{HasTakenBytes}
use Rattle.flow_lines.proofs.whole_input.read_whole.Given as goal

abbrev pub invariant-loop-turn : goal.invariant-loop-turn
invariant-loop-turn g l =
    HasTakenBytes l._turn (l.bytes.items ++ l.read_buffer) (g.S.Source.left l.initial.source) (g.S.Source.left l.source) (g.S.Source.faults l.initial.source) (g.S.Source.faults l.source)
