use Rattle.flow_edges.proofs.Writing.{prefix-joined, part-joined, when_err, writes_whole-err}
use Rattle.flow_edges.proofs.pieces.write_all_vectored.Goals as goal

pub returns-in_err-write_whole-clause-text : goal.returns-in_err-write_whole-clause-text
returns-in_err-write_whole-clause-text g c = writes_whole-err _ _ _ _ c.from_residual.ensures.0
    (prefix-joined c.args.pieces.now c.loop-piece.piece-index _ _ _ _ c.loop-piece-test.true c.loop-piece.invariant.done c.in_err-write_whole.ensures.text)

pub returns-in_err-write_whole-clause-part : goal.returns-in_err-write_whole-clause-part
returns-in_err-write_whole-clause-part g c = when_err _ _
    (part-joined c.args.pieces.now c.loop-piece.piece-index _ _ _ _ c.loop-piece-test.true c.loop-piece.invariant.done c.in_err-write_whole.ensures.part)
