use Rattle.std.proofs.Common.{rules, ◌∙◌}
use Rattle.flow_edges.proofs.Writing.{part_way-prefix, part_way-part, when_err, part_way-slice, writes_whole-err}
use Rattle.flow_edges.proofs.sink.write_whole.Goals as goal

pub returns-in_err-count-clause-text : goal.returns-in_err-count-clause-text
returns-in_err-count-clause-text g c = writes_whole-err _ _ _ _ c.from_residual.ensures.0
    (part_way-prefix _ _ _ _ _ c.loop-rest.invariant.way c.in_err-count.ensures.err)

pub returns-in_err-count-clause-part : goal.returns-in_err-count-clause-part
returns-in_err-count-clause-part g c = when_err _ _
    (part_way-part _ _ _ _ _ (search rules) c.loop-rest.invariant.way c.in_err-count.ensures.err)

pub loop-rest-preserved : goal.loop-rest-preserved
loop-rest-preserved g c = record {
  way = part_way-slice _ _ _ _ _ _ c.loop-rest.invariant.way c.in_ok-count.ensures.written;
  quiet = c.in_ok-count.ensures.causes.quiet (λ failed. cc failed) ∙ c.loop-rest.invariant.quiet;
  unread = c.in_ok-count.ensures.unread ∙ c.loop-rest.invariant.unread;
}
