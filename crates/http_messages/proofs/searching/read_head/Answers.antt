use Rattle.std.proofs.Common.{◌∙◌, arith, sym}
use Rattle.http_messages.proofs.ReadLemmas.{head_read, head_unended, same_length}
use Rattle.http_messages.proofs.searching.read_head.Goals as goal

pub returns-then-is_some-clause-reads : goal.returns-then-is_some-clause-reads
returns-then-is_some-clause-reads g c =
    head_read _ _ _ _ _ c.lacking.result _ _ _ _ _
    (record {
      none = c.loop-end.invariant.none;
      takes = c.loop-end.invariant.takes;
      lacks = c.lacking.ensures.lacks;
      few = omega (arith, c.in_ok-count.ensures.within, c.min-needed.ensures, c.read.auto.buffer);
      within = omega (arith, c.in_ok-count.ensures.within, c.read.auto.buffer);
      next = c.in_ok-count.ensures.given;
      rest = c.in_ok-count.ensures.rest;
    })
    (omega (arith, c.loop-end.invariant.room, c.loop-end.invariant.fits))
    (omega (arith, c.in_ok-count.ensures.within, c.min-needed.ensures, c.read.auto.buffer, c.loop-end-test.true))
    c.saturating_sub-searched.ensures c.last_line_end.ensures.some (sym c.is_some.ensures ∙ c.if-is_some.true)

pub loop-end-preserved : goal.loop-end-preserved
loop-end-preserved g c =
    let unended = head_unended _ _ _ _ _ c.lacking.result _ _ _ _ _
    (record {
      none = c.loop-end.invariant.none;
      takes = c.loop-end.invariant.takes;
      lacks = c.lacking.ensures.lacks;
      few = omega (arith, c.in_ok-count.ensures.within, c.min-needed.ensures, c.read.auto.buffer);
      within = omega (arith, c.in_ok-count.ensures.within, c.read.auto.buffer);
      next = c.in_ok-count.ensures.given;
      rest = c.in_ok-count.ensures.rest;
    })
    (omega (arith, c.loop-end.invariant.room, c.loop-end.invariant.fits))
    c.saturating_sub-searched.ensures c.last_line_end.ensures.none (sym c.is_some.ensures ∙ c.if-is_some.false) in
    record {
      room = same_length c.loop-end.end _ c.loop-end.buffer c.read.new.buffer
          (omega (arith, c.loop-end.invariant.room, c.min-needed.ensures, c.loop-end-test.true)) (omega (arith, c.read.auto.buffer)) ∙ c.loop-end.invariant.room;
      fits = omega (arith, c.in_ok-count.ensures.within, c.min-needed.ensures, c.read.auto.buffer, c.loop-end-test.true);
      none = unended.none;
      takes = unended.takes;
      unwritten = c.in_ok-count.ensures.unwritten ∙ c.loop-end.invariant.unwritten;
      quiet = c.in_ok-count.ensures.causes.quiet (λ failed. absurd (cc failed)) ∙ c.loop-end.invariant.quiet;
    }
