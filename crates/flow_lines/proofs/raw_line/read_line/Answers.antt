use Rattle.std.proofs.Common.{[], ◌≡◌, inr, ◌∙◌, Some, refl, sym, ap, subst, arith, length}
use Rattle.flow_lines.specs.Lines.{NoLineFeed, length_refusal}
use Rattle.flow_lines.specs.inner.Reading.{bytes_remaining}
use Rattle.flow_lines.proofs.RawLinesLemmas.{refused-step, taken-terminated, length_refusal-short, length_refusal-fault, bytes_remaining-all, bytes_remaining-filled, plain-all, takes-part, breaks-off-memory, breaks-off-length}
use Rattle.flow_lines.proofs.LastReadLemmas.{within_line}
use Rattle.flow_lines.proofs.ReadsLineLemmas.{terminated-without, open-with, unrefused, reads-to-feed, reads-last, is-held, unless-held}
use Rattle.flow_lines.proofs.CausesLemmas.{counts_none, counts_fine, counts_failed, other_error}
use Rattle.flow_lines.proofs.raw_line.read_line.Goals as goal

pub returns-in-Some-clause-refused : goal.returns-in-Some-clause-refused
returns-in-Some-clause-refused g c =
    let size : length c.take_line.new.line.items ≡ c.len.result = omega arith in
    let is : length_refusal c.args.start.number c.args.start.offset c.len.result c.is_none-terminated.result ≡ Some c.in-Some.refusal = sym c.in-Some.ensures in
    breaks-off-length _ _ _ _ _ _ _ _ _ is
    (refused-step _ _ _ _ _ _ _ _ _ _ c.requires.offset c.reads.invariant.plain c.reads.invariant.bytes (taken-terminated _ _ _ _ c.is_none-terminated.ensures c.in_ok-permit.ensures.taken)
    (ap (λ size. length_refusal c.args.start.number c.args.start.offset size c.is_none-terminated.result) size ∙ is))
    (takes-part _ _ _ _ _ c.reads.invariant.bytes refl c.reads.invariant.short c.reads.invariant.room)

pub returns-in_err-permit-clause-refused : goal.returns-in_err-permit-clause-refused
returns-in_err-permit-clause-refused g c =
    breaks-off-memory _ _ _ _ _ _ _ c.from_residual.ensures.1 (takes-part _ _ _ _ _ c.reads.invariant.bytes refl c.reads.invariant.short c.reads.invariant.room)

pub returns-in-Err-clause-refused : goal.returns-in-Err-clause-refused
returns-in-Err-clause-refused g c =
    let takes = rw c.in-Some-permit.is at c.in_ok-permit.ensures.taken in
    let size : length c.take_line.new.line.items ≡ c.len.result = omega arith in
    let all = bytes_remaining-all _ _ _ _ _ _ c.reads.invariant.bytes takes in
    record {
      length = λ for_length. absurd for_length;
      fault = λ _. record {
        plain = plain-all _ _ _ _ c.reads.invariant.plain takes;
        fits = unrefused c.args.start.number c.args.start.offset _ _ _ _ _ c.refusal_for_length.ensures c.in_default.is size (open-with _ _ _ c.in-Some-permit.is c.is_none-terminated.ensures);
        bytes = all ∙ ap (λ left. bytes_remaining c.take_line.new.line.items [] left) (sym c.in-Err.ensures.err);
        drained = c.in-Err.ensures.empty;
      };
      number_is = tt;
      stops = takes-part _ _ _ _ _ c.reads.invariant.bytes c.in-Err.ensures.err c.reads.invariant.short c.reads.invariant.room;
    }

pub reads-preserved : goal.reads-preserved
reads-preserved g c =
    let takes = rw c.in-Some-permit.is at c.in_ok-permit.ensures.taken in
    record {
      bytes = bytes_remaining-all _ _ _ _ _ _ c.reads.invariant.bytes takes ∙ bytes_remaining-filled _ _ _ _ c.in-Ok.ensures.filled.given (rw c.in-Ok.ensures.filled.count_is at c.in-Ok.ensures.filled.rest);
      plain = plain-all _ _ _ _ c.reads.invariant.plain takes;
      short = grind (arith, length_refusal-short);
      within = grind arith;
      room = c.fill.ensures.room;
      held = λ feed. absurd (feed (subst NoLineFeed (c.reads.invariant.held feed).1 takes.plain));
      in_time = inr (within_line _ _ _ _ (plain-all _ _ _ _ c.reads.invariant.plain takes) (bytes_remaining-all _ _ _ _ _ _ c.reads.invariant.bytes takes) c.in-Ok.ensures.began);
      quiet = c.in-Ok.ensures.causes.quiet (λ failed. cc) ∙ c.reads.invariant.quiet;
    }

pub returns-in-Ok-eq0-clause-in_time : goal.returns-in-Ok-eq0-clause-in_time
returns-in-Ok-eq0-clause-in_time g c plain =
    let takes = rw c.in-Some-permit.is at c.in_ok-permit.ensures.taken in
    within_line _ _ _ _ (plain-all _ _ _ _ c.reads.invariant.plain takes) (bytes_remaining-all _ _ _ _ _ _ c.reads.invariant.bytes takes) c.in-Ok-eq0.ensures.began

pub returns-in_err-permit-clause-causes : goal.returns-in_err-permit-clause-causes
returns-in_err-permit-clause-causes g c =
    counts_none _ _ c.reads.invariant.quiet (other_error _ _ _ c.from_residual.ensures.1 (λ is. cc))

pub returns-in-Some-clause-causes : goal.returns-in-Some-clause-causes
returns-in-Some-clause-causes g c =
    counts_none _ _ c.reads.invariant.quiet
    (length_refusal-fault c.args.start.number c.args.start.offset c.len.result c.is_none-terminated.result c.in-Some.refusal (sym c.in-Some.ensures))

pub returns-in_default-permit-clause-causes : goal.returns-in_default-permit-clause-causes
returns-in_default-permit-clause-causes g c =
    counts_none _ _ c.reads.invariant.quiet (λ is. cc)

pub returns-in-Ok-eq0-clause-causes : goal.returns-in-Ok-eq0-clause-causes
returns-in-Ok-eq0-clause-causes g c =
    counts_fine _ _ _ c.reads.invariant.quiet c.in-Ok-eq0.ensures.causes (λ failed. cc) (λ is. cc)

pub returns-in-Err-clause-causes : goal.returns-in-Err-clause-causes
returns-in-Err-clause-causes g c =
    counts_failed _ _ _ c.reads.invariant.quiet c.in-Err.ensures.causes refl refl

pub returns-in_default-permit-clause-line : goal.returns-in_default-permit-clause-line
returns-in_default-permit-clause-line g c =
    let takes = rw c.in_default-permit.is at c.in_ok-permit.ensures.taken in
    let size : length c.take_line.new.line.items ≡ c.len.result = omega arith in
    reads-to-feed _ _ _ _ _ _ _ _ c.reads.invariant.plain c.reads.invariant.bytes takes
    (unrefused c.args.start.number c.args.start.offset _ _ _ _ _ c.refusal_for_length.ensures c.in_default.is size (terminated-without _ _ c.in_default-permit.is c.is_none-terminated.ensures))

pub returns-in_default-permit-clause-held : goal.returns-in_default-permit-clause-held
returns-in_default-permit-clause-held g c feed =
    let takes = rw c.in_default-permit.is at c.in_ok-permit.ensures.taken in
    is-held _ _ _ _ _ (c.reads.invariant.held feed).1 (c.reads.invariant.held feed).2 takes

pub returns-in_default-permit-clause-in_time : goal.returns-in_default-permit-clause-in_time
returns-in_default-permit-clause-in_time g c =
    let takes = rw c.in_default-permit.is at c.in_ok-permit.ensures.taken in
    unless-held _ _ _ _ _ c.reads.invariant.in_time takes

pub returns-in_err-permit-clause-unread : goal.returns-in_err-permit-clause-unread
returns-in_err-permit-clause-unread g c feed = (c.reads.invariant.held feed).0

pub returns-in-Some-clause-unread : goal.returns-in-Some-clause-unread
returns-in-Some-clause-unread g c feed = (c.reads.invariant.held feed).0

pub returns-in_default-permit-clause-unread : goal.returns-in_default-permit-clause-unread
returns-in_default-permit-clause-unread g c feed = (c.reads.invariant.held feed).0

pub returns-in-Ok-eq0-clause-line : goal.returns-in-Ok-eq0-clause-line
returns-in-Ok-eq0-clause-line g c =
    let takes = rw c.in-Some-permit.is at c.in_ok-permit.ensures.taken in
    let size : length c.take_line.new.line.items ≡ c.len.result = omega arith in
    let filled = rw c.in-Ok-eq0.field-0-test at c.in-Ok-eq0.ensures.filled in
    reads-last _ _ _ _ _ _ _ _ _ _ c.reads.invariant.plain c.reads.invariant.bytes takes (c.fill.ensures.end (rw c.in-Ok-eq0.field-0-test at c.in-Ok-eq0.is)) filled.rest filled.count_is
    (unrefused c.args.start.number c.args.start.offset _ _ _ _ _ c.refusal_for_length.ensures c.in_default.is size (open-with _ _ _ c.in-Some-permit.is c.is_none-terminated.ensures))

pub returns-in-Ok-eq0-clause-unread : goal.returns-in-Ok-eq0-clause-unread
returns-in-Ok-eq0-clause-unread g c feed =
    let takes = rw c.in-Some-permit.is at c.in_ok-permit.ensures.taken in
    absurd (feed (subst NoLineFeed (c.reads.invariant.held feed).1 takes.plain))

pub returns-in-Ok-eq0-clause-held : goal.returns-in-Ok-eq0-clause-held
returns-in-Ok-eq0-clause-held g c feed =
    let takes = rw c.in-Some-permit.is at c.in_ok-permit.ensures.taken in
    absurd (feed (subst NoLineFeed (c.reads.invariant.held feed).1 takes.plain))

pub returns-in-Err-clause-unread : goal.returns-in-Err-clause-unread
returns-in-Err-clause-unread g c feed =
    let takes = rw c.in-Some-permit.is at c.in_ok-permit.ensures.taken in
    absurd (feed (subst NoLineFeed (c.reads.invariant.held feed).1 takes.plain))
