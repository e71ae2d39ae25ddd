use Rattle.std.proofs.Common.{◌≡◌, ◌+◌, arith, IfErr, refl}
use Rattle.flow_lines.specs.Lines.{line_width}
use Rattle.flow_lines.specs.inner.Reading.{lines_state, StopsReading}
use Rattle.flow_lines.proofs.LinesAheadLemmas.{reads-next, ends-read, refuses-line}
use Rattle.flow_lines.proofs.AccountsForLemmas.{accounts-read, accounts-none, accounts-part, passed_on, stops-part}
use Rattle.flow_lines.proofs.HoldsLineLemmas.{holds_line-feed, holds_line-later, reads-plain}
use Rattle.flow_lines.proofs.LastReadLemmas.{lacks_next, holds_behind, holds_this}
use Rattle.flow_lines.proofs.cursor.Cursor.read_next.Goals as goal

pub returns-clause-next : goal.returns-clause-next
returns-clause-next g c =
    let wide : c.len.result + c.from.result ≡ line_width (record { bytes = c.read_line.new.line.items; terminated = c.in_ok-terminated.terminated }) = grind arith in
    record {
      next = reads-next c.args.self.now.read_buffer c.read_line.new.line.items c.read_line.new.read_buffer c.strip_return.new.line.items c.args.self.now.count c.args.self.now.given (c.len.result + c.from.result)
          (g.S.Source.left c.args.source.now) (g.S.Source.left c.read_line.new.source) c.in_ok-terminated.terminated c.in_ok-terminated.ensures.line wide c.if-width-eq0.false c.strip_return.ensures c.in_ok-terminated.ensures.small c.requires.numbered;
      ended = λ none. absurd (cc none);
      counts = λ _. refl;
      accounts = rw c.requires.empty (accounts-read _ _ _ _ _ _ _ _ _ _ _ c.in_ok-terminated.ensures.line wide);
    }

pub returns-then-width-eq0-clause-next : goal.returns-then-width-eq0-clause-next
returns-then-width-eq0-clause-next g c =
    let wide : c.len.result + c.from.result ≡ line_width (record { bytes = c.read_line.new.line.items; terminated = c.in_ok-terminated.terminated }) = grind arith in
    let ends = ends-read c.args.self.now.read_buffer c.read_line.new.line.items c.read_line.new.read_buffer c.args.self.now.count c.args.self.now.given (c.len.result + c.from.result)
    (g.S.Source.left c.args.source.now) (g.S.Source.left c.read_line.new.source) c.in_ok-terminated.terminated c.in_ok-terminated.ensures.line wide c.if-width-eq0.true c.requires.numbered c.requires.within in
    record {
      next = rw c.requires.empty ends.0;
      ended = λ _. ends.1;
      counts = λ found. absurd (cc found);
      accounts = rw c.requires.empty (accounts-none _ _ _ _ _ _ _ _ _ _ _ c.in_ok-terminated.ensures.line wide c.if-width-eq0.true);
    }

pub returns-clause-unread : goal.returns-clause-unread
returns-clause-unread g c holds = c.read_line.ensures.unread (holds_line-feed _ holds)

pub returns-in_err-terminated-clause-unread : goal.returns-in_err-terminated-clause-unread
returns-in_err-terminated-clause-unread g c holds = c.read_line.ensures.unread (holds_line-feed _ holds)

pub returns-then-width-eq0-clause-unread : goal.returns-then-width-eq0-clause-unread
returns-then-width-eq0-clause-unread g c holds = c.read_line.ensures.unread (holds_line-feed _ holds)

pub returns-clause-held : goal.returns-clause-held
returns-clause-held g c found holds blank =
    holds_line-later _ _ _ _ _ (reads-plain _ _ _ _ _ _ _ c.in_ok-terminated.ensures.line) (c.in_ok-terminated.ensures.held (holds_line-feed _ holds)) c.strip_return.ensures blank holds

pub returns-in_err-terminated-clause-refused : goal.returns-in_err-terminated-clause-refused
returns-in_err-terminated-clause-refused g c =
    passed_on (λ answer. IfErr answer (StopsReading (lines_state c.args.self.now.line.items c.args.self.now.read_buffer c.args.self.now.count c.args.self.now.given)
    (lines_state c.read_line.new.line.items c.read_line.new.read_buffer c.args.self.now.count c.args.self.now.given)
    (g.S.Source.left c.args.source.now) (g.S.Source.left c.read_line.new.source)))
    c.from_residual.result c.in_err-terminated.field-0.0 c.from_residual.ensures.1
    (record {
      refused = rw c.requires.empty (refuses-line _ _ _ _ _ _ _ c.in_err-terminated.field-0.0 c.in_err-terminated.ensures.refused);
      kept = λ failed. rw c.requires.empty (accounts-part _ _ _ _ _ _ _ _ _ (c.in_err-terminated.ensures.refused.fault failed));
      stops = rw c.requires.empty (stops-part c.args.self.now.read_buffer c.args.self.now.count c.args.self.now.given
          (g.S.Source.left c.args.source.now) (g.S.Source.left c.read_line.new.source) c.in_err-terminated.field-0.0 c.in_err-terminated.ensures.refused.stops c.in_err-terminated.ensures.refused.number_is);
    })

pub returns-clause-in_time : goal.returns-clause-in_time
returns-clause-in_time g c plain = rw c.requires.empty (lacks_next _ _ _ _ _ (c.in_ok-terminated.ensures.in_time plain))

pub returns-then-width-eq0-clause-in_time : goal.returns-then-width-eq0-clause-in_time
returns-then-width-eq0-clause-in_time g c plain = rw c.requires.empty (lacks_next _ _ _ _ _ (c.in_ok-terminated.ensures.in_time plain))

pub returns-clause-there : goal.returns-clause-there
returns-clause-there g c feed read =
    let line = reads-plain _ _ _ _ _ _ _ c.in_ok-terminated.ensures.line in
    let held = c.in_ok-terminated.ensures.held feed in (
      c.read_line.ensures.unread feed,
      holds_behind _ _ _ _ line held,
      holds_this _ _ _ _ _ line held c.strip_return.ensures,
    )
