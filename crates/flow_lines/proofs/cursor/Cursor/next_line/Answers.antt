use Rattle.std.proofs.Common.{rules, ◌++◌, inl, refl, ap, Ok, IfErr, sym, ◌∙◌, arith}
use Rattle.flow_lines.specs.Lines.{is_blank_text, StopsInLine}
use Rattle.flow_lines.specs.inner.Reading.{lines_state}
use Rattle.flow_lines.proofs.AccountsForLemmas.{accounts-start, accounts-then, continues, accounts-emptied, loses-passed_on, passed_on, stops-then}
use Rattle.flow_lines.proofs.LastReadLemmas.{still_in_time, given_in_time}
use Rattle.flow_lines.proofs.CausesLemmas.{counts_fine, counts_passed}
use Rattle.flow_lines.proofs.cursor.Cursor.next_line.Goals as goal

pub returns-in_err-read_next-clause-accounted : goal.returns-in_err-read_next-clause-accounted
returns-in_err-read_next-clause-accounted g c =
    loses-passed_on
    (lines_state c.args.self.now.line.items c.args.self.now.read_buffer c.args.self.now.count c.args.self.now.given)
    (lines_state c.lines.self.line.items c.lines.self.read_buffer c.lines.self.count c.lines.self.given)
    (lines_state c.read_next.new.self.line.items c.read_next.new.self.read_buffer c.read_next.new.self.count c.read_next.new.self.given)
    _ _ _ c.in_err-read_next.field-0.0 c.from_residual.result c.from_residual.ensures.1 c.lines.invariant.accounted (λ fault. c.in_err-read_next.ensures.refused.kept fault)

pub returns-then-not-branch-clause-accounted : goal.returns-then-not-branch-clause-accounted
returns-then-not-branch-clause-accounted g c =
    let between = c.in_ok-read_next.ensures.next.ended c.if-not-branch.true in
    continues _ _ _ _ _ _ c.lines.invariant.accounted (accounts-emptied _ _ _ _ _ _ _ between.empty c.in_ok-read_next.ensures.next.accounts)

pub returns-then-not-is_blank_line-clause-accounted : goal.returns-then-not-is_blank_line-clause-accounted
returns-then-not-is_blank_line-clause-accounted g c =
    continues _ _ _ _ _ _ c.lines.invariant.accounted (accounts-emptied _ _ _ _ _ _ _ (ap (λ v. v.items) c.replace-bytes.ensures.after ∙ c.new.ensures.items) c.in_ok-read_next.ensures.next.accounts)

pub lines-init : goal.lines-init
lines-init g c = record {
  between = c.requires;
  ahead = refl;
  accounted = accounts-start _ _;
  held = λ holds. (refl, rw c.requires.empty at holds);
  in_time = inl (refl, λ holds. rw c.requires.empty holds);
  moved = omega arith;
  quiet = refl;
}

pub lines-preserved : goal.lines-preserved
lines-preserved g c =
    let next = rw c.if-not-branch.false at c.in_ok-read_next.ensures.next.next in
    record {
      between = search rules;
      ahead = search rules;
      accounted = accounts-then _ _ _ _ _ _ c.lines.invariant.accounted (accounts-emptied _ _ _ _ _ _ _ c.clear.ensures.items c.in_ok-read_next.ensures.next.accounts);
      held = λ holds. (
        c.read_next.ensures.unread (c.lines.invariant.held holds).1 ∙ (c.lines.invariant.held holds).0,
        c.in_ok-read_next.ensures.held c.if-not-branch.false (c.lines.invariant.held holds).1 (ap is_blank_text (sym c.deref.ensures.value) ∙ sym c.if-not-is_blank_line.ensures),
      );
      in_time = still_in_time g.S.Source.began c.args.source.now c.lines.source c.read_next.new.source
          (c.args.self.now.line.items ++ c.args.self.now.read_buffer) c.lines.self.line.items c.lines.self.read_buffer c.read_next.new.self.read_buffer c.read_next.new.self.line.items _ _ _ _ _ _
          c.lines.invariant.in_time c.lines.invariant.accounted c.in_ok-read_next.ensures.in_time
          (λ feed. c.in_ok-read_next.ensures.there feed (ap Ok c.if-not-branch.false)) (c.in_ok-read_next.ensures.next.counts c.if-not-branch.false);
      moved = omega (arith, next.moved);
      quiet = c.in_ok-read_next.ensures.causes.quiet (λ failed. cc failed) ∙ c.lines.invariant.quiet;
    }

pub returns-in_err-read_next-clause-stops : goal.returns-in_err-read_next-clause-stops
returns-in_err-read_next-clause-stops g c =
    passed_on (λ answer. IfErr answer (StopsInLine (lines_state c.args.self.now.line.items c.args.self.now.read_buffer c.args.self.now.count c.args.self.now.given)
    (g.S.Source.left c.args.source.now) (g.S.Source.left c.read_next.new.source)))
    c.from_residual.result c.in_err-read_next.field-0.0 c.from_residual.ensures.1
    (stops-then _
    (lines_state c.lines.self.line.items c.lines.self.read_buffer c.lines.self.count c.lines.self.given)
    _ _ _ _ c.lines.invariant.accounted c.lines.invariant.ahead c.in_err-read_next.ensures.refused.stops)

pub returns-then-not-is_blank_line-clause-in_time : goal.returns-then-not-is_blank_line-clause-in_time
returns-then-not-is_blank_line-clause-in_time g c unheld =
    given_in_time g.S.Source.began c.args.source.now c.lines.source c.read_next.new.source
    (c.args.self.now.line.items ++ c.args.self.now.read_buffer) c.lines.self.line.items c.lines.self.read_buffer c.read_next.new.self.read_buffer c.read_next.new.self.line.items _ _ _ _ _ _
    c.lines.invariant.in_time c.lines.invariant.accounted c.in_ok-read_next.ensures.in_time
    (λ feed. c.in_ok-read_next.ensures.there feed (ap Ok c.if-not-branch.false)) (c.in_ok-read_next.ensures.next.counts c.if-not-branch.false)
    (ap is_blank_text (sym c.deref.ensures.value) ∙ sym c.if-not-is_blank_line.ensures) unheld

pub returns-in_err-read_next-clause-causes : goal.returns-in_err-read_next-clause-causes
returns-in_err-read_next-clause-causes g c = counts_passed _ _ _ _ _ _ c.lines.invariant.quiet c.from_residual.ensures.1 c.in_err-read_next.ensures.causes

pub returns-then-not-branch-clause-causes : goal.returns-then-not-branch-clause-causes
returns-then-not-branch-clause-causes g c = counts_fine _ _ _ c.lines.invariant.quiet c.in_ok-read_next.ensures.causes (λ failed. cc failed) (λ is. cc)

pub returns-then-not-is_blank_line-clause-causes : goal.returns-then-not-is_blank_line-clause-causes
returns-then-not-is_blank_line-clause-causes g c = counts_fine _ _ _ c.lines.invariant.quiet c.in_ok-read_next.ensures.causes (λ failed. cc failed) (λ is. cc)
