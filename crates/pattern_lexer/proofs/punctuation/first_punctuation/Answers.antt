use Rattle.std.proofs.Common.{sym}
use Rattle.pattern_lexer.proofs.LongestTokenLemmas.{single_first, double_first, no_punctuation}
use Rattle.pattern_lexer.proofs.punctuation.first_punctuation.Goals as goal

pub returns-in-Some-clause-some : goal.returns-in-Some-clause-some
returns-in-Some-clause-some c =
    let h = c.in-Some.ensures.some in
    double_first c.args.bytes.now c.in_ok-first.more.now c.in-Some.found.after.now c.in_ok-first.first.now c.in-Some.found.kind c.in_ok-first.ensures.cases.0 h.0 h.1

pub returns-in_err-kind-clause-none : goal.returns-in_err-kind-clause-none
returns-in_err-kind-clause-none c =
    rw c.from_residual-in_err-kind.ensures
    (no_punctuation c.args.bytes.now c.in_ok-first.more.now c.in_ok-first.first.now c.in_ok-first.ensures.cases.0 c.requires (sym c.in_err-kind.ensures) c.in_default.ensures.none)

pub returns-clause-some : goal.returns-clause-some
returns-clause-some c = single_first c.args.bytes.now c.in_ok-first.more.now c.in_ok-first.first.now c.in_ok-kind.kind c.in_ok-first.ensures.cases.0 (sym c.in_ok-kind.ensures) c.in_default.ensures.none
