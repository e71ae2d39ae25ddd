use Rattle.std.proofs.Common.{rules}
use Rattle.std.proofs.lemmas.List.{nil_from_length}
use Rattle.pattern_lexer.proofs.EscapedTextLemmas.{plain_read, special_read, no_more, no_special}
use Rattle.pattern_lexer.proofs.quoted.after_words.Goals as goal

pub returns-in_err-rest-in-92-clause-none : goal.returns-in_err-rest-in-92-clause-none
returns-in_err-rest-in-92-clause-none c =
    rw c.from_residual.ensures
    (no_special c.args.inside.now c.loop-first.rest.now c.in-Some.more.now c.in-Some.first.now c.loop-first.invariant c.in-Some.ensures.cases.0 c.in-92.is c.in_err-rest-in-92.ensures.none)

pub loop-first-preserved-in-92 : goal.loop-first-preserved-in-92
loop-first-preserved-in-92 c =
    let h = c.in_ok-rest-in-92.ensures.some in
    special_read c.args.inside.now c.loop-first.rest.now c.in-Some.more.now c.in_ok-rest-in-92.rest.now h.0 c.in-Some.first.now c.loop-first.invariant c.in-Some.ensures.cases.0 c.in-92.is h.2 h.1

pub loop-first-preserved : goal.loop-first-preserved
loop-first-preserved c = plain_read c.args.inside.now c.loop-first.rest.now c.in-Some.more.now c.in-Some.first.now c.loop-first.invariant c.in-Some.ensures.cases.0 (search rules) (search rules)

pub returns-clause-none : goal.returns-clause-none
returns-clause-none c = no_more c.args.inside.now c.loop-first.rest.now c.loop-first.invariant (nil_from_length c.loop-first.rest.now c.in_default.ensures.cases)
