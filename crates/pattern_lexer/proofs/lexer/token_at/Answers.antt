use Rattle.std.proofs.Common.{subst, sym, ◌∙◌, drop}
use Rattle.std.proofs.lemmas.Bool.{false≢true}
use Rattle.pattern_lexer.specs.Reading.{IsRefusalAt}
use Rattle.pattern_lexer.proofs.AreTokensLemmas.{placed, stands, represents_nothing}
use Rattle.pattern_lexer.proofs.lexer.token_at.Goals as goal

pub has_value-requires-clause-cut : goal.has_value-requires-clause-cut
has_value-requires-clause-cut c = (placed c.args.text.now c.as_bytes-bytes.result.now c.args.at c.in-Some.first.kind c.in-Some.first.after.now c.utf8.text c.as_bytes-bytes.ensures.value c.requires c.in-Some.ensures.some).cut

pub returns-then-not-branch : goal.returns-then-not-branch
returns-then-not-branch c =
    subst (λ r. IsRefusalAt c.args.at (drop c.args.at c.args.text.now) r) (sym c.invalid_value.ensures)
    (represents_nothing c.args.text.now c.as_bytes-bytes.result.now c.args.at c.in-Some.first.kind c.in-Some.first.after.now c.runs_on.result c.utf8.text c.as_bytes-bytes.ensures.value c.requires c.in-Some.ensures.some c.runs_on.ensures c.if-runs_on.false c.in_default-left_word.ensures.none (λ has. false≢true (sym c.if-not-branch.true ∙ c.in_ok-has_value.ensures.1 has)))

pub returns : goal.returns
returns c =
    stands c.args.text.now c.as_bytes-bytes.result.now c.args.at c.in-Some.first.kind c.in-Some.first.after.now c.runs_on.result c.utf8.text c.as_bytes-bytes.ensures.value c.requires c.in-Some.ensures.some c.runs_on.ensures c.if-runs_on.false c.in_default-left_word.ensures.none (c.in_ok-has_value.ensures.0 c.if-not-branch.false)
