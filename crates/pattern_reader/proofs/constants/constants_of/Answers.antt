use Rattle.std.proofs.lemmas.List.{take_more}
use Rattle.pattern_reader.specs.Meaning.{IsConstantOf}
use Rattle.pattern_reader.proofs.AllZipLemmas.{each_none, each_step}
use Rattle.pattern_reader.proofs.constants.constants_of.Goals as goal

pub returns-in_default : goal.returns-in_default
returns-in_default c = λ other. each_none (IsConstantOf c.args.text.now) c.args.tokens.now other c.loop-token.token-index _ c.loop-token-test.true (rw c.in_default.is at c.in_ok-one.ensures)

pub loop-token-preserved : goal.loop-token-preserved
loop-token-preserved c = rw c.in_ok-push.ensures.ok (each_step (IsConstantOf c.args.text.now) c.args.tokens.now _ c.loop-token.token-index _ _ (take_more c.args.tokens.now c.loop-token.token-index _ c.loop-token-test.true) c.loop-token.invariant (rw c.in-Some.is at c.in_ok-one.ensures))
