use Rattle.std.proofs.Common.{sym, subst, ◌∙◌}
use Rattle.std.proofs.lemmas.Bool.{false≢true}
use Rattle.std.proofs.lemmas.List.{take_more}
use Rattle.pattern_grammar.specs.inner.Machine.{CountsOf}
use Rattle.pattern_grammar.proofs.DepthLemmas.{none_nothing, none_through, first_at}
use Rattle.pattern_grammar.proofs.depth.first_too_many.Goals as goal

pub loop-before-init : goal.loop-before-init
loop-before-init c = record { none_before = none_nothing; counted = c.none-counts.ensures }

pub returns-then-is_too_many-clause-some : goal.returns-then-is_too_many-clause-some
returns-then-is_too_many-clause-some c =
    first_at c.args.tokens.now c.loop-before.before _ c.loop-before-test.true c.loop-before.invariant.none_before
    ((c.is_too_many.ensures _ c.loop-before.invariant.counted).0 c.if-is_too_many.true)

pub loop-before-preserved : goal.loop-before-preserved
loop-before-preserved c =
    let counted = c.loop-before.invariant.counted in
    record {
      none_before =
          none_through c.args.tokens.now c.loop-before.before _ c.loop-before-test.true c.loop-before.invariant.none_before
          (λ many. false≢true (sym c.if-is_too_many.false ∙ (c.is_too_many.ensures _ counted).1 many));
      counted =
          subst (λ ts. CountsOf ts c.with-counts.result) (sym (take_more c.args.tokens.now c.loop-before.before _ c.loop-before-test.true))
          (c.with-counts.ensures _ counted);
    }
