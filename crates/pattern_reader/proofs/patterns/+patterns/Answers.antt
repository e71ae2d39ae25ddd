use Rattle.std.proofs.Common.{ap, ◌∙◌}
use Rattle.std.proofs.lemmas.List.{take_more, take_all}
use Rattle.pattern_grammar.specs.Tree.{shape}
use Rattle.pattern_reader.specs.declared.narrow_pattern.Operator.TheVariants.{Both, Either, Then}
use Rattle.pattern_reader.proofs.PartLemmas.{if_ok}
use Rattle.pattern_reader.proofs.OperatorLemmas.{part_more, applied, shape_both, shape_either, shape_then, shape_qualified}
use Rattle.pattern_reader.proofs.patterns.+patterns.Goals as goal

pub chain_of-loop-other-preserved : goal.chain_of-loop-other-preserved
chain_of-loop-other-preserved t c = record {
  narrow = c.in_ok-whole.ensures.narrow;
  part = λ p x. part_more c.args.text.now c.args.operator p c.args.others.now c.loop-other.other-index _ _ _ _ (take_more c.args.others.now c.loop-other.other-index c.other-item.result c.loop-other-test.true) (c.in_ok-whole.ensures.part c.args.text.now) (c.loop-other.invariant.part p x) (rw (c.other-item.is, c.in-Ok.is) at c.part_of.ensures.part);
}

pub chain_of-returns-clause-part : goal.chain_of-returns-clause-part
chain_of-returns-clause-part t c = λ p x. let all = take_all c.loop-other.other-index c.args.others.now c.loop-other-test.false in rw all at c.loop-other.invariant.part p x

pub part_of-returns-in_ok-first-in-Both-clause-part : goal.part_of-returns-in_ok-first-in-Both-clause-part
part_of-returns-in_ok-first-in-Both-clause-part t c =
    applied Both c.args.text.now _ _ c.in-Both.others _ _ (ap shape c.in-Both.is ∙ shape_both _ _) (rw c.deref.ensures at c.in_ok-first-in-Both.ensures.part) (rw c.as_slice.ensures at c.chain_of.ensures.part)

pub part_of-returns-in_ok-first-in-Either-clause-part : goal.part_of-returns-in_ok-first-in-Either-clause-part
part_of-returns-in_ok-first-in-Either-clause-part t c =
    applied Either c.args.text.now _ _ c.in-Either.others _ _ (ap shape c.in-Either.is ∙ shape_either _ _) (rw c.deref-in-Either.ensures at c.in_ok-first-in-Either.ensures.part) (rw c.as_slice-in-Either.ensures at c.chain_of-in-Either.ensures.part)

pub part_of-returns-in_ok-first-in-Then-clause-part : goal.part_of-returns-in_ok-first-in-Then-clause-part
part_of-returns-in_ok-first-in-Then-clause-part t c =
    applied Then c.args.text.now _ _ c.in-Then.others _ _ (ap shape c.in-Then.is ∙ shape_then _ _) (rw c.deref-in-Then.ensures at c.in_ok-first-in-Then.ensures.part) (rw c.as_slice-in-Then.ensures at c.chain_of-in-Then.ensures.part)

pub part_of-returns-in_ok-part-in-Qualified-clause-part : goal.part_of-returns-in_ok-part-in-Qualified-clause-part
part_of-returns-in_ok-part-in-Qualified-clause-part t c =
    rw (c.in-Qualified.is, shape_qualified) (if_ok _ _ c.limit_part.result (λ w h. h _ (rw c.deref-in-Qualified.ensures at c.in_ok-part-in-Qualified.ensures.part)) c.limit_part.ensures.part)
