use Rattle.std.proofs.lemmas.List.{take_more}
use Rattle.pattern_grammar.specs.declared.comparison.ComparisonTree.{out-ComparisonTree}
use Rattle.pattern_grammar.specs.Tree.{all, any, operand, conjunction}
use Rattle.pattern_reader.specs.inner.Analysis.{IsAnalysis}
use Rattle.pattern_reader.specs.inner.Analysis.{IsChain, AreRootedOperands, AreAny}
use Rattle.pattern_reader.proofs.ChainLemmas.{test_operand, group_operand, grouped, no_all, no_any, part_more, conjunction_alone, conjunction_whole, comparison_alone, comparison_whole, not_so}
use Rattle.pattern_reader.proofs.analysis.+analyze.Goals as goal

pub analyze_operand-returns-in-Test : goal.analyze_operand-returns-in-Test
analyze_operand-returns-in-Test t c = rw (c.in-Test.is, test_operand) c.analyze_test.ensures

pub analyze_operand-returns-in_ok-analysis-in-Group : goal.analyze_operand-returns-in_ok-analysis-in-Group
analyze_operand-returns-in_ok-analysis-in-Group t c = rw (c.in-Group.is, group_operand) (grouped _ _ _ _ (rw c.deref.ensures at c.in_ok-analysis-in-Group.ensures))

pub analyze_conjunction-returns-then-is_empty : goal.analyze_conjunction-returns-then-is_empty
analyze_conjunction-returns-then-is_empty t c = conjunction_alone _ c.args.tree.now _ (c.is_empty.ensures.0 c.if-is_empty.true) c.in_ok-first.ensures

pub analyze_conjunction-loop-other-init : goal.analyze_conjunction-loop-other-init
analyze_conjunction-loop-other-init t c = c.in_ok-chain.ensures.all _ _ (no_all c.args.tree.now.first) c.in_ok-first.ensures

pub analyze_conjunction-loop-other-preserved : goal.analyze_conjunction-loop-other-preserved
analyze_conjunction-loop-other-preserved t c =
    let below = rw c.as_slice-other-items.ensures at c.loop-other-test.true in
    let next = rw (c.other-item.is, c.as_slice-other-items.ensures) at c.in_ok-next.ensures in
    part_more all operand (λ p. IsChain AreRootedOperands c.args.text.now p c.in_ok-chain-2.chain) _ c.args.tree.now.others c.loop-other.other-index _ (take_more c.args.tree.now.others c.loop-other.other-index c.other-item.result below) (c.in_ok-chain-2.ensures _ _ _ c.loop-other.invariant next)

pub analyze_conjunction-returns : goal.analyze_conjunction-returns
analyze_conjunction-returns t c = conjunction_whole (λ p. IsChain AreRootedOperands c.args.text.now p c.loop-other.chain) (λ p. IsAnalysis c.args.text.now p c.all_of.result) c.args.tree.now c.loop-other.other-index (c.all_of.ensures c.args.text.now) (not_so _ c.is_empty.ensures c.if-is_empty.false) (rw c.as_slice-other-items.ensures at c.loop-other-test.false) c.loop-other.invariant

pub analyze-returns-then-is_empty : goal.analyze-returns-then-is_empty
analyze-returns-then-is_empty t c = comparison_alone _ c.args.tree.now _ (c.is_empty.ensures.0 c.if-is_empty.true) c.in_ok-first.ensures

pub analyze-loop-other-init : goal.analyze-loop-other-init
analyze-loop-other-init t c = c.in_ok-chain.ensures.any _ _ (no_any (out-ComparisonTree c.args.tree.now).first) c.in_ok-first.ensures

pub analyze-loop-other-preserved : goal.analyze-loop-other-preserved
analyze-loop-other-preserved t c =
    let below = rw c.as_slice-other-items.ensures at c.loop-other-test.true in
    let next = rw (c.other-item.is, c.as_slice-other-items.ensures) at c.in_ok-next.ensures in
    part_more any conjunction (λ p. IsChain AreAny c.args.text.now p c.in_ok-chain-2.chain) _ (out-ComparisonTree c.args.tree.now).others c.loop-other.other-index _ (take_more (out-ComparisonTree c.args.tree.now).others c.loop-other.other-index c.other-item.result below) (c.in_ok-chain-2.ensures _ _ _ c.loop-other.invariant next)

pub analyze-returns : goal.analyze-returns
analyze-returns t c = comparison_whole (λ p. IsChain AreAny c.args.text.now p c.loop-other.chain) (λ p. IsAnalysis c.args.text.now p c.any_of.result) c.args.tree.now c.loop-other.other-index (c.any_of.ensures c.args.text.now) (not_so _ c.is_empty.ensures c.if-is_empty.false) (rw c.as_slice-other-items.ensures at c.loop-other-test.false) c.loop-other.invariant
