-- The last one that fits.
use Rattle.std.proofs.Common.{ℕ, List, refl, sym, ◌∙◌, subst, arith}
use Rattle.std.specs.List.{Contains}
use Rattle.match_pruning.specs.inner.PartialMatches.{partial_match_tree}
use Rattle.match_pruning.proofs.BegunLemmas.{contains_at}
use Rattle.match_pruning.proofs.GreedyCompletionLemmas.{le_before, taken}
use Rattle.match_pruning.proofs.greedy_completion.GreedyCompletion.take_last.Goals as goal

pub returns-then-branch : goal.returns-then-branch
returns-then-branch c = λ _ partial_match s.
    let l = c.index-left.result.now in let held = c.args.store.now.held.items in let before = c.loop-at.invariant in
    let place = c.in-Some.ensures.some.inside in
    let there = contains_at held c.in-Some.at l (omega (arith, place, before.within)) c.index-left.ensures in
    let told = taken c.args.self.now _ (partial_match_tree l) partial_match s l.span
    (le_before l.latest c.loop-at.self.earliest (sym c.le.ensures ∙ c.if-le.true)) before.earliest refl
    (λ n h. subst (λ (z : List ℕ). ¬ (Contains z n)) before.numbers (c.in_ok-add.ensures.added c.if-branch.true n h).0)
    (λ n h. (c.in_ok-add.ensures.added c.if-branch.true n h).1)
    (λ n h. c.in_ok-add.ensures.kept n (subst (λ (z : List ℕ). Contains z n) (sym before.numbers) h)) in
    (partial_match_tree l, there, told.0, told.1)
