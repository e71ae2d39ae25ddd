use Rattle.std.proofs.Common.{◌≡◌, ◌+◌, sym, ◌∙◌, ap, arith}
use Rattle.match_pruning.specs.inner.Steps.{a_leaf, a_choice, leaves_state}
use Rattle.match_stream.proofs.LeavesLemmas.{one_more, one_alone, window_is}
use Rattle.match_stream.proofs.leaves.Leaves.with.Goals as goal

pub returns-then-eq : goal.returns-then-eq
returns-then-eq c =
    let s = c.args.self.now in let next = c.args.next.now in
    let follows : s.first + s.more + 1 ≡ next.first = omega (arith, c.if-last-next.true, c.if-next-last-eq1.true) in
    let same = window_is s.window next.window (sym c.if-eq.ensures) in
    one_more s.first s.more s.window
    ∙ ap (λ k. a_choice (leaves_state s.first s.more s.window) (a_leaf k s.window)) follows
    ∙ ap (λ w. a_choice (leaves_state s.first s.more s.window) (a_leaf next.first w)) same
    ∙ ap (λ z. a_choice (leaves_state s.first s.more s.window) z) (one_alone next.first next.more next.window c.if-next-eq0.true)
