use Rattle.std.proofs.Common.{List, ℕ, take, get_or, sym, subst}
use Rattle.std.proofs.lemmas.List.{take_more}
use Rattle.match_comparisons.specs.inner.PositionSet.{AreOf}
use Rattle.match_comparisons.proofs.RootsLemmas.{new_same}
use Rattle.match_comparisons.proofs.rows.positions_of.Goals as goal

pub loop-at-preserved : goal.loop-at-preserved
loop-at-preserved c =
    let i = c.loop-at.at-index in
    let list = c.args.list.now in
    subst (λ (l : List ℕ). AreOf l c.add.new.self) (sym (take_more list i 0 c.loop-at-test.true))
    (new_same (take i list) c.loop-at.position_set c.add.new.self (get_or list i 0) c.loop-at.invariant c.in_ok-add.ensures.added)
