use Rattle.std.proofs.Common.{◌≡◌, IsTrue, subst}
use Rattle.taxii_rows.specs.Keeper.{row_after}
use Rattle.taxii_store.specs.inner.Reading.{IsBadNext}
use Rattle.taxii_store.proofs.LoadLemmas.{bad_next, if_both, one_after}
use Rattle.taxii_store.proofs.load.next_fit.Goals as goal

pub returns-else-branch-clause-bad : goal.returns-else-branch-clause-bad
returns-else-branch-clause-bad g c at same = (
  one_after c.args.after at same,
  if_both (g.K.Keeper.kept c.args.keeper.now).observable (λ state. state.watermark ≡ c.args.watermark) (λ state. c.in_ok-found.found ≡ row_after c.args.after state.rows)
      (λ state. IsBadNext state c.args.after)
      (λ state watermark row. bad_next state c.args.after c.args.watermark c.in_ok-found.found watermark row
      (λ fits. let wrong = subst IsTrue c.if-branch.false (c.in_ok-may_follow.ensures.1 fits) in absurd (cc wrong)))
      c.requires.watermark c.in_ok-found.ensures.row,
)
