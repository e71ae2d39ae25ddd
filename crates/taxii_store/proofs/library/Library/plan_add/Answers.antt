use Rattle.std.proofs.Common.{ap, sym, subst, ◌∙◌}
use Rattle.taxii_rows.specs.SoundRow.{IsSoundState}
use Rattle.taxii_rows.specs.StoreState.{StoreState}
use Rattle.taxii_store.specs.Addition.{IsAddition}
use Rattle.taxii_store.specs.Planned.{PlannedState}
use Rattle.taxii_store.specs.inner.Moving.{plan_of}
use Rattle.taxii_store.proofs.DraftLemmas.{plan_adds}
use Rattle.taxii_store.proofs.library.Library.plan_add.Goals as goal

pub returns-clause-ok : goal.returns-clause-ok
returns-clause-ok c =
    let draft = c.in_ok-draft.draft in
    let sound = subst IsSoundState c.self.view_is c.self.invariant in
    let planned = c.planned_at.ensures ∙ ap (λ (state : StoreState). plan_of state.watermark c.args.moment draft.outcomes draft.added) c.self.view_is in
    subst (λ (plan : PlannedState). IsAddition c.args.self.now c.args.collection c.args.moment c.args.objects.items plan.outcomes plan.rows) (sym planned)
    (plan_adds c.args.self.now c.args.collection c.args.moment c.args.objects.items draft.outcomes draft.added
    sound.marked c.in_ok-draft.ensures.draft c.in_ok-draft.ensures.ok)
