use Rattle.std.proofs.Common.{◌≡◌, [], All, sym, subst, ◌∙◌}
use Rattle.std.proofs.lemmas.List.{nil_from_length}
use Rattle.std.proofs.lemmas.List.Elements.{All-tail}
use Rattle.taxii_store.specs.declared.plan_refusal.PlanRefusal.TheVariants.{DatesUsedUp}
use Rattle.taxii_store.specs.Addition.{UsesUpDates}
use Rattle.taxii_store.specs.Planned.{IsSound}
use Rattle.taxii_store.proofs.AddsLemmas.{Continues, continues_last, continues_next, lacks_dates}
use Rattle.taxii_store.proofs.AnswerLemmas.{handed_on}
use Rattle.taxii_store.proofs.draft.Draft.of.Goals as goal

pub loop-object-preserved : goal.loop-object-preserved
loop-object-preserved c =
    let draft = c.loop-object.draft in
    let sound = subst (All IsSound) c.in-Some.ensures.steps.0 c.loop-object.invariant.0 in
    let goes = subst (Continues c.args.library.now c.args.collection c.args.objects.items draft.outcomes draft.added) c.in-Some.ensures.steps.0 c.loop-object.invariant.2 in (
      All-tail IsSound c.in-Some.object c.next.new.self.rest.items sound,
      c.in_ok-place.ensures.draft,
      continues_next c.args.library.now c.args.collection c.args.objects.items draft.outcomes c.place.new.self.outcomes draft.added c.place.new.self.added
          c.in-Some.object c.next.new.self.rest.items goes c.in_ok-place.ensures.ok,
    )

pub returns-in_err-place-clause-err : goal.returns-in_err-place-clause-err
returns-in_err-place-clause-err c =
    let draft = c.loop-object.draft in
    let goes = subst (Continues c.args.library.now c.args.collection c.args.objects.items draft.outcomes draft.added) c.in-Some.ensures.steps.0 c.loop-object.invariant.2 in
    let lacks = λ (used : c.in_err-place.field-0.0 ≡ DatesUsedUp). lacks_dates c.args.library.now c.args.collection c.args.objects.items draft.outcomes draft.added c.in-Some.object c.next.new.self.rest.items goes (c.in_err-place.ensures.err used) in
    handed_on c.from_residual-in_err-place.result c.in_err-place.field-0.0
    (λ refusal. refusal ≡ DatesUsedUp → UsesUpDates c.args.library.now c.args.collection c.args.objects.items)
    c.from_residual-in_err-place.ensures.1 lacks

pub returns-clause-ok : goal.returns-clause-ok
returns-clause-ok c =
    let draft = c.loop-object.draft in
    let none : c.loop-object.object-iterator.rest.items ≡ [] = nil_from_length c.loop-object.object-iterator.rest.items (sym c.loop-object.object-iterator.rest.ok.0 ∙ c.in-None.ensures.steps.0) in
    continues_last c.args.library.now c.args.collection c.args.objects.items draft.outcomes draft.added
    (subst (Continues c.args.library.now c.args.collection c.args.objects.items draft.outcomes draft.added) none c.loop-object.invariant.2)
