use Rattle.std.proofs.Common.{◌+◌, List, Option, ℕ, drop, refl, sym, subst}
use Rattle.std.proofs.lemmas.Option.{same_Some, none-some}
use Rattle.std.proofs.lemmas.List.Elements.{All-get_or}
use Rattle.serde_json.specs.Data.{Data}
use Rattle.stix_json.specs.DataOf.{data_of}
use Rattle.stix_bundles.specs.Objects.{data_in}
use Rattle.pattern_types.specs.declared.path.Step.{Step}
use Rattle.match_comparisons.specs.Selection.{Reaches, last_name}
use Rattle.match_comparisons.specs.inner.Search.{borrowed_name}
use Rattle.match_comparisons.proofs.ContainsLemmas.{drop_next, drop_whole}
use Rattle.hunt_index.specs.Definite.{IsPlain}
use Rattle.hunt_index.proofs.walk.value_at_path.Goals as goal

pub returns-in_default-clause-all : goal.returns-in_default-clause-all
returns-in_default-clause-all c = λ value plain reaches.
    let steps = c.args.steps.now in
    let i = c.loop-step.step-index in
    let step = c.step-item.result in
    let here = subst (λ (s : List Step). Reaches (data_in c.args.bundle.now) (borrowed_name c.loop-step.last) s (data_of c.loop-step.value.now) value)
    (drop_next steps i step c.loop-step-test.true c.step-item.is) (c.loop-step.invariant.1 value plain reaches) in
    let plain_step = subst IsPlain (sym c.step-item.is) (All-get_or IsPlain steps i step c.loop-step-test.true plain) in
    absurd (none-some here.0 (c.in_default.ensures.next here.0 plain_step here.1))

pub loop-step-preserved : goal.loop-step-preserved
loop-step-preserved c =
    let objects = data_in c.args.bundle.now in
    let steps = c.args.steps.now in
    let i = c.loop-step.step-index in
    let step = c.step-item.result in
    let next = data_of c.in-Some.next.now in (
      c.in-Some.ensures.ordered,
      λ found plain reaches.
          let here = subst (λ (s : List Step). Reaches objects (borrowed_name c.loop-step.last) s (data_of c.loop-step.value.now) found)
          (drop_next steps i step c.loop-step-test.true c.step-item.is) (c.loop-step.invariant.1 found plain reaches) in
          let plain_step = subst IsPlain (sym c.step-item.is) (All-get_or IsPlain steps i step c.loop-step-test.true plain) in
          let same = same_Some next here.0 (c.in-Some.ensures.next here.0 plain_step here.1) in
          let last = subst (λ (d : Data). Reaches objects (last_name (borrowed_name c.loop-step.last) step) (drop (i + 1) steps) d found) (sym same) here.2 in
          subst (λ (name : Option (List ℕ)). Reaches objects name (drop (i + 1) steps) next found) (sym c.name_after-last.ensures) last,
      λ found reaches.
          let behind = subst (λ (name : Option (List ℕ)). Reaches objects name (drop (i + 1) steps) next found) c.name_after-last.ensures reaches in
          c.loop-step.invariant.2 found
          (subst (λ (s : List Step). Reaches objects (borrowed_name c.loop-step.last) s (data_of c.loop-step.value.now) found) (sym (drop_next steps i step c.loop-step-test.true c.step-item.is))
          (next, c.in-Some.ensures.reached, behind)),
    )

pub returns-clause-reached : goal.returns-clause-reached
returns-clause-reached c =
    let steps = c.args.steps.now in
    c.loop-step.invariant.2 (data_of c.loop-step.value.now)
    (subst (λ (s : List Step). Reaches (data_in c.args.bundle.now) (borrowed_name c.loop-step.last) s (data_of c.loop-step.value.now) (data_of c.loop-step.value.now))
    (sym (drop_whole steps c.loop-step.step-index c.loop-step-test.false)) refl)
