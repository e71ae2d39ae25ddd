use Rattle.std.proofs.Common.{◌+◌, ◌≤◌, arith, ℕ, List, length, Some, None, append-nil, sym, subst, ◌∙◌}
use Rattle.std.proofs.lemmas.List.{take_all}
use Rattle.stix_json.specs.declared.value.Json.{Json}
use Rattle.serde_json.specs.Find.{as_str}
use Rattle.std.proofs.Common.{filter_map}
use Rattle.stix_bundles.specs.Objects.{data_in}
use Rattle.stix_bundles.specs.Observations.{AreResolved}
use Rattle.stix_bundles.proofs.AreResolvedLemmas.{texts_of, resolved_step}
use Rattle.stix_bundles.proofs.observe.resolved.Goals as goal
use Rattle.stix_bundles.proofs.observe.resolved.Goals.{in-Some+in_ok-push, in_default}

pub loop-item-preserved : goal.loop-item-preserved
loop-item-preserved c =
    let objects = data_in c.args.bundle.now in
    let items = c.args.items.now in
    let k = c.loop-item.item-index in
    let item = c.item-item.result in
    let before = c.loop-item.places in
    elim c.match-place_of.branch [
      | in-Some+in_ok-push w ↦
          let now = w.places-is ∙ w.in_ok-push.ensures.ok in
          subst (λ (ps : List ℕ). AreResolved objects (texts_of items (k + 1)) ps) (sym now)
          (resolved_step objects items k item before (Some w.in-Some.place) c.loop-item-test.true (sym c.item-item.is) c.loop-item.invariant w.in-Some.ensures)
      | in_default w ↦
          let now = w.places-is ∙ sym (append-nil before) in
          subst (λ (ps : List ℕ). AreResolved objects (texts_of items (k + 1)) ps) (sym now)
          (resolved_step objects items k item before None c.loop-item-test.true (sym c.item-item.is) c.loop-item.invariant w.in_default.ensures)
    ]

pub returns : goal.returns
returns c =
    let items = c.args.items.now in
    let past : length items ≤ c.loop-item.item-index = omega arith in
    subst (λ (values : List Json). AreResolved (data_in c.args.bundle.now) (filter_map as_str (data_in values)) c.loop-item.places) (take_all c.loop-item.item-index items past)
    c.loop-item.invariant
