use Rattle.std.proofs.Common.{arith, ◌≤◌, ◌+◌, List, length, take, sym, subst, ◌∙◌}
use Rattle.std.proofs.lemmas.Bool.{false≢true}
use Rattle.std.proofs.lemmas.List.{length-map, take_all}
use Rattle.serde_json.specs.Data.{Data}
use Rattle.stix_ids.specs.PartsOf.{id_of}
use Rattle.stix_json.specs.DataOf.{data_of}
use Rattle.stix_bundles.specs.Objects.{data_in}
use Rattle.stix_bundles.specs.Lookup.{IsOf}
use Rattle.stix_bundles.specs.inner.Index.{IsPositionOf}
use Rattle.stix_bundles.proofs.ObjectsLemmas.{data_read, ordered_at}
use Rattle.stix_bundles.proofs.IndexLemmas.{held_beside}
use Rattle.stix_bundles.proofs.latest.latest_of.Goals as goal
use Rattle.stix_bundles.proofs.latest.latest_of.Goals.{then-has_id, else-has_id}

pub loop-at-preserved : goal.loop-at-preserved
loop-at-preserved c =
    let ds = data_in c.args.objects.now in
    let at = c.loop-at.at in
    let id = id_of c.args.id in
    let object = c.index-objects-at.result in
    let there = data_read c.args.objects.now at object c.loop-at-test.true c.index-objects-at.is in
    elim c.if-has_id.branch [
      | then-has_id w ↦
          let of : IsOf ds id at = record { object = data_of object; there = there; has = c.has_id.ensures.0 w.if-has_id.true } in
          subst (IsPositionOf (take (at + 1) ds) id) (sym w.latest-is) (w.later.ensures id of c.loop-at.invariant)
      | else-has_id w ↦
          subst (IsPositionOf (take (at + 1) ds) id) (sym w.latest-is)
          (held_beside ds at (data_of object) there id (λ has. false≢true (sym w.if-has_id.false ∙ c.has_id.ensures.1 has)) c.loop-at.latest c.loop-at.invariant)
    ]

pub returns : goal.returns
returns c =
    let ds = data_in c.args.objects.now in
    let count = length-map c.args.objects.now data_of in
    let past : length ds ≤ c.loop-at.at = omega arith in
    subst (λ (xs : List Data). IsPositionOf xs (id_of c.args.id) c.loop-at.latest) (take_all c.loop-at.at ds past) c.loop-at.invariant

pub has_id-requires : goal.has_id-requires
has_id-requires c = ordered_at c.args.objects.now c.loop-at.at c.index-objects-at.result c.loop-at-test.true c.index-objects-at.is c.requires.ordered
