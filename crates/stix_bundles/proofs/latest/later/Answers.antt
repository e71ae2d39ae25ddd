use Rattle.std.proofs.Common.{Some, None, take, sym, subst, ◌∙◌}
use Rattle.std.proofs.lemmas.Bool.{false≢true}
use Rattle.stix_json.specs.DataOf.{data_of}
use Rattle.stix_bundles.specs.Objects.{data_in}
use Rattle.stix_bundles.specs.inner.Index.{IsPositionOf}
use Rattle.stix_bundles.proofs.ObjectsLemmas.{data_read, ordered_at}
use Rattle.stix_bundles.proofs.IndexLemmas.{held_superseded}
use Rattle.stix_bundles.proofs.IndexOfLemmas.{newly}
use Rattle.stix_bundles.proofs.latest.later.Goals as goal

pub returns-in_default : goal.returns-in_default
returns-in_default c =
    let object = c.index-objects-at.result in
    let there = data_read c.args.objects.now c.args.at object c.requires.there c.index-objects-at.is in
    λ id of is.
    newly c.one_modified.ensures (data_in c.args.objects.now) c.args.at (data_of object) there c.modified-time.result c.modified-time.ensures None (λ over. over) id of
    (subst (IsPositionOf (take c.args.at (data_in c.args.objects.now)) id) c.in_default.is is)

pub returns-then-is_superseded : goal.returns-then-is_superseded
returns-then-is_superseded c =
    let object = c.index-objects-at.result in
    let there = data_read c.args.objects.now c.args.at object c.requires.there c.index-objects-at.is in
    λ id of is.
    held_superseded c.one_modified.ensures (data_in c.args.objects.now) c.args.at (data_of object) there id c.modified-time.result c.modified-time.ensures (Some c.in-Some.held)
    (c.is_superseded.ensures.0 c.if-is_superseded.true) (subst (IsPositionOf (take c.args.at (data_in c.args.objects.now)) id) c.in-Some.is is)

pub returns-else-is_superseded : goal.returns-else-is_superseded
returns-else-is_superseded c =
    let object = c.index-objects-at.result in
    let there = data_read c.args.objects.now c.args.at object c.requires.there c.index-objects-at.is in
    λ id of is.
    newly c.one_modified.ensures (data_in c.args.objects.now) c.args.at (data_of object) there c.modified-time.result c.modified-time.ensures (Some c.in-Some.held)
    (λ over. false≢true (sym c.if-is_superseded.false ∙ c.is_superseded.ensures.1 over)) id of
    (subst (IsPositionOf (take c.args.at (data_in c.args.objects.now)) id) c.in-Some.is is)

pub modified-time-requires : goal.modified-time-requires
modified-time-requires c = ordered_at c.args.objects.now c.args.at c.index-objects-at.result c.requires.there c.index-objects-at.is c.requires.ordered
