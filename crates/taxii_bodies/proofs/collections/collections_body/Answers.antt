use Rattle.taxii_bodies.specs.inner.Members.{members_in}
use Rattle.taxii_bodies.proofs.CollectionLemmas.{values_ordered}
use Rattle.taxii_bodies.proofs.FieldLemmas.{one_ordered}
use Rattle.taxii_bodies.proofs.collections.collections_body.Goals as goal

pub into_text-requires : goal.into_text-requires
into_text-requires c =
    one_ordered (members_in c.new-collections.result) (members_in c.add_list.new.self) _ c.new-collections.ensures c.in_ok-add_list.ensures
    (tt, values_ordered c.in_ok-values.values c.args.infos.now c.in_ok-values.ensures, tt)
