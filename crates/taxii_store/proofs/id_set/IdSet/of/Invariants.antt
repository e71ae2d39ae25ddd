use Rattle.std.proofs.Common.{◌≡◌, take, map}
use Rattle.taxii_store.specs.inner.Sets.{key_parts, number_and_kind}
use Rattle.taxii_store.proofs.id_set.IdSet.of.Given as goal

abbrev pub invariant-loop-id : goal.invariant-loop-id
invariant-loop-id l = map key_parts l.row.items ≡ map number_and_kind (take l.id-index l.ids)
