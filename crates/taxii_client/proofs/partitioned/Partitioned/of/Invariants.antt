use Rattle.std.proofs.Common.{◌≡◌, ◌++◌, All}
use Rattle.taxii_store.specs.Planned.{IsSound}
use Rattle.taxii_client.specs.Absorbing.{IsReadable}
use Rattle.taxii_client.specs.inner.Sorting.{Partitions}
use Rattle.taxii_client.proofs.partitioned.Partitioned.of.Given as goal

abbrev pub invariant-loop-entry : goal.invariant-loop-entry
invariant-loop-entry l = record {
  items : l.fn.entries.items ≡ l.yielded ++ l.entry-iterator.rest.items;
  readable : All IsReadable l.entry-iterator.rest.items;
  partitions : Partitions l.yielded l.partitioned;
  sound : All IsSound l.partitioned.objects.items;
}
