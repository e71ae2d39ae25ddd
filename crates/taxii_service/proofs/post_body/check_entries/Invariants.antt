use Rattle.std.proofs.Common.{◌≡◌, ◌++◌, All}
use Rattle.taxii_store.specs.Planned.{IsSound}
use Rattle.taxii_service.specs.Posted.{HoldsEntries}
use Rattle.taxii_service.specs.inner.Posting.{IsTakenEntry}
use Rattle.taxii_service.proofs.post_body.check_entries.Given as goal

abbrev pub invariant-loop-entry : goal.invariant-loop-entry
invariant-loop-entry l = record {
  items : l.fn.entries.items ≡ l.yielded ++ l.entry-iterator.rest.items;
  taken : All IsTakenEntry l.entry-iterator.rest.items;
  holds : HoldsEntries l.moment l.yielded l.posted;
  sound : All IsSound l.posted.objects.items;
}
