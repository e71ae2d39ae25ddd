use Rattle.std.proofs.Common.{All}
use Rattle.taxii_store.specs.Planned.{IsSound}
use Rattle.taxii_store.specs.inner.Moving.{IsDraft}
use Rattle.taxii_store.proofs.AddsLemmas.{Continues}
use Rattle.taxii_store.proofs.draft.Draft.of.Given as goal

abbrev pub invariant-loop-object : goal.invariant-loop-object
invariant-loop-object l =
    All IsSound l.object-iterator.rest.items
    × IsDraft l.library.watermark l.draft.outcomes l.draft.added
    × Continues l.library l.collection l.fn.objects.items l.draft.outcomes l.draft.added l.object-iterator.rest.items
