use Rattle.std.proofs.Common.{◌≡◌, map, take, Some}
use Rattle.taxii_store.specs.Page.{FitsPage}
use Rattle.taxii_store.specs.inner.Asking.{AsksOfCollection}
use Rattle.taxii_store.proofs.FitLemmas.{IsCountOf}
use Rattle.taxii_store.proofs.PageLemmas.{meeting}
use Rattle.taxii_store.proofs.page.page_of_object.Given as goal

abbrev pub invariant-loop-row : goal.invariant-loop-row
invariant-loop-row l =
    (map (λ row. row.now) l.rows.items ≡ meeting l.library.rows l.collection (Some l.id) l.query (take l.row-index (map (λ row. row.now) l.row-items)))
    × FitsPage l.query (map (λ row. row.now) l.rows.items)
    × AsksOfCollection l.collection (Some l.id) l.query l.asked
    × IsCountOf l.bytes (map (λ row. row.now) l.rows.items)
