use Rattle.std.proofs.Common.{map, All, sym, subst}
use Rattle.taxii_bodies.specs.Times.{IsWritable}
use Rattle.taxii_service.proofs.ResourceLemmas.{writable}
use Rattle.taxii_service.proofs.listing.list_versions.Goals as goal

pub versions_body-requires : goal.versions_body-requires
versions_body-requires c =
    let store = c.args.library.now in
    let page = c.in_ok-page.page in
    subst (λ rows. All IsWritable (map (λ row. row.now) rows)) (sym c.deref.ensures.value)
    (writable store.rows (map (λ row. row.now) page.rows.items) (c.sound_rows_are_writable.ensures.state store c.rows.ensures.sound)
    (c.rows_of_pages.ensures.stored store.rows c.args.collection _ c.args.query.now _ page.more c.in_ok-page.ensures))
