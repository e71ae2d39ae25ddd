use Rattle.std.proofs.Common.{refl, sym, subst}
use Rattle.std.specs.Prelude.{map, codes}
use Rattle.serde_json.specs.Data.{Data}
use Rattle.stix_json.specs.DataOf.{data_of}
use Rattle.stix_json.specs.Ordered.{IsOrdered}
use Rattle.taxii_rows.specs.declared.stored_row.StoredRow.{StoredRow}
use Rattle.taxii_bodies.specs.Versions.{IsVersionOf}
use Rattle.taxii_bodies.proofs.PageLemmas.{rows_in, each_ordered, page_ordered}
use Rattle.taxii_bodies.proofs.versions.versions_body.Goals as goal

version_ordered : (row : StoredRow) (value : Data) → IsVersionOf row value → IsOrdered value
version_ordered row value is = subst IsOrdered (sym is.2) tt

pub page_text-requires : goal.page_text-requires
page_text-requires c = page_ordered c.args.more (codes "versions") (map data_of c.in_ok-versions.versions) refl
    (each_ordered IsVersionOf version_ordered (rows_in c.args.rows.now) (map data_of c.in_ok-versions.versions) c.in_ok-versions.ensures)
