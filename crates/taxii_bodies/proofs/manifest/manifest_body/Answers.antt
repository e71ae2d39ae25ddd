use Rattle.std.proofs.Common.{refl, rules, sym, subst}
use Rattle.std.specs.Prelude.{map, codes}
use Rattle.serde_json.specs.Data.{Data}
use Rattle.stix_json.specs.DataOf.{data_of}
use Rattle.stix_json.specs.Ordered.{IsOrdered}
use Rattle.taxii_rows.specs.declared.stored_row.StoredRow.{StoredRow}
use Rattle.taxii_bodies.specs.Manifest.{IsRecordOf}
use Rattle.taxii_bodies.proofs.PageLemmas.{rows_in, each_ordered, page_ordered}
use Rattle.taxii_bodies.proofs.manifest.manifest_body.Goals as goal

record_ordered : (row : StoredRow) (value : Data) → IsRecordOf row value → IsOrdered value
record_ordered row value is = subst IsOrdered (sym is.value_is) (search rules)

pub page_text-requires : goal.page_text-requires
page_text-requires c = page_ordered c.args.more (codes "objects") (map data_of c.in_ok-records.records) refl
    (each_ordered IsRecordOf record_ordered (rows_in c.args.rows.now) (map data_of c.in_ok-records.records) c.in_ok-records.ensures)
