use Rattle.std.proofs.Common.{◌≡◌, ◌∙◌, Bor, map, filter_map, sym, ap, subst}
use Rattle.std.proofs.lemmas.Result.{IfOk-weaker}
use Rattle.taxii_rows.specs.declared.stored_row.StoredRow.{StoredRow}
use Rattle.taxii_rows.specs.Identity.{is_row_of}
use Rattle.taxii_index.specs.Index.{AreRowsOf, row_where}
use Rattle.taxii_index.proofs.ObjectLemmas.{rows_found}
use Rattle.taxii_index.proofs.indexed_rows.IndexedRows.rows_of.Goals as goal

pub returns : goal.returns
returns c =
    let rows = c.args.self.now in
    let h = row_where (is_row_of c.args.collection c.args.id.now) rows in
    let are = rows_found c.args.collection c.args.id.now rows c.in_ok-dates.dates.items c.as_slice.ensures.ascend c.in_ok-dates.ensures.ascend c.in_ok-dates.ensures.every in
    IfOk-weaker c.rows_at.result (λ found. map (λ (row : Bor StoredRow). row.now) found.items ≡ filter_map h c.deref.result.now)
    (λ found. AreRowsOf c.args.collection c.args.id.now rows (map (λ (row : Bor StoredRow). row.now) found.items))
    (λ found is. subst (AreRowsOf c.args.collection c.args.id.now rows) (sym (is ∙ ap (filter_map h) c.deref.ensures.value)) are) c.rows_at.ensures
