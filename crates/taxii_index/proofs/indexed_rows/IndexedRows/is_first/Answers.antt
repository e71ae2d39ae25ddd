use Rattle.std.proofs.Common.{List, subst}
use Rattle.taxii_rows.specs.declared.stored_row.StoredRow.{StoredRow}
use Rattle.taxii_rows.specs.StoreState.{dates_of, AscendFrom}
use Rattle.taxii_rows.specs.Picking.{IsNotBefore}
use Rattle.taxii_index.specs.Index.{IsBefore, LeadsToThose}
use Rattle.taxii_index.proofs.LookUpLemmas.{none_keeps, either_way, never_both_ways}
use Rattle.taxii_index.proofs.indexed_rows.IndexedRows.is_first.Goals as goal

pub returns : goal.returns
returns c =
    let row = c.args.row.now in
    let ascend = subst (λ (rows : List StoredRow). AscendFrom 1 (dates_of rows)) c.self.view_is c.self.invariant.0 in
    let leads = subst (λ (rows : List StoredRow). LeadsToThose c.self.inside.index.secret (λ other. IsBefore other row) row rows c.earlier.result) c.self.view_is (c.earlier.ensures c.self.inside.rows.items c.self.invariant.1) in
    none_keeps c.self.inside.index.secret (λ other. IsBefore other row) (λ other. IsNotBefore other row) row c.args.self.now c.earlier.result c.has_row_among.result ascend leads c.has_row_among.ensures (λ other. either_way other row) (λ other. never_both_ways other row)
