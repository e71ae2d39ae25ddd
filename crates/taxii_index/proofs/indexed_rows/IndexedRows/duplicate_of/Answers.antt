use Rattle.std.proofs.Common.{◌≡◌, List, Some, None, find, option_map, Bor, subst, sym, ap, ◌∙◌}
use Rattle.taxii_rows.specs.declared.stored_row.StoredRow.{StoredRow}
use Rattle.taxii_rows.specs.StoreState.{dates_of, AscendFrom}
use Rattle.taxii_rows.specs.Keeper.{row_at}
use Rattle.taxii_index.specs.Presence.{is_duplicate}
use Rattle.taxii_index.specs.Index.{has_row, key_dates, LeadsToSame}
use Rattle.taxii_index.proofs.LookUpLemmas.{none_same, first_same}
use Rattle.taxii_index.proofs.indexed_rows.IndexedRows.duplicate_of.Goals as goal

pub returns-in_err-date : goal.returns-in_err-date
returns-in_err-date c =
    let collection = c.args.collection in
    let object = c.args.object.now in
    let rows = c.args.self.now in
    let ascend = subst (λ (rows : List StoredRow). AscendFrom 1 (dates_of rows)) c.self.view_is c.self.invariant.0 in
    let leads = subst (λ (rows : List StoredRow). LeadsToSame collection object rows c.same.result) c.self.view_is (c.same.ensures c.self.inside.rows.items c.self.invariant.1) in
    let found : find (has_row (is_duplicate collection object) rows) (key_dates c.same.result) ≡ None = sym c.date_of_duplicate.ensures ∙ c.in_err-date.was in
    ap (option_map (λ (row : Bor StoredRow). row.now)) c.from_residual.ensures ∙ sym (none_same collection object rows c.same.result ascend leads found)

pub returns : goal.returns
returns c =
    let collection = c.args.collection in
    let object = c.args.object.now in
    let rows = c.args.self.now in
    let ascend = subst (λ (rows : List StoredRow). AscendFrom 1 (dates_of rows)) c.self.view_is c.self.invariant.0 in
    let leads = subst (λ (rows : List StoredRow). LeadsToSame collection object rows c.same.result) c.self.view_is (c.same.ensures c.self.inside.rows.items c.self.invariant.1) in
    let found : find (has_row (is_duplicate collection object) rows) (key_dates c.same.result) ≡ Some c.in_ok-date.date = sym c.date_of_duplicate.ensures ∙ c.in_ok-date.was in
    c.row_at.ensures ∙ ap (row_at c.in_ok-date.date) (c.deref.ensures.value ∙ c.self.view_is)
    ∙ first_same collection object rows c.same.result c.in_ok-date.date ascend leads found
