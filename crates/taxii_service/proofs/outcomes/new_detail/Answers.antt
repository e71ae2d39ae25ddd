use Rattle.std.proofs.Common.{◌≡◌, ℕ, ◌+◌, ◌≤◌, List, Some, None, sym, ap, subst, ◌∙◌, arith}
use Rattle.std.proofs.lemmas.List.Elements.{All-contains}
use Rattle.taxii_rows.specs.declared.stored_row.StoredRow.{StoredRow}
use Rattle.taxii_rows.specs.declared.stored_row.TheConstants.{LAST_DATE}
use Rattle.taxii_rows.specs.SoundRow.{IsSoundRow}
use Rattle.taxii_rows.specs.StoreState.{dates_of, AscendFrom}
use Rattle.taxii_rows.specs.Keeper.{row_at}
use Rattle.taxii_service.proofs.RowLemmas.{ascend_from_1, row_found, row_missing, success_row}
use Rattle.taxii_service.proofs.outcomes.new_detail.Goals as goal

pub row_at-requires : goal.row_at-requires
row_at-requires c =
    subst (λ (rows : List StoredRow). AscendFrom 1 (dates_of rows)) (sym c.rows-rows.ensures.rows)
    (ascend_from_1 (c.args.planned.now.watermark + 1) (dates_of c.args.planned.now.rows) (omega arith) c.rows-rows.ensures.sound.ascend)

pub success_detail-requires : goal.success_detail-requires
success_detail-requires c =
    let rows = c.args.planned.now.rows in
    let found : Some c.in-Some.row.now ≡ row_at c.date_of.result rows = c.in-Some.ensures ∙ ap (row_at c.date_of.result) c.rows-rows.ensures.rows in
    let there = (row_found c.date_of.result rows c.in-Some.row.now found).0 in
    let plan = c.rows-rows.ensures.sound in
    c.sound_rows_are_writable.ensures.row c.in-Some.row.now (All-contains IsSoundRow rows c.in-Some.row.now plan.rows there)
    (All-contains (λ row. row.date ≤ LAST_DATE) rows c.in-Some.row.now plan.dates there)

pub unreachable-requires : goal.unreachable-requires
unreachable-requires c =
    let rows = c.args.planned.now.rows in
    let (row, there, its) = c.requires.row in
    let none : None ≡ row_at c.date_of.result rows = c.in-None.ensures ∙ ap (row_at c.date_of.result) c.rows-rows.ensures.rows in
    row_missing c.date_of.result rows row none there (its ∙ sym c.date_of.ensures)

pub returns : goal.returns
returns c =
    let rows = c.args.planned.now.rows in
    let found : Some c.in-Some.row.now ≡ row_at c.date_of.result rows = c.in-Some.ensures ∙ ap (row_at c.date_of.result) c.rows-rows.ensures.rows in
    success_row rows c.args.outcome c.in-Some.row.now c.success_detail.result (found ∙ ap (λ (date : ℕ). row_at date rows) c.date_of.ensures) c.success_detail.ensures
