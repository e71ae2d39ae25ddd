use Rattle.std.proofs.Common.{◌≡◌, ℕ, ◌++◌, [], ◌∷◌, Some, None, option_map, Bor, ap, sym, subst, ◌∙◌}
use Rattle.taxii_rows.specs.declared.stored_row.StoredRow.{StoredRow}
use Rattle.taxii_rows.specs.Keeper.{row_at}
use Rattle.taxii_index.specs.Index.{IsIndexBut}
use Rattle.taxii_index.proofs.IndexLemmas.{index_same}
use Rattle.taxii_index.proofs.RowLemmas.{row_at_found}
use Rattle.taxii_index.proofs.row_index.RowIndex.remove_date.Goals as goal

pub returns-in-Some : goal.returns-in-Some
returns-in-Some c = λ gone index.
    let rows = c.args.rows.now in
    let row = c.in-Some.row.now in
    let found : row_at c.args.date rows ≡ Some row = sym c.row_at.ensures ∙ ap (option_map (λ (row : Bor StoredRow). row.now)) c.in-Some.is in
    let at = row_at_found c.args.date rows row found in
    subst (λ (date : ℕ). IsIndexBut (gone ++ date ∷ []) rows c.remove_row.new.self) at.1 (c.remove_row.ensures gone rows c.requires at.0 index)

pub returns-in-None : goal.returns-in-None
returns-in-None c = λ gone index.
    let rows = c.args.rows.now in
    let found : row_at c.args.date rows ≡ None = sym c.row_at.ensures ∙ ap (option_map (λ (row : Bor StoredRow). row.now)) c.in-None.is in
    index_same gone c.args.date rows c.args.self.now found index
