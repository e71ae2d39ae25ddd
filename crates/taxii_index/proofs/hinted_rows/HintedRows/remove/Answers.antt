use Rattle.std.proofs.Common.{List, filter, not, sym, subst}
use Rattle.taxii_rows.specs.declared.stored_row.StoredRow.{StoredRow}
use Rattle.taxii_rows.specs.Keeper.{is_date_in}
use Rattle.taxii_index.specs.declared.hints.Hint.{Hint}
use Rattle.taxii_index.specs.Hints.{AreTrueOf}
use Rattle.taxii_index.proofs.HintLemmas.{true_of_kept, stays_without}
use Rattle.taxii_index.proofs.hinted_rows.HintedRows.remove.Goals as goal

pub invariant_of-self : goal.invariant_of-self
invariant_of-self c =
    let dates = c.args.dates.now in
    let rows = c.self.inside.rows in
    let kept = filter (λ (row : StoredRow). not (is_date_in dates row.date)) rows in
    let are = true_of_kept (is_date_in dates) rows kept c.self.inside.hints.hints.items (stays_without dates rows) c.self.invariant in
    subst (λ (all : List StoredRow). AreTrueOf all c.forget.new.self.hints.items) (sym c.remove.ensures) (subst (λ (hints : List Hint). AreTrueOf kept hints) (sym c.forget.ensures) are)
