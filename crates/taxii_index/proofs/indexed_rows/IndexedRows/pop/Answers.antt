use Rattle.std.proofs.Common.{◌≡◌, ◌++◌, [], ◌∷◌, List, subst}
use Rattle.taxii_rows.specs.declared.stored_row.StoredRow.{StoredRow}
use Rattle.taxii_rows.specs.StoreState.{dates_of, AscendFrom}
use Rattle.taxii_index.specs.Index.{IsIndexOf}
use Rattle.taxii_index.proofs.GrowthLemmas.{ascend_front, absent_before}
use Rattle.taxii_index.proofs.indexed_rows.IndexedRows.pop.Goals as goal

pub invariant_of-self : goal.invariant_of-self
invariant_of-self c =
    let left = c.pop.new.self.items in
    let row = c.in-Some.row in
    let split : c.self.inside.rows.items ≡ left ++ row ∷ [] = c.in-Some.ensures.items in
    let ascend = subst (λ (rows : List StoredRow). AscendFrom 1 (dates_of rows)) split c.self.invariant.0 in
    let index = subst (λ (rows : List StoredRow). IsIndexOf rows c.self.inside.index) split c.self.invariant.1 in
    (ascend_front 1 left (row ∷ []) ascend, c.remove.ensures left (absent_before left row ascend) index)
