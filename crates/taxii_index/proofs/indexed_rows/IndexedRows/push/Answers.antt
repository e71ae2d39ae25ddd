use Rattle.std.proofs.Common.{◌≡◌, ◌++◌, [], ◌∷◌, List, subst, sym}
use Rattle.taxii_rows.specs.declared.stored_row.StoredRow.{StoredRow}
use Rattle.taxii_rows.specs.StoreState.{dates_of, AscendFrom}
use Rattle.taxii_index.specs.Index.{IsIndexOf, IsAbsent}
use Rattle.taxii_index.proofs.GrowthLemmas.{absent_before}
use Rattle.taxii_index.proofs.indexed_rows.IndexedRows.push.Goals as goal

pub invariant_of-self : goal.invariant_of-self
invariant_of-self c =
    let rows = c.self.inside.rows.items in
    let row = c.args.row in
    let later = subst (λ (rows : List StoredRow). AscendFrom 1 (dates_of (rows ++ row ∷ []))) (sym c.self.view_is) c.requires.later in
    (c.self.invariant.0, c.in_err-insert.ensures.err rows (absent_before rows row later) c.self.invariant.1)

pub invariant_of-self-in-Ok : goal.invariant_of-self-in-Ok
invariant_of-self-in-Ok c =
    let rows = c.self.inside.rows.items in
    let row = c.args.row in
    let all : rows ++ row ∷ [] ≡ c.push.new.self.items = sym c.in-Ok.ensures.items in
    let later = subst (λ (rows : List StoredRow). AscendFrom 1 (dates_of (rows ++ row ∷ []))) (sym c.self.view_is) c.requires.later in (
      subst (λ (rows : List StoredRow). AscendFrom 1 (dates_of rows)) all later,
      subst (λ (rows : List StoredRow). IsIndexOf rows c.insert.new.self) all (c.in_ok-insert.ensures.ok rows c.self.invariant.1),
    )

pub invariant_of-self-in-Err : goal.invariant_of-self-in-Err
invariant_of-self-in-Err c =
    let rows = c.self.inside.rows.items in
    let row = c.args.row in
    let back : c.in-Err.refused.value ≡ row = c.in-Err.ensures.value_returned in
    let same : rows ≡ c.push.new.self.items = sym c.in-Err.ensures.items in
    let later = subst (λ (rows : List StoredRow). AscendFrom 1 (dates_of (rows ++ row ∷ []))) (sym c.self.view_is) c.requires.later in
    let absent = subst (λ (r : StoredRow). IsAbsent r.date rows) (sym back) (absent_before rows row later) in
    let index = subst (λ (r : StoredRow). IsIndexOf (rows ++ r ∷ []) c.insert.new.self) (sym back) (c.in_ok-insert.ensures.ok rows c.self.invariant.1) in (
      subst (λ (rows : List StoredRow). AscendFrom 1 (dates_of rows)) same c.self.invariant.0,
      subst (λ (rows : List StoredRow). IsIndexOf rows c.remove.new.self) same (c.remove.ensures rows absent index),
    )
