use Rattle.std.proofs.Common.{◌≡◌, List, filter, not, subst, sym, ap, ◌∙◌, rules}
use Rattle.std.proofs.lemmas.Fn.{filter_same}
use Rattle.taxii_rows.specs.declared.stored_row.StoredRow.{StoredRow}
use Rattle.taxii_rows.specs.StoreState.{dates_of, AscendFrom}
use Rattle.taxii_rows.specs.Keeper.{is_date_in}
use Rattle.taxii_rows.proofs.AscendLemmas.{ascend-filter}
use Rattle.taxii_index.specs.Index.{IsIndexOf}
use Rattle.taxii_index.proofs.indexed_rows.IndexedRows.remove.Goals as goal

pub invariant_of-self : goal.invariant_of-self
invariant_of-self c =
    let rows = c.self.inside.rows.items in
    let test = λ (row : StoredRow). not (is_date_in c.args.dates.now row.date) in
    let left : filter test rows ≡ c.retain.new.self.items = sym (filter_same _ test _ (λ x b f k. search rules) rows c.retain.new.self.items c.retain.ensures.filtered) in
    let same : c.deref.result.now ≡ rows = c.deref.ensures.value in
    let removed = subst (λ (all : List StoredRow). IsIndexOf (filter test all) c.remove_dates.new.self) same
    (c.remove_dates.ensures (subst (λ (all : List StoredRow). IsIndexOf all c.self.inside.index) (sym same) c.self.invariant.1)) in (
      subst (λ (rows : List StoredRow). AscendFrom 1 (dates_of rows)) left (ascend-filter 1 test rows c.self.invariant.0),
      subst (λ (rows : List StoredRow). IsIndexOf rows c.remove_dates.new.self) left removed,
    )

pub returns : goal.returns
returns c =
    let rows = c.self.inside.rows.items in
    let test = λ (row : StoredRow). not (is_date_in c.args.dates.now row.date) in
    filter_same _ test _ (λ x b f k. search rules) rows c.retain.new.self.items c.retain.ensures.filtered ∙ ap (filter test) c.self.view_is
