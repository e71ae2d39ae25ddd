use Rattle.std.proofs.Common.{◌≡◌, ltb, ◌∙◌, sym, ap, inl, inr, option_map, Some, slice_get, Bor, arith, rules}
use Rattle.std.proofs.lemmas.Bool.{cases_eq}
use Rattle.std.proofs.lemmas.List.Sorted.{IsPartitionedBy-ltb, IsPartitionPoint-from_clause}
use Rattle.taxii_rows.specs.declared.stored_row.StoredRow.{StoredRow}
use Rattle.taxii_rows.proofs.AscendLemmas.{rows_never_fall, item_at, row_at_there, row_at_none}
use Rattle.taxii_rows.proofs.by_date.row_at.Goals as goal

pub returns-in-Some : goal.returns-in-Some
returns-in-Some c =
    let rows = c.args.rows.now in
    let date = c.args.date in
    let at = c.partition_point-at.result in
    let row = c.in-Some.row.now in
    let point = IsPartitionPoint-from_clause (λ (row : StoredRow). ltb row.date date) rows at c.partition_point-at.ensures.partitioned
    (IsPartitionedBy-ltb (λ (row : StoredRow). row.date) rows date (rows_never_fall 1 rows c.requires)) (λ a r f k. search rules) in
    let there : Some row ≡ slice_get rows at = item_at rows at (Some c.in-Some.row) c.in-Some.ensures.lookup.3 in
    elim (cases_eq row.date date) [
      | inl same ↦ c.own_date.ensures.own same ∙ row_at_there date rows at row point.0 (sym there) same
      | inr other ↦ ap (option_map (λ (row : Bor StoredRow). row.now)) (c.own_date.ensures.other other)
          ∙ sym (row_at_none date rows at c.requires point.0 point.1 (λ d within is. other (ap (λ (row : StoredRow). row.date) (c.in-Some.ensures.lookup.3.1 d) ∙ is)))
    ]

pub returns-in-None : goal.returns-in-None
returns-in-None c =
    let rows = c.args.rows.now in
    let date = c.args.date in
    let at = c.partition_point-at.result in
    let point = IsPartitionPoint-from_clause (λ (row : StoredRow). ltb row.date date) rows at c.partition_point-at.ensures.partitioned
    (IsPartitionedBy-ltb (λ (row : StoredRow). row.date) rows date (rows_never_fall 1 rows c.requires)) (λ a r f k. search rules) in
    sym (row_at_none date rows at c.requires point.0 point.1 (λ d within is. let past = c.in-None.ensures.lookup.3 in absurd (omega arith)))
