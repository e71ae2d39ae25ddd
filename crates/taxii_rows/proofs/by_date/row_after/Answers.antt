use Rattle.std.proofs.Common.{leb, ◌∙◌, rules}
use Rattle.std.proofs.lemmas.List.Sorted.{IsPartitionedBy-leb, IsPartitionPoint-from_clause}
use Rattle.taxii_rows.specs.declared.stored_row.StoredRow.{StoredRow}
use Rattle.taxii_rows.proofs.AscendLemmas.{rows_never_fall, row_after_at, item_at}
use Rattle.taxii_rows.proofs.by_date.row_after.Goals as goal

pub returns : goal.returns
returns c =
    let rows = c.args.rows.now in
    let point = IsPartitionPoint-from_clause (λ (row : StoredRow). leb row.date c.args.date) rows c.partition_point-at.result c.partition_point-at.ensures.partitioned
    (IsPartitionedBy-leb (λ (row : StoredRow). row.date) rows c.args.date (rows_never_fall 1 rows c.requires)) (λ a r f k. search rules) in
    item_at rows c.partition_point-at.result c.get.result c.get.ensures.lookup.3 ∙ row_after_at c.args.date rows c.partition_point-at.result point.0 point.1
