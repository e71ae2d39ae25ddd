use Rattle.std.proofs.Common.{leb, rules}
use Rattle.std.proofs.lemmas.List.Sorted.{IsPartitionedBy-leb, IsPartitionPoint-from_clause}
use Rattle.taxii_rows.specs.declared.stored_row.StoredRow.{StoredRow}
use Rattle.taxii_store.proofs.CutLemmas.{never_fall, cut_at}
use Rattle.taxii_store.proofs.candidates.rows_after.Goals as goal

pub returns : goal.returns
returns c =
    let rows = c.args.rows.now in
    let first = c.partition_point-first.result in
    let point = IsPartitionPoint-from_clause (λ (row : StoredRow). leb row.date c.args.date) rows first c.partition_point-first.ensures.partitioned
    (IsPartitionedBy-leb (λ (row : StoredRow). row.date) rows c.args.date (never_fall 1 rows c.requires)) (λ a r f k. search rules) in
    cut_at c.args.date rows first point.0 point.1
