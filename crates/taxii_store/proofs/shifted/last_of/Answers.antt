use Rattle.std.proofs.Common.{◌≡◌, suc, ◌-◌, length, ap, sym, ◌∙◌, arith}
use Rattle.taxii_rows.specs.declared.stored_row.StoredRow.{StoredRow}
use Rattle.taxii_store.proofs.CountLemmas.{last_marks}
use Rattle.taxii_store.proofs.shifted.last_of.Goals as goal

pub returns-in-Some : goal.returns-in-Some
returns-in-Some c =
    let there = c.in-Some.ensures.item in
    let count : length c.args.rows.now ≡ suc (length c.args.rows.now - 1) = omega (arith, there.3.0) in
    ap (λ (row : StoredRow). row.date) there.1 ∙ sym (last_marks c.args.watermark c.args.rows.now (length c.args.rows.now - 1) c.in-Some.row.now count)
