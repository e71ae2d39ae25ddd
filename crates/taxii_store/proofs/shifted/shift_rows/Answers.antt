use Rattle.std.proofs.Common.{◌<◌, length, slice_set, ap, sym, ◌∙◌, arith}
use Rattle.std.proofs.lemmas.List.Edits.{map_over_more}
use Rattle.taxii_store.specs.inner.Moving.{shifted}
use Rattle.taxii_store.proofs.shifted.shift_rows.Goals as goal

pub loop-row-preserved : goal.loop-row-preserved
loop-row-preserved c =
    let within : c.loop-row.row-index < length c.args.rows.now.items = omega (arith, c.loop-row-test.true, ap length c.deref_mut-row-items.ensures.value) in
    ap (slice_set c.loop-row.row-items c.loop-row.row-index) (c.shift_row.ensures ∙ sym (ap (shifted c.args.shift) c.row-item.is))
    ∙ map_over_more (shifted c.args.shift) c.args.rows.now.items c.loop-row.row-items c.loop-row.row-index c.row-item.result within c.loop-row.invariant c.row-item.is
