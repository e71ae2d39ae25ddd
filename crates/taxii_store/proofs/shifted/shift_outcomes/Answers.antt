use Rattle.std.proofs.Common.{◌<◌, length, get_or, slice_set, ap, ◌∙◌, arith}
use Rattle.std.proofs.lemmas.List.Edits.{map_over_more}
use Rattle.taxii_store.specs.inner.Moving.{shifted_outcome}
use Rattle.taxii_store.proofs.CountLemmas.{get_or_again}
use Rattle.taxii_store.proofs.shifted.shift_outcomes.Goals as goal

pub loop-outcome-preserved : goal.loop-outcome-preserved
loop-outcome-preserved c =
    let items = c.loop-outcome.outcome-items in
    let index = c.loop-outcome.outcome-index in
    let within : index < length c.args.outcomes.now.items = omega (arith, c.loop-outcome-test.true, ap length c.deref_mut-outcome-items.ensures.value) in
    ap (slice_set items index) c.shift_outcome.ensures
    ∙ map_over_more (shifted_outcome c.args.watermark c.args.shift) c.args.outcomes.now.items items index (get_or items index _) within c.loop-outcome.invariant (get_or_again items index _)
