use Rattle.std.proofs.Common.{◌<◌, length, get_or, slice_set, ap, ◌∙◌, arith, nat_le}
use Rattle.std.proofs.lemmas.List.Edits.{map_over_more}
use Rattle.taxii_index.specs.Hints.{forgotten}
use Rattle.taxii_index.proofs.HintLemmas.{get_or_again}
use Rattle.taxii_index.proofs.hints.forget_rows_from.Goals as goal

pub loop-hint-preserved : goal.loop-hint-preserved
loop-hint-preserved c =
    let items = c.loop-hint.hint-items in
    let index = c.loop-hint.hint-index in
    let within : index < length c.args.hints.now.items = omega (arith, c.loop-hint-test.true, ap length c.deref_mut-hint-items.ensures.value) in
    ap (slice_set items index) c.forget_later.ensures
    ∙ map_over_more (forgotten (λ other. nat_le c.args.date other)) c.args.hints.now.items items index (get_or items index _) within c.loop-hint.invariant (get_or_again items index _)
