use Rattle.std.proofs.Common.{arith}
use Rattle.stix_objects.proofs.NamesLemmas.{lacks_untaken}
use Rattle.stix_objects.proofs.object.slots_of.Goals as goal

pub returns : goal.returns
returns c =
    let whole = c.loop-field-test.false in
    lacks_untaken c.loop-field.taken c.args.fields.now (λ k field within. c.loop-field.invariant.1 k field (omega arith))
