use Rattle.std.proofs.Common.{rules, ◌≡◌}
use Rattle.stix_ids.specs.declared.refusal.IdRefusal.TheVariants.{NoMemory, BadUuid, BadKind}
use Rattle.stix_ids.specs.Identifier.{IsTextOfId}
use Rattle.stix_ids.specs.Reading.{IsRefusedId}
use Rattle.stix_ids.proofs.IdLemmas.{not_refused, one_identifier}
use Rattle.stix_ids.proofs.parts.IdRef.read.Goals as goal

pub returns-in_default-read_number-clause-named : goal.returns-in_default-read_number-clause-named
returns-in_default-read_number-clause-named c = λ id named.
    let refused : IsRefusedId c.args.text.now BadUuid = (c.in-Some.kind.now, c.in-Some.last.now, c.in-Some.ensures.some, c.in_default-read_number.ensures.none) in
    let memory : BadUuid ≡ NoMemory = not_refused c.args.text.now id BadUuid named refused in
    cc

pub returns-in-Err-clause-named : goal.returns-in-Err-clause-named
returns-in-Err-clause-named c = λ id named.
    let at = c.in-Err.at in
    let refused : IsRefusedId c.args.text.now (BadKind at) = search rules in
    let memory : BadKind at ≡ NoMemory = not_refused c.args.text.now id (BadKind at) named refused in
    cc

pub returns-in-Ok-clause-named : goal.returns-in-Ok-clause-named
returns-in-Ok-clause-named c = λ id named.
    let read : IsTextOfId c.args.text.now (record { kind = c.in-Some.kind.now; number = c.in-Some-read_number.number }) = search rules in
    one_identifier c.args.text.now (record { kind = c.in-Some.kind.now; number = c.in-Some-read_number.number }) id read named
