use Rattle.std.proofs.Common.{sym, subst}
use Rattle.std.proofs.lemmas.Bool.{false≢true}
use Rattle.std.specs.Int.{to_be_bytes, w128}
use Rattle.stix_ids.specs.Uuid.{IsUuidOf}
use Rattle.stix_ids.proofs.UuidLemmas.{uuid_from_parsed, parsed_from_uuid}
use Rattle.stix_ids.proofs.hyphenated.read_number.Goals as goal

pub returns-in-Ok-clause-some : goal.returns-in-Ok-clause-some
returns-in-Ok-clause-some c =
    subst (IsUuidOf c.args.bytes.now) (sym c.as_u128.ensures)
    (uuid_from_parsed c.args.bytes.now c.in-Ok.uuid c.requires c.in-Ok.ensures.bytes)

pub returns-in-Err-clause-none : goal.returns-in-Err-clause-none
returns-in-Err-clause-none c = λ u.
    false≢true (c.in-Err.ensures.ok.1 (to_be_bytes w128 u.0, parsed_from_uuid c.args.bytes.now u.0 u.1))
