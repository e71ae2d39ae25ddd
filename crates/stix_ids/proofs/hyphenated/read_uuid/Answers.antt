use Rattle.std.proofs.Common.{arith}
use Rattle.stix_ids.proofs.UuidLemmas.{length-uuid}
use Rattle.stix_ids.proofs.hyphenated.read_uuid.Goals as goal

pub returns-else-bytes-eq-UUID_LENGTH-clause-none : goal.returns-else-bytes-eq-UUID_LENGTH-clause-none
returns-else-bytes-eq-UUID_LENGTH-clause-none c = λ u.
    let long = length-uuid c.args.text.now u.0 u.1 in grind arith
