use Rattle.std.proofs.Common.{arith, refl}
use Rattle.stix_ids.proofs.KindLemmas.{kind_from_longest, longest_from_kind}
use Rattle.stix_ids.proofs.kind.check_kind.Goals as goal
use Rattle.stix_ids.proofs.kind.check_kind.Goals.{then-at-bytes-via-then-at-bytes, then-at-bytes-via-else-at-bytes+then-at-lt-LEAST_LENGTH}

pub returns-then-at-bytes-clause-ok : goal.returns-then-at-bytes-clause-ok
returns-then-at-bytes-clause-ok c = (
  λ bad. cc,
  λ kind.
      let ends = longest_from_kind c.args.bytes.now c.longest_prefix_length-at.result c.longest_prefix_length-at.ensures kind in
      absurd (elim c.then-at-bytes.branch [ then-at-bytes-via-then-at-bytes w ↦ omega arith | then-at-bytes-via-else-at-bytes+then-at-lt-LEAST_LENGTH w ↦ omega arith ]),
)

pub returns-clause-ok : goal.returns-clause-ok
returns-clause-ok c =
    (λ _. kind_from_longest c.args.bytes.now c.longest_prefix_length-at.result c.longest_prefix_length-at.ensures (omega arith) (omega arith), λ _. refl)
