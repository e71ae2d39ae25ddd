use Rattle.match_comparisons.proofs.CompareLemmas.{hex_exactly}
use Rattle.match_comparisons.proofs.bytes.bytes_of.Goals as goal

pub returns-then-ends_in : goal.returns-then-ends_in
returns-then-ends_in c =
    rw c.in-Some.is (hex_exactly c.hex_of.result c.in-Some.name.now c.args.text.now (c.ends_in.ensures.0 c.if-ends_in.true) c.hex_of.ensures)
