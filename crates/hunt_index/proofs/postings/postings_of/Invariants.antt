use Rattle.std.proofs.Common.{map}
use Rattle.hunt_index.specs.inner.Postings.{ArePostingsOf}
use Rattle.hunt_index.proofs.postings.postings_of.Given as goal

abbrev pub invariant-loop-bracket : goal.invariant-loop-bracket
invariant-loop-bracket l = ArePostingsOf (map (λ leaf. leaf.now) l.brackets) l.bracket l.postings
