use Rattle.std.proofs.Common.{◌≡◌, length}
use Rattle.taxii_routes.specs.MediaType as spec
use Rattle.taxii_routes.proofs.whitespace.without_front.Given as goal

abbrev pub invariant-loop-rest : goal.invariant-loop-rest
invariant-loop-rest l = spec.without_front l.fn.bytes ≡ spec.without_front l.rest

abbrev pub decreases-loop-rest : goal.decreases-loop-rest
decreases-loop-rest l = length l.rest
