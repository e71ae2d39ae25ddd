use Rattle.std.proofs.Common.{ℕ, ◌<◌}
use Rattle.stix_bundles.specs.Objects.{data_in}
use Rattle.stix_bundles.specs.Observations.{EmbedsAt}
use Rattle.stix_bundles.proofs.observe.first_embedding.Given as goal

abbrev pub invariant-loop-at : goal.invariant-loop-at
invariant-loop-at l = (n : ℕ) → n < l.at → ¬ EmbedsAt (data_in l.objects) n
