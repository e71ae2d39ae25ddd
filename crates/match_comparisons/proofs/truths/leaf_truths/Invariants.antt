use Rattle.std.proofs.Common.{◌≡◌, [], map, take}
use Rattle.stix_bundles.specs.declared.observation.Observation.{Observation}
use Rattle.match_comparisons.proofs.truths.leaf_truths.Given as goal

-- a row of none for each observation
abbrev pub invariant-loop : goal.invariant-loop
invariant-loop l = l.rows.items ≡ map (λ (_ : Observation). []) (take l.index l.observations)
