use Rattle.std.proofs.Common.{rules, option_map, List, ℕ, Bor}
use Rattle.stix_json.specs.DataOf.{data_of}
use Rattle.stix_bundles.specs.Objects.{data_in}
use Rattle.match_comparisons.specs.Selection.{IsReference}
use Rattle.match_comparisons.proofs.ReferenceLemmas.{refers_exactly}
use Rattle.match_comparisons.proofs.step.reference.Goals as goal

pub returns-then-is_reference : goal.returns-then-is_reference
returns-then-is_reference c =
    let last = option_map (λ (name : Bor (List ℕ)). name.now) c.args.last in
    let named : IsReference last = search rules in
    refers_exactly c.one_meaning.ensures.one (data_in c.args.bundle.now) last (data_of c.args.value.now) c.position_of.result named c.position_of.ensures
