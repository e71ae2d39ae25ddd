use Rattle.std.proofs.Common.{option_map, List, ℕ, Bor}
use Rattle.stix_json.specs.DataOf.{data_of}
use Rattle.stix_bundles.specs.Objects.{data_in}
use Rattle.match_comparisons.proofs.SelectedLemmas.{step_reaches}
use Rattle.match_comparisons.proofs.step.selected.Goals as goal

pub returns-clause-reached : goal.returns-clause-reached
returns-clause-reached c =
    let last = option_map (λ (name : Bor (List ℕ)). name.now) c.args.last in
    step_reaches c.one_meaning.ensures.one (data_in c.args.bundle.now) last c.args.step.now (data_of c.args.value.now) (data_in c.listed.result.now) c.listed.ensures.all
