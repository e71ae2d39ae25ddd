use Rattle.std.proofs.Common.{option_map, sym, subst, List, ℕ, Some, None, Bor}
use Rattle.flow_values.specs.Answers.{FindsExactly}
use Rattle.stix_json.specs.DataOf.{data_of}
use Rattle.stix_bundles.specs.Objects.{data_in}
use Rattle.match_comparisons.specs.Selection.{LeadsTo, by_property}
use Rattle.match_comparisons.proofs.ReferenceLemmas.{leads_exactly}
use Rattle.match_comparisons.proofs.step.named.Goals as goal

pub returns-in-Some-clause-found : goal.returns-in-Some-clause-found
returns-in-Some-clause-found c = by_property (sym c.in-Some.ensures.value)

pub returns-in-Some-reference-clause-found : goal.returns-in-Some-reference-clause-found
returns-in-Some-reference-clause-found c =
    let objects = data_in c.args.bundle.now in
    let last = option_map (λ (name : Bor (List ℕ)). name.now) c.args.last in
    let value = data_of c.args.value.now in
    subst (FindsExactly (LeadsTo objects last c.args.name.now value)) (sym c.property_at.ensures.found)
    (leads_exactly c.one_meaning.ensures.one objects last c.args.name.now value (Some c.in-Some-reference.at) (sym c.in-None.ensures.value) c.in-Some-reference.ensures)

pub returns-in-None-reference-clause-found : goal.returns-in-None-reference-clause-found
returns-in-None-reference-clause-found c =
    let last = option_map (λ (name : Bor (List ℕ)). name.now) c.args.last in
    leads_exactly c.one_meaning.ensures.one (data_in c.args.bundle.now) last c.args.name.now (data_of c.args.value.now) None (sym c.in-None.ensures.value) c.in-None-reference.ensures
