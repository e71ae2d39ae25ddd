use Rattle.std.proofs.Common.{◌∙◌, ap, sym}
use Rattle.std.proofs.lemmas.Map.Lookups.{exact_bytes}
use Rattle.pattern_types.specs.declared.path.Step.TheVariants.{Name}
use Rattle.hunt_index.proofs.paths.step_order.Goals as goal

pub returns-in-Name-Name : goal.returns-in-Name-Name
returns-in-Name-Name c = λ equal.
    let same = exact_bytes c.as_str.result.now c.as_str-in-Name-Name.result.now (sym c.cmp.ensures ∙ equal) in
    c.in-Name-Name.is-0 ∙ ap Name (sym c.as_str.ensures ∙ same ∙ c.as_str-in-Name-Name.ensures) ∙ sym c.in-Name-Name.is-1
