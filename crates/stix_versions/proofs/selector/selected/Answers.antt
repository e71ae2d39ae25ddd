use Rattle.std.proofs.Common.{rules, Option, Some, None, option_map, sym, ap, ◌∙◌}
use denote.Ref.{Bor}
use Rattle.serde_json.specs.Data.{Data}
use Rattle.stix_json.specs.declared.value.Json.{Json}
use Rattle.stix_json.specs.DataOf.{data_of}
use Rattle.stix_versions.proofs.ValueAtLemmas.{named_next, named_here}
use Rattle.stix_versions.proofs.selector.selected.Goals as goal

pub returns-in_err-here : goal.returns-in_err-here
returns-in_err-here c = λ parts path.
    let rest = c.loop-part.invariant.2 parts path in
    let next = named_next c.loop-part.rest.now (c.in-Some.part, c.in-Some.after) c.in-Some.ensures.cases rest.0 rest.1 (data_of c.loop-part.here.now) None c.in_err-here.ensures.value in
    ap (λ (found : Option (Bor Json)). option_map (λ item. data_of item.now) found) c.from_residual.ensures ∙ sym (rest.2 ∙ next.2)

pub loop-part-preserved : goal.loop-part-preserved
loop-part-preserved c = (
  search rules,
  c.in_ok-here.ensures.ordered,
  λ parts path.
      let rest = c.loop-part.invariant.2 parts path in
      let here : Data = data_of c.in_ok-here.here.now in
      let next = named_next c.loop-part.rest.now (c.in-Some.part, c.in-Some.after) c.in-Some.ensures.cases rest.0 rest.1 (data_of c.loop-part.here.now) (Some here) c.in_ok-here.ensures.value in
      (next.0, next.1, rest.2 ∙ next.2),
)

pub returns : goal.returns
returns c = λ parts path.
    let rest = c.loop-part.invariant.2 parts path in
    let found = option_map (λ (item : Bor Json). data_of item.now) c.chosen-2.result in
    let here = named_here c.loop-part.rest.now c.in_default.ensures.cases rest.0 rest.1 (data_of c.loop-part.here.now) found c.chosen-2.ensures.value in
    sym (rest.2 ∙ here)
