use Rattle.std.proofs.Common.{◌∙◌, sym}
use Rattle.std.proofs.lemmas.Map.Lookups.{exact_bytes}
use Rattle.hunt_index.proofs.paths.path_order.Goals as goal

pub returns-in-Equal : goal.returns-in-Equal
returns-in-Equal c = λ equal. record {
  kind = exact_bytes c.args.one.now.kind.now c.args.other.now.kind.now (sym c.cmp.ensures ∙ c.in-Equal.is);
  steps = c.steps_order.ensures equal;
}
