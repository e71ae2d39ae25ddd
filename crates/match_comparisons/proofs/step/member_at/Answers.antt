use Rattle.std.proofs.Common.{List, ap, ◌∙◌, slice_get}
use Rattle.serde_json.specs.Data.{Data}
use Rattle.match_comparisons.proofs.OrderedLemmas.{value_found, ordered_found}
use Rattle.match_comparisons.proofs.step.member_at.Goals as goal

pub returns-clause-found : goal.returns-clause-found
returns-clause-found c =
    value_found c.members_of.result.now c.args.at c.value_at.result c.value_at.ensures ∙ ap (λ (ds : List Data). slice_get ds c.args.at) c.members_of.ensures.all

pub returns-clause-ordered : goal.returns-clause-ordered
returns-clause-ordered c = λ ordered. ordered_found c.members_of.result.now c.args.at c.value_at.result c.value_at.ensures (c.members_of.ensures.ordered ordered)
