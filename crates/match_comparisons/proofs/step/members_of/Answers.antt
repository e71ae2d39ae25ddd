use Rattle.std.proofs.Common.{[], Option, sym, ap, ◌∙◌}
use Rattle.std.specs.Option.{option_map_or}
use Rattle.serde_json.specs.Data.{Items}
use Rattle.stix_bundles.specs.Bundle.{items_in_order}
use Rattle.stix_bundles.specs.Objects.{data_in}
use Rattle.match_comparisons.proofs.MembersLemmas.{listed_items}
use Rattle.match_comparisons.proofs.step.members_of.Goals as goal

pub returns-in-Some-clause-all : goal.returns-in-Some-clause-all
returns-in-Some-clause-all c =
    sym (listed_items (data_in c.in-Some.items.now)) ∙ ap (λ (o : Option Items). option_map_or items_in_order o []) c.in-Some.ensures
