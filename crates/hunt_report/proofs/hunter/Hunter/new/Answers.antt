use Rattle.std.proofs.Common.{rules}
use Rattle.hunt_report.proofs.HitSummaryLemmas.{nothing_seen, nothing_in_order}
use Rattle.hunt_report.proofs.HunterLemmas.{hunts-none}
use Rattle.hunt_report.proofs.hunter.Hunter.new.Goals as goal

pub new-requires-clause-sound : goal.new-requires-clause-sound
new-requires-clause-sound c = λ k x inside. (c.requires k x inside).sound

pub new-requires-clause-narrow : goal.new-requires-clause-narrow
new-requires-clause-narrow c = λ k x inside. (c.requires k x inside).narrow

pub invariant_of-result : goal.invariant_of-result
invariant_of-result c =
    let items = c.in_ok-hit_summaries.ensures.items_if_clones_equal (search rules) in record {
      count = search rules;
      order = nothing_in_order _ c.in_ok-hit_summaries.hit_summaries.items items;
    }

pub returns-clause-hunts : goal.returns-clause-hunts
returns-clause-hunts c =
    hunts-none _ c.in_ok-engine.ensures.patterns c.in_ok-engine.ensures.represents (search rules)
    (nothing_seen _ c.in_ok-hit_summaries.hit_summaries.items (c.in_ok-hit_summaries.ensures.items_if_clones_equal (search rules)))
