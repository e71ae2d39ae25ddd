use Rattle.std.proofs.Common.{◌≡◌, length, rules}
use Rattle.match_pruning.specs.inner.PartialMatches.{partial_match_trees}
use Rattle.match_pruning.specs.inner.PendingLefts.{pending_lefts_of}
use Rattle.match_pruning.proofs.NeededLemmas.{none_joined}
use Rattle.match_pruning.proofs.join.Join.join.Goals as goal

pub returns-then-is_empty-clause-joined : goal.returns-then-is_empty-clause-joined
returns-then-is_empty-clause-joined c =
    let none : length c.args.seconds.now ≡ 0 = search rules in
    none_joined c.args.join_filter.now.time (pending_lefts_of c.args.join_filter.now.pending_lefts.now) c.args.self (partial_match_trees c.args.out.now.items) (partial_match_trees c.args.firsts.now) c.args.seconds.now none
