use Rattle.std.proofs.Common.{rules, ◌≡◌, ◌<◌, length, slice_index_or, ◌∙◌, ap, arith}
use Rattle.std.proofs.lemmas.List.{length-set}
use Rattle.match_bindings.specs.BindTree.{firsts, tree_of}
use Rattle.match_pruning.specs.declared.partial_match.PartialMatch.{PartialMatch}
use Rattle.match_pruning.specs.inner.PartialMatches.{partial_match_tree}
use Rattle.match_pruning.specs.inner.Steps.{held_with}
use Rattle.match_stream.proofs.InPlaceLemmas.{changed_more, wrapped_there}
use Rattle.match_stream.proofs.node.wrap_firsts.Goals as goal

pub loop-partial_match-preserved : goal.loop-partial_match-preserved
loop-partial_match-preserved c =
    let items = c.loop-partial_match.partial_match-items in let index = c.loop-partial_match.partial_match-index in let x : PartialMatch = c.partial_match-item.result in
    let within : index < length c.args.held.now.items = omega (arith, c.loop-partial_match-test.true, ap length c.deref_mut-partial_match-items.ensures.value) in
    let same : tree_of c.in_ok-above.above ≡ firsts c.args.count (tree_of x.bind) = search rules in
    let wrapped = wrapped_there (firsts c.args.count) (tree_of c.in_ok-above.above) x (slice_index_or items index x) same c.partial_match-item.is in
    record {
      wrapped = changed_more partial_match_tree (held_with (firsts c.args.count)) c.args.held.now.items items index x _ within c.loop-partial_match.invariant.wrapped c.partial_match-item.is wrapped c.loop-partial_match.invariant.length;
      length = length-set items index _ ∙ c.loop-partial_match.invariant.length;
    }
