-- One more thing alone.
use Rattle.std.proofs.Common.{◌≡◌, ℕ, ◌<◌, ◌+◌, List, [], ◌∷◌, ◌++◌, length, get_or, take, sym, ◌∙◌, ap}
use Rattle.std.specs.Prelude.{map}
use Rattle.match_bindings.specs.BindTree.{Single}
use Rattle.match_bindings.proofs.ListLemmas.{map_append}
use Rattle.match_pruning.specs.declared.partial_match.PartialMatch.{PartialMatch}
use Rattle.match_pruning.specs.PartialMatchTree.{PartialMatchTree}
use Rattle.match_pruning.specs.inner.PartialMatches.{partial_match_tree, partial_match_trees}
use Rattle.match_pruning.specs.inner.Steps.{held_with}
use Rattle.match_pruning.proofs.OldestLemmas.{next_taken}
use Rattle.match_stream.proofs.level_step.singles.Goals as goal

single_more : (parts : List PartialMatch) (at : ℕ) (d : PartialMatch) (sets : List PartialMatchTree) → at < length parts → sets ≡ map (held_with Single) (partial_match_trees (take at parts)) →
    sets ++ held_with Single (partial_match_tree (get_or parts at d)) ∷ [] ≡ map (held_with Single) (partial_match_trees (take (at + 1) parts))
single_more parts at d sets h is =
    ap (λ z. z ++ held_with Single (partial_match_tree (get_or parts at d)) ∷ []) is
    ∙ sym (map_append (held_with Single) (partial_match_trees (take at parts)) (partial_match_tree (get_or parts at d) ∷ []))
    ∙ ap (map (held_with Single)) (sym (next_taken parts at d h))

pub loop-part-preserved : goal.loop-part-preserved
loop-part-preserved c =
    let sets = c.loop-part.sets.items in let d = c.part-item.result in
    ap partial_match_trees c.in_ok-push.ensures.items
    ∙ map_append partial_match_tree sets (c.in_ok-held.held ∷ [])
    ∙ ap (λ z. partial_match_trees sets ++ z ∷ []) (c.in_ok-held.ensures ∙ ap (λ (p : PartialMatch). held_with Single (partial_match_tree p)) c.part-item.is)
    ∙ single_more c.args.new.now c.loop-part.part-index d (partial_match_trees sets) c.loop-part-test.true c.loop-part.invariant
