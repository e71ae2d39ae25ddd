use Rattle.std.proofs.Common.{◌≡◌, ◌+◌, ◌++◌, List, length, take, drop, get_or, ◌∙◌, ap}
use Rattle.std.specs.List.{sum_by}
use Rattle.std.proofs.lemmas.List.{take_at}
use Rattle.std.proofs.lemmas.List.Sums.{sum_by-cons}
use Rattle.match_pruning.specs.declared.partial_match.PartialMatch.{PartialMatch}
use Rattle.match_pruning.specs.inner.PartialMatches.{partial_match_tree, partial_match_trees}
use Rattle.match_pruning.proofs.HeapLemmas.{same_removed}
use Rattle.match_pruning.proofs.store.Store.drop_first.Goals as goal

pub returns-clause-others : goal.returns-clause-others
returns-clause-others c = λ d weight.
    let old = c.args.self.now.held.items in let removed = c.swap_remove.new.self.items in
    let items = take c.swap_remove.new.self.len (c.sift_down.new.held ++ drop (length c.sift_down.new.held) removed) in
    let is : items ≡ c.sift_down.new.held = take_at c.sift_down.new.held (drop (length c.sift_down.new.held) removed) c.swap_remove.new.self.len (c.sift_down.ensures.length ∙ c.deref_mut.ensures.len) in
    let same : sum_by weight (partial_match_trees c.sift_down.new.held) ≡ sum_by weight (partial_match_trees removed) = c.sift_down.ensures.same weight ∙ ap (λ (y : List PartialMatch). sum_by weight (partial_match_trees y)) c.deref_mut.ensures.value in
    sum_by-cons weight (partial_match_tree (get_or old 0 d)) (partial_match_trees items)
    ∙ ap (λ (y : List PartialMatch). weight (partial_match_tree (get_or old 0 d)) + sum_by weight (partial_match_trees y)) is
    ∙ ap (λ n. weight (partial_match_tree (get_or old 0 d)) + n) same
    ∙ same_removed weight old removed c.swap_remove.result d c.requires.some c.swap_remove.ensures.items
