use Rattle.std.proofs.Common.{List, [], ℕ, subst}
use Rattle.match_comparisons.proofs.RootsLemmas.{AreAdded, all_added}
use Rattle.match_comparisons.proofs.roots.own_roots.Goals as goal

pub returns : goal.returns
returns c =
    let roots = c.add_roots.new.roots.items in
    let added = subst (λ (start : List ℕ). AreAdded start c.as_slice.result.now roots) c.new-roots.ensures.items c.in_ok-add_roots.ensures.added in
    all_added c.args.observation.now.roots roots (subst (λ (own : List ℕ). AreAdded [] own roots) c.as_slice.ensures added)
