-- What a store keeps is what retains.
use Rattle.std.proofs.Common.{◌≡◌, ap, ◌∙◌, sym, rules}
use Rattle.std.specs.Prelude.{filter}
use Rattle.std.proofs.lemmas.Fn.{filter_same}
use Rattle.match_pruning.specs.declared.partial_match.PartialMatch.{PartialMatch}
use Rattle.match_pruning.specs.inner.Retains.{retains}
use Rattle.match_pruning.specs.inner.PartialMatches.{partial_match_tree, partial_match_trees}
use Rattle.match_bindings.proofs.ListLemmas.{filter_map}
use Rattle.match_pruning.proofs.store.keep_retained.Goals as goal

pub returns : goal.returns
returns c =
    let test = λ (h : PartialMatch). retains c.args.window.now h.earliest c.args.now in
    let is : c.retain.new.self.items ≡ filter test c.args.held.now.items = filter_same _ test _ (λ x b f' k. search rules) _ _ c.retain.ensures.filtered in
    ap partial_match_trees is ∙ sym (filter_map partial_match_tree (λ h. retains c.args.window.now h.earliest c.args.now) c.args.held.now.items)
