-- What is candidates and sorted is the listing.
use Rattle.std.proofs.Common.{◌≡◌, List, length, sym, ◌∙◌, ap, subst}
use Rattle.std.specs.Prelude.{map}
use Rattle.std.specs.List.Sorted.{IsSortedBy}
use Rattle.match_bindings.specs.declared.bind.Bind.{Bind}
use Rattle.match_bindings.specs.declared.log_entry.LogEntry.{LogEntry}
use Rattle.match_bindings.specs.declared.bounds.Bounds.{Bounds}
use Rattle.match_bindings.specs.NumberedPattern.{NumberedPattern, numbered_pattern}
use Rattle.match_bindings.specs.BindTree.{BindTree, tree_of}
use Rattle.match_bindings.specs.Log.{observed_in}
use Rattle.match_bindings.specs.Bounds.{no_bounds}
use Rattle.match_bindings.specs.Once.{count}
use Rattle.match_bindings.specs.Flat.{comes_before}
use Rattle.match_bindings.specs.Listing.{IsListing}
use Rattle.match_bindings.specs.inner.Candidates.{SpannedTree, spanned_trees, trees_of, candidates}
use Rattle.match_bindings.proofs.FlatLemmas.{listing_from}
use Rattle.match_bindings.proofs.ExistenceLemmas.{all_bindings}
use Rattle.match_bindings.proofs.bindings.listing.Goals as goal

sorted_bindings : (log : List LogEntry) (p : NumberedPattern) (held : List SpannedTree) (binds sorted : List BindTree) →
    held ≡ candidates (observed_in log) (length log) no_bounds p → binds ≡ trees_of held → ((x : BindTree) → count x sorted ≡ count x binds) →
    IsSortedBy comes_before sorted → IsListing (observed_in log) p sorted
sorted_bindings log p held binds sorted e f counts up =
    listing_from (observed_in log) p sorted (λ x. counts x ∙ ap (count x) (f ∙ ap trees_of e) ∙ all_bindings log p x) up

pub returns : goal.returns
returns c =
    let log = c.args.log.now in
    let p = numbered_pattern c.args.pattern.now in
    subst (λ (binds : List Bind). IsListing (observed_in log) p (map tree_of binds)) (sym c.from_vec.ensures)
    (sorted_bindings log p (spanned_trees c.in_ok-held.held.items) (map tree_of c.in_ok-binds.binds.items) (map tree_of c.in_ok-sorted.sorted.items)
    (c.in_ok-held.ensures ∙ ap (λ (w : Bounds). candidates (observed_in log) (length log) w p) c.open.ensures) c.in_ok-binds.ensures
    c.in_ok-sorted.ensures.counts c.in_ok-sorted.ensures.ascends)
