-- Lists of spanned binds in a loop that makes one of each.
use Rattle.std.proofs.Common.{◌≡◌, List, [], ◌∷◌, ◌++◌, append_assoc, sym, ◌∙◌, ap}
use Rattle.std.specs.Prelude.{map}
use Rattle.match_bindings.specs.declared.span.Span.{Span}
use Rattle.match_bindings.specs.declared.spanned_bind.SpannedBind.{SpannedBind}
use Rattle.match_bindings.specs.BindTree.{BindTree, tree_of}
use Rattle.match_bindings.specs.inner.Candidates.{SpannedTree, spanned_tree, spanned_trees, spanned_with}
use Rattle.match_bindings.proofs.ListLemmas.{map_append}

abbrev spanned : BindTree → Span → SpannedTree
spanned x s = record { tree = x; span = s }

same_spanned : (a b : BindTree) (s t : Span) → a ≡ b → s ≡ t → spanned a s ≡ spanned b t
same_spanned a b s t d e = ap (λ x. spanned x s) d ∙ ap (spanned b) e

-- one more, of one more
pub each_more : (f : BindTree → BindTree) (start : List SpannedTree) (old new done : List SpannedBind) (x y : SpannedBind) →
    new ≡ old ++ y ∷ [] → tree_of y.bind ≡ f (tree_of x.bind) → y.span ≡ x.span →
    spanned_trees old ≡ start ++ map (spanned_with f) (spanned_trees done) →
    spanned_trees new ≡ start ++ map (spanned_with f) (spanned_trees (done ++ x ∷ []))
each_more f start old new done x y e tree span h =
    let made = map (spanned_with f) (spanned_trees done) in
    ap spanned_trees e
    ∙ map_append spanned_tree old (y ∷ [])
    ∙ ap (λ ts. ts ++ spanned_tree y ∷ []) h
    ∙ append_assoc start made (spanned_tree y ∷ [])
    ∙ ap (λ t. start ++ (made ++ t ∷ [])) (same_spanned (tree_of y.bind) (f (tree_of x.bind)) y.span x.span tree span)
    ∙ ap (λ ts. start ++ ts) (sym (map_append (spanned_with f) (spanned_trees done) (spanned_tree x ∷ [])))
    ∙ ap (λ ts. start ++ map (spanned_with f) ts) (sym (map_append spanned_tree done (x ∷ [])))
