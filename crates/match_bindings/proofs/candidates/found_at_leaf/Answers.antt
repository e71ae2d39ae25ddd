-- One observation more.
use Rattle.std.proofs.Common.{◌≡◌, ℕ, suc, ◌+◌, List, [], ◌∷◌, ◌++◌, refl, sym, ◌∙◌, ap, arith, append-nil, Some, None}
use Rattle.std.specs.Prelude.{Bool, true, false}
use Rattle.match_bindings.specs.declared.span.Span.{Span}
use Rattle.match_bindings.specs.declared.bounds.Bounds.{Bounds}
use Rattle.match_bindings.specs.declared.spanned_bind.SpannedBind.{SpannedBind}
use Rattle.match_bindings.specs.declared.bind.Bind.TheVariants.{One as Only}
use Rattle.match_bindings.specs.BindTree.{BindTree, One}
use Rattle.match_bindings.specs.Log.{Observed, observed_in}
use Rattle.match_bindings.specs.inner.Candidates.{SpannedTree, spanned_binding, spanned_trees, spanned_tree, span_of, span_if, span_fits, one_if, ones}
use Rattle.match_bindings.proofs.BindTreeLemmas.{tree_one}
use Rattle.match_bindings.proofs.ListLemmas.{map_append}
use Rattle.match_bindings.proofs.IsBindingTestLemmas.{passed, failed}
use Rattle.match_bindings.proofs.candidates.found_at_leaf.Goals.{in-Some+then-fits+in_ok-push, in-Some+else-fits, in_default}
use Rattle.match_bindings.proofs.candidates.found_at_leaf.Goals as goal

ones_more : (o : Observed) (w : Bounds) (k n : ℕ) → ones o w k (n + 1) ≡ ones o w k n ++ one_if (o.holds k (n + 1)) w (spanned_binding o (One (n + 1)))
ones_more o w k n =
    let e : n + 1 ≡ suc n = omega arith in
    ap (ones o w k) e ∙ ap (λ m. ones o w k n ++ one_if (o.holds k m) w (spanned_binding o (One m))) (sym e)

one_held : (b : Bool) (w : Bounds) (x : BindTree) (s t : Span) → span_if b s ≡ Some t → span_fits w t ≡ true →
    one_if b w (record { tree = x; span = s }) ≡ record { tree = x; span = t } ∷ []
one_held b w x s t h k =
    let parts = passed b s t h in
    let fit : span_fits w s ≡ true = ap (span_fits w) parts.1 ∙ k in
    let yes_it_is = parts.0 in
    rw (yes_it_is, fit) (ap (λ (u : Span). record { tree = x; span = u } ∷ []) parts.1)

one_unfit : (b : Bool) (w : Bounds) (x : BindTree) (s t : Span) → span_if b s ≡ Some t → span_fits w t ≡ false → one_if b w (record { tree = x; span = s }) ≡ []
one_unfit b w x s t h k =
    let parts = passed b s t h in
    let fit : span_fits w s ≡ false = ap (span_fits w) parts.1 ∙ k in
    let yes_it_is = parts.0 in
    rw (yes_it_is, fit) refl

one_none : (b : Bool) (w : Bounds) (x : BindTree) (s : Span) → span_if b s ≡ None → one_if b w (record { tree = x; span = s }) ≡ []
one_none b w x s h = let isnt = failed b s h in rw isnt refl

-- nothing is added
stays : (o : Observed) (w : Bounds) (k n : ℕ) (us : List SpannedTree) → us ≡ ones o w k n → one_if (o.holds k (n + 1)) w (spanned_binding o (One (n + 1))) ≡ [] → us ≡ ones o w k (n + 1)
stays o w k n us h none = h ∙ sym (append-nil (ones o w k n)) ∙ ap (λ z. ones o w k n ++ z) (sym none) ∙ sym (ones_more o w k n)

-- one is added
grows : (o : Observed) (w : Bounds) (k n : ℕ) (us : List SpannedTree) (x : SpannedTree) → us ≡ ones o w k n → one_if (o.holds k (n + 1)) w (spanned_binding o (One (n + 1))) ≡ x ∷ [] →
    us ++ x ∷ [] ≡ ones o w k (n + 1)
grows o w k n us x h one = ap (λ z. z ++ x ∷ []) h ∙ ap (λ z. ones o w k n ++ z) (sym one) ∙ sym (ones_more o w k n)

pub loop-at-preserved : goal.loop-at-preserved
loop-at-preserved c =
    let o = observed_in c.args.log.now in
    let w = c.args.bounds.now in
    let k = c.args.leaf in
    let n = c.loop-at.at in
    let b = o.holds k (n + 1) in
    let x = One (n + 1) in
    elim c.match-span_of.branch [
      | in-Some+then-fits+in_ok-push v ↦
          let held : SpannedBind = record { bind = Only (n + 1); span = v.in-Some.span } in
          let one = one_held b w x (span_of o x) v.in-Some.span (sym c.span_of.ensures ∙ v.in-Some.is) (sym v.fits.ensures ∙ v.if-fits.true)
          ∙ ap (λ (t : BindTree). let thing : SpannedTree = record { tree = t; span = v.in-Some.span } in thing ∷ []) (sym (tree_one (n + 1))) in
          ap (λ out. spanned_trees out.items) v.out-is ∙ ap spanned_trees v.in_ok-push.ensures.items ∙ map_append spanned_tree c.loop-at.out.items (held ∷ [])
          ∙ grows o w k n (spanned_trees c.loop-at.out.items) (spanned_tree held) c.loop-at.invariant one
      | in-Some+else-fits v ↦
          ap (λ out. spanned_trees out.items) v.out-is
          ∙ stays o w k n (spanned_trees c.loop-at.out.items) c.loop-at.invariant
          (one_unfit b w x (span_of o x) v.in-Some.span (sym c.span_of.ensures ∙ v.in-Some.is) (sym v.fits.ensures ∙ v.if-fits.false))
      | in_default v ↦
          ap (λ out. spanned_trees out.items) v.out-is
          ∙ stays o w k n (spanned_trees c.loop-at.out.items) c.loop-at.invariant (one_none b w x (span_of o x) (sym c.span_of.ensures ∙ v.in_default.is))
    ]
