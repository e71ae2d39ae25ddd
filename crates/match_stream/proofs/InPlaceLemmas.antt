-- Things gone through in place, and wrapped.
use Rattle.std.proofs.Common.{◌≡◌, ℕ, ◌+◌, ◌<◌, List, ◌++◌, length, take, drop, get_or, slice_set, sym, ◌∙◌, ap, subst, arith}
use Rattle.std.specs.Prelude.{map, nat_eq}
use Rattle.std.specs.List.{IsDistinct}
use Rattle.std.proofs.lemmas.List.{length-map, map-set, get_or-map, take-map, drop-map}
use Rattle.std.proofs.lemmas.List.Edits.{map_over_more}
use Rattle.match_bindings.specs.declared.bind.Bind.{Bind}
use Rattle.match_bindings.specs.declared.bind.Bind.TheVariants.{One as Only}
use Rattle.match_bindings.specs.BindTree.{BindTree, tree_of}
use Rattle.match_pruning.specs.declared.partial_match.PartialMatch.{PartialMatch}
use Rattle.match_pruning.specs.PartialMatchTree.{PartialMatchTree}
use Rattle.match_pruning.specs.inner.PartialMatches.{partial_match_tree}
use Rattle.match_pruning.specs.inner.Steps.{held_with}
use Rattle.match_pruning.specs.inner.Numbers.{numbers}
use Rattle.match_pruning.proofs.PicksLemmas.{once_one}

-- where the items before i are changed, as they are seen, then with the i-th those before i + 1
pub changed_more : {X W : Type 0} (see : X → W) (f : W → W) (xs ys : List X) (i : ℕ) (x x' : X) → i < length xs →
    map see ys ≡ map f (map see (take i xs)) ++ map see (drop i xs) → x ≡ get_or ys i x → see x' ≡ f (see x) → length ys ≡ length xs →
    map see (slice_set ys i x') ≡ map f (map see (take (i + 1) xs)) ++ map see (drop (i + 1) xs)
changed_more see f xs ys i x x' h inv is done same =
    let long = length-map xs see in
    let inside : i < length (map see xs) = omega (arith, h, long) in
    let inside' : i < length ys = omega (arith, h, same) in
    let before : map see ys ≡ map f (take i (map see xs)) ++ drop i (map see xs)
    = inv ∙ ap (λ y. map f y ++ map see (drop i xs)) (sym (take-map see i xs)) ∙ ap (λ y. map f (take i (map see xs)) ++ y) (sym (drop-map see i xs)) in
    map-set see ys i x'
    ∙ ap (λ y. slice_set (map see ys) i y) done
    ∙ map_over_more f (map see xs) (map see ys) i (see x) inside before (ap see is ∙ sym (get_or-map see ys i x (see x) inside'))
    ∙ ap (λ y. map f y ++ drop (i + 1) (map see xs)) (take-map see (i + 1) xs)
    ∙ ap (λ y. map f (map see (take (i + 1) xs)) ++ y) (drop-map see (i + 1) xs)

-- what lies there for a while has its number once
pub once_only : (bind : Bind) → bind ≡ Only 0 → IsDistinct nat_eq (numbers (tree_of bind))
once_only bind is = subst (λ (b : Bind). IsDistinct nat_eq (numbers (tree_of b))) (sym is) (once_one 0)

-- a thing, wrapped
pub wrapped_there : (wrap : BindTree → BindTree) (tree : BindTree) (x there : PartialMatch) → tree ≡ wrap (tree_of x.bind) → x ≡ there →
    record { tree = tree; earliest = there.earliest; latest = there.latest } ≡ held_with wrap (partial_match_tree x)
wrapped_there wrap tree x there same is =
    let observable_state : BindTree → PartialMatch → PartialMatchTree = λ t p. record { tree = t; earliest = p.earliest; latest = p.latest } in
    ap (λ t. observable_state t there) same ∙ ap (observable_state (wrap (tree_of x.bind))) (sym is)
