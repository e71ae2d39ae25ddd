-- A search of what is held that leaves out what begins after a time.
use Rattle.std.proofs.Common.{◌≡◌, ℕ, zero, suc, ◌+◌, ◌<◌, ◌≤◌, ℤ, ◌≤ℤ◌, ◌<ℤ◌, List, [], ◌∷◌, length, get_or, refl, sym, ◌∙◌, ap, subst, arith, ◌⊎◌, inl, inr}
use Rattle.std.specs.Prelude.{Bool, true, false, ◌&&◌}
use Rattle.std.specs.List.{Contains, list_any}
use Rattle.std.proofs.lemmas.Bool.{cases_order, and_parts}
use Rattle.std.proofs.lemmas.Int.{ints}
use Rattle.match_pruning.specs.declared.partial_match.PartialMatch.{PartialMatch}
use Rattle.match_pruning.specs.PartialMatchTree.{PartialMatchTree}
use Rattle.match_pruning.specs.inner.PartialMatches.{partial_match_tree, partial_match_trees}
use Rattle.match_pruning.specs.inner.Heaps.{AreLater, IsLastBegun, IsNextBegun}
use Rattle.match_pruning.specs.inner.Steps.{may_join}
use Rattle.match_pruning.specs.declared.join.Join.TheVariants as join
use Rattle.match_bindings.proofs.IsBindingLemmas.{le_true}
use Rattle.match_pruning.proofs.RetainsLemmas.{le_trans}
use Rattle.match_pruning.proofs.CompletionBoundLemmas.{held_span, any_item}

-- one of the elements before an index
pub record IsAmongFirst (held : List PartialMatch) (end : ℕ) (left : PartialMatchTree) : Type 0 where
  pub index : ℕ
  pub item : PartialMatch
  pub before : index < end
  pub there : (d : PartialMatch) → get_or held index d ≡ item
  pub same : partial_match_tree item ≡ left

among_it : (held : List PartialMatch) (left : PartialMatchTree) → Contains (partial_match_trees held) left → IsAmongFirst held (length held) left
among_it [] left (k, l, is) = absurd (omega (arith, l))
among_it (x ∷ held) left (zero, l, is) = record { index = 0; item = x; before = omega arith; there = λ d. refl; same = is }
among_it (x ∷ held) left (suc k, l, is) =
    let rest = among_it held left (k, omega (arith, l), is) in let before = rest.before in
    record { index = suc rest.index; item = rest.item; before = omega (arith, before); there = rest.there; same = rest.same }

pub among_all : (held : List PartialMatch) (end : ℕ) (left : PartialMatchTree) → end ≡ length held → Contains (partial_match_trees held) left → IsAmongFirst held end left
among_all held end left all there = subst (λ (n : ℕ). IsAmongFirst held n left) (sym all) (among_it held left there)

-- it begins when the element at its index does
begins_at : (held : List PartialMatch) (end : ℕ) (left : PartialMatchTree) (one : IsAmongFirst held end left) → (get_or held one.index one.item).earliest ≡ left.earliest
begins_at held end left one = ap (λ (x : PartialMatch). x.earliest) (one.there one.item) ∙ ap (λ (p : PartialMatchTree). p.earliest) one.same

begins_after : (held : List PartialMatch) (time : ℤ) (left : PartialMatchTree) (index : ℕ) (item : PartialMatch) → ((d : PartialMatch) → get_or held index d ≡ item) → partial_match_tree item ≡ left →
    time <ℤ (get_or held index item).earliest → time <ℤ left.earliest
begins_after held time left index item there same later =
    subst (λ (z : ℤ). time <ℤ z) (ap (λ (x : PartialMatch). x.earliest) (there item) ∙ ap (λ (p : PartialMatchTree). p.earliest) same) later

not_later : (a b t : ℤ) → a ≡ b → b ≤ℤ t → t <ℤ a → ⊥
not_later a b t e h k = absurd (let after : t <ℤ b = subst (λ (z : ℤ). t <ℤ z) e k in omega (arith, ints))

-- what begins by the time stands at the last index that does, or before it
pub among_begun : (held : List PartialMatch) (time : ℤ) (at end : ℕ) (left : PartialMatchTree) → IsLastBegun held time at end → IsAmongFirst held end left → left.earliest ≤ℤ time →
    IsAmongFirst held at left ⊎ ((d : PartialMatch) → partial_match_tree (get_or held at d) ≡ left)
among_begun held time at end left last one begun = elim (cases_order one.index at) [
  | inl here ↦ inr (λ d. ap (λ (i : ℕ). partial_match_tree (get_or held i d)) (sym here) ∙ ap partial_match_tree (one.there d) ∙ one.same)
  | inr other ↦ elim other [
    | inl earlier ↦ inl (record { index = one.index; item = one.item; before = earlier; there = one.there; same = one.same })
    | inr after ↦ absurd (not_later (get_or held one.index one.item).earliest left.earliest time (begins_at held end left one) begun
        (last.later one.item one.index (omega (arith, after)) one.before))
  ]
]

-- nothing that begins by the time is among those that begin later
pub none_begun : (held : List PartialMatch) (time : ℤ) (end : ℕ) (left : PartialMatchTree) → AreLater held time 0 end → IsAmongFirst held end left → left.earliest ≤ℤ time → ⊥
none_begun held time end left later one begun =
    not_later (get_or held one.index one.item).earliest left.earliest time (begins_at held end left one) begun (later one.item one.index (omega arith) one.before)

-- one of the elements from an index on
pub record IsAmongLast (held : List PartialMatch) (start : ℕ) (left : PartialMatchTree) : Type 0 where
  pub index : ℕ
  pub item : PartialMatch
  pub after : start ≤ index
  pub inside : index < length held
  pub there : (d : PartialMatch) → get_or held index d ≡ item
  pub same : partial_match_tree item ≡ left

pub among_from_first : (held : List PartialMatch) (left : PartialMatchTree) → Contains (partial_match_trees held) left → IsAmongLast held 0 left
among_from_first held left there =
    let one = among_it held left there in let before = one.before in
    record { index = one.index; item = one.item; after = omega arith; inside = before; there = one.there; same = one.same }

-- it is the next one that begins by the time, or after it, or begins later
pub among_next : (held : List PartialMatch) (time : ℤ) (at start : ℕ) (left : PartialMatchTree) → IsNextBegun held time at start → IsAmongLast held start left →
    IsAmongLast held (at + 1) left ⊎ (((d : PartialMatch) → partial_match_tree (get_or held at d) ≡ left) ⊎ (time <ℤ left.earliest))
among_next held time at start left next one = elim (cases_order one.index at) [
  | inl here ↦ inr (inl (λ d. ap (λ (i : ℕ). partial_match_tree (get_or held i d)) (sym here) ∙ ap partial_match_tree (one.there d) ∙ one.same))
  | inr other ↦ elim other [
    | inl earlier ↦ inr (inr (begins_after held time left one.index one.item one.there one.same (next.later one.item one.index one.after earlier)))
    | inr later ↦ inl (record { index = one.index; item = one.item; after = omega (arith, later); inside = one.inside; there = one.there; same = one.same })
  ]
]

pub no_next : (held : List PartialMatch) (time : ℤ) (start : ℕ) (left : PartialMatchTree) → AreLater held time start (length held) → IsAmongLast held start left → time <ℤ left.earliest
no_next held time start left later one = begins_after held time left one.index one.item one.there one.same (later one.item one.index one.after one.inside)

pub contains_at : (held : List PartialMatch) (at : ℕ) (x : PartialMatch) → at < length held → x ≡ get_or held at x → Contains (partial_match_trees held) (partial_match_tree x)
contains_at [] at x h is = absurd (omega (arith, h))
contains_at (y ∷ held) zero x h is = (zero, omega arith, ap partial_match_tree (sym is))
contains_at (y ∷ held) (suc at) x h is = let rest = contains_at held at x (omega (arith, h)) is in let inside = rest.1 in (suc rest.0, omega (arith, inside), rest.2)

-- what joins a partial match begins no later
pub joins_begun : (held : List PartialMatch) (left p : PartialMatchTree) (b : Bool) → Contains (partial_match_trees held) left → (may_join join.Then left p && b) ≡ true → left.earliest ≤ℤ p.earliest
joins_begun held left p b there h =
    le_trans left.earliest left.latest p.earliest (held_span held left there) (le_true left.latest p.earliest (and_parts _ _ (and_parts _ _ h).0).0)

-- a test that nothing passes
pub any_false : (f : PartialMatchTree → Bool) (xs : List PartialMatchTree) → ((x : PartialMatchTree) → Contains xs x → f x ≡ true → ⊥) → list_any f xs ≡ false
any_false f xs none = by (list_any f xs) refl where
  by : (b : Bool) → list_any f xs ≡ b → list_any f xs ≡ false
  by false is = is
  by true is = let found = any_item f xs is in absurd (none found.0 found.1 found.2)
