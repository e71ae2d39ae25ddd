-- One more from the end, whose number at the place is found, or which isn't asked.
use Rattle.std.proofs.Common.{rules, ◌≡◌, ℕ, ◌≤◌, ◌<◌, ℤ, ◌≤ℤ◌, Option, IfSome, MatchOption, length, get_or, List, [], ◌∷◌, ◌++◌, refl, sym, ◌∙◌, ap, subst, arith, zero, inl, inr}
use denote.Ref.{Bor}
use Rattle.std.specs.Prelude.{true, false, Some, slice_get}
use Rattle.std.specs.Ordering.{int_eq}
use Rattle.std.specs.List.{Contains, HoldsAt}
use Rattle.std.proofs.lemmas.Cmp.{int_eq_equiv}
use Rattle.std.proofs.lemmas.Option.{slice_get_read}
use Rattle.std.proofs.lemmas.List.Elements.{Contains-append_left, Contains-append_right}
use Rattle.match_bindings.specs.BindTree.{tree_of}
use Rattle.match_pruning.specs.PartialMatchTree.{PartialMatchTree}
use Rattle.match_pruning.specs.inner.Numbers.{numbers}
use Rattle.match_pruning.specs.inner.Picks.{HasNumberAt}
use Rattle.match_pruning.specs.inner.PartialMatches.{partial_match_tree}
use Rattle.match_pruning.specs.inner.CompletionBounds.{may_precede}
use Rattle.match_pruning.proofs.CompletionBoundLemmas.{of_some}
use Rattle.match_pruning.proofs.RetainsLemmas.{le_self}
use Rattle.match_pruning.proofs.BegunLemmas.{among_all, among_begun, none_begun}
use Rattle.match_pruning.proofs.completion_bound.candidate_set_at.Goals as goal
use Rattle.match_pruning.proofs.completion_bound.candidate_set_at.Goals.{else-eq-via-then-eq+else-may_precede, else-eq-via-else-eq}

-- what was found is found among more
more_found : (old new : List ℕ) (place : ℕ) (left : PartialMatchTree) → HasNumberAt old place left.tree → ((n : ℕ) → Contains old n → Contains new n) → HasNumberAt new place left.tree
more_found old new place left at kept = record { number = at.number; there = at.there; among = kept at.number at.among }

-- what a look-up gives
read_at : (ns : List ℕ) (place : ℕ) (found : Option (Bor ℕ)) (number : Bor ℕ) → IfSome found (λ item. item.now ≡ get_or ns place item.now) →
    MatchOption found (length ns ≤ place) (λ item. (place < length ns) × HoldsAt (λ t. item.now ≡ t) ns place) → found ≡ Some number → slice_get ns place ≡ Some number.now
read_at ns place found number read within is =
    slice_get_read ns (length ns) place number.now refl
    (subst (λ (o : Option (Bor ℕ)). MatchOption o (length ns ≤ place) (λ item. (place < length ns) × HoldsAt (λ t. item.now ≡ t) ns place)) is within).0
    (of_some _ found number read is)

-- what begins at a time begins by it
begins_by : (a b : ℤ) → a ≡ b → a ≤ℤ b
begins_by a b e = subst (λ (t : ℤ). a ≤ℤ t) e (le_self a)

pub loop-at-init : goal.loop-at-init
loop-at-init c =
    let all : c.len-end.result ≡ length c.args.store.now.held.items = search rules in record {
      within = omega (arith, all);
      rest = λ left there may e. inl (among_all c.args.store.now.held.items c.len-end.result left all there);
    }

pub loop-at-preserved-then-may_precede : goal.loop-at-preserved-then-may_precede
loop-at-preserved-then-may_precede c =
    let d = c.index-left.result.now in let held = c.args.store.now.held.items in let last = c.in-Some.ensures.some in let inside = last.inside in
    let place = c.args.place in let older = c.loop-at.found.items in let new = c.are_many.new.numbers.items in let number = c.in-Some-get.number.now in
    let added : (n : ℕ) → Contains (older ++ number ∷ []) n → Contains new n
    = λ n k. c.are_many.ensures n (subst (λ (z : List ℕ). Contains z n) (sym c.in_ok-push.ensures.items) k) in
    record {
      within = omega (arith, inside, c.loop-at.invariant.within);
      rest = λ left there may e. elim (c.loop-at.invariant.rest left there may e) [
        | inl one ↦ elim (among_begun held c.args.earliest c.in-Some.at c.loop-at.end left last one (begins_by left.earliest c.args.earliest e)) [
          | inl earlier ↦ inl earlier
          | inr here ↦ inr (
              let all : c.deref.result.now ≡ numbers (tree_of d.bind)
              = c.deref.ensures.value ∙ c.in_ok-push_numbers.ensures ∙ ap (λ (z : List ℕ). z ++ numbers (tree_of d.bind)) c.clear.ensures.items in
              let found = read_at c.deref.result.now place c.get.result c.in-Some-get.number c.get.ensures.lookup.1 c.get.ensures.lookup.3 c.in-Some-get.is in
              subst (λ (q : PartialMatchTree). HasNumberAt new place q.tree) (ap partial_match_tree c.index-left.ensures ∙ here d) (record {
                number = number;
                there = ap (λ (z : List ℕ). slice_get z place) (sym all) ∙ found;
                among = added number (Contains-append_right older (number ∷ []) number (zero, omega arith, refl));
              }))
        ]
        | inr old ↦ inr (more_found older new place left old (λ n k. added n (Contains-append_left older (number ∷ []) n k)))
      ];
    }

pub loop-at-preserved : goal.loop-at-preserved
loop-at-preserved c =
    let d = c.index-left.result.now in let held = c.args.store.now.held.items in let last = c.in-Some.ensures.some in let inside = last.inside in
    record {
      within = omega (arith, inside, c.loop-at.invariant.within);
      rest = λ left there may e. elim (c.loop-at.invariant.rest left there may e) [
        | inl one ↦ elim (among_begun held c.args.earliest c.in-Some.at c.loop-at.end left last one (begins_by left.earliest c.args.earliest e)) [
          | inl earlier ↦ inl earlier
          | inr here ↦ absurd (
              let same : partial_match_tree d ≡ left = ap partial_match_tree c.index-left.ensures ∙ here d in
              elim c.else-eq.branch [
                | else-eq-via-then-eq+else-may_precede v ↦ (
                    let f : false ≡ true
                    = sym v.if-may_precede.false ∙ v.may_precede.ensures ∙ ap (λ (q : PartialMatchTree). may_precede q c.args.bound (partial_match_tree c.args.partial_match.now)) same ∙ may in cc)
                | else-eq-via-else-eq v ↦ (
                    let f : false ≡ true
                    = sym v.if-eq.false ∙ c.eq.ensures ∙ ap (λ (t : ℤ). int_eq t c.args.earliest) (ap (λ (q : PartialMatchTree). q.earliest) same ∙ e) ∙ int_eq_equiv.refl c.args.earliest in cc)
              ])
        ]
        | inr old ↦ inr old
      ];
    }

pub returns : goal.returns
returns c = λ left there may e. elim (c.loop-at.invariant.rest left there may e) [
  | inl one ↦ absurd (none_begun c.args.store.now.held.items c.args.earliest c.loop-at.end left c.in_default.ensures.none one (begins_by left.earliest c.args.earliest e))
  | inr old ↦ more_found c.loop-at.found.items _ c.args.place left old c.sort_dedup.ensures
]
