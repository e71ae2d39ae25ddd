-- A pending left alone, and those of its left side that began by then, the last one first.
use Rattle.std.proofs.Common.{rules, ◌≡◌, length, sym, ◌∙◌, ap, arith, inl, inr}
use Rattle.std.specs.Prelude.{true, false, ◌&&◌, ◌||◌}
use Rattle.std.specs.List.{list_any}
use Rattle.std.proofs.lemmas.Bool.{and_from, and_parts}
use Rattle.match_pruning.specs.declared.join.Join.TheVariants as join
use Rattle.match_pruning.specs.PartialMatchTree.{PartialMatchTree}
use Rattle.match_pruning.specs.inner.Retains.{retains}
use Rattle.match_pruning.specs.inner.PartialMatches.{partial_match_tree, partial_match_trees}
use Rattle.match_pruning.specs.inner.Steps.{may_join, joined_matches}
use Rattle.match_pruning.specs.inner.Needed.{is_needed}
use Rattle.match_pruning.specs.inner.PendingLefts.{pending_lefts_of}
use Rattle.match_pruning.proofs.NeededLemmas.{needed_by, any_of, or_true}
use Rattle.match_pruning.proofs.BegunLemmas.{among_all, among_begun, none_begun, contains_at, joins_begun, any_false}
use Rattle.match_pruning.proofs.needed.+is_needed.Goals as goal

pub returns-then-is_retained : goal.returns-then-is_retained
returns-then-is_retained t c =
    let p = partial_match_tree c.args.partial_match.now in let x = c.in-Some.innermost.now in let above = c.in-Some.above.now in
    sym (needed_by c.args.now c.args.pending_lefts.now above x p c.in-Some.ensures.cases.0
    ∙ ap (λ z. z || list_any (λ (h : PartialMatchTree). may_join join.Then h p && is_needed c.args.now (pending_lefts_of above) (joined_matches join.Then h p)) (partial_match_trees x.left.held.items))
    (sym c.is_retained.ensures ∙ c.if-is_retained.true))

pub returns-then-branch : goal.returns-then-branch
returns-then-branch t c = sym (c.in_ok-continues.ensures c.if-branch.true (partial_match_tree c.args.partial_match.now) c.in_ok-new.ensures)

pub loop-at-init : goal.loop-at-init
loop-at-init t c =
    let held = c.in-Some.innermost.now.left.held.items in
    let all : c.len-end.result ≡ length held = search rules in record {
      within = omega (arith, all);
      rest = λ left there wants. among_all held c.len-end.result left all there;
    }

pub returns-then-branch-2 : goal.returns-then-branch-2
returns-then-branch-2 t c =
    let p = partial_match_tree c.args.partial_match.now in let x = c.in-Some.innermost.now in let above = c.in-Some.above.now in let held = x.left.held.items in
    let f = λ (h : PartialMatchTree). may_join join.Then h p && is_needed c.args.now (pending_lefts_of above) (joined_matches join.Then h p) in
    let l = c.index-left.result.now in let inside = c.in-Some-last_begun.ensures.some.inside in
    let may : may_join join.Then (partial_match_tree l) p ≡ true = sym c.may_join.ensures ∙ c.if-may_join.true in
    let longer : is_needed c.args.now (pending_lefts_of above) (joined_matches join.Then (partial_match_tree l) p) ≡ true
    = ap (is_needed c.args.now (pending_lefts_of above)) (sym c.in_ok-longer.ensures) ∙ sym c.in_ok-is.ensures ∙ c.if-branch-2.true in
    let there = contains_at held c.in-Some-last_begun.at l (omega (arith, inside, c.loop-at.invariant.within)) c.index-left.ensures in
    sym (needed_by c.args.now c.args.pending_lefts.now above x p c.in-Some.ensures.cases.0
    ∙ ap (λ z. retains x.window p.earliest c.args.now || z) (any_of f (partial_match_trees held) (partial_match_tree l) there (and_from _ _ may longer))
    ∙ or_true (retains x.window p.earliest c.args.now))

pub loop-at-preserved-else-branch-2 : goal.loop-at-preserved-else-branch-2
loop-at-preserved-else-branch-2 t c =
    let p = partial_match_tree c.args.partial_match.now in let above = c.in-Some.above.now in let held = c.in-Some.innermost.now.left.held.items in
    let l = c.index-left.result.now in let last = c.in-Some-last_begun.ensures.some in let inside = last.inside in
    record {
      within = omega (arith, inside, c.loop-at.invariant.within);
      rest = λ left there wants.
          elim (among_begun held p.earliest c.in-Some-last_begun.at c.loop-at.end left last (c.loop-at.invariant.rest left there wants) (joins_begun held left p _ there wants)) [
            | inl earlier ↦ earlier
            | inr here ↦ absurd (
                let same : partial_match_tree l ≡ left = ap partial_match_tree c.index-left.ensures ∙ here l in
                let e : false ≡ true
                = sym c.if-branch-2.false ∙ c.in_ok-is.ensures ∙ ap (is_needed c.args.now (pending_lefts_of above)) c.in_ok-longer.ensures
                ∙ ap (λ (q : PartialMatchTree). is_needed c.args.now (pending_lefts_of above) (joined_matches join.Then q p)) same ∙ (and_parts _ _ wants).1 in cc)
          ];
    }

pub loop-at-preserved : goal.loop-at-preserved
loop-at-preserved t c =
    let p = partial_match_tree c.args.partial_match.now in let held = c.in-Some.innermost.now.left.held.items in
    let l = c.index-left.result.now in let last = c.in-Some-last_begun.ensures.some in let inside = last.inside in
    record {
      within = omega (arith, inside, c.loop-at.invariant.within);
      rest = λ left there wants.
          elim (among_begun held p.earliest c.in-Some-last_begun.at c.loop-at.end left last (c.loop-at.invariant.rest left there wants) (joins_begun held left p _ there wants)) [
            | inl earlier ↦ earlier
            | inr here ↦ absurd (
                let same : partial_match_tree l ≡ left = ap partial_match_tree c.index-left.ensures ∙ here l in
                let e : false ≡ true
                = sym c.if-may_join.false ∙ c.may_join.ensures ∙ ap (λ (q : PartialMatchTree). may_join join.Then q p) same ∙ (and_parts _ _ wants).0 in cc)
          ];
    }

pub returns : goal.returns
returns t c =
    let p = partial_match_tree c.args.partial_match.now in let x = c.in-Some.innermost.now in let above = c.in-Some.above.now in let held = x.left.held.items in
    let f = λ (h : PartialMatchTree). may_join join.Then h p && is_needed c.args.now (pending_lefts_of above) (joined_matches join.Then h p) in
    let none : list_any f (partial_match_trees held) ≡ false = any_false f (partial_match_trees held) (λ left there wants.
    none_begun held p.earliest c.loop-at.end left c.in_default-last_begun.ensures.none (c.loop-at.invariant.rest left there wants) (joins_begun held left p _ there wants)) in
    sym (needed_by c.args.now c.args.pending_lefts.now above x p c.in-Some.ensures.cases.0
    ∙ ap (λ z. retains x.window p.earliest c.args.now || z) none
    ∙ ap (λ z. z || false) (sym c.is_retained.ensures ∙ c.if-is_retained.false))
