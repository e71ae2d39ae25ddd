-- A place that is tried, and what lies between it and the one before.
use Rattle.std.proofs.Common.{◌≡◌, ◌≤◌, ◌<◌, ◌+◌, ◌∷◌, ◌++◌, [], List, Vec, Global, length, take, sym, ◌∙◌, ap, subst, rules, arith, Err}
use Rattle.std.specs.Prelude.{slice_index_or}
use Rattle.std.proofs.lemmas.List.{take_all, get_or_default}
use Rattle.std.proofs.lemmas.List.Elements.{AllWithin-more, Contains-get_or}
use Rattle.match_pruning.specs.declared.stop.Stop.TheVariants as stop
use Rattle.match_pruning.specs.declared.partial_match.PartialMatch.{PartialMatch}
use Rattle.match_pruning.specs.PartialMatchTree.{PartialMatchTree}
use Rattle.match_pruning.specs.inner.PartialMatches.{partial_match_tree, partial_match_trees}
use Rattle.match_pruning.specs.inner.Steps.{match_join_row}
use Rattle.match_pruning.specs.inner.Needed.{needed}
use Rattle.match_pruning.specs.inner.PendingLefts.{pending_lefts_of}
use Rattle.match_pruning.proofs.SkipIndexLemmas.{row_full, row_grown, up_to_place, up_to_end}
use Rattle.match_pruning.proofs.joining.Joining.places.Goals as goal
use Rattle.match_pruning.proofs.joining.Joining.places.Goals.{then-done-place+in_ok-pair, else-done-place}

pub bounds-seconds-place : goal.bounds-seconds-place
bounds-seconds-place c =
    let places = c.args.places.now in let at = c.loop-place.place-index in
    c.requires.tried.within (slice_index_or places at 0) (Contains-get_or places at 0 c.loop-place-test.true)

pub offset_bounds-seconds-place : goal.offset_bounds-seconds-place
offset_bounds-seconds-place c =
    let places = c.args.places.now in let at = c.loop-place.place-index in
    let low : slice_index_or places at 0 < length c.args.seconds.now = c.requires.tried.within (slice_index_or places at 0) (Contains-get_or places at 0 c.loop-place-test.true) in
    search rules

pub overflow_add-done : goal.overflow_add-done
overflow_add-done c =
    let places = c.args.places.now in let at = c.loop-place.place-index in
    let low : slice_index_or places at 0 < length c.args.seconds.now = c.requires.tried.within (slice_index_or places at 0) (Contains-get_or places at 0 c.loop-place-test.true) in
    search rules

pub returns-in_err-pair-clause-over_limit : goal.returns-in_err-pair-clause-over_limit
returns-in_err-pair-clause-over_limit c = λ e.
    let j = c.args.self.now.how in let x = partial_match_tree c.args.first.now in let ahead = pending_lefts_of c.args.self.now.join_filter.now.pending_lefts.now in let seconds = c.args.seconds.now in
    let places = c.args.places.now in let at = c.loop-place.place-index in let place = slice_index_or places at 0 in let item = c.index-seconds-place.result in
    let low = c.requires.tried.within place (Contains-get_or places at 0 c.loop-place-test.true) in
    let skipped = up_to_place c.args.self.now.join_filter.now.time ahead c.args.self.now.earliest_start.start j x seconds item places at c.loop-place.done place (λ q wants. (c.args.self.now.told q wants).covered) c.requires.tried
    c.loop-place-test.true (get_or_default places at 0 place c.loop-place-test.true) c.loop-place.invariant.passed c.if-done-place.true (omega (arith, low)) in
    let failed : c.pair.result ≡ Err stop.OverLimit = search rules in
    row_full c.args.self.now.join_filter.now.time ahead j x seconds place item c.args.self.now.join_filter.now.budget c.loop-place.out.items c.args.out.now.items low
    (subst (λ (z : PartialMatch). c.args.self.now.join_filter.now.budget < length c.loop-place.out.items + length (needed c.args.self.now.join_filter.now.time ahead (match_join_row j x (partial_match_tree z ∷ [])))) c.index-seconds-place.is (c.pair.ensures.over_limit failed))
    (c.loop-place.invariant.joined ∙ ap (λ (z : List PartialMatchTree). partial_match_trees c.args.out.now.items ++ z) (sym skipped))

pub loop-place-preserved : goal.loop-place-preserved
loop-place-preserved c =
    let j = c.args.self.now.how in let x = partial_match_tree c.args.first.now in let ahead = pending_lefts_of c.args.self.now.join_filter.now.pending_lefts.now in let seconds = c.args.seconds.now in
    let places = c.args.places.now in let at = c.loop-place.place-index in let place = slice_index_or places at 0 in
    let before = c.loop-place.invariant in let old = partial_match_trees c.args.out.now.items in let in' = c.loop-place-test.true in
    let low : place < length seconds = c.requires.tried.within place (Contains-get_or places at 0 in') in
    elim c.if-done-place.branch [
      | then-done-place+in_ok-pair w ↦ (
          let item = w.index-seconds-place.result in
          let skipped = up_to_place c.args.self.now.join_filter.now.time ahead c.args.self.now.earliest_start.start j x seconds item places at c.loop-place.done place (λ q wants. (c.args.self.now.told q wants).covered) c.requires.tried
          in' (get_or_default places at 0 place in') before.passed w.if-done-place.true (omega (arith, low)) in
          record {
            joined =
                ap (λ (v : Vec PartialMatch Global). partial_match_trees v.items) w.out-is
                ∙ w.in_ok-pair.ensures.joined
                ∙ ap (λ (z : PartialMatch). partial_match_trees c.loop-place.out.items ++ needed c.args.self.now.join_filter.now.time ahead (match_join_row j x (partial_match_tree z ∷ []))) w.index-seconds-place.is
                ∙ row_grown c.args.self.now.join_filter.now.time ahead j x seconds place item old (partial_match_trees c.loop-place.out.items) low
                (before.joined ∙ ap (λ (z : List PartialMatchTree). old ++ z) (sym skipped))
                ∙ ap (λ n. old ++ needed c.args.self.now.join_filter.now.time ahead (match_join_row j x (partial_match_trees (take n seconds)))) (sym w.done-is);
            within = omega (arith, w.done-is, low);
            passed = AllWithin-more (λ p. p < c.if-done-place.done) places 0 at
                (λ k d low high. let under = before.passed k d low high in omega (arith, under, w.done-is, w.if-done-place.true))
                (λ d. let same = get_or_default places at d 0 in' in omega (arith, same, w.done-is));
          })
      | else-done-place w ↦ record {
        joined = ap (λ (v : Vec PartialMatch Global). partial_match_trees v.items) w.out-is ∙ before.joined
            ∙ ap (λ n. old ++ needed c.args.self.now.join_filter.now.time ahead (match_join_row j x (partial_match_trees (take n seconds)))) (sym w.done-is);
        within = omega (arith, w.done-is, before.within);
        passed = AllWithin-more (λ p. p < c.if-done-place.done) places 0 at
            (λ k d low high. let under = before.passed k d low high in omega (arith, under, w.done-is))
            (λ d. let same = get_or_default places at d 0 in' in omega (arith, same, w.done-is, w.if-done-place.false));
      }
    ]

pub returns-clause-joined : goal.returns-clause-joined
returns-clause-joined c =
    let j = c.args.self.now.how in let x = partial_match_tree c.args.first.now in let ahead = pending_lefts_of c.args.self.now.join_filter.now.pending_lefts.now in let seconds = c.args.seconds.now in
    let before = c.loop-place.invariant in
    let over : length c.args.places.now ≤ c.loop-place.place-index = search rules in
    let rest = up_to_end c.args.self.now.join_filter.now.time ahead c.args.self.now.earliest_start.start j x seconds c.args.first.now c.args.places.now c.loop-place.place-index c.loop-place.done
    (λ q wants. (c.args.self.now.told q wants).covered) c.requires.tried over before.passed before.within in
    before.joined
    ∙ ap (λ (z : List PartialMatchTree). partial_match_trees c.args.out.now.items ++ z) (sym rest)
    ∙ ap (λ (z : List PartialMatch). partial_match_trees c.args.out.now.items ++ needed c.args.self.now.join_filter.now.time ahead (match_join_row j x (partial_match_trees z))) (take_all (length seconds) seconds (omega arith))
