-- Each affected lazy matcher in turn.
use Rattle.std.proofs.Common.{◌≡◌, ◌<◌, ◌+◌, ℕ, get_or, set, length, arith, ap, sym, ◌∙◌, subst, List}
use Rattle.std.specs.Prelude.{Bool, All, Some, map, slice_get}
use Rattle.std.proofs.lemmas.List.Elements.{All-get_or}
use Rattle.std.proofs.lemmas.Option.{slice_get-get_or}
use Rattle.match_bindings.specs.BindTree.{tree_of}
use Rattle.match_bindings.specs.NumberedPattern.{numbered_pattern}
use Rattle.match_stream.specs.Answer.{IsOverLimit}
use Rattle.hunt_engine.specs.declared.found.Hit.{Hit}
use Rattle.hunt_engine.specs.LazyMatcherState.{LazyMatcherState, Follows}
use Rattle.hunt_engine.specs.inner.Following.{FollowsLastRow, log_with}
use Rattle.hunt_engine.specs.inner.Round.{TookSome}
use Rattle.hunt_engine.proofs.PositionLemmas.{get_number, there}
use Rattle.hunt_engine.proofs.StepLemmas.{untouched, took_more}
use Rattle.hunt_engine.proofs.lazy_matchers.take_all.Goals as goal

inside : (count : ℕ) (affected : List ℕ) (i : ℕ) → All (λ (position : ℕ). position < count) affected → i < length affected → get_or affected i 0 < count
inside count affected i all h = All-get_or (λ (position : ℕ). position < count) affected i 0 h all

pub take-requires-clause-follows : goal.take-requires-clause-follows
take-requires-clause-follows c =
    let i = c.loop-position.position-index in let affected = c.args.affected.now in let position = get_or affected i 0 in
    let within = inside (length c.args.lazy_matchers.now) affected i c.requires.there (omega arith) in
    let count = c.loop-position.invariant.count in
    c.requires.follow position (get_or c.loop-position.lazy_matchers position c.index-lazy_matchers-at.result)
    (sym (untouched c.args.row.now c.args.retained_limit c.args.brackets.now.bracket_ranges.items c.args.marks.now affected i c.args.lazy_matchers.now c.loop-position.lazy_matchers c.loop-position.found.items c.loop-position.invariant c.requires.ascend position (get_number affected i (omega arith)))
    ∙ slice_get-get_or c.loop-position.lazy_matchers position c.index-lazy_matchers-at.result (omega (arith, within, count)))

pub returns-in-Err-OverLimit-clause-over_limit : goal.returns-in-Err-OverLimit-clause-over_limit
returns-in-Err-OverLimit-clause-over_limit c = λ place' number named e.
    let i = c.loop-position.position-index in let affected = c.args.affected.now in let position = get_or affected i 0 in
    let within = inside (length c.args.lazy_matchers.now) affected i c.requires.there (omega arith) in
    let count = c.loop-position.invariant.count in
    let position_is : get_or c.args.affected.now c.loop-position.position-index 0 ≡ place' = cc in
    let number_is : number ≡ c.args.row.now.rows + 1 = cc in
    let retained_limit_is : named ≡ c.args.retained_limit = cc in
    let at_is = get_number affected i (omega arith) in
    record {
      at = i;
      at_is = at_is ∙ ap Some position_is;
      number_is = number_is;
      retained_limit_is = retained_limit_is;
      crowds = λ bracket_range before of_stretch of_before p log follows ends.
          let truths = c.truths-truths.ensures bracket_range (ap (slice_get c.args.brackets.now.bracket_ranges.items) position_is ∙ of_stretch) in
          let same : Some before ≡ Some (get_or c.loop-position.lazy_matchers position c.index-lazy_matchers-at.result) =
          sym of_before ∙ ap (slice_get c.args.lazy_matchers.now) (sym position_is)
          ∙ sym (untouched c.args.row.now c.args.retained_limit c.args.brackets.now.bracket_ranges.items c.args.marks.now affected i c.args.lazy_matchers.now c.loop-position.lazy_matchers c.loop-position.found.items c.loop-position.invariant c.requires.ascend position at_is)
          ∙ slice_get-get_or c.loop-position.lazy_matchers position c.index-lazy_matchers-at.result (omega (arith, within, count)) in
          let is : before ≡ get_or c.loop-position.lazy_matchers position c.index-lazy_matchers-at.result = cc in
          subst (λ (t : List Bool). IsOverLimit (numbered_pattern p) (log_with c.args.row.now t log) c.args.retained_limit) truths
          (c.in-Err-OverLimit.ensures.over_limit p log (subst (λ (f : LazyMatcherState). Follows p c.args.retained_limit log f) is follows) ends (cc));
      now = c.loop-position.lazy_matchers;
      found = c.loop-position.found.items;
      took = c.loop-position.invariant;
    }

pub loop-position-preserved : goal.loop-position-preserved
loop-position-preserved c =
    let i = c.loop-position.position-index in let affected = c.args.affected.now in let position = get_or affected i 0 in
    let bracket_ranges = c.args.brackets.now.bracket_ranges.items in
    let within = inside (length c.args.lazy_matchers.now) affected i c.requires.there (omega arith) in
    let count = c.loop-position.invariant.count in let told = c.requires.bracket_ranges in
    let bracket_range = there bracket_ranges position (omega (arith, within, told)) in
    let truths = c.truths-truths.ensures bracket_range.0 bracket_range.1 in
    let next = took_more c.args.row.now c.args.retained_limit bracket_ranges c.args.marks.now affected i c.args.lazy_matchers.now c.loop-position.lazy_matchers c.loop-position.found.items c.loop-position.invariant c.requires.ascend position (get_number affected i (omega arith))
    (get_or c.loop-position.lazy_matchers position c.index-lazy_matchers-at.result) c.take.new.self
    (slice_get-get_or c.loop-position.lazy_matchers position c.index-lazy_matchers-at.result (omega (arith, within, count))) (omega (arith, within, count)) bracket_range.0 bracket_range.1 c.in-Ok.binds
    (λ p log follows ends. subst (λ (t : List Bool). FollowsLastRow p c.args.retained_limit (log_with c.args.row.now t log) c.take.new.self (map tree_of c.in-Ok.binds)) truths (c.in-Ok.ensures.took p log follows ends)) in
    subst (λ (xs : List Hit). TookSome c.args.row.now c.args.retained_limit bracket_ranges c.args.marks.now affected (i + 1) c.args.lazy_matchers.now (set c.loop-position.lazy_matchers position c.take.new.self) xs)
    (sym c.in_ok-add_found-in-Ok.ensures) next
