use Rattle.std.proofs.Common.{◌+◌, ◌++◌, [], ◌∷◌, append_assoc, ℕ, List, Option, map, take, drop, refl, sym, subst, ◌∙◌}
use Rattle.stix_bundles.specs.Objects.{data_in}
use Rattle.pattern_types.specs.PlainPattern.{plain_pattern}
use Rattle.stix_bundles.specs.declared.observation.Observation.{Observation}
use Rattle.match_bindings.specs.declared.bind.Bind.{Bind}
use Rattle.match_bindings.specs.BindTree.{tree_of}
use Rattle.flow_edges.specs.Flow.{WritesPrefix}
use Rattle.match_run.specs.Listing.{listing_text}
use Rattle.match_run.specs.inner.Rows.{so_far, IsPartBuffered, WritesListingPrefix, TakesObservations, StopsAtOne}
use Rattle.match_run.specs.Reading.{MayFollow}
use Rattle.match_run.proofs.PendingLemmas.{way-start, way-stopped}
use Rattle.match_run.proofs.RowsLemmas.{found_in, truths_of, row_below, drop_here, take_here, all_here, none-seen, turn-rows, turn-end, ends-none, cut-rows, ends-cut, turn-behind, turn-follow}
use Rattle.match_run.proofs.batch.answer_all.Goals as goal

pub bounds-rows-at : goal.bounds-rows-at
bounds-rows-at g c =
    let objects = data_in c.args.batch.now.bundle in
    let items = c.as_slice-observations.result.now in
    row_below objects (plain_pattern c.pattern.result.now) items c.as_slice-rows.result.now c.loop-at.at c.index-observations-at.result
    (found_in objects c.pattern.result.now items c.in_ok-truths.truths c.as_slice-rows.result.now
    c.as_slice-rows.ensures c.in_ok-truths.ensures) c.loop-at-test.true c.index-observations-at.is

pub loop-at-init : goal.loop-at-init
loop-at-init g c = record {
  pattern = refl;
  most = refl;
  behind = c.requires.behind;
  follow = subst (λ (os : List Observation). MayFollow c.args.matcher.now.last (c.args.matcher.now.rows + 1) os) (sym c.as_slice-observations.ensures) c.requires.follow;
  goes = (
    [],
    none-seen (data_in c.args.batch.now.bundle) (so_far c.args.matcher.now c.args.tally.now),
    subst (λ (p : List ℕ). IsPartBuffered [] p (g.O.Sink.written c.args.output.now) (g.O.Sink.written c.args.output.now)) (sym c.requires.empty) (way-start (g.O.Sink.written c.args.output.now)),
  );
  quiet = refl;
}

pub loop-at-preserved : goal.loop-at-preserved
loop-at-preserved g c =
    let i = c.loop-at.at in
    let items = c.as_slice-observations.result.now in
    let o = c.index-observations-at.result in
    let objects = data_in c.args.batch.now.bundle in
    let first = so_far c.args.matcher.now c.args.tally.now in
    let old = c.loop-at.matcher in
    let new = c.answer.new.matcher in
    let tally = c.loop-at.tally in
    let later = c.answer.new.tally in
    let invariant = c.loop-at.invariant in
    let binds = map tree_of c.in-Ok.binds in
    let text = invariant.goes.0 in
    let lent = λ (P : List Bind → Type 0) (fact : P c.as_slice-in-loop-at.result.now). subst P c.as_slice-in-loop-at.ensures fact in
    let begun = g.O.Sink.written c.args.output.now in
    let own = truths_of objects c.pattern.result.now old.pattern items c.as_slice-rows.result.now i o c.index-rows-at.result c.as_slice.result.now
    (found_in objects c.pattern.result.now items c.in_ok-truths.truths c.as_slice-rows.result.now
    c.as_slice-rows.ensures c.in_ok-truths.ensures) c.loop-at-test.true c.index-observations-at.is c.index-rows-at.is c.as_slice.ensures (c.pattern.ensures ∙ sym invariant.pattern) in
    let row = c.in-Ok.ensures.row objects own in
    let here = drop_here items i o c.loop-at-test.true c.index-observations-at.is in
    let seen = take_here items i o c.loop-at-test.true c.index-observations-at.is in
    record {
      pattern = c.in-Ok.ensures.kept.0 ∙ invariant.pattern;
      most = c.in-Ok.ensures.kept.1 ∙ invariant.most;
      behind = turn-behind objects o old new tally later binds c.in-Ok.ensures.kept.0 c.in-Ok.ensures.kept.1 invariant.behind row;
      follow = turn-follow objects o old new tally later binds (drop (i + 1) items) invariant.behind row
          (subst (λ (os : List Observation). MayFollow old.last (old.rows + 1) os) here invariant.follow);
      goes = (
        text ++ listing_text binds,
        subst (λ (os : List Observation). TakesObservations objects os first (so_far new later) (text ++ listing_text binds)) (sym seen)
            (turn-rows objects (take i items) o first old new tally later text invariant.pattern invariant.most invariant.goes.1 binds row),
        lent (λ (bs : List Bind). IsPartBuffered (text ++ listing_text (map tree_of bs)) c.add_lines.new.pending.items begun (g.O.Sink.written c.add_lines.new.output))
            (c.in-Ok-add_lines.ensures.ok text begun invariant.goes.2),
      );
      quiet = c.in-Ok-add_lines.ensures.causes.quiet (λ failed. cc failed) ∙ invariant.quiet;
    }

-- no row is answered
pub returns-in_err-truths-clause-end : goal.returns-in_err-truths-clause-end
returns-in_err-truths-clause-end g c =
    let objects = data_in c.args.batch.now.bundle in
    let run = so_far c.args.matcher.now c.args.tally.now in
    let w = g.O.Sink.written c.args.output.now in
    ends-none objects run c.args.batch.now.observations c.args.matcher.now c.args.pending.now.items w c.from_residual.result c.from_residual.ensures.1

pub returns-in-Err-clause-end : goal.returns-in-Err-clause-end
returns-in-Err-clause-end g c =
    let i = c.loop-at.at in
    let items = c.as_slice-observations.result.now in
    let o = c.index-observations-at.result in
    let objects = data_in c.args.batch.now.bundle in
    let first = so_far c.args.matcher.now c.args.tally.now in
    let old = c.loop-at.matcher in
    let new = c.answer.new.matcher in
    let invariant = c.loop-at.invariant in
    let begun = g.O.Sink.written c.args.output.now in
    let written = g.O.Sink.written c.loop-at.output in
    let own = truths_of objects c.pattern.result.now old.pattern items c.as_slice-rows.result.now i o c.index-rows-at.result c.as_slice.result.now
    (found_in objects c.pattern.result.now items c.in_ok-truths.truths c.as_slice-rows.result.now
    c.as_slice-rows.ensures c.in_ok-truths.ensures) c.loop-at-test.true c.index-observations-at.is c.index-rows-at.is c.as_slice.ensures (c.pattern.ensures ∙ sym invariant.pattern) in
    let whole = sym c.as_slice-observations.ensures ∙ all_here items i o c.loop-at-test.true c.index-observations-at.is in
    subst (λ (os : List Observation). StopsAtOne objects os first new c.loop-at.pending.items begun written c.in-Err.end) (sym whole)
    (turn-end objects (take i items) o first old new c.loop-at.tally c.answer.new.tally invariant.goes.0 invariant.pattern invariant.most invariant.goes.1
    (drop (i + 1) items) c.loop-at.pending.items begun written invariant.goes.2 c.in-Err.end (c.in-Err.ensures.end objects own))

pub returns-in-Err-add_lines-clause-end : goal.returns-in-Err-add_lines-clause-end
returns-in-Err-add_lines-clause-end g c log answers b =
    let i = c.loop-at.at in
    let items = c.as_slice-observations.result.now in
    let o = c.index-observations-at.result in
    let objects = data_in c.args.batch.now.bundle in
    let first = so_far c.args.matcher.now c.args.tally.now in
    let old = c.loop-at.matcher in
    let new = c.answer.new.matcher in
    let later = c.answer.new.tally in
    let invariant = c.loop-at.invariant in
    let text = invariant.goes.0 in
    let binds = map tree_of c.in-Ok.binds in
    let begun = g.O.Sink.written c.args.output.now in
    let written = g.O.Sink.written c.add_lines.new.output in
    let own = truths_of objects c.pattern.result.now old.pattern items c.as_slice-rows.result.now i o c.index-rows-at.result c.as_slice.result.now
    (found_in objects c.pattern.result.now items c.in_ok-truths.truths c.as_slice-rows.result.now
    c.as_slice-rows.ensures c.in_ok-truths.ensures) c.loop-at-test.true c.index-observations-at.is c.index-rows-at.is c.as_slice.ensures (c.pattern.ensures ∙ sym invariant.pattern) in
    let rows = turn-rows objects (take i items) o first old new c.loop-at.tally later text invariant.pattern invariant.most invariant.goes.1 binds (c.in-Ok.ensures.row objects own) in
    let whole = sym c.as_slice-observations.ensures ∙ all_here items i o c.loop-at-test.true c.index-observations-at.is
    ∙ sym (append_assoc (take i items) (o ∷ []) (drop (i + 1) items)) in
    let cut = subst (λ (bs : List Bind). WritesPrefix (text ++ listing_text (map tree_of bs)) begun written) c.as_slice-in-loop-at.ensures
    (c.in-Err-add_lines.ensures.err text begun invariant.goes.2) in
    ends-cut c.args.matcher.now.pattern c.args.matcher.now.retained_limit objects c.args.batch.now.observations log answers new c.add_lines.new.pending.items begun written
    c.in-Err-add_lines.end c.in-Err-add_lines.ensures.end
    (subst (λ (os : List Observation). WritesListingPrefix c.args.matcher.now.pattern c.args.matcher.now.retained_limit objects os log answers begun written) (sym whole)
    (cut-rows objects (take i items ++ o ∷ []) (drop (i + 1) items) first (so_far new later) (text ++ listing_text binds) begun written rows cut log answers b))
