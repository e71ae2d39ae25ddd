use Rattle.std.proofs.Common.{Option, Ok, inl, refl, sym, ap, subst, ◌∙◌}
use Rattle.stix_bundles.specs.Objects.{data_in}
use Rattle.match_input.specs.declared.batch.Batch.{Batch}
use Rattle.match_input.specs.Ahead.{reader_start, AnswersNext}
use Rattle.flow_edges.specs.Streams.{streams}
use Rattle.match_run.specs.Matching.{AnswersMatch}
use Rattle.match_run.specs.inner.Rows.{no_tally}
use Rattle.match_run.specs.declared.match_end.MatchEnd.{MatchEnd}
use Rattle.match_run.proofs.RunsLemmas.{run-start, run-more, run-memory, run-end, run-read_end, run-none, batch_given, end_given, given_in_time, given_follow, rows-here, end-here}
use Rattle.match_run.proofs.stream.match_stream.Goals as goal

pub returns-in-Err-clause-end : goal.returns-in-Err-clause-end
returns-in-Err-clause-end g c =
    let m = c.args.matcher.now in
    let start = streams (g.I.Source.left c.args.input.now) (g.I.Source.began c.args.input.now) (g.O.Sink.written c.args.output.now) in
    inl (run-memory c.answers_are_the_listing.ensures c.args.mode m.pattern m.retained_limit start start (reader_start c.args.mode) m no_tally
    (run-start c.args.mode m.pattern m.retained_limit start (reader_start c.args.mode) m no_tally c.requires.start refl refl) start refl)

pub bundles-init : goal.bundles-init
bundles-init g c =
    let m = c.args.matcher.now in
    record {
      pattern = refl;
      most = refl;
      runs = run-start c.args.mode m.pattern m.retained_limit
          (streams (g.I.Source.left c.args.input.now) (g.I.Source.began c.args.input.now) (g.O.Sink.written c.args.output.now)) c.in-Ok.reader m
          c.new-tally.result c.requires.start c.in-Ok.ensures c.new-tally.ensures;
      read_quiet = refl;
      write_quiet = refl;
    }

pub returns-in-Ok-None-clause-end : goal.returns-in-Ok-None-clause-end
returns-in-Ok-None-clause-end g c =
    let m = c.args.matcher.now in
    let before = streams (g.I.Source.left c.args.input.now) (g.I.Source.began c.args.input.now) (g.O.Sink.written c.args.output.now) in
    let now = streams (g.I.Source.left c.bundles.input) (g.I.Source.began c.bundles.input) (g.O.Sink.written c.bundles.output) in
    let left_after = g.I.Source.left c.next.new.source in
    let began_after = g.I.Source.began c.next.new.source in
    let state = c.bundles.matcher in
    let reader = c.bundles.reader in
    let after = c.next.new.self in
    subst (λ (e : MatchEnd). AnswersMatch c.args.mode m.pattern m.retained_limit before (streams left_after began_after now.written) state e) (sym c.done.ensures)
    (run-none c.answers_are_the_listing.ensures c.args.mode m.pattern m.retained_limit before now reader after state c.bundles.tally c.bundles.invariant.runs left_after began_after
    (λ opened. subst (λ (o : Option Batch). AnswersNext reader after now.left left_after (Ok o)) c.in-Ok-None.field-0-is (c.in-Ok-None.ensures.next opened))
    (λ is. ap g.I.Source.left (c.in-Ok-None.ensures.at_end is).2))

pub returns-in-Err-next-clause-end : goal.returns-in-Err-next-clause-end
returns-in-Err-next-clause-end g c =
    let m = c.args.matcher.now in
    let before = streams (g.I.Source.left c.args.input.now) (g.I.Source.began c.args.input.now) (g.O.Sink.written c.args.output.now) in
    let now = streams (g.I.Source.left c.bundles.input) (g.I.Source.began c.bundles.input) (g.O.Sink.written c.bundles.output) in
    let left_after = g.I.Source.left c.next.new.source in
    let began_after = g.I.Source.began c.next.new.source in
    let state = c.bundles.matcher in
    let reader = c.bundles.reader in
    let after = c.next.new.self in
    let far = c.bundles.invariant.runs in
    subst (λ (e : MatchEnd). AnswersMatch c.args.mode m.pattern m.retained_limit before (streams left_after began_after now.written) state e) (sym c.from.ensures)
    (run-read_end c.answers_are_the_listing.ensures c.args.mode m.pattern m.retained_limit before now reader after state c.bundles.tally far left_after began_after c.in-Err-next.end
    (end_given far.bundles before.left now.left left_after c.args.mode reader after c.in-Err-next.end far.read.stage c.in-Err-next.ensures.next
    (λ is. (c.in-Err-next.ensures.at_end is).0)))

pub match_batch-requires-clause-follow : goal.match_batch-requires-clause-follow
match_batch-requires-clause-follow g c =
    let first = g.I.Source.left c.args.input.now in
    let left = g.I.Source.left c.bundles.input in
    let left_after = g.I.Source.left c.next.new.source in
    let began_after = g.I.Source.began c.next.new.source in
    let reader = c.bundles.reader in
    let after = c.next.new.self in
    let far = c.bundles.invariant.runs in
    let gives = batch_given far.bundles first left left_after c.args.mode reader after c.in-Ok-Some.field-0 c.in-Ok-Some.batch far.read.stage c.in-Ok-Some.ensures.next
    (λ is. (c.in-Ok-Some.ensures.at_end is).0) c.in-Ok-Some.field-0-is in
    given_follow c.observations_are_spans.ensures reader after left left_after c.in-Ok-Some.batch c.bundles.matcher gives far.number far.time

pub returns-in-Err-match_batch-clause-end : goal.returns-in-Err-match_batch-clause-end
returns-in-Err-match_batch-clause-end g c =
    let m = c.args.matcher.now in
    let old = c.bundles.matcher in
    let new = c.match_batch.new.matcher in
    let before = streams (g.I.Source.left c.args.input.now) (g.I.Source.began c.args.input.now) (g.O.Sink.written c.args.output.now) in
    let now = streams (g.I.Source.left c.bundles.input) (g.I.Source.began c.bundles.input) (g.O.Sink.written c.bundles.output) in
    let left_after = g.I.Source.left c.next.new.source in
    let began_after = g.I.Source.began c.next.new.source in
    let written_after = g.O.Sink.written c.match_batch.new.output in
    let reader = c.bundles.reader in
    let after = c.next.new.self in
    let batch = c.in-Ok-Some.batch in
    let invariant = c.bundles.invariant in
    let far = invariant.runs in
    let gives = batch_given far.bundles before.left now.left left_after c.args.mode reader after c.in-Ok-Some.field-0 batch far.read.stage c.in-Ok-Some.ensures.next
    (λ is. (c.in-Ok-Some.ensures.at_end is).0) c.in-Ok-Some.field-0-is in
    let began = given_in_time far.bundles before.left now.left left_after now.began began_after c.args.mode reader after c.in-Ok-Some.field-0 batch far.read.stage far.in_time gives
    c.in-Ok-Some.field-0-is (λ is. (c.in-Ok-Some.ensures.at_end is).0) (λ holds. ap g.I.Source.began (c.in-Ok-Some.ensures.unread holds)) c.in-Ok-Some.ensures.in_time in
    run-end c.answers_are_the_listing.ensures c.args.mode m.pattern m.retained_limit before now reader old c.bundles.tally far
    c.continues.ensures after new left_after began_after written_after batch gives began c.in-Err-match_batch.end
    (end-here m.pattern old.pattern m.retained_limit old.retained_limit invariant.pattern invariant.most (data_in batch.bundle) batch.observations old new
    c.bundles.tally c.match_batch.new.tally now.written written_after c.in-Err-match_batch.end c.in-Err-match_batch.ensures.end far.log far.answers far.behind)

pub bundles-preserved : goal.bundles-preserved
bundles-preserved g c =
    let m = c.args.matcher.now in
    let old = c.bundles.matcher in
    let new = c.match_batch.new.matcher in
    let before = streams (g.I.Source.left c.args.input.now) (g.I.Source.began c.args.input.now) (g.O.Sink.written c.args.output.now) in
    let now = streams (g.I.Source.left c.bundles.input) (g.I.Source.began c.bundles.input) (g.O.Sink.written c.bundles.output) in
    let left_after = g.I.Source.left c.next.new.source in
    let began_after = g.I.Source.began c.next.new.source in
    let written_after = g.O.Sink.written c.match_batch.new.output in
    let reader = c.bundles.reader in
    let after = c.next.new.self in
    let batch = c.in-Ok-Some.batch in
    let invariant = c.bundles.invariant in
    let far = invariant.runs in
    let gives = batch_given far.bundles before.left now.left left_after c.args.mode reader after c.in-Ok-Some.field-0 batch far.read.stage c.in-Ok-Some.ensures.next
    (λ is. (c.in-Ok-Some.ensures.at_end is).0) c.in-Ok-Some.field-0-is in
    let began = given_in_time far.bundles before.left now.left left_after now.began began_after c.args.mode reader after c.in-Ok-Some.field-0 batch far.read.stage far.in_time gives
    c.in-Ok-Some.field-0-is (λ is. (c.in-Ok-Some.ensures.at_end is).0) (λ holds. ap g.I.Source.began (c.in-Ok-Some.ensures.unread holds)) c.in-Ok-Some.ensures.in_time in
    record {
      pattern = c.in-Ok-match_batch.ensures.kept.0 ∙ invariant.pattern;
      most = c.in-Ok-match_batch.ensures.kept.1 ∙ invariant.most;
      runs = run-more c.continues.ensures c.args.mode m.pattern m.retained_limit before now reader after old new c.bundles.tally c.match_batch.new.tally
          left_after began_after written_after batch far gives began
          (rows-here m.pattern old.pattern m.retained_limit old.retained_limit invariant.pattern invariant.most (data_in batch.bundle) batch.observations old
          new c.bundles.tally c.match_batch.new.tally now.written written_after c.in-Ok-match_batch.ensures.rows far.log far.answers far.behind);
      read_quiet = c.in-Ok-Some.ensures.causes.quiet (λ failed. cc failed.1) ∙ invariant.read_quiet;
      write_quiet = c.in-Ok-match_batch.ensures.causes.quiet (λ failed. cc failed) ∙ invariant.write_quiet;
    }
