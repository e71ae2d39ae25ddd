use Rattle.std.proofs.Common.{ℕ, ℤ, List, ◌++◌, ◌+◌, length, Option, Ok, refl, sym, subst, ◌∙◌}
use Rattle.match_input.specs.declared.batch.Batch.{Batch}
use Rattle.match_input.specs.Ahead.{IsOpen}
use Rattle.flow_edges.specs.Streams.{streams}
use Rattle.match_input.specs.Reading.{BundleOf}
use Rattle.match_run.specs.declared.watch_end.WatchEnd.{WatchEnd}
use Rattle.match_run.specs.Reading.{MayFollow, HasRead, NextAnswers}
use Rattle.match_run.specs.Watching.{AnswersWatch}
use Rattle.match_run.proofs.ReadingLemmas.{is_open}
use Rattle.match_run.proofs.WatchLemmas.{seen-more, last-more, counts-reads, given, run-start, run-more, run-read_end, run-none, run-see_end}
use Rattle.match_run.proofs.run.follow.Goals as goal

pub bundles-init : goal.bundles-init
bundles-init g c = record {
  runs = λ first earlier far. run-start g.W.Watcher.sees first earlier c.args.watcher.now (g.O.Sink.written c.args.output.now) c.args.reader.now
      (g.I.Source.left c.args.input.now) (g.I.Source.began c.args.input.now) far;
  ready = c.requires.ready;
  seen = c.requires.seen;
  last = c.requires.last;
  read_quiet = refl;
  write_quiet = refl;
}

pub returns-in-Ok-None-clause-end : goal.returns-in-Ok-None-clause-end
returns-in-Ok-None-clause-end g c first earlier begun =
    let far = c.bundles.invariant.runs first earlier begun in
    let left_after = g.I.Source.left c.next_bundle.new.input in
    let began_after = g.I.Source.began c.next_bundle.new.input in
    let reader = c.bundles.reader in
    let after = c.next_bundle.new.reader in
    run-none g.W.Watcher.sees first earlier c.args.watcher.now (g.O.Sink.written c.args.output.now) c.bundles.watcher (g.O.Sink.written c.bundles.output)
    reader (g.I.Source.left c.bundles.input) (g.I.Source.began c.bundles.input) far after left_after began_after
    (subst (λ (o : Option Batch). NextAnswers first (earlier ++ far.bundles) reader after left_after began_after (Ok o)) c.in-Ok-None.field-0-is
    (c.in-Ok-None.ensures.next first (earlier ++ far.bundles) far.read))

pub returns-in-Err-clause-end : goal.returns-in-Err-clause-end
returns-in-Err-clause-end g c first earlier begun =
    let far = c.bundles.invariant.runs first earlier begun in
    let start = c.args.watcher.now in
    let now = c.bundles.watcher in
    let written = g.O.Sink.written c.args.output.now in
    let written_now = g.O.Sink.written c.bundles.output in
    let left_after = g.I.Source.left c.next_bundle.new.input in
    let began_after = g.I.Source.began c.next_bundle.new.input in
    subst (λ (e : WatchEnd _). AnswersWatch g.W.Watcher.sees g.W.Watcher.stops g.W.Watcher.begins first earlier start now written (streams left_after began_after written_now) e)
    (sym c.from.ensures)
    (run-read_end g.W.Watcher.sees first earlier start written now written_now c.bundles.reader (g.I.Source.left c.bundles.input) (g.I.Source.began c.bundles.input) far
    g.W.Watcher.stops g.W.Watcher.begins c.next_bundle.new.reader left_after began_after c.in-Err.end
    (c.in-Err.ensures.next first (earlier ++ far.bundles) far.read))

pub returns-in-Err-clause-input : goal.returns-in-Err-clause-input
returns-in-Err-clause-input g c =
    let begun = c.requires.reads in
    let far = c.bundles.invariant.runs begun.0 begun.1 begun.2 in
    let left = g.I.Source.left c.bundles.input in
    let began = g.I.Source.began c.bundles.input in
    counts-reads (IsOpen c.bundles.reader.stage) c.in-Err.end c.from.result (g.I.Source.faults c.args.input.now) (g.I.Source.faults c.bundles.input)
    (g.I.Source.faults c.next_bundle.new.input) (is_open begun.0 left began c.bundles.reader (begun.1 ++ far.bundles) far.read) c.from.ensures c.in-Err.ensures.causes
    c.bundles.invariant.read_quiet

pub see-requires-clause-follow : goal.see-requires-clause-follow
see-requires-clause-follow g c =
    let begun = c.requires.reads in
    let far = c.bundles.invariant.runs begun.0 begun.1 begun.2 in
    let gives = given begun.0 (begun.1 ++ far.bundles) c.bundles.reader c.next_bundle.new.reader (g.I.Source.left c.next_bundle.new.input)
    (g.I.Source.began c.next_bundle.new.input) c.in-Ok-Some.field-0 c.in-Ok-Some.batch c.in-Ok-Some.field-0-is
    (c.in-Ok-Some.ensures.next begun.0 (begun.1 ++ far.bundles) far.read) in
    subst (λ (l : Option ℤ). MayFollow l (g.W.Watcher.seen c.bundles.watcher + 1) c.in-Ok-Some.batch.observations) (sym c.bundles.invariant.last)
    (subst (λ (n : ℕ). MayFollow c.bundles.reader.last (n + 1) c.in-Ok-Some.batch.observations) (sym c.bundles.invariant.seen) gives.follow)

pub bundles-smaller : goal.bundles-smaller
bundles-smaller g c =
    let begun = c.requires.reads in
    let far = c.bundles.invariant.runs begun.0 begun.1 begun.2 in
    (given begun.0 (begun.1 ++ far.bundles) c.bundles.reader c.next_bundle.new.reader (g.I.Source.left c.next_bundle.new.input)
    (g.I.Source.began c.next_bundle.new.input) c.in-Ok-Some.field-0 c.in-Ok-Some.batch c.in-Ok-Some.field-0-is
    (c.in-Ok-Some.ensures.next begun.0 (begun.1 ++ far.bundles) far.read)).less_room

pub bundles-preserved : goal.bundles-preserved
bundles-preserved g c =
    let invariant = c.bundles.invariant in
    let left_after = g.I.Source.left c.next_bundle.new.input in
    let began_after = g.I.Source.began c.next_bundle.new.input in
    let reader = c.bundles.reader in
    let after = c.next_bundle.new.reader in
    let batch = c.in-Ok-Some.batch in
    let gives_of = λ (first : Option (List ℕ)) (earlier : List BundleOf) (begun : HasRead first c.args.reader.now (g.I.Source.left c.args.input.now) (g.I.Source.began c.args.input.now) earlier).
    given first (earlier ++ (invariant.runs first earlier begun).bundles) reader after left_after began_after c.in-Ok-Some.field-0 batch c.in-Ok-Some.field-0-is
    (c.in-Ok-Some.ensures.next first (earlier ++ (invariant.runs first earlier begun).bundles) (invariant.runs first earlier begun).read) in
    let witness = c.requires.reads in
    let gives = gives_of witness.0 witness.1 witness.2 in
    record {
      runs = λ first earlier begun. run-more g.W.Watcher.sees first earlier c.args.watcher.now (g.O.Sink.written c.args.output.now) c.bundles.watcher
          (g.O.Sink.written c.bundles.output) reader (g.I.Source.left c.bundles.input) (g.I.Source.began c.bundles.input) (invariant.runs first earlier begun)
          c.see.new.self (g.O.Sink.written c.see.new.output) after left_after began_after batch (gives_of first earlier begun) c.in-Ok.ensures.sees;
      ready = c.in-Ok.ensures.ready;
      seen = seen-more (g.W.Watcher.seen c.bundles.watcher) (g.W.Watcher.seen c.see.new.self) reader.observations after.observations (length batch.observations)
          c.in-Ok.ensures.seen invariant.seen gives.observations;
      last = last-more (g.W.Watcher.last c.bundles.watcher) (g.W.Watcher.last c.see.new.self) reader.last after.last batch.observations
          c.in-Ok.ensures.last invariant.last gives.last;
      read_quiet = c.in-Ok-Some.ensures.causes.quiet (λ failed. cc failed.1) ∙ invariant.read_quiet;
      write_quiet = c.in-Ok.ensures.causes.quiet (λ failed. cc failed) ∙ invariant.write_quiet;
    }

pub returns-in-Err-see-clause-end : goal.returns-in-Err-see-clause-end
returns-in-Err-see-clause-end g c first earlier begun =
    let far = c.bundles.invariant.runs first earlier begun in
    let start = c.args.watcher.now in
    let written = g.O.Sink.written c.args.output.now in
    let written_after = g.O.Sink.written c.see.new.output in
    let left_after = g.I.Source.left c.next_bundle.new.input in
    let began_after = g.I.Source.began c.next_bundle.new.input in
    let batch = c.in-Ok-Some.batch in
    let after = c.next_bundle.new.reader in
    let gives = given first (earlier ++ far.bundles) c.bundles.reader after left_after began_after c.in-Ok-Some.field-0 batch c.in-Ok-Some.field-0-is
    (c.in-Ok-Some.ensures.next first (earlier ++ far.bundles) far.read) in
    subst (λ (e : WatchEnd _). AnswersWatch g.W.Watcher.sees g.W.Watcher.stops g.W.Watcher.begins first earlier start c.see.new.self written
    (streams left_after began_after written_after) e) (sym c.from-in-Err-see.ensures)
    (run-see_end g.W.Watcher.sees first earlier start written c.bundles.watcher (g.O.Sink.written c.bundles.output) c.bundles.reader (g.I.Source.left c.bundles.input)
    (g.I.Source.began c.bundles.input) far g.W.Watcher.stops g.W.Watcher.begins after left_after began_after c.see.new.self written_after batch gives
    c.in-Err-see.end c.in-Err-see.ensures.end)
