use Rattle.std.proofs.Common.{rules, [], All, Some, inl, inr, refl, sym, ap, subst, ◌∙◌}
use Rattle.flow_edges.specs.Streams.{streams}
use Rattle.match_input.specs.Ahead.{InputReaderState}
use Rattle.match_run.proofs.PendingLemmas.{written_with-nil}
use Rattle.hunt_report.specs.Rows.{rows_of}
use Rattle.hunt_report.specs.Hunting.{IsHuntable}
use Rattle.command_hunt.specs.Tasks.{hunt_task}
use Rattle.command_hunt.proofs.HuntLemmas.{takes-none, prefix-whole, ends-unread, read-nothing, seen-behind, later-ends, report-ends, same-hunted-all}
use Rattle.command_hunt.proofs.run.hunt_log.Goals as goal

pub returns-in-Err-clause-end : goal.returns-in-Err-clause-end
returns-in-Err-clause-end g c before feed unread skipped =
    inr (inl (ends-unread c.answers_are_the_hits.ensures (hunt_task c.args.request.now) before feed skipped.hunt skipped.hunt_is
    (g.I.Source.left c.args.input.now) (g.I.Source.began c.args.input.now) (g.O.Sink.written c.args.output.now) unread
    (prefix-whole _ before.written (g.O.Sink.written c.args.output.now) skipped.written_is)))

pub follow-requires-clause-reads : goal.follow-requires-clause-reads
follow-requires-clause-reads g c =
    let left = g.I.Source.left c.args.input.now in
    (left, [], read-nothing c.begins_with_none.ensures c.args.reader.now c.requires.start left left (g.I.Source.began c.args.input.now) refl)

pub follow-requires-clause-ready : goal.follow-requires-clause-ready
follow-requires-clause-ready g c = record {
  huntable = subst (All IsHuntable) (sym c.in-Ok.ensures.hunted) c.requires.huntable;
  rows = [];
  hits = [];
  hunts = c.in-Ok.ensures.hunts;
}

pub follow-requires-clause-seen : goal.follow-requires-clause-seen
follow-requires-clause-seen g c = c.in-Ok.ensures.hunts.engine.rows_are ∙ sym (ap (λ (r : InputReaderState). r.observations) c.requires.start)

pub follow-requires-clause-last : goal.follow-requires-clause-last
follow-requires-clause-last g c = c.in-Ok.ensures.hunts.engine.last_is ∙ sym (ap (λ (r : InputReaderState). r.last) c.requires.start)

pub report-requires : goal.report-requires
report-requires g c =
    let left = g.I.Source.left c.args.input.now in
    let whole = c.in-Done.ensures.end left [] (read-nothing c.begins_with_none.ensures c.args.reader.now c.requires.start left left (g.I.Source.began c.args.input.now) refl) in
    let same = same-hunted-all c.in-Ok.hunter c.follow.new.watcher whole.bundles _ _ whole.says in
    record { huntable = subst (All IsHuntable) (sym (same ∙ c.in-Ok.ensures.hunted)) c.requires.huntable }

pub returns-in-Done-clause-end : goal.returns-in-Done-clause-end
returns-in-Done-clause-end g c before feed unread skipped =
    let task = hunt_task c.args.request.now in
    let start = c.in-Ok.hunter in
    let written = g.O.Sink.written c.args.output.now in
    let after = streams (g.I.Source.left c.follow.new.input) (g.I.Source.began c.follow.new.input) (g.O.Sink.written c.follow.new.output) in
    let far = read-nothing c.begins_with_none.ensures c.args.reader.now c.requires.start before.left (g.I.Source.left c.args.input.now) (g.I.Source.began c.args.input.now) unread.left_is in
    let whole = c.in-Done.ensures.end before.left [] far in
    let hunted = c.in-Ok.ensures.hunted ∙ skipped.hunted_is in
    let retained_limit = c.in-Ok.ensures.retained_limit ∙ c.from-retained_limit.ensures in
    let behind = c.follow.new.watcher in
    let seen = seen-behind c.answers_are_the_hits.ensures task before feed skipped.hunt skipped.hunt_is written skipped.written_is start c.in-Ok.ensures.hunts hunted retained_limit
    (Some feed) [] (λ more. refl) start [] written (takes-none start) (written_with-nil written) whole.bundles behind after.written whole.says in
    report-ends c.answers_are_the_hits.ensures task before feed skipped.hunt skipped.hunt_is written skipped.written_is start c.in-Ok.ensures.hunts hunted retained_limit
    (Some feed) [] (λ more. refl) start [] written (takes-none start) (written_with-nil written) behind after whole (g.O.Sink.written c.report.new.output) c.report.result
    (c.report.ensures.end (rows_of whole.bundles) seen.so.hunts.hits seen.hunts)

pub returns : goal.returns
returns g c = record {
  end = λ before feed unread skipped.
      let start = c.in-Ok.hunter in
      let written = g.O.Sink.written c.args.output.now in
      let after = streams (g.I.Source.left c.follow.new.input) (g.I.Source.began c.follow.new.input) (g.O.Sink.written c.follow.new.output) in
      later-ends c.answers_are_the_hits.ensures (hunt_task c.args.request.now) before feed skipped.hunt skipped.hunt_is written skipped.written_is
      start c.in-Ok.ensures.hunts (c.in-Ok.ensures.hunted ∙ skipped.hunted_is) (c.in-Ok.ensures.retained_limit ∙ c.from-retained_limit.ensures)
      (Some feed) [] (λ more. refl) start [] written (takes-none start) (written_with-nil written) c.follow.new.watcher after c.follow.result c.in_default.not-Done
      (c.follow.ensures.end before.left [] (read-nothing c.begins_with_none.ensures c.args.reader.now c.requires.start before.left (g.I.Source.left c.args.input.now)
      (g.I.Source.began c.args.input.now) unread.left_is));
  input = search rules;
  output = search rules;
}
