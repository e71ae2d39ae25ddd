use Rattle.std.proofs.Common.{rules, [], ◌∷◌, All, None, inl, inr, refl, sym, subst, ◌∙◌}
use Rattle.flow_edges.specs.Streams.{streams}
use Rattle.match_run.specs.Reading.{bundle_of}
use Rattle.hunt_report.specs.Rows.{rows_of}
use Rattle.hunt_report.specs.Hunting.{IsHuntable}
use Rattle.command_hunt.specs.Tasks.{hunt_task}
use Rattle.command_hunt.specs.Telling.{AnswersHunt}
use Rattle.command_hunt.proofs.HuntLemmas.{ends-skipping, prefix-whole, first-ends, seen-behind, later-ends, report-ends, same-hunted-behind, takes-first}
use Rattle.command_hunt.proofs.run.hunt_for.Goals as goal

pub returns-in-Err-clause-end : goal.returns-in-Err-clause-end
returns-in-Err-clause-end g c before far begun skipped =
    let written = g.O.Sink.written c.args.output.now in
    inr (inr (inr (inl (ends-skipping c.answers_are_the_hits.ensures (hunt_task c.args.request.now) before (bundle_of c.args.first.now) skipped.hunt skipped.hunt_is
    (g.I.Source.left c.args.input.now) (g.I.Source.began c.args.input.now) before.written written begun refl
    (prefix-whole _ before.written written skipped.written_is)))))

pub returns-in-Err-see-clause-end : goal.returns-in-Err-see-clause-end
returns-in-Err-see-clause-end g c before far begun skipped =
    let task = hunt_task c.args.request.now in
    let first = bundle_of c.args.first.now in
    let left = g.I.Source.left c.args.input.now in
    let began = g.I.Source.began c.args.input.now in
    let now = g.O.Sink.written c.see.new.output in
    subst (AnswersHunt task None before (streams left began now)) (sym c.from-in-Err-see.ensures)
    (first-ends c.answers_are_the_hits.ensures task before first.objects skipped.hunt skipped.hunt_is (g.O.Sink.written c.args.output.now) skipped.written_is
    c.in-Ok.hunter c.in-Ok.ensures.hunts (c.in-Ok.ensures.hunted ∙ skipped.hunted_is) (c.in-Ok.ensures.retained_limit ∙ c.from.ensures) first refl left began now begun
    c.in-Err-see.end c.in-Err-see.ensures.end)

pub report-requires : goal.report-requires
report-requires g c =
    let whole = c.in-Done.ensures.end c.requires.read.0 (bundle_of c.args.first.now ∷ []) c.requires.read.1 in
    let same = same-hunted-behind c.in-Ok.hunter c.see.new.self c.follow.new.watcher (bundle_of c.args.first.now) whole.bundles _ _ _ c.in_default.ensures.sees whole.says in
    record { huntable = subst (All IsHuntable) (sym (same ∙ c.in-Ok.ensures.hunted)) c.requires.huntable }

pub returns-in-Done-clause-end : goal.returns-in-Done-clause-end
returns-in-Done-clause-end g c before far begun skipped =
    let task = hunt_task c.args.request.now in
    let first = bundle_of c.args.first.now in
    let written = g.O.Sink.written c.args.output.now in
    let written_next = g.O.Sink.written c.see.new.output in
    let after = streams (g.I.Source.left c.follow.new.input) (g.I.Source.began c.follow.new.input) (g.O.Sink.written c.follow.new.output) in
    let whole = c.in-Done.ensures.end before.left (first ∷ []) far in
    let hunted = c.in-Ok.ensures.hunted ∙ skipped.hunted_is in
    let retained_limit = c.in-Ok.ensures.retained_limit ∙ c.from.ensures in
    let behind = c.follow.new.watcher in
    let one = c.in_default.ensures.sees in
    let takes = takes-first c.in-Ok.hunter c.see.new.self first one.0 one.1 in
    let seen = seen-behind c.answers_are_the_hits.ensures task before first.objects skipped.hunt skipped.hunt_is written skipped.written_is c.in-Ok.hunter c.in-Ok.ensures.hunts hunted retained_limit
    None (first ∷ []) (λ more. refl) c.see.new.self one.0 written_next takes one.2 whole.bundles behind after.written whole.says in
    report-ends c.answers_are_the_hits.ensures task before first.objects skipped.hunt skipped.hunt_is written skipped.written_is c.in-Ok.hunter c.in-Ok.ensures.hunts hunted retained_limit
    None (first ∷ []) (λ more. refl) c.see.new.self one.0 written_next takes one.2 behind after whole (g.O.Sink.written c.report.new.output) c.report.result
    (c.report.ensures.end (rows_of (first ∷ whole.bundles)) seen.so.hunts.hits seen.hunts)

pub returns : goal.returns
returns g c = record {
  end = λ before far begun skipped.
      let first = bundle_of c.args.first.now in
      let one = c.in_default.ensures.sees in
      let after = streams (g.I.Source.left c.follow.new.input) (g.I.Source.began c.follow.new.input) (g.O.Sink.written c.follow.new.output) in
      later-ends c.answers_are_the_hits.ensures (hunt_task c.args.request.now) before first.objects skipped.hunt skipped.hunt_is (g.O.Sink.written c.args.output.now) skipped.written_is
      c.in-Ok.hunter c.in-Ok.ensures.hunts (c.in-Ok.ensures.hunted ∙ skipped.hunted_is) (c.in-Ok.ensures.retained_limit ∙ c.from.ensures)
      None (first ∷ []) (λ more. refl) c.see.new.self one.0 (g.O.Sink.written c.see.new.output) (takes-first c.in-Ok.hunter c.see.new.self first one.0 one.1) one.2
      c.follow.new.watcher after c.follow.result c.in_default-follow.not-Done
      (c.follow.ensures.end before.left (first ∷ []) far);
  input = search rules;
  output = search rules;
}
