use Rattle.std.proofs.Common.{Option, Ok, None, [], ◌∷◌, refl, sym, subst}
use Rattle.flow_edges.specs.Streams.{streams}
use Rattle.match_input.specs.Ahead.{InputReaderState, next_observation_number}
use Rattle.match_input.specs.declared.batch.Batch.{Batch}
use Rattle.match_run.specs.Reading.{HasRead, MayFollow, NextAnswers, bundle_of}
use Rattle.match_run.proofs.WatchLemmas.{given}
use Rattle.command_hunt.specs.Tasks.{hunt_task}
use Rattle.command_hunt.specs.Telling.{AnswersHunt}
use Rattle.command_hunt.proofs.HuntLemmas.{reads-none, read-ends}
use Rattle.command_hunt.proofs.run.hunt_input.Goals as goal

pub hunt_from-requires-clause-read : goal.hunt_from-requires-clause-read
hunt_from-requires-clause-read g c =
    let left = g.I.Source.left c.args.input.now in
    let began = g.I.Source.began c.args.input.now in
    let read = subst (λ (r : InputReaderState). HasRead left r left began []) (sym c.in-Ok.ensures) (c.begins_with_none.ensures left began) in
    let gives = given left [] c.in-Ok.reader c.next_bundle.new.reader (g.I.Source.left c.next_bundle.new.input) (g.I.Source.began c.next_bundle.new.input)
    c.in-Ok-Some.field-0 c.in-Ok-Some.first c.in-Ok-Some.field-0-is (c.in-Ok-Some.ensures.next left [] read) in
    (left, gives.read)

pub hunt_from-requires-clause-follow : goal.hunt_from-requires-clause-follow
hunt_from-requires-clause-follow g c =
    let left = g.I.Source.left c.args.input.now in
    let began = g.I.Source.began c.args.input.now in
    let read = subst (λ (r : InputReaderState). HasRead left r left began []) (sym c.in-Ok.ensures) (c.begins_with_none.ensures left began) in
    let gives = given left [] c.in-Ok.reader c.next_bundle.new.reader (g.I.Source.left c.next_bundle.new.input) (g.I.Source.began c.next_bundle.new.input)
    c.in-Ok-Some.field-0 c.in-Ok-Some.first c.in-Ok-Some.field-0-is (c.in-Ok-Some.ensures.next left [] read) in
    subst (λ (r : InputReaderState). MayFollow r.last (next_observation_number r) c.in-Ok-Some.first.observations) c.in-Ok.ensures gives.follow

pub returns-in-Ok-Some-clause-end : goal.returns-in-Ok-Some-clause-end
returns-in-Ok-Some-clause-end g c =
    let left = g.I.Source.left c.args.input.now in
    let began = g.I.Source.began c.args.input.now in
    let left_after = g.I.Source.left c.next_bundle.new.input in
    let began_after = g.I.Source.began c.next_bundle.new.input in
    let read = subst (λ (r : InputReaderState). HasRead left r left began []) (sym c.in-Ok.ensures) (c.begins_with_none.ensures left began) in
    let gives = given left [] c.in-Ok.reader c.next_bundle.new.reader left_after began_after
    c.in-Ok-Some.field-0 c.in-Ok-Some.first c.in-Ok-Some.field-0-is (c.in-Ok-Some.ensures.next left [] read) in
    c.hunt_from.ensures.end (streams left began (g.O.Sink.written c.args.output.now)) gives.read
    (record { begins = c.read_bundles_come_first.ensures left left_after began_after c.next_bundle.new.reader (bundle_of c.in-Ok-Some.first ∷ []) gives.read; only = gives.only }) refl

pub returns-in-Ok-None-clause-end : goal.returns-in-Ok-None-clause-end
returns-in-Ok-None-clause-end g c =
    let left = g.I.Source.left c.args.input.now in
    let began = g.I.Source.began c.args.input.now in
    let left_after = g.I.Source.left c.next_bundle.new.input in
    let began_after = g.I.Source.began c.next_bundle.new.input in
    let read = subst (λ (r : InputReaderState). HasRead left r left began []) (sym c.in-Ok.ensures) (c.begins_with_none.ensures left began) in
    let answers = subst (λ (found : Option Batch). NextAnswers left [] c.in-Ok.reader c.next_bundle.new.reader left_after began_after (Ok found)) c.in-Ok-None.field-0-is
    (c.in-Ok-None.ensures.next left [] read) in
    reads-none (hunt_task c.args.request.now) (streams left began (g.O.Sink.written c.args.output.now)) left_after began_after answers.0 answers.1

pub returns-clause-end : goal.returns-clause-end
returns-clause-end g c =
    let left = g.I.Source.left c.args.input.now in
    let began = g.I.Source.began c.args.input.now in
    let left_after = g.I.Source.left c.next_bundle.new.input in
    let began_after = g.I.Source.began c.next_bundle.new.input in
    let before = streams left began (g.O.Sink.written c.args.output.now) in
    let read = subst (λ (r : InputReaderState). HasRead left r left began []) (sym c.in-Ok.ensures) (c.begins_with_none.ensures left began) in
    subst (AnswersHunt (hunt_task c.args.request.now) None before (streams left_after began_after (g.O.Sink.written c.args.output.now))) (sym c.from.ensures)
    (read-ends (hunt_task c.args.request.now) before c.in-Ok.reader c.next_bundle.new.reader left_after began_after c.in-Err-next_bundle.end
    (c.in-Err-next_bundle.ensures.next left [] read))
