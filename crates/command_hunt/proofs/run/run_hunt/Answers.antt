use Rattle.std.proofs.Common.{◌≡◌, ◌⊎◌, ◌↔◌, ℕ, sym, subst}
use Rattle.flow_edges.specs.Streams.{streams}
use Rattle.command_line.specs.CommandLines.{argument_texts}
use Rattle.command_hunt.specs.Tasks.{AskForNoHunt}
use Rattle.command_hunt.specs.Feeding.{CountedByOne}
use Rattle.command_hunt.specs.Endings.{AskForHuntWhere}
use Rattle.command_hunt.specs.Runs.{HuntsOrRefuses, AskForFile}
use Rattle.command_hunt.proofs.RunLemmas.{refusals-run, reported-run}
use Rattle.command_hunt.proofs.run.run_hunt.Goals as goal

pub returns-clause-refusals : goal.returns-clause-refusals
returns-clause-refusals g c =
    let arguments = argument_texts c.args.arguments.now in
    subst (λ (s : ℕ). (s ≡ 2) ↔ AskForNoHunt arguments) (sym c.finish.ensures.status) (refusals-run arguments _ _ _ _ c.execute-ending.ensures.end)

pub returns-clause-reported : goal.returns-clause-reported
returns-clause-reported g c =
    let arguments = argument_texts c.args.arguments.now in
    let contents = g.F.Files.contents c.args.files.now in
    let before = streams (g.I.Source.left c.args.input.now) (g.I.Source.began c.args.input.now) (g.O.Sink.written c.args.output.now) in
    let after = streams (g.I.Source.left c.execute-ending.new.input) (g.I.Source.began c.execute-ending.new.input) (g.O.Sink.written c.execute-ending.new.output) in
    subst (λ (s : ℕ). (s ≡ 0) ⊎ (s ≡ 4) → AskForHuntWhere arguments (HuntsOrRefuses contents before after s)) (sym c.finish.ensures.status)
    (reported-run arguments contents before after c.execute-ending.result c.execute-ending.ensures.end)

pub returns-clause-reads : goal.returns-clause-reads
returns-clause-reads g c =
    subst (λ (s : ℕ). CountedByOne (AskForFile (argument_texts c.args.arguments.now)) (s ≡ 5) (g.I.Source.faults c.args.input.now) (g.I.Source.faults c.execute-ending.new.input)
    (g.F.Source.faults c.args.files.now) (g.F.Source.faults c.execute-ending.new.files)) (sym c.finish.ensures.status) c.execute-ending.ensures.reads
