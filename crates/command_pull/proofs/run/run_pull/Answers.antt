use Rattle.std.proofs.Common.{◌≡◌, ◌↔◌, ℕ, sym, subst}
use Rattle.command_line.specs.CommandLines.{argument_texts}
use Rattle.taxii_client.specs.Environment.{link_view}
use Rattle.command_pull.specs.Arguments.{AskForNoPull}
use Rattle.command_pull.specs.Pulling.{pull_environment}
use Rattle.command_pull.specs.Runs.{CountsDial}
use Rattle.command_pull.proofs.EndLemmas.{usage-exactly, counts-dial}
use Rattle.command_pull.proofs.run.run_pull.Goals as goal

pub returns-clause-refusals : goal.returns-clause-refusals
returns-clause-refusals g c =
    subst (λ (s : ℕ). (s ≡ 2) ↔ AskForNoPull (argument_texts c.args.arguments.now)) (sym c.finish.ensures.status)
    (usage-exactly _ (link_view g.D.Link.Source.left g.D.Link.Sink.written g.D.Link.Source.faults g.D.Link.Sink.faults) _ _ (argument_texts c.args.arguments.now) c.execute-end.result c.execute-end.ensures.end)

pub returns-clause-dial : goal.returns-clause-dial
returns-clause-dial g c =
    let view = link_view g.D.Link.Source.left g.D.Link.Sink.written g.D.Link.Source.faults g.D.Link.Sink.faults in
    let before = pull_environment (g.D.Dial.observable c.args.dial.now) (g.D.Dial.faults c.args.dial.now) (g.O.Sink.written c.args.output.now) in
    let now = pull_environment (g.D.Dial.observable c.execute-end.new.dial) (g.D.Dial.faults c.execute-end.new.dial) (g.O.Sink.written c.execute-end.new.output) in
    subst (λ (s : ℕ). CountsDial view (argument_texts c.args.arguments.now) before now s) (sym c.finish.ensures.status)
    (counts-dial _ view before now (argument_texts c.args.arguments.now) c.execute-end.result c.execute-end.ensures.end)
