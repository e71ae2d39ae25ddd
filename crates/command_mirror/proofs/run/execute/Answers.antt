use Rattle.taxii_client.specs.Environment.{link_view}
use Rattle.taxii_client.specs.Filling.{copy_environment}
use Rattle.command_mirror.specs.Arguments.{copying_of}
use Rattle.command_mirror.proofs.EndLemmas.{no_usage}
use Rattle.command_mirror.proofs.ArgumentLemmas.{tries_least}
use Rattle.command_mirror.proofs.run.execute.Goals as goal

pub returns-in-Some-clause-untouched : goal.returns-in-Some-clause-untouched
returns-in-Some-clause-untouched g c two =
    let view = link_view g.D.Link.Source.left g.D.Link.Sink.written g.D.Link.Source.faults g.D.Link.Sink.faults in
    let before = copy_environment (g.D.Dial.observable c.args.dial.now) (g.D.Dial.faults c.args.dial.now) (g.K.Keeper.kept c.args.keeper.now) (g.C.Clock.moments c.args.clock.now) in
    let now = copy_environment (g.D.Dial.observable c.answer.new.dial) (g.D.Dial.faults c.answer.new.dial) (g.K.Keeper.kept c.answer.new.keeper) (g.C.Clock.moments c.answer.new.clock) in
    absurd (no_usage _ view before now (g.O.Sink.written c.args.output.now) (g.O.Sink.written c.answer.new.output) (copying_of c.in-Some.request) c.answer.result c.answer.ensures.ends two)

pub answer-requires-clause-tries : goal.answer-requires-clause-tries
answer-requires-clause-tries g c = let asked = c.in-Some.ensures.some in tries_least asked.more _ _ _ asked.more_are
