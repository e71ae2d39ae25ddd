use Rattle.std.proofs.Common.{◌≡◌, ◌↔◌, ℕ, sym, subst, ◌∙◌}
use Rattle.command_line.specs.CommandLines.{argument_texts}
use Rattle.taxii_client.specs.Environment.{link_view}
use Rattle.command_mirror.specs.Arguments.{AskForNoCopy}
use Rattle.taxii_client.specs.Filling.{copy_environment}
use Rattle.command_mirror.specs.Endings.{AskForCopyWhere, mirror_status}
use Rattle.command_mirror.specs.Runs.{CopiesAll, LosesAll, HoldsMirrored}
use Rattle.command_mirror.proofs.EndLemmas.{usage_exactly, of_copy, copies_all, loses_all, holds_mirrored}
use Rattle.command_mirror.proofs.run.run_mirror.Goals as goal

pub returns-clause-refusals : goal.returns-clause-refusals
returns-clause-refusals g c =
    let view = link_view g.D.Link.Source.left g.D.Link.Sink.written g.D.Link.Source.faults g.D.Link.Sink.faults in
    let before = copy_environment (g.D.Dial.observable c.args.dial.now) (g.D.Dial.faults c.args.dial.now) (g.K.Keeper.kept c.args.keeper.now) (g.C.Clock.moments c.args.clock.now) in
    let now = copy_environment (g.D.Dial.observable c.execute-ending.new.dial) (g.D.Dial.faults c.execute-ending.new.dial) (g.K.Keeper.kept c.execute-ending.new.keeper) (g.C.Clock.moments c.execute-ending.new.clock) in
    subst (λ (s : ℕ). (s ≡ 2) ↔ AskForNoCopy (argument_texts c.args.arguments.now)) (sym c.finish.ensures.status)
    (usage_exactly _ view before now _ _ (argument_texts c.args.arguments.now) c.execute-ending.result c.execute-ending.ensures.ends)

pub returns-clause-all : goal.returns-clause-all
returns-clause-all g c is =
    let view = link_view g.D.Link.Source.left g.D.Link.Sink.written g.D.Link.Source.faults g.D.Link.Sink.faults in
    let before = copy_environment (g.D.Dial.observable c.args.dial.now) (g.D.Dial.faults c.args.dial.now) (g.K.Keeper.kept c.args.keeper.now) (g.C.Clock.moments c.args.clock.now) in
    let now = copy_environment (g.D.Dial.observable c.execute-ending.new.dial) (g.D.Dial.faults c.execute-ending.new.dial) (g.K.Keeper.kept c.execute-ending.new.keeper) (g.C.Clock.moments c.execute-ending.new.clock) in
    let status : mirror_status c.execute-ending.result ≡ 0 = sym c.finish.ensures.status ∙ is in
    of_copy _ view before now _ _ (CopiesAll view before now (g.O.Sink.written c.args.output.now) (g.O.Sink.written c.execute-ending.new.output)) (argument_texts c.args.arguments.now) c.execute-ending.result c.execute-ending.ensures.ends
    (λ two. cc (status, two)) (λ asked. copies_all _ view before now _ _ asked c.execute-ending.result status)

pub returns-clause-lost : goal.returns-clause-lost
returns-clause-lost g c is =
    let view = link_view g.D.Link.Source.left g.D.Link.Sink.written g.D.Link.Source.faults g.D.Link.Sink.faults in
    let before = copy_environment (g.D.Dial.observable c.args.dial.now) (g.D.Dial.faults c.args.dial.now) (g.K.Keeper.kept c.args.keeper.now) (g.C.Clock.moments c.args.clock.now) in
    let now = copy_environment (g.D.Dial.observable c.execute-ending.new.dial) (g.D.Dial.faults c.execute-ending.new.dial) (g.K.Keeper.kept c.execute-ending.new.keeper) (g.C.Clock.moments c.execute-ending.new.clock) in
    let status : mirror_status c.execute-ending.result ≡ 5 = sym c.finish.ensures.status ∙ is in
    of_copy _ view before now _ _ (LosesAll view before now) (argument_texts c.args.arguments.now) c.execute-ending.result c.execute-ending.ensures.ends
    (λ two. cc (status, two)) (λ asked. loses_all _ view before now _ _ asked c.execute-ending.result status)

pub returns-clause-mirrored : goal.returns-clause-mirrored
returns-clause-mirrored g c other =
    let view = link_view g.D.Link.Source.left g.D.Link.Sink.written g.D.Link.Source.faults g.D.Link.Sink.faults in
    let before = copy_environment (g.D.Dial.observable c.args.dial.now) (g.D.Dial.faults c.args.dial.now) (g.K.Keeper.kept c.args.keeper.now) (g.C.Clock.moments c.args.clock.now) in
    let now = copy_environment (g.D.Dial.observable c.execute-ending.new.dial) (g.D.Dial.faults c.execute-ending.new.dial) (g.K.Keeper.kept c.execute-ending.new.keeper) (g.C.Clock.moments c.execute-ending.new.clock) in
    subst (λ (s : ℕ). AskForCopyWhere (argument_texts c.args.arguments.now) (HoldsMirrored view before now s)) (sym c.finish.ensures.status)
    (of_copy _ view before now _ _ (HoldsMirrored view before now (mirror_status c.execute-ending.result)) (argument_texts c.args.arguments.now) c.execute-ending.result c.execute-ending.ensures.ends
    (λ two. other (c.finish.ensures.status ∙ two))
    (λ asked. holds_mirrored _ view before now _ _ (λ target. c.pulls_continue.ensures.no_link target (g.D.Dial.observable c.args.dial.now)) asked c.execute-ending.result))
