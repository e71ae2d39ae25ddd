use Rattle.std.proofs.Common.{Ok, refl, subst, arith}
use Rattle.taxii_client.specs.Environment.{link_view}
use Rattle.taxii_client.specs.declared.target.Target.{Target}
use Rattle.taxii_client.specs.Filling.{copy_environment}
use Rattle.taxii_client.specs.Endings.{Copies, EndsCopy}
use Rattle.command_mirror.specs.Arguments.{copying_of}
use Rattle.command_mirror.proofs.EndLemmas.{concluded, stop_never_six}
use Rattle.command_mirror.proofs.CauseLemmas.{counted_when, nine_exactly, told_never_nine}
use Rattle.command_mirror.proofs.run.answer.Goals as goal

pub returns-in-Ok-copy-clause-ends : goal.returns-in-Ok-copy-clause-ends
returns-in-Ok-copy-clause-ends g c =
    let view = link_view g.D.Link.Source.left g.D.Link.Sink.written g.D.Link.Source.faults g.D.Link.Sink.faults in
    let before = copy_environment (g.D.Dial.observable c.args.dial.now) (g.D.Dial.faults c.args.dial.now) (g.K.Keeper.kept c.args.keeper.now) (g.C.Clock.moments c.args.clock.now) in
    let now = copy_environment (g.D.Dial.observable c.copy.new.dial) (g.D.Dial.faults c.copy.new.dial) (g.K.Keeper.kept c.copy.new.keeper) (g.C.Clock.moments c.copy.new.clock) in
    concluded _ view before now (g.O.Sink.written c.args.output.now) (g.O.Sink.written c.conclude.new.output) (copying_of c.args.request.now) c.in-Ok-copy.totals c.conclude.result
    (subst (λ (t : Target). Copies view (record { target = t; file = c.args.request.now.store.file.now; tries = c.args.request.now.store.tries }) before now (Ok c.in-Ok-copy.totals))
    c.in-Ok.ensures c.in-Ok-copy.ensures.copies)
    c.conclude.ensures.concludes

pub returns-in-Ok-copy-clause-store : goal.returns-in-Ok-copy-clause-store
returns-in-Ok-copy-clause-store g c =
    counted_when (
      λ nine. absurd (told_never_nine c.in-Ok-copy.totals (g.O.Sink.written c.args.output.now) (g.O.Sink.written c.conclude.new.output) c.conclude.result c.conclude.ensures.concludes nine),
      λ failed. absurd failed,
    ) c.in-Ok-copy.ensures.causes

pub returns-clause-ends : goal.returns-clause-ends
returns-clause-ends g c =
    let view = link_view g.D.Link.Source.left g.D.Link.Sink.written g.D.Link.Source.faults g.D.Link.Sink.faults in
    let before = copy_environment (g.D.Dial.observable c.args.dial.now) (g.D.Dial.faults c.args.dial.now) (g.K.Keeper.kept c.args.keeper.now) (g.C.Clock.moments c.args.clock.now) in
    let now = copy_environment (g.D.Dial.observable c.copy.new.dial) (g.D.Dial.faults c.copy.new.dial) (g.K.Keeper.kept c.copy.new.keeper) (g.C.Clock.moments c.copy.new.clock) in (
      subst (λ (t : Target). EndsCopy view (record { target = t; file = c.args.request.now.store.file.now; tries = c.args.request.now.store.tries }) before now c.in-Err-copy.stop)
          c.in-Ok.ensures c.in-Err-copy.ensures.copies,
      refl,
    )

pub returns-clause-store : goal.returns-clause-store
returns-clause-store g c = counted_when (nine_exactly c.in-Err-copy.stop) c.in-Err-copy.ensures.causes

pub returns-clause-output : goal.returns-clause-output
returns-clause-output g c = record { later = omega arith; failed = λ six. absurd (stop_never_six c.in-Err-copy.stop six); quiet = λ fine. refl }
