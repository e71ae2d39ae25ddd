use Rattle.std.proofs.Common.{Some, refl}
use Rattle.command_hunt.specs.Tasks.{hunt_task}
use Rattle.command_hunt.proofs.HuntLemmas.{unfed-ends}
use Rattle.command_hunt.proofs.run.hunt_file.Goals as goal

pub hunt_feed-requires : goal.hunt_feed-requires
hunt_feed-requires g c =
    let fed = c.in-Ok.ensures.whole in
    record { fed = (fed.0, fed.1.gathers, fed.1.unbroken) }

pub returns-in-Ok-clause-end : goal.returns-in-Ok-clause-end
returns-in-Ok-clause-end g c file_is =
    let fed = c.in-Ok.ensures.whole in
    (Some fed.0, (c.args.name.now, file_is, fed.1.reading), c.hunt_feed.ensures.end fed.0 fed.1.gathers)

pub returns-in-Err-clause-end : goal.returns-in-Err-clause-end
returns-in-Err-clause-end g c file_is = (
  unfed-ends (g.F.Files.contents c.args.files.now) (hunt_task c.args.request.now) c.args.name.now file_is c.in-Err.end
      (λ line why is. c.in-Err.ensures.refused line why (cc)),
  refl,
)
