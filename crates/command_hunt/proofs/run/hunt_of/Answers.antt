use Rattle.stix_bundles.specs.Objects.{data_in}
use Rattle.command_hunt.proofs.ObjectsLemmas.{unbroken, if_ok}
use Rattle.command_hunt.proofs.run.hunt_of.Goals as goal

pub returns-clause-hunted : goal.returns-clause-hunted
returns-clause-hunted c =
    let objects = data_in c.args.bundle.now in
    if_ok c.hunt.result (λ hunt is. c.hunted_are_huntable.ensures objects c.args.moment hunt (unbroken 0 objects c.objects-unbroken.ensures.unbroken) is) c.hunt.ensures

pub returns-clause-skipped : goal.returns-clause-skipped
returns-clause-skipped c =
    let objects = data_in c.args.bundle.now in
    if_ok c.hunt.result (λ hunt is. c.skipped_have_lines.ensures objects c.args.moment hunt (unbroken 0 objects c.objects-unbroken.ensures.unbroken) is) c.hunt.ensures
