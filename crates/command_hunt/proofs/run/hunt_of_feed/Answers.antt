use Rattle.command_hunt.proofs.ObjectsLemmas.{if_ok}
use Rattle.command_hunt.proofs.run.hunt_of_feed.Goals as goal

pub returns-clause-hunted : goal.returns-clause-hunted
returns-clause-hunted c feed gathers unbroken =
    if_ok c.hunt.result (λ hunt is. c.hunted_are_huntable.ensures feed c.args.moment hunt unbroken is) (c.hunt.ensures feed gathers)

pub returns-clause-skipped : goal.returns-clause-skipped
returns-clause-skipped c feed gathers unbroken =
    if_ok c.hunt.result (λ hunt is. c.skipped_have_lines.ensures feed c.args.moment hunt unbroken is) (c.hunt.ensures feed gathers)
