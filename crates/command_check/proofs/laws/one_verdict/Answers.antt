use Rattle.command_check.proofs.VerdictsLemmas.{one_verdict}
use Rattle.command_check.proofs.laws.one_verdict.Goals as goal

pub returns : goal.returns
returns c = one_verdict c.one_list.ensures.versions c.one_list.ensures.markings
    (record { bundle = c.one_reading.ensures.bundle; refusal = c.one_reading.ensures.refusal; either = c.one_reading.ensures.either })
