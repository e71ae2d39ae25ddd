use Rattle.stix_times.specs.Civil.{digits_of_fraction}
use Rattle.stix_times.proofs.CivilLemmas.{printed}
use Rattle.stix_times.proofs.civil.Civil.write.Goals as goal

pub returns-clause-text : goal.returns-clause-text
returns-clause-text c =
    rw (c.copy_to.ensures.text, c.push-2.ensures, c.push_fraction.ensures.text, c.push_time.ensures, c.push.ensures, c.push_date.ensures) (printed c.args.self.now (digits_of_fraction c.args.fraction))
