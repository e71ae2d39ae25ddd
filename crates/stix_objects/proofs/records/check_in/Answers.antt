use Rattle.std.proofs.Common.{Some, refl}
use Rattle.stix_objects.specs.BreakAt.{here}
use Rattle.stix_objects.proofs.records.check_in.Goals as goal

pub returns-in-Some : goal.returns-in-Some
returns-in-Some c = (Some (here c.in-Some.rule), (Some c.in-Some.rule, c.in-Some.ensures, refl), refl)
