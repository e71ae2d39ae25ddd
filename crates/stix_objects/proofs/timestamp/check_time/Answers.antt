use Rattle.std.proofs.Common.{refl}
use Rattle.stix_objects.proofs.TimestampLemmas.{not_refused}
use Rattle.stix_objects.proofs.timestamp.check_time.Goals as goal

pub returns-in-Err : goal.returns-in-Err
returns-in-Err c =
    (λ named. not_refused c.args.text.now c.in-Err.field-0 c.read.result c.read.ensures.only c.in-Err.is named.0 named.1, refl)
