use Rattle.std.proofs.Common.{Ok}
use Rattle.stix_objects.proofs.TimestampLemmas.{same_instant, not_refused}
use Rattle.stix_objects.proofs.timestamp.time_of.Goals as goal

pub returns-in-Ok-clause-only : goal.returns-in-Ok-clause-only
returns-in-Ok-clause-only c =
    λ other named. same_instant c.in-Ok.instant other c.read.result (c.read.ensures.only (Ok other) named) c.in-Ok.is

pub returns-in-Err-clause-only : goal.returns-in-Err-clause-only
returns-in-Err-clause-only c =
    λ other named. absurd (not_refused c.args.text.now c.in-Err.field-0 c.read.result c.read.ensures.only c.in-Err.is other named)
