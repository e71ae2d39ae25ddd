use Rattle.stix_objects.proofs.timestamp.instant_of.Goals as goal

pub returns-in-Any-clause-only : goal.returns-in-Any-clause-only
returns-in-Any-clause-only c = rw c.in-Any.is c.time_of.ensures.only

pub returns-in-Millis-clause-only : goal.returns-in-Millis-clause-only
returns-in-Millis-clause-only c = rw c.in-Millis.is c.millis_of.ensures.only
