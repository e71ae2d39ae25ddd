use Rattle.taxii_bodies.proofs.EnvelopeLemmas.{last_date_is}
use Rattle.taxii_bodies.proofs.envelope.last_date.Goals as goal

pub returns : goal.returns
returns c = last_date_is c.args.rows.now c.in_ok-last.last.now c.in_ok-last.ensures.value
