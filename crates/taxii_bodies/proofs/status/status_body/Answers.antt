use Rattle.std.proofs.Common.{sym, subst}
use Rattle.stix_json.specs.Ordered.{IsOrdered}
use Rattle.taxii_bodies.proofs.StatusLemmas.{status_ordered}
use Rattle.taxii_bodies.proofs.status.status_body.Goals as goal

pub into_text-requires : goal.into_text-requires
into_text-requires c = subst IsOrdered (sym c.in_ok-fields.ensures) (status_ordered c.args.report.now c.as_str.result.now)
