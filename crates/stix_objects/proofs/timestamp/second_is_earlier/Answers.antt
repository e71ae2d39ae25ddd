use Rattle.std.proofs.Common.{sym, ◌∙◌}
use Rattle.stix_json.specs.DataOf.{data_of}
use Rattle.stix_objects.proofs.TimestampLemmas.{never_earlier}
use Rattle.stix_objects.proofs.timestamp.second_is_earlier.Goals as goal

pub returns-else-ne : goal.returns-else-ne
returns-else-ne c = (
  λ f. absurd (cc),
  λ earlier. absurd (never_earlier c.one_instant.ensures c.args.precision c.args.first.now c.args.second.now (data_of c.args.object.now) c.in-Some.from.now c.in-Some-text_at.to.now
      c.in-Some.ensures c.in-Some-text_at.ensures (sym c.ne.ensures ∙ c.if-ne.false) earlier),
)
