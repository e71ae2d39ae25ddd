use Rattle.std.proofs.Common.{refl}
use Rattle.stix_versions.specs.Selector.{named, indexed}
use Rattle.stix_versions.proofs.PartLemmas.{place_only, name_only}
use Rattle.stix_versions.proofs.part.is_part.Goals as goal

pub returns-in-Some : goal.returns-in-Some
returns-in-Some c = (
  λ is. (indexed c.in-Some.digits.now, record { is_part = c.is_index.ensures.0 is; spelled = c.in-Some.ensures.some }),
  λ w. c.is_index.ensures.1 (place_only c.args.text.now c.in-Some.digits.now c.in-Some.ensures.some w.0 w.1),
)

pub returns-in-None : goal.returns-in-None
returns-in-None c = (
  λ is. (named c.args.text.now, record { is_part = c.is_name.ensures.0 is; spelled = refl }),
  λ w. c.is_name.ensures.1 (name_only c.args.text.now c.in-None.ensures.none w.0 w.1),
)
