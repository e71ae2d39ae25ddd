use Rattle.taxii_routes.proofs.MediaTypeLemmas.{taxii_some, taxii_none}
use Rattle.taxii_routes.proofs.media_type.is_taxii.Goals as goal

pub returns-then-is_named : goal.returns-then-is_named
returns-then-is_named c =
    let taxii = taxii_some c.args.header.now (c.in-Some.range, c.in-Some.parameters) c.in-Some.ensures.cases in (
      λ is. taxii.1 (c.is_named.ensures.0 c.if-is_named.true, c.names_no_other_version.ensures.0 is),
      λ is. c.names_no_other_version.ensures.1 (taxii.0 is).1,
    )

pub returns-in-None : goal.returns-in-None
returns-in-None c =
    let taxii = taxii_none c.args.header.now c.in-None.ensures.cases in
    (λ is. taxii.1 (c.is_named-in-None.ensures.0 is), λ is. c.is_named-in-None.ensures.1 (taxii.0 is))
