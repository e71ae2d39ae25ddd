use Rattle.stix_bundles.proofs.SupersedesLemmas.{not_past, ordered_found, supersedes_at, earlier_at}
use Rattle.stix_bundles.proofs.latest.is_superseded.Goals as goal

pub returns-in-Some : goal.returns-in-Some
returns-in-Some c =
    let values = c.args.objects.now in
    let at = c.args.at in
    let value = c.in-Some.object.now in
    let lookup = c.in-Some.ensures.lookup in (
      λ is. supersedes_at values at c.args.time c.modified.result value lookup.0 lookup.1 c.modified.ensures (c.is_earlier.ensures.0 is),
      λ over. c.is_earlier.ensures.1 (earlier_at c.one_modified.ensures values at c.args.time c.modified.result value lookup.0 lookup.1 c.modified.ensures over),
    )

pub returns-in-None : goal.returns-in-None
returns-in-None c = (λ is. absurd cc, λ over. absurd (not_past c.args.objects.now c.args.at c.args.time c.in-None.ensures.lookup.0 over))

pub modified-requires : goal.modified-requires
modified-requires c =
    let lookup = c.in-Some.ensures.lookup in
    ordered_found c.args.objects.now c.args.at c.in-Some.object.now lookup.0 lookup.1 c.requires
