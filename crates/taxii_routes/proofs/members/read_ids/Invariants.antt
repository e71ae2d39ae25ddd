use Rattle.stix_ids.specs.Identifier.{IsTextOfId}
use Rattle.taxii_routes.proofs.MembersLemmas.{ReadsEach}
use Rattle.taxii_routes.proofs.members.read_ids.Given as goal

abbrev pub invariant-loop-member : goal.invariant-loop-member
invariant-loop-member l = ReadsEach IsTextOfId l.fn.value l.member-items l.member-index l.ids
