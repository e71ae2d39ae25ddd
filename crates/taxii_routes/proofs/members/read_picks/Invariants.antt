use Rattle.taxii_routes.specs.Value.{IsPickText}
use Rattle.taxii_routes.proofs.MembersLemmas.{ReadsEach}
use Rattle.taxii_routes.proofs.members.read_picks.Given as goal

abbrev pub invariant-loop-member : goal.invariant-loop-member
invariant-loop-member l = ReadsEach IsPickText l.fn.value l.member-items l.member-index l.picks
