use Rattle.taxii_routes.proofs.MembersLemmas.{ReadsTexts}
use Rattle.taxii_routes.proofs.members.read_texts.Given as goal

abbrev pub invariant-loop-member : goal.invariant-loop-member
invariant-loop-member l = ReadsTexts l.fn.value l.member-items l.member-index l.texts
