use Rattle.std.proofs.Common.{subst}
use Rattle.flow_values.specs.Answers.{FindsExactly}
use Rattle.stix_ids.specs.Identifier.{IsTextOfId}
use Rattle.taxii_routes.proofs.MembersLemmas.{text_at, each_next, each_stops}
use Rattle.taxii_routes.proofs.members.read_ids.Goals as goal

pub returns-in_default : goal.returns-in_default
returns-in_default c =
    let items = c.deref-member-items.result.now in
    let i = c.loop-member.member-index in
    each_stops IsTextOfId c.args.value.now items c.loop-member.ids i c.loop-member.invariant c.loop-member-test.true
    (subst (FindsExactly (IsTextOfId (text_at items i))) c.in_default.is c.in_ok-id.ensures)

pub loop-member-preserved : goal.loop-member-preserved
loop-member-preserved c =
    let items = c.deref-member-items.result.now in
    let i = c.loop-member.member-index in
    each_next IsTextOfId c.args.value.now items c.loop-member.ids c.push.new.self i c.in-Some.id c.loop-member.invariant c.loop-member-test.true
    (subst (FindsExactly (IsTextOfId (text_at items i))) c.in-Some.is c.in_ok-id.ensures) c.in_ok-push.ensures.ok
