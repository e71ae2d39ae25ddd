use Rattle.taxii_routes.specs.Value.{IsPickText}
use Rattle.taxii_routes.proofs.MembersLemmas.{each_next, each_stops}
use Rattle.taxii_routes.proofs.members.read_picks.Goals as goal

pub returns-in_default : goal.returns-in_default
returns-in_default c =
    each_stops IsPickText c.args.value.now c.deref-member-items.result.now c.loop-member.picks c.loop-member.member-index c.loop-member.invariant c.loop-member-test.true c.in_default.ensures

pub loop-member-preserved : goal.loop-member-preserved
loop-member-preserved c =
    each_next IsPickText c.args.value.now c.deref-member-items.result.now c.loop-member.picks c.push.new.self c.loop-member.member-index c.in-Some.pick c.loop-member.invariant c.loop-member-test.true
    c.in-Some.ensures c.in_ok-push.ensures.ok
