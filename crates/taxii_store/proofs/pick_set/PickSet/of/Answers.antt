use Rattle.std.proofs.Common.{List, take, sym, subst}
use Rattle.std.proofs.lemmas.List.{take_all, take_more}
use Rattle.stix_ids.specs.declared.pick.Pick.{Pick}
use Rattle.taxii_store.specs.Picks.{HasPicks}
use Rattle.taxii_store.proofs.pick_set.PickSet.of.Goals as goal

pub loop-pick-preserved : goal.loop-pick-preserved
loop-pick-preserved c =
    let picks = c.args.picks.now in
    let i = c.loop-pick.pick-index in
    subst (λ (xs : List Pick). HasPicks xs c.insert.new.self) (sym (take_more picks i _ c.loop-pick-test.true)) (c.in_ok-insert.ensures (take i picks) c.loop-pick.invariant)

pub loop-pick-init : goal.loop-pick-init
loop-pick-init c = c.empty-set.ensures

pub returns : goal.returns
returns c =
    let loop = c.loop-pick in
    subst (λ (xs : List Pick). HasPicks xs loop.set) (take_all loop.pick-index c.args.picks.now c.loop-pick-test.false) loop.invariant
