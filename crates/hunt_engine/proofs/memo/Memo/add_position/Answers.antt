use Rattle.std.proofs.Common.{◌≡◌, ◌<◌, ℕ, List, length, set, arith, subst}
use Rattle.std.specs.Prelude.{Option}
use Rattle.hunt_engine.specs.inner.Memos.{AddsPositions}
use Rattle.hunt_engine.proofs.MemoLemmas.{adds_back, adds_empty}
use Rattle.hunt_engine.proofs.memo.Memo.add_position.Goals as goal
use Rattle.hunt_engine.proofs.memo.Memo.add_position.Goals.{in-Some-1, in-None-1}

pub returns-in_ok-push : goal.returns-in_ok-push
returns-in_ok-push c =
    let memo = c.self.inside.roots.items in
    let below : c.args.root < length memo = omega (arith, c.if-at-len.false, c.len.ensures) in
    let back = adds_back c.args.root c.args.position memo c.index_mut.result.now c.take.new.self c.in-Some.positions c.push.new.self in
    subst (λ (old : List (Option (List ℕ))). AddsPositions (λ (own added : ℕ). (own ≡ c.args.root) × (added ≡ c.args.position)) old c.match-index_mut.self) c.self.view_is
    (elim c.match-index_mut.branch [
      | in-Some-1 w ↦ back c.match-index_mut.self below c.index_mut.ensures.value c.in-Some.ensures.value c.in_ok-push.ensures.ok w.self-is
      | in-None-1 w ↦ back c.match-index_mut.self below c.index_mut.ensures.value c.in-Some.ensures.value c.in_ok-push.ensures.ok w.self-is
    ])

pub returns-in_default : goal.returns-in_default
returns-in_default c =
    let memo = c.self.inside.roots.items in
    let below : c.args.root < length memo = omega (arith, c.if-at-len.false, c.len.ensures) in
    subst (λ (old : List (Option (List ℕ))). AddsPositions (λ (own added : ℕ). (own ≡ c.args.root) × (added ≡ c.args.position)) old (set memo c.args.root c.take.new.self)) c.self.view_is
    (adds_empty c.args.root c.args.position memo c.index_mut.result.now c.take.new.self below c.index_mut.ensures.value c.in_default.ensures.value c.take.ensures.after)
