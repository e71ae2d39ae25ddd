use Rattle.std.proofs.Common.{List, ℕ, set, subst}
use Rattle.std.specs.Prelude.{Option, Some}
use Rattle.hunt_engine.specs.inner.Memos.{AddsRoot}
use Rattle.hunt_engine.proofs.MemoLemmas.{adds_root}
use Rattle.hunt_engine.proofs.memo.Memo.add.Goals as goal

pub returns : goal.returns
returns c =
    let room = c.ensure_length.new.roots.items in
    subst (λ (old : List (Option (List ℕ))). AddsRoot c.args.root c.args.positions old (set room c.args.root (Some c.args.positions))) c.self.view_is
    (adds_root c.args.root c.args.positions c.self.inside.roots.items room c.in_ok-ensure_length.ensures.room c.in_ok-ensure_length.ensures.same)
