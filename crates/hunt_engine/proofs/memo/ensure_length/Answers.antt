use Rattle.std.proofs.Common.{◌≡◌, ◌++◌, ◌∷◌, [], ℕ, List, length, ap, sym, ◌∙◌, arith, length-append}
use Rattle.std.specs.Prelude.{Option, None, slice_get}
use Rattle.hunt_engine.proofs.MemoLemmas.{none_more}
use Rattle.hunt_engine.proofs.memo.ensure_length.Goals as goal

pub loop-preserved : goal.loop-preserved
loop-preserved c =
    let is = c.in_ok-push.ensures.items in
    let long = c.loop.invariant.long in
    let more : length c.push.new.self.items ≡ length (c.loop.roots.items ++ None ∷ []) = ap length is in
    record {
      long = omega (arith, more, long, length-append c.loop.roots.items (None ∷ []));
      same = λ root positions.
          let more = none_more c.loop.roots.items root positions in
          let kept = c.loop.invariant.same root positions in
          let read = ap (λ (l : List (Option (List ℕ))). slice_get l root) is in
          (λ at. kept.0 (more.0 (sym read ∙ at)), λ at. read ∙ more.1 (kept.1 at));
    }
