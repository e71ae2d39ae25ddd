-- One lazy matcher more.
use Rattle.std.proofs.Common.{◌≡◌, ◌+◌, [], ◌∷◌, ◌++◌, length, arith, ap, sym, ◌∙◌, length-append}
use Rattle.std.specs.Prelude.{map, slice_get}
use Rattle.hunt_engine.proofs.PositionLemmas.{get_map}
use Rattle.hunt_engine.proofs.StepLemmas.{one_more}
use Rattle.hunt_engine.proofs.engine.lazy_matchers_of.Goals as goal

pub loop-indicator-preserved : goal.loop-indicator-preserved
loop-indicator-preserved c =
    let patterns = map (λ h. h.pattern) c.args.hunted.now in
    let xs = c.loop-indicator.lazy_matchers.items in let f = c.in_ok-lazy_matcher.lazy_matcher in
    let pushed = c.in_ok-push.ensures.items in
    let is = c.indicator-item.is in
    let count = c.loop-indicator.invariant.count in
    record {
      count = ap length pushed ∙ (let e : length (xs ++ f ∷ []) ≡ c.loop-indicator.indicator-index + 1 = omega (arith, count, length-append xs (f ∷ [])) in e);
      each = λ position p g of_p of_g. one_more patterns c.args.retained_limit xs f c.indicator-item.result.pattern
          (ap (slice_get patterns) count ∙ get_map c.args.hunted.now (λ h. h.pattern) c.loop-indicator.indicator-index c.indicator-item.result (omega arith) is)
          c.in_ok-lazy_matcher.ensures c.loop-indicator.invariant.each position p g of_p (ap (λ l. slice_get l position) (sym pushed) ∙ of_g);
    }
