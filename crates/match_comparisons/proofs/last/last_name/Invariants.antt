use Rattle.std.proofs.Common.{◌≡◌, take, fold, option_map, None, Bor, List, ℕ}
use Rattle.match_comparisons.specs.Selection.{last_name}
use Rattle.match_comparisons.proofs.last.last_name.Given as goal

abbrev pub invariant-loop-step : goal.invariant-loop-step
invariant-loop-step l = option_map (λ (name : Bor (List ℕ)). name.now) l.last ≡ fold last_name None (take l.step-index l.step-items)
