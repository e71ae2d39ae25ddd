-- How many patterns there are in one: what a recursion over it counts down.
use Rattle.std.proofs.Common.{ℕ, ◌+◌}
use Rattle.pattern_types.specs.PlainPattern.{PlainPattern, a_leaf, a_both, an_either, a_then, a_limited}

abbrev pub size : PlainPattern → ℕ
size (a_leaf f) = 1
size (a_both m n) = size m + size n + 1
size (an_either m n) = size m + size n + 1
size (a_then m n) = size m + size n + 1
size (a_limited m l) = size m + 1
