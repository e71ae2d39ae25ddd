-- What a test of two numbers says.
use Rattle.std.proofs.Common.{◌≡◌, ◌<◌, ◌≤◌, ℕ, true, false, nat_lt, arith}
use Rattle.std.proofs.lemmas.Bool.Decides.{nat_tests}

pub lt_from_test : (m n : ℕ) → true ≡ nat_lt m n → m < n
lt_from_test m n is = grind (arith, nat_tests)

pub le_from_test : (m n : ℕ) → false ≡ nat_lt m n → n ≤ m
le_from_test m n is = grind (arith, nat_tests)
