-- The span of time of the observations of a tree.
use Rattle.std.specs.Prelude.{ℕ, ◌*◌, ℤ, pos, ◌+ℤ◌}
use Rattle.std.specs.Int.{int_min, int_max}
use Rattle.match_bindings.specs.BindTree.{BindTree, One, Pair, First, Second, Empty, Single, More}

-- the least of the first times
abbrev pub earliest : (ℕ → ℤ) → BindTree → ℤ
earliest first (One n) = first n
earliest first (Pair a b) = int_min (earliest first a) (earliest first b)
earliest first (First a) = earliest first a
earliest first (Second a) = earliest first a
earliest first Empty = pos 0
earliest first (Single a) = earliest first a
earliest first (More m a) = int_min (earliest first m) (earliest first a)

-- the greatest of the last times
abbrev pub latest : (ℕ → ℤ) → BindTree → ℤ
latest last (One n) = last n
latest last (Pair a b) = int_max (latest last a) (latest last b)
latest last (First a) = latest last a
latest last (Second a) = latest last a
latest last Empty = pos 0
latest last (Single a) = latest last a
latest last (More m a) = int_max (latest last m) (latest last a)

-- this many seconds later; times are in nanoseconds
abbrev pub later_by : ℕ → ℤ → ℤ
later_by seconds time = time +ℤ pos (1_000_000_000 * seconds)
