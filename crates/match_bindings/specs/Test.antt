-- The definition of bindings as a Boolean test. `laws` states that it agrees with Binding.antt.
use Rattle.std.specs.Prelude.{ℕ, zero, suc, nat_lt, int_le, int_lt, Bool, false, ◌&&◌}
use Rattle.match_bindings.specs.NumberedPattern.{NumberedPattern, Leaf, Both, Then, Either, Within, Between, Repeats}
use Rattle.match_bindings.specs.BindTree.{BindTree, One, Pair, First, Second, Single, More, disjoint, greatest}
use Rattle.match_bindings.specs.Span.{earliest, latest, later_by}
use Rattle.match_bindings.specs.Log.{Observed}

-- a chain of this many parts, at least one: each passes, no two share a number, and their greatest
-- numbers ascend
abbrev pub are_repeats : (BindTree → Bool) → ℕ → BindTree → Bool
are_repeats f (suc zero) (Single a) = f a
are_repeats f (suc (suc j)) (More m a) = are_repeats f (suc j) m && f a && (nat_lt (greatest m) (greatest a) && disjoint m a)
are_repeats f _ _ = false

abbrev pub is_binding : Observed → NumberedPattern → BindTree → Bool
is_binding o (Leaf k) (One i) = o.holds k i
is_binding o (Both p q) (Pair a b) = is_binding o p a && is_binding o q b && disjoint a b
is_binding o (Then p q) (Pair a b) = is_binding o p a && is_binding o q b && (int_le (latest o.last a) (earliest o.first b) && disjoint a b)
is_binding o (Either p q) (First a) = is_binding o p a
is_binding o (Either p q) (Second b) = is_binding o q b
is_binding o (Within p x) b = is_binding o p b && int_lt (latest o.last b) (later_by x (earliest o.first b))
is_binding o (Between p x y) b = is_binding o p b && (int_le x (earliest o.first b) && int_lt (latest o.last b) y)
is_binding o (Repeats p n) b = are_repeats (is_binding o p) n b
is_binding o _ _ = false
