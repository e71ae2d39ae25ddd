-- When the observations of a tree match a pattern: STIX 2.1, sections 9.3 to 9.5 (pattern
-- expressions, and observation expressions with their operators and qualifiers). A tree that
-- matches no line here is no binding.
use Rattle.std.specs.Prelude.{◌≡◌, ℕ, zero, suc, ◌<◌, ◌≤ℤ◌, ◌<ℤ◌, true}
use Rattle.match_bindings.specs.NumberedPattern.{NumberedPattern, Leaf, Both, Then, Either, Within, Between, Repeats}
use Rattle.match_bindings.specs.BindTree.{BindTree, One, Pair, First, Second, Single, More, AreDisjoint, greatest}
use Rattle.match_bindings.specs.Span.{earliest, latest, later_by}
use Rattle.match_bindings.specs.Log.{Observed}

-- a chain of this many parts, at least one: each is a binding, no two share an observation, and
-- their greatest numbers ascend, so that no set of parts occurs in two orders
abbrev pub AreRepeats : (BindTree → Type 0) → ℕ → BindTree → Type 0
AreRepeats Binds (suc zero) (Single a) = Binds a
AreRepeats Binds (suc (suc j)) (More m a) = AreRepeats Binds (suc j) m × Binds a × AreDisjoint m a × (greatest m < greatest a)
AreRepeats Binds _ _ = ⊥

abbrev pub IsBinding : Observed → NumberedPattern → BindTree → Type 0
-- [ .. ]: one observation, which the comparison expression matches
IsBinding o (Leaf k) (One i) = o.holds k i ≡ true
-- AND: both sides match, on different observations
IsBinding o (Both p q) (Pair a b) = IsBinding o p a × IsBinding o q b × AreDisjoint a b
-- FOLLOWEDBY: both sides match, on different observations, and nothing of the second is earlier than anything of the first
IsBinding o (Then p q) (Pair a b) = IsBinding o p a × IsBinding o q b × AreDisjoint a b × (latest o.last a ≤ℤ earliest o.first b)
-- OR: one of the sides matches, and the tree says which
IsBinding o (Either p q) (First a) = IsBinding o p a
IsBinding o (Either p q) (Second b) = IsBinding o q b
-- WITHIN x SECONDS: the match lies in less than x seconds
IsBinding o (Within p x) b = IsBinding o p b × (latest o.last b <ℤ later_by x (earliest o.first b))
-- START x STOP y: all of the match is at x or later, and before y
IsBinding o (Between p x y) b = IsBinding o p b × (x ≤ℤ earliest o.first b) × (latest o.last b <ℤ y)
-- REPEATS n TIMES: n matches, on different observations
IsBinding o (Repeats p n) b = AreRepeats (IsBinding o p) n b
IsBinding o _ _ = ⊥
