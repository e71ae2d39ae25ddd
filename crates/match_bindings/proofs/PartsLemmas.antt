-- What is asked of the parts of a chain, as a list.
use Rattle.std.specs.Prelude.{ℕ, nat_lt, max, Bool, true, false, ◌&&◌, ◌||◌, List, [], ◌∷◌}
use Rattle.match_bindings.specs.BindTree.{BindTree, More, has, disjoint, greatest}

-- whether one of the trees has the number
abbrev pub any_has : ℕ → List BindTree → Bool
any_has n [] = false
any_has n (x ∷ xs) = has n x || any_has n xs

-- whether none of the trees shares a number with b
abbrev pub all_apart : List BindTree → BindTree → Bool
all_apart [] b = true
all_apart (x ∷ xs) b = disjoint x b && all_apart xs b

-- the greatest of a number and those of the trees
abbrev pub greatest_from : ℕ → List BindTree → ℕ
greatest_from n [] = n
greatest_from n (x ∷ xs) = greatest_from (max n (greatest x)) xs

-- whether each tree passes and goes after the chain of those before it
abbrev pub proceed : (BindTree → Bool) → BindTree → List BindTree → Bool
proceed f m [] = true
proceed f m (x ∷ xs) = (f x && (nat_lt (greatest m) (greatest x) && disjoint m x)) && proceed f (More m x) xs
