-- Bindings as plain data, and the numbers in them.
use Rattle.std.specs.Prelude.{◌≡◌, ℕ, zero, suc, Bool, true, false, ◌&&◌, ◌||◌, not, nat_eq, max, List, [], ◌∷◌}
use Rattle.match_bindings.specs.declared.bind.Bind.{Bind, fold-Bind}
use Rattle.match_bindings.specs.declared.bind.Bind.TheOpen.{Bind-F}
use Rattle.match_bindings.specs.declared.bind.Bind.TheOpen as bind

-- a binding. A Many is a chain: Empty without parts, otherwise its first part as a Single, and each
-- next part as a More on top of those before
pub data BindTree : Type 0 where
  One : (number : ℕ) → BindTree
  Pair : (left right : BindTree) → BindTree
  First : (part : BindTree) → BindTree
  Second : (part : BindTree) → BindTree
  Empty : BindTree
  Single : (part : BindTree) → BindTree
  More : (parts part : BindTree) → BindTree

-- a chain with more parts at its end
abbrev pub more_of : BindTree → List BindTree → BindTree
more_of parts [] = parts
more_of parts (x ∷ xs) = more_of (More parts x) xs

-- the chain of some parts
abbrev pub many_of : List BindTree → BindTree
many_of [] = Empty
many_of (x ∷ xs) = more_of (Single x) xs

-- a chain with one more part at its end; any other tree counts as an empty chain
abbrev pub add_part : BindTree → BindTree → BindTree
add_part (Single x) a = More (Single x) a
add_part (More m x) a = More (More m x) a
add_part _ a = Single a

-- a tree under this many Firsts
abbrev pub firsts : ℕ → BindTree → BindTree
firsts zero x = x
firsts (suc n) x = First (firsts n x)

-- one level of a binding whose parts are trees already
abbrev pub tree_level : Bind-F BindTree → BindTree
tree_level (bind.One number) = One number
tree_level (bind.Both sides) = Pair sides.value.0 sides.value.1
tree_level (bind.First more part) = First (firsts more part.value)
tree_level (bind.Second part) = Second part.value
tree_level (bind.Many parts) = many_of parts.value

-- the tree of a binding
abbrev pub tree_of : Bind → BindTree
tree_of = fold-Bind BindTree tree_level

-- whether a tree has the observation number
abbrev pub has : ℕ → BindTree → Bool
has n (One m) = nat_eq n m
has n (Pair a b) = has n a || has n b
has n (First a) = has n a
has n (Second a) = has n a
has n Empty = false
has n (Single a) = has n a
has n (More m a) = has n m || has n a

-- no observation is in both
abbrev pub AreDisjoint : BindTree → BindTree → Type 0
AreDisjoint a b = (n : ℕ) → has n a ≡ true → has n b ≡ false

-- the same as a Boolean test
abbrev pub disjoint : BindTree → BindTree → Bool
disjoint (One n) b = not (has n b)
disjoint (Pair x y) b = disjoint x b && disjoint y b
disjoint (First x) b = disjoint x b
disjoint (Second x) b = disjoint x b
disjoint Empty b = true
disjoint (Single x) b = disjoint x b
disjoint (More m x) b = disjoint m b && disjoint x b

-- the greatest number in a tree, 0 where there is none
abbrev pub greatest : BindTree → ℕ
greatest (One n) = n
greatest (Pair a b) = max (greatest a) (greatest b)
greatest (First a) = greatest a
greatest (Second a) = greatest a
greatest Empty = 0
greatest (Single a) = greatest a
greatest (More m a) = max (greatest m) (greatest a)
