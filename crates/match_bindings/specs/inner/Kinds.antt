-- For private clauses: the kind of a tree.
use Rattle.std.specs.Prelude.{Bool, true, false}
use Rattle.match_bindings.specs.BindTree.{BindTree, One, Pair, Empty, Single, More}

abbrev pub is_one : BindTree → Bool
is_one (One n) = true
is_one _ = false

abbrev pub is_pair : BindTree → Bool
is_pair (Pair a b) = true
is_pair _ = false

abbrev pub is_chain : BindTree → Bool
is_chain Empty = true
is_chain (Single a) = true
is_chain (More m a) = true
is_chain _ = false

-- the chain that a tree is, or the empty one
abbrev pub chain_of : BindTree → BindTree
chain_of (Single a) = Single a
chain_of (More m a) = More m a
chain_of _ = Empty
