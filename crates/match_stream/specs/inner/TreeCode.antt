-- An encoding of bindings for the logic: the nodes of the tree in postfix order.
use Rattle.std.specs.Prelude.{◌≡◌, ℕ, ◌==◌, cond, List, [], ◌∷◌, refl}
use Rattle.std.specs.Coded.{Coded, code_by, coded×, coded_ℕ, coded_list}
use Rattle.std.proofs.Common.{◌∙◌, ap}
use Rattle.match_bindings.specs.BindTree.{BindTree, One, Pair, First, Second, Empty, Single, More}

-- the nodes of a tree, before others: for each its kind, and the number of a One
abbrev nodes : BindTree → List (ℕ × ℕ) → List (ℕ × ℕ)
nodes (One n) more = (0, n) ∷ more
nodes (Pair a b) more = nodes a (nodes b ((1, 0) ∷ more))
nodes (First a) more = nodes a ((2, 0) ∷ more)
nodes (Second a) more = nodes a ((3, 0) ∷ more)
nodes Empty more = (4, 0) ∷ more
nodes (Single a) more = nodes a ((5, 0) ∷ more)
nodes (More m a) more = nodes m (nodes a ((6, 0) ∷ more))

-- a stack of trees, the last one first, and a node over the last one or the last two
abbrev over_one : (BindTree → BindTree) → List BindTree → List BindTree
over_one make [] = []
over_one make (a ∷ trees) = make a ∷ trees

abbrev over_two : (BindTree → BindTree → BindTree) → List BindTree → List BindTree
over_two make [] = []
over_two make (b ∷ []) = []
over_two make (b ∷ a ∷ trees) = make a b ∷ trees

abbrev with_node : ℕ → ℕ → List BindTree → List BindTree
with_node kind n trees =
    cond (kind == 0) (One n ∷ trees) (cond (kind == 1) (over_two Pair trees) (cond (kind == 2) (over_one First trees) (cond (kind == 3) (over_one Second trees)
    (cond (kind == 4) (Empty ∷ trees) (cond (kind == 5) (over_one Single trees) (over_two More trees))))))

abbrev built : List (ℕ × ℕ) → List BindTree → List BindTree
built [] trees = trees
built (node ∷ more) trees = built more (with_node node.0 node.1 trees)

abbrev first_tree : List BindTree → BindTree
first_tree [] = Empty
first_tree (a ∷ trees) = a

-- decoding the nodes of a tree gives the tree
pub built-nodes : (x : BindTree) (more : List (ℕ × ℕ)) (trees : List BindTree) → built (nodes x more) trees ≡ built more (x ∷ trees)
built-nodes (One n) more trees = refl
built-nodes (Pair a b) more trees = built-nodes a (nodes b ((1, 0) ∷ more)) trees ∙ built-nodes b ((1, 0) ∷ more) (a ∷ trees)
built-nodes (First a) more trees = built-nodes a ((2, 0) ∷ more) trees
built-nodes (Second a) more trees = built-nodes a ((3, 0) ∷ more) trees
built-nodes Empty more trees = refl
built-nodes (Single a) more trees = built-nodes a ((5, 0) ∷ more) trees
built-nodes (More m a) more trees = built-nodes m (nodes a ((6, 0) ∷ more)) trees ∙ built-nodes a ((6, 0) ∷ more) (m ∷ trees)

abbrev pub tree_code : Coded BindTree
tree_code =
    code_by (List (ℕ × ℕ)) (coded_list (coded× coded_ℕ coded_ℕ)) (λ x. nodes x []) (λ list. first_tree (built list [])) (λ x. ap first_tree (built-nodes x [] []))
