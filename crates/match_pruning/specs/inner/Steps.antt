-- For private clauses: the state of a matcher as plain lists, and one row of it without filters
-- (the reference implementation).
use Rattle.std.specs.Prelude.{◌≡◌, ℕ, zero, suc, ◌+◌, ◌-◌, ℤ, int_le, Bool, true, false, ◌&&◌, cond, unwrap_or, slice_get, List, [], ◌∷◌, ◌++◌, map, filter, length}
use Rattle.std.specs.Int.{int_min, int_max}
use Rattle.std.specs.List.{flat_map}
use Rattle.match_bindings.specs.declared.bounds.Bounds.{Bounds}
use Rattle.match_bindings.specs.Bounds.{within, between}
use Rattle.match_bindings.specs.NumberedPattern.{NumberedPattern, Leaf, Both, Then, Either, Within, Between, Repeats}
use Rattle.match_bindings.specs.BindTree.{BindTree, One, Pair, First, Second, Single, add_part, disjoint}
use Rattle.match_pruning.specs.declared.window.Window.{Window}
use Rattle.match_pruning.specs.Stores.{window_of}
use Rattle.match_pruning.specs.declared.join.Join.{Join}
use Rattle.match_pruning.specs.declared.join.Join.TheVariants as join
use Rattle.match_pruning.specs.declared.row.Row.{Row}
use Rattle.match_pruning.specs.PartialMatchTree.{PartialMatchTree}
use Rattle.match_pruning.specs.inner.Retains.{retains}

-- a partial match with its binding under one constructor
abbrev pub held_with : (BindTree → BindTree) → PartialMatchTree → PartialMatchTree
held_with f a = record { tree = f a.tree; earliest = a.earliest; latest = a.latest }

-- the binding of a joined_matches partial match
abbrev pub joined_tree : Join → BindTree → BindTree → BindTree
joined_tree join.Both a b = Pair a b
joined_tree join.Then a b = Pair a b
joined_tree join.Repeats a b = add_part a b

abbrev pub joined_matches : Join → PartialMatchTree → PartialMatchTree → PartialMatchTree
joined_matches j a b = record { tree = joined_tree j a.tree b.tree; earliest = int_min a.earliest b.earliest; latest = int_max a.latest b.latest }

-- whether two partial matches join
abbrev pub may_join : Join → PartialMatchTree → PartialMatchTree → Bool
may_join join.Both a b = disjoint a.tree b.tree
may_join join.Then a b = int_le a.latest b.earliest && disjoint a.tree b.tree
may_join join.Repeats a b = disjoint a.tree b.tree

-- one partial match joined_matches with each of ys that it match_joins
abbrev pub match_join_row : Join → PartialMatchTree → List PartialMatchTree → List PartialMatchTree
match_join_row j x ys = map (joined_matches j x) (filter (may_join j x) ys)

-- each of xs joined_matches with each of ys that it match_joins
abbrev pub match_joins : Join → List PartialMatchTree → List PartialMatchTree → List PartialMatchTree
match_joins j xs ys = flat_map (λ x. match_join_row j x ys) xs

-- what a store retains
abbrev pub kept : Window → ℤ → List PartialMatchTree → List PartialMatchTree
kept window now held = filter (λ h. retains window h.earliest now) held

-- what a store holds after a row
abbrev pub stored : Window → ℤ → List PartialMatchTree → List PartialMatchTree → List PartialMatchTree
stored window now held new = kept window now held ++ kept window now new

-- the stores of an AND or FOLLOWEDBY, each with its window
pub record SideStores : Type 0 where
  pub left : List PartialMatchTree
  pub right : List PartialMatchTree
  pub left_window : Window
  pub right_window : Window

-- the state of a matcher for a pattern
pub data State : Type 0 where
  a_leaf : (leaf : ℕ) (window : Window) → State
  a_join : (how : Join) (left right : State) (sides : SideStores) → State
  a_choice : (left right : State) → State
  a_limit : (part : State) → State
  a_chain : (part : State) (count : ℕ) (window : Window) (levels : List (List PartialMatchTree)) → State

abbrev pub truth_at : List Bool → ℕ → Bool
truth_at truths leaf = unwrap_or (slice_get truths leaf) false

-- the partial match of a row alone
abbrev pub row_alone : Row → PartialMatchTree
row_alone row = record { tree = One row.number; earliest = row.first; latest = row.last }

-- what is new at a leaf
abbrev pub new_at_leaf : Row → List Bool → ℕ → Window → List PartialMatchTree
new_at_leaf row truths leaf window = cond (truth_at truths leaf && retains window row.first row.last) (row_alone row ∷ []) []

-- a chain of leaves: `first`, and `more` after it, each on the right of an OR of all before it
abbrev pub leaves_state : ℕ → ℕ → Window → State
leaves_state first zero window = a_leaf first window
leaves_state first (suc more) window = a_choice (leaves_state first more window) (a_leaf (first + more + 1) window)

-- the stores without what has expired, and how much they hold
abbrev pub sides_kept : ℤ → SideStores → SideStores
sides_kept now sides = record {
  left = kept sides.left_window now sides.left;
  right = kept sides.right_window now sides.right;
  left_window = sides.left_window;
  right_window = sides.right_window;
}

abbrev pub sides_count : SideStores → ℕ
sides_count sides = length sides.left + length sides.right

-- the delta join: new left operands with stored right ones, and stored left operands with new right
-- ones
abbrev pub joins_both : Join → SideStores → List PartialMatchTree → List PartialMatchTree → List PartialMatchTree
joins_both j sides left right = match_joins j left sides.right ++ match_joins j sides.left right

-- the stores with the new operands that they retain
abbrev pub sides_stored : ℤ → SideStores → List PartialMatchTree → List PartialMatchTree → SideStores
sides_stored now sides left right = record {
  left = sides.left ++ kept sides.left_window now left;
  right = sides.right ++ kept sides.right_window now right;
  left_window = sides.left_window;
  right_window = sides.right_window;
}

-- the join and the stores at a row
abbrev pub joins_new : Join → ℤ → SideStores → List PartialMatchTree → List PartialMatchTree → List PartialMatchTree
joins_new j now sides left right = joins_both j (sides_kept now sides) left right

abbrev pub sides_after : ℤ → SideStores → List PartialMatchTree → List PartialMatchTree → SideStores
sides_after now sides left right = sides_stored now (sides_kept now sides) left right

-- the new sets above the last level, where `first` is new at the first level, and `new` are the new
-- parts
abbrev pub levels_new : Window → ℤ → List PartialMatchTree → List PartialMatchTree → List (List PartialMatchTree) → List PartialMatchTree
levels_new window now first new [] = first
levels_new window now first new (held ∷ levels) = levels_new window now (match_joins join.Repeats (kept window now held) new) new levels

-- the levels after the row
abbrev pub levels_after : Window → ℤ → List PartialMatchTree → List PartialMatchTree → List (List PartialMatchTree) → List (List PartialMatchTree)
levels_after window now first new [] = []
levels_after window now first new (held ∷ levels) =
    stored window now held first ∷ levels_after window now (match_joins join.Repeats (kept window now held) new) new levels

-- this many empty levels
abbrev pub no_levels : ℕ → List (List PartialMatchTree)
no_levels zero = []
no_levels (suc k) = [] ∷ no_levels k

-- how many levels below the count don't exist yet
abbrev pub levels_above : ℕ → List (List PartialMatchTree) → ℕ
levels_above count made = count - 1 - length made

-- all levels below the count; those that don't exist are empty
abbrev pub all_levels : ℕ → List (List PartialMatchTree) → List (List PartialMatchTree)
all_levels count made = made ++ no_levels (levels_above count made)

-- the new sets above the existing levels are the answer only where no level is above them
abbrev pub risen : ℕ → List PartialMatchTree → List PartialMatchTree
risen zero sets = sets
risen (suc above) sets = []

-- and start the first missing level otherwise
abbrev pub raised : Window → ℤ → ℕ → List PartialMatchTree → List (List PartialMatchTree)
raised window now zero sets = []
raised window now (suc above) sets = kept window now sets ∷ no_levels above

-- the sets of a REPEATS; of REPEATS 0 there are none
abbrev pub repeated_sets : ℕ → List PartialMatchTree → List PartialMatchTree
repeated_sets zero held = []
repeated_sets (suc n) held = held

-- the partial matches that end at a row
abbrev pub step_new : Row → List Bool → State → List PartialMatchTree
step_new row truths (a_leaf leaf window) = new_at_leaf row truths leaf window
step_new row truths (a_join j l r sides) = joins_new j row.last sides (step_new row truths l) (step_new row truths r)
step_new row truths (a_choice l r) = map (held_with First) (step_new row truths l) ++ map (held_with Second) (step_new row truths r)
step_new row truths (a_limit part) = step_new row truths part
step_new row truths (a_chain part count window levels) =
    repeated_sets count (levels_new window row.last (map (held_with Single) (step_new row truths part)) (step_new row truths part) levels)

-- the state after it
abbrev pub step_state : Row → List Bool → State → State
step_state row truths (a_leaf leaf window) = a_leaf leaf window
step_state row truths (a_join j l r sides) =
    a_join j (step_state row truths l) (step_state row truths r) (sides_after row.last sides (step_new row truths l) (step_new row truths r))
step_state row truths (a_choice l r) = a_choice (step_state row truths l) (step_state row truths r)
step_state row truths (a_limit part) = a_limit (step_state row truths part)
step_state row truths (a_chain part count window levels) =
    a_chain (step_state row truths part) count window
    (levels_after window row.last (map (held_with Single) (step_new row truths part)) (step_new row truths part) levels)

-- a chain of leaves of which none holds
abbrev pub IsNonmatchingChain : List Bool → State → Type 0
IsNonmatchingChain truths (a_leaf leaf window) = truth_at truths leaf ≡ false
IsNonmatchingChain truths (a_choice l r) = IsNonmatchingChain truths l × IsNonmatchingChain truths r
IsNonmatchingChain truths _ = ⊥

-- empty stores of a node
abbrev pub empty_sides : Window → Window → SideStores
empty_sides left right = record { left = []; right = []; left_window = left; right_window = right }

-- the state before any row
abbrev pub empty_state : Bounds → NumberedPattern → State
empty_state above (Leaf k) = a_leaf k (window_of above false)
empty_state above (Both p q) = a_join join.Both (empty_state above p) (empty_state above q) (empty_sides (window_of above false) (window_of above false))
empty_state above (Then p q) = a_join join.Then (empty_state above p) (empty_state above q) (empty_sides (window_of above false) (window_of above true))
empty_state above (Either p q) = a_choice (empty_state above p) (empty_state above q)
empty_state above (Within p x) = a_limit (empty_state (within above x) p)
empty_state above (Between p x y) = a_limit (empty_state (between above x y) p)
empty_state above (Repeats p n) = a_chain (empty_state above p) n (window_of above false) (no_levels (n - 1))

-- what the stores hold, in the order of stores_of
abbrev pub contents_of : State → List (List PartialMatchTree)
contents_of (a_leaf leaf window) = []
contents_of (a_join j l r sides) = sides.left ∷ sides.right ∷ (contents_of l ++ contents_of r)
contents_of (a_choice l r) = contents_of l ++ contents_of r
contents_of (a_limit part) = contents_of part
contents_of (a_chain part count window levels) = levels ++ contents_of part

-- the state without what has expired
abbrev pub expired : ℤ → State → State
expired now (a_leaf leaf window) = a_leaf leaf window
expired now (a_join j l r sides) = a_join j (expired now l) (expired now r) (sides_kept now sides)
expired now (a_choice l r) = a_choice (expired now l) (expired now r)
expired now (a_limit part) = a_limit (expired now part)
expired now (a_chain part count window levels) = a_chain (expired now part) count window (map (kept window now) levels)
