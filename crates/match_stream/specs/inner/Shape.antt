-- For private clauses: whether a state has the shape of a pattern, whatever its stores hold.
use Rattle.std.specs.Prelude.{ℕ, ◌-◌, nat_eq, ℤ, int_le, Bool, true, false, ◌&&◌, Option, Some, None, length}
use Rattle.match_bindings.specs.declared.bounds.Bounds.{Bounds}
use Rattle.match_bindings.specs.Bounds.{within, between}
use Rattle.match_bindings.specs.NumberedPattern.{NumberedPattern, Leaf, Both, Then, Either, Within, Between, Repeats}
use Rattle.match_pruning.specs.declared.window.Window.{Window}
use Rattle.match_pruning.specs.Stores.{window_of}
use Rattle.match_pruning.specs.declared.join.Join.TheVariants as join
use Rattle.match_pruning.specs.inner.Steps.{SideStores, State, a_leaf, a_join, a_choice, a_limit, a_chain}

abbrev pub same_bool : Bool → Bool → Bool
same_bool true true = true
same_bool false false = true
same_bool _ _ = false

abbrev pub same_count : Option ℕ → Option ℕ → Bool
same_count None None = true
same_count (Some a) (Some b) = nat_eq a b
same_count _ _ = false

abbrev pub same_time : Option ℤ → Option ℤ → Bool
same_time None None = true
same_time (Some a) (Some b) = int_le a b && int_le b a
same_time _ _ = false

abbrev pub same_window : Window → Window → Bool
same_window a b = (same_count a.seconds b.seconds && same_time a.start b.start) && (same_time a.stop b.stop && same_bool a.after_left b.after_left)

abbrev pub have_windows : SideStores → Window → Window → Bool
have_windows sides left right = same_window sides.left_window left && same_window sides.right_window right

-- whether it state_fits this pattern under these qualifiers
abbrev pub state_fits : Bounds → NumberedPattern → State → Bool
state_fits above (Leaf k) (a_leaf leaf window) = nat_eq leaf k && same_window window (window_of above false)
state_fits above (Both p q) (a_join join.Both l r sides) = (state_fits above p l && state_fits above q r) && have_windows sides (window_of above false) (window_of above false)
state_fits above (Then p q) (a_join join.Then l r sides) = (state_fits above p l && state_fits above q r) && have_windows sides (window_of above false) (window_of above true)
state_fits above (Either p q) (a_choice l r) = state_fits above p l && state_fits above q r
state_fits above (Within p x) (a_limit part) = state_fits (within above x) p part
state_fits above (Between p x y) (a_limit part) = state_fits (between above x y) p part
state_fits above (Repeats p n) (a_chain part count window levels) =
    (state_fits above p part && same_window window (window_of above false)) && (nat_eq count n && nat_eq (length levels) (n - 1))
state_fits above _ _ = false
