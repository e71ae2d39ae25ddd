-- The stores of a matcher, each with what it may hold and its window: one for each side of an AND
-- and a FOLLOWEDBY, and for a REPEATS of n one for each store_level from 1 to n - 1.
use Rattle.std.specs.Prelude.{ℕ, zero, suc, Bool, true, false, List, [], ◌∷◌, ◌++◌, map}
use Rattle.match_bindings.specs.declared.bounds.Bounds.{Bounds}
use Rattle.match_bindings.specs.Bounds.{no_bounds, within, between}
use Rattle.match_bindings.specs.NumberedPattern.{NumberedPattern, Leaf, Both, Then, Either, Within, Between, Repeats}
use Rattle.match_pruning.specs.declared.window.Window.{Window}

-- what a store holds: bindings of a side, or sets of j bindings of the repeated part
pub data StorePart : Type 0 where
  a_side : (side : NumberedPattern) → StorePart
  a_level : (repeated : NumberedPattern) (count : ℕ) → StorePart

pub record Store : Type 0 where
  pub part : StorePart
  pub window : Window

-- the window of a store within these limits; the flag marks the right side of a FOLLOWEDBY
abbrev pub window_of : Bounds → Bool → Window
window_of above after_left = record { seconds = above.seconds; start = above.start; stop = above.stop; after_left = after_left }

abbrev pub side : Bounds → Bool → NumberedPattern → Store
side above after_left p = record { part = a_side p; window = window_of above after_left }

abbrev pub store_level : Bounds → NumberedPattern → ℕ → Store
store_level above p j = record { part = a_level p j; window = window_of above false }

-- the levels of a REPEATS, from 1 to below its count
abbrev pub levels : Bounds → NumberedPattern → ℕ → List Store
levels above p zero = []
levels above p (suc zero) = []
levels above p (suc (suc n)) = levels above p (suc n) ++ store_level above p (suc n) ∷ []

-- the stores of a part within these limits: its own before those of its parts, the left side first
abbrev pub stores_under : Bounds → NumberedPattern → List Store
stores_under above (Leaf k) = []
stores_under above (Both p q) = side above false p ∷ side above false q ∷ (stores_under above p ++ stores_under above q)
stores_under above (Then p q) = side above false p ∷ side above true q ∷ (stores_under above p ++ stores_under above q)
stores_under above (Either p q) = stores_under above p ++ stores_under above q
stores_under above (Within p x) = stores_under (within above x) p
stores_under above (Between p x y) = stores_under (between above x y) p
stores_under above (Repeats p n) = levels above p n ++ stores_under above p

-- the stores of a pattern
abbrev pub stores_of : NumberedPattern → List Store
stores_of p = stores_under no_bounds p

abbrev pub windows_in : List Store → List Window
windows_in stores = map (λ store. store.window) stores
