-- For private clauses: the stores and nodes of a matcher as plain data.
use Rattle.std.specs.Prelude.{List, map}
use Rattle.std.specs.Box.{box_value}
use Rattle.match_pruning.specs.declared.store.Store.{Store}
use Rattle.match_stream.specs.declared.sides.Sides.{Sides}
use Rattle.match_stream.specs.declared.levels.Levels.{Levels}
use Rattle.match_stream.specs.declared.leaves.Leaves.{Leaves}
use Rattle.match_stream.specs.declared.node.Node.{Node}
use Rattle.match_stream.specs.declared.node.Node.TheVariants as node
use Rattle.match_pruning.specs.PartialMatchTree.{PartialMatchTree}
use Rattle.match_pruning.specs.inner.PartialMatches.{partial_match_trees}
use Rattle.match_pruning.specs.inner.Steps.{SideStores, State, a_join, a_choice, a_limit, a_chain, leaves_state, all_levels}

abbrev pub store_list : Store → List PartialMatchTree
store_list store = partial_match_trees store.held.items

abbrev pub store_lists : List Store → List (List PartialMatchTree)
store_lists stores = map store_list stores

abbrev pub side_stores : Sides → SideStores
side_stores sides = record {
  left = store_list sides.left;
  right = store_list sides.right;
  left_window = sides.left_window;
  right_window = sides.right_window;
}

abbrev pub levels_state : State → Levels → State
levels_state part levels = a_chain part levels.count levels.window (all_levels levels.count (store_lists levels.stores.items))

abbrev pub leaves_of : Leaves → State
leaves_of leaves = leaves_state leaves.first leaves.more leaves.window

abbrev pub node_state : Node → State
node_state (node.Leaves leaves) = leaves_of leaves
node_state (node.Sides' how at_left left at_right right sides) = a_join how (node_state left) (node_state right) (side_stores (box_value sides))
node_state (node.Either' at_left left at_right right) = a_choice (node_state left) (node_state right)
node_state (node.Under' at_part part) = a_limit (node_state part)
node_state (node.Repeats' at_part part levels) = levels_state (node_state part) (box_value levels)
