-- For private clauses: bindings with their sort keys.
use Rattle.std.specs.Prelude.{List, map}
use Rattle.match_bindings.specs.declared.ranked.Ranked.{Ranked}
use Rattle.match_bindings.specs.BindTree.{BindTree, tree_of}

abbrev pub ranked_trees : List Ranked → List BindTree
ranked_trees rs = map (λ r. tree_of r.bind) rs
