-- For private clauses: stored partial matches as plain data.
use Rattle.std.specs.Prelude.{List, map}
use Rattle.match_bindings.specs.BindTree.{tree_of}
use Rattle.match_pruning.specs.declared.partial_match.PartialMatch.{PartialMatch}
use Rattle.match_pruning.specs.PartialMatchTree.{PartialMatchTree}

abbrev pub partial_match_tree : PartialMatch → PartialMatchTree
partial_match_tree h = record { tree = tree_of h.bind; earliest = h.earliest; latest = h.latest }

abbrev pub partial_match_trees : List PartialMatch → List PartialMatchTree
partial_match_trees helds = map partial_match_tree helds
