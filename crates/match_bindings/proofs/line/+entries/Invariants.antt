use Rattle.std.proofs.Common.{◌≡◌, ◌++◌}
use Rattle.std.specs.Prelude.{take, map, string_bytes}
use Rattle.std.specs.List.{flat_map}
use Rattle.match_bindings.specs.BindTree.{tree_of}
use Rattle.match_bindings.specs.Line.{entries_text}
use Rattle.match_bindings.proofs.line.+entries.Given as goal

abbrev pub invariant-push_all_entries-loop-bind : goal.invariant-push_all_entries-loop-bind
invariant-push_all_entries-loop-bind l =
    string_bytes l.line ≡ string_bytes l.fn.line ++ flat_map entries_text (map tree_of (take l.bind-index l.binds))
