use Rattle.std.proofs.Common.{◌≡◌, ◌++◌, ℕ, List, Option, map, take}
use Rattle.match_bindings.specs.BindTree.{tree_of}
use Rattle.match_run.specs.Listing.{listing_text}
use Rattle.match_run.specs.inner.Rows.{IsPartBuffered}
use Rattle.match_run.proofs.lines.add_lines.Given as goal

abbrev pub invariant-loop-bind : goal.invariant-loop-bind
invariant-loop-bind g l = record {
  way : (text : List ℕ) (first : Option (List ℕ)) → IsPartBuffered text l.fn.pending.items first (g.O.Sink.written l.fn.output)
      → IsPartBuffered (text ++ listing_text (map tree_of (take l.bind-index l.binds))) l.pending.items first (g.O.Sink.written l.output);
  quiet : g.O.Sink.faults l.output ≡ g.O.Sink.faults l.fn.output;
}
