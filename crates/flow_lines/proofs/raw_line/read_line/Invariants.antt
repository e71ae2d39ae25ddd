use Rattle.std.proofs.Common.{◌≡◌, ◌⊎◌, IfSome, ◌≤◌, ◌+◌, ◌-◌, [], length}
use Rattle.flow_edges.specs.declared.source.TheConstants.{MAX_READ}
use Rattle.flow_lines.specs.declared.refusal.TheConstants.{MAX_LINE, MAX_INPUT}
use Rattle.flow_lines.specs.inner.Reading.{bytes_remaining, IsWithinLine}
use Rattle.flow_lines.specs.Lines.{NoLineFeed}
use Rattle.flow_lines.proofs.raw_line.read_line.Given as goal

abbrev pub invariant-reads : goal.invariant-reads
invariant-reads g l = record {
  bytes : bytes_remaining [] l.fn.read_buffer (g.S.Source.left l.fn.source) ≡ bytes_remaining l.line.items l.read_buffer (g.S.Source.left l.source);
  plain : NoLineFeed l.line.items;
  short : length l.line.items ≤ MAX_LINE;
  within : l.start.offset + length l.line.items ≤ MAX_INPUT;
  room : length l.read_buffer ≤ MAX_READ;
  held : ¬ (NoLineFeed l.fn.read_buffer) → (l.source ≡ l.fn.source) × (l.read_buffer ≡ l.fn.read_buffer) × (l.line.items ≡ []);
  in_time : ((l.source ≡ l.fn.source) × (l.read_buffer ≡ l.fn.read_buffer)) ⊎ IfSome (g.S.Source.began l.source) (IsWithinLine (bytes_remaining [] l.fn.read_buffer (g.S.Source.left l.fn.source)));
  quiet : g.S.Source.faults l.source ≡ g.S.Source.faults l.fn.source;
}

abbrev pub decreases-reads : goal.decreases-reads
decreases-reads g l = 1099511693313 - (l.start.offset + length l.line.items + length l.read_buffer)
