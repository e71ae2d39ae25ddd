use Rattle.std.proofs.Common.{◌≡◌, ◌⊎◌, IfSome, ◌≤◌, ◌-◌, ◌++◌}
use Rattle.flow_lines.specs.Lines.{lines_remaining, HoldsLine, AccountsFor, LacksLine}
use Rattle.flow_lines.specs.inner.Reading.{IsBetweenLines, lines_state}
use Rattle.flow_lines.proofs.cursor.Cursor.next_line.Given as goal

abbrev pub invariant-lines : goal.invariant-lines
invariant-lines g l = record {
  between : IsBetweenLines l.self.line.items l.self.read_buffer l.self.count l.self.given;
  ahead : lines_remaining (lines_state l.fn.self.line.items l.fn.self.read_buffer l.fn.self.count l.fn.self.given) (g.S.Source.left l.fn.source)
      ≡ lines_remaining (lines_state l.self.line.items l.self.read_buffer l.self.count l.self.given) (g.S.Source.left l.source);
  accounted : AccountsFor (lines_state l.fn.self.line.items l.fn.self.read_buffer l.fn.self.count l.fn.self.given)
      (lines_state l.self.line.items l.self.read_buffer l.self.count l.self.given) (g.S.Source.left l.fn.source) (g.S.Source.left l.source);
  held : HoldsLine (l.fn.self.line.items ++ l.fn.self.read_buffer) → (l.source ≡ l.fn.source) × HoldsLine l.self.read_buffer;
  in_time : ((l.source ≡ l.fn.source) × (HoldsLine l.self.read_buffer → HoldsLine (l.fn.self.line.items ++ l.fn.self.read_buffer)))
      ⊎ IfSome (g.S.Source.began l.source) (LacksLine (lines_state l.fn.self.line.items l.fn.self.read_buffer l.fn.self.count l.fn.self.given) l.self.count (g.S.Source.left l.fn.source));
  moved : l.fn.self.given ≤ l.self.given;
  quiet : g.S.Source.faults l.source ≡ g.S.Source.faults l.fn.source;
}

abbrev pub decreases-lines : goal.decreases-lines
decreases-lines g l = 1099511627777 - l.self.given
