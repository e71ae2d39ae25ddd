use Rattle.std.proofs.Common.{None, List, subst}
use Rattle.flow_lines.specs.Lines.{RawLine, raw_lines, lines_from}
use Rattle.match_input.specs.Reading.{ReadsInputLines}
use Rattle.match_input.proofs.ContinuesLemmas.{begins_from, stays_from}
use Rattle.match_input.proofs.laws.readings_continue.Goals as goal

pub returns-clause-whole : goal.returns-clause-whole
returns-clause-whole c = λ bytes more bundles all end ends first second.
    begins_from c.continues.ensures 1 0 (raw_lines bytes) (raw_lines more) None 1 bundles all end first
    (subst (λ (lines : List RawLine). ReadsInputLines None 1 (lines_from 1 0 lines) all end) (c.lines_continue.ensures bytes more ends) second)

pub returns-clause-refused : goal.returns-clause-refused
returns-clause-refused c = λ bytes more bundles line why ends reads.
    rw (c.lines_continue.ensures bytes more ends) (stays_from 1 0 (raw_lines bytes) (raw_lines more) None 1 bundles line why reads)
