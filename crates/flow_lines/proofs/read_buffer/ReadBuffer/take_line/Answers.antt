use Rattle.flow_lines.proofs.ReadBufferLemmas.{takes-to-feed, takes-all}
use Rattle.flow_lines.proofs.read_buffer.ReadBuffer.take_line.Goals as goal

pub returns-in_ok-extend_from_slice-in-Some-clause-taken : goal.returns-in_ok-extend_from_slice-in-Some-clause-taken
returns-in_ok-extend_from_slice-in-Some-clause-taken c =
    takes-to-feed _ _ _ _ _ _ _ _ c.self.view_is c.deref.ensures.value c.self.invariant.1 c.in-Some.ensures c.in_ok-extend_from_slice-in-Some.ensures.items

pub returns-in_ok-extend_from_slice-in-None-clause-taken : goal.returns-in_ok-extend_from_slice-in-None-clause-taken
returns-in_ok-extend_from_slice-in-None-clause-taken c =
    takes-all _ _ _ _ _ _ _ c.self.view_is c.deref.ensures.value c.in-None.ensures c.in_ok-extend_from_slice-in-None.ensures.items
