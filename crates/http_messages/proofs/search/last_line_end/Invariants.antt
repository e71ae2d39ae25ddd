use Rattle.http_messages.specs.RequestHeads.{HasNoEnd}
use Rattle.http_messages.proofs.search.last_line_end.Given as goal

abbrev pub invariant-loop-offset : goal.invariant-loop-offset
invariant-loop-offset l = HasNoEnd l.bytes l.from l.offset
