use Rattle.std.proofs.Common.{◌≡◌, ℕ, ◌<◌, ◌≤◌, true, get_or}
use Rattle.http_messages.specs.RequestHeads.{is_line_byte}
use Rattle.http_messages.proofs.search.skip_line_ends.Given as goal

abbrev pub invariant-loop-offset : goal.invariant-loop-offset
invariant-loop-offset l = (k : ℕ) → l.from ≤ k → k < l.offset → is_line_byte (get_or l.bytes k 0) ≡ true
