-- The statuses 5 and 6 of a `match` are the faults of its input and its output.
use Rattle.std.proofs.Common.{◌≡◌, ◌↔◌, ap, refl, arith}
use Rattle.match_run.specs.declared.match_end.MatchEnd.{MatchEnd}
use Rattle.match_run.specs.declared.match_end.MatchEnd.TheVariants as end
use Rattle.command_match.specs.declared.matching.MatchEnding.TheVariants.{Ended}
use Rattle.command_match.specs.MatchEndings.{match_status}

pub read_fault-status : (ended : MatchEnd) → (match_status (Ended ended) ≡ 5) ↔ (ended ≡ end.ReadFault)
read_fault-status ended = (there ended, λ is. ap (λ (e : MatchEnd). match_status (Ended e)) is) where
  there : (ended : MatchEnd) → match_status (Ended ended) ≡ 5 → ended ≡ end.ReadFault
  there (end.Done observations bindings last) is = absurd (omega arith)
  there (end.Input line rule) is = absurd (omega arith)
  there end.ReadFault is = refl
  there end.WriteFault is = absurd (omega arith)
  there (end.OverLimit number retained_limit) is = absurd (omega arith)
  there end.NoMemory is = absurd (omega arith)

pub write_fault-status : (ended : MatchEnd) → (match_status (Ended ended) ≡ 6) ↔ (ended ≡ end.WriteFault)
write_fault-status ended = (there ended, λ is. ap (λ (e : MatchEnd). match_status (Ended e)) is) where
  there : (ended : MatchEnd) → match_status (Ended ended) ≡ 6 → ended ≡ end.WriteFault
  there (end.Done observations bindings last) is = absurd (omega arith)
  there (end.Input line rule) is = absurd (omega arith)
  there end.ReadFault is = absurd (omega arith)
  there end.WriteFault is = refl
  there (end.OverLimit number retained_limit) is = absurd (omega arith)
  there end.NoMemory is = absurd (omega arith)
