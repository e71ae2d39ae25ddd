-- For private clauses: how a run ends where the reader does, and where the matcher does.
use Rattle.std.specs.Prelude.{◌≡◌, ◌⊎◌, ⊤, Result, Ok, Err}
use Rattle.match_stream.specs.declared.ending.Ending.TheVariants as ending
use Rattle.match_stream.specs.declared.ending.MatchRefusal.{MatchRefusal}
use Rattle.match_stream.specs.declared.ending.MatchRefusal.TheVariants as refusal
use Rattle.match_input.specs.declared.read_end.ReadEnd.{ReadEnd}
use Rattle.match_input.specs.declared.read_end.ReadEnd.TheVariants as read
use Rattle.match_run.specs.declared.match_end.MatchEnd.{MatchEnd}
use Rattle.match_run.specs.declared.match_end.MatchEnd.TheVariants.{Input, ReadFault, WriteFault, OverLimit, NoMemory}

abbrev pub match_end_of_read : ReadEnd → MatchEnd
match_end_of_read (read.Input line why) = Input line why
match_end_of_read read.ReadFault = ReadFault
match_end_of_read read.Ended = NoMemory
match_end_of_read read.NoMemory = NoMemory

-- what a running matcher may answer to rows in order
abbrev pub MayEndMatching : MatchRefusal → Type 0
MayEndMatching (refusal.Stopped (ending.OverLimit number retained_limit)) = ⊤
MayEndMatching (refusal.Stopped (ending.OutOfOrder last now)) = ⊥
MayEndMatching (refusal.Stopped ending.NoMemory) = ⊤
MayEndMatching (refusal.Ended before) = ⊥

abbrev pub end_of_match : MatchRefusal → MatchEnd
end_of_match (refusal.Stopped (ending.OverLimit number retained_limit)) = OverLimit number retained_limit
end_of_match (refusal.Stopped (ending.OutOfOrder last now)) = NoMemory
end_of_match (refusal.Stopped ending.NoMemory) = NoMemory
end_of_match (refusal.Ended before) = NoMemory

-- out of memory, or a failed write: such an end comes in the middle of lines
abbrev pub CutsLines : MatchEnd → Type 0
CutsLines end = (end ≡ NoMemory) ⊎ (end ≡ WriteFault)

abbrev pub HasCutLines : Result (Unit {0}) MatchEnd → Type 0
HasCutLines ended = (ended ≡ Err NoMemory) ⊎ (ended ≡ Err WriteFault)
