-- For private clauses: the end of a part of a run, as an end of the whole.
use Rattle.match_input.specs.declared.read_end.ReadEnd.{ReadEnd}
use Rattle.match_input.specs.declared.read_end.ReadEnd.TheVariants as read
use Rattle.match_run.specs.declared.cut_short.CutShort.{CutShort}
use Rattle.match_run.specs.declared.cut_short.CutShort.TheVariants as cut
use Rattle.match_run.specs.declared.see_end.SeeEnd.{SeeEnd}
use Rattle.match_run.specs.declared.see_end.SeeEnd.TheVariants as see
use Rattle.match_run.specs.declared.watch_end.WatchEnd.{WatchEnd}
use Rattle.match_run.specs.declared.watch_end.WatchEnd.TheVariants.{Input, ReadFault, WriteFault, Stopped, NoMemory}

-- where the reader ends
abbrev pub watch_end_of_read : {S : Type 0} → ReadEnd → WatchEnd S
watch_end_of_read (read.Input line why) = Input line why
watch_end_of_read read.ReadFault = ReadFault
watch_end_of_read read.Ended = NoMemory
watch_end_of_read read.NoMemory = NoMemory

-- where the watcher ends
abbrev pub end_of_see : {S : Type 0} → SeeEnd S → WatchEnd S
end_of_see (see.Stopped why) = Stopped why
end_of_see see.WriteFault = WriteFault
end_of_see see.NoMemory = NoMemory

-- where a text is cut short
abbrev pub end_of_cut : {S : Type 0} → CutShort → SeeEnd S
end_of_cut cut.WriteFault = see.WriteFault
end_of_cut cut.NoMemory = see.NoMemory
