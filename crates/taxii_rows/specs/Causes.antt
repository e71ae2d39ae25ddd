-- The cause of a keeper's fault as a text.
use Rattle.std.specs.Prelude.{ℕ, List, codes}
use Rattle.taxii_rows.specs.declared.fault_cause.FaultCause.{FaultCause}
use Rattle.taxii_rows.specs.declared.fault_cause.FaultCause.TheVariants.{NotKnown, Closed, Locked, NoFolder, NoFile, Denied, ReadOnly, Journal, NotOpened, NoDatabase, Damaged, OtherLayout, LaterLayout, Unsound, Full, Disk}

abbrev pub cause_text : FaultCause → List ℕ
cause_text NotKnown = codes "no cause is known"
cause_text Closed = codes "an earlier failure closed it"
cause_text Locked = codes "another process has it"
cause_text NoFolder = codes "its folder isn't there"
cause_text NoFile = codes "it is no file"
cause_text Denied = codes "no right to read and write it"
cause_text ReadOnly = codes "its file system is read-only"
cause_text Journal = codes "another program left a journal beside it"
cause_text NotOpened = codes "it can't be opened"
cause_text NoDatabase = codes "it is no database"
cause_text Damaged = codes "it is damaged"
cause_text OtherLayout = codes "it is a database of another form"
cause_text LaterLayout = codes "a later version made it"
cause_text Unsound = codes "it holds what no store writes"
cause_text Full = codes "its disk is full"
cause_text Disk = codes "its disk failed"
