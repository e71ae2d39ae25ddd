-- Which errors of SQLite are out of memory, and what a keeper answers.
use Rattle.std.specs.Prelude.{Bool, true, false, if◌then◌else◌}
use Rattle.sqlite.specs.declared.error.Error.{Error}
use Rattle.sqlite.specs.declared.error.Error.TheVariants.{SqliteFailure, SqlInputError}
use Rattle.sqlite.specs.declared.error.ErrorCode.TheVariants.{OutOfMemory as StoreOutOfMemory, DatabaseBusy, CannotOpen, NotADatabase, DatabaseCorrupt, DiskFull, SystemIoFailure, Closed as StoreClosed}
use Rattle.sqlite_resolve.specs.declared.error.CompileError.TheVariants.{OutOfMemory as CompilerOutOfMemory, Parse}
use Rattle.sqlite_syntax.specs.declared.error.ParseError.TheVariants.{OutOfMemory as ParserOutOfMemory}
use Rattle.taxii_rows.specs.declared.fault_cause.FaultCause.{FaultCause}
use Rattle.taxii_rows.specs.declared.fault_cause.FaultCause.TheVariants.{Locked, NotOpened, NoDatabase, Damaged, Full, Disk, Closed, Unsound}
use Rattle.taxii_rows.specs.declared.keeper_refusal.KeeperRefusal.{KeeperRefusal}
use Rattle.taxii_rows.specs.declared.keeper_refusal.KeeperRefusal.TheVariants as refusal
use Rattle.taxii_sqlite.specs.declared.failure.Failure.{Failure}
use Rattle.taxii_sqlite.specs.declared.failure.Failure.TheVariants.{Fault, NoMemory}

-- the database had no memory: its store, its compiler or its parser
abbrev pub is_out_of_memory : Error → Bool
is_out_of_memory (SqliteFailure StoreOutOfMemory) = true
is_out_of_memory (SqlInputError CompilerOutOfMemory) = true
is_out_of_memory (SqlInputError (Parse ParserOutOfMemory)) = true
is_out_of_memory _ = false

-- why any other error came
abbrev pub cause_of : Error → FaultCause
cause_of (SqliteFailure DatabaseBusy) = Locked
cause_of (SqliteFailure CannotOpen) = NotOpened
cause_of (SqliteFailure NotADatabase) = NoDatabase
cause_of (SqliteFailure DatabaseCorrupt) = Damaged
cause_of (SqliteFailure DiskFull) = Full
cause_of (SqliteFailure SystemIoFailure) = Disk
cause_of (SqliteFailure StoreClosed) = Closed
cause_of _ = Unsound

-- every other error is a fault
abbrev pub failure_of : Error → Failure
failure_of error = if is_out_of_memory error then NoMemory else Fault (cause_of error)

-- what the keeper answers of a failure
abbrev pub refused : Failure → KeeperRefusal
refused (Fault cause) = refusal.Fault
refused NoMemory = refusal.NoMemory

-- the cause of the last fault, where the one before had that cause
abbrev pub last_cause_after : FaultCause → Failure → FaultCause
last_cause_after before (Fault cause) = cause
last_cause_after before NoMemory = before
