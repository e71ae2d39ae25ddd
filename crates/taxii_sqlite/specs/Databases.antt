-- What a database answers and does: by statements over its file. Without a file nothing is kept,
-- and so nothing is ever there.
use Rattle.std.specs.Prelude.{◌≡◌, ◌≢◌, ⊤, true, false, Bool, ℕ, List, [], Option, None, Some}
use Rattle.sqlite_disk.specs.declared.Disk.{Ghosts}
use Rattle.sqlite_disk.specs.declared.Files.{Files}
use Rattle.sqlite_wal.specs.Reads.{AreClean}
use Rattle.sqlite_wal.specs.Recovery.{Image}
use Rattle.sqlite.specs.State.{HasCleanDisk}
use Rattle.sqlite.specs.Start.{FindsIn}
use Rattle.sqlite.specs.Closing.{IsCopied}
use Rattle.sqlite.specs.Files.{file_state, IsOpened}
use Rattle.sqlite.specs.Held.{IsNew}
use Rattle.taxii_rows.specs.declared.stored_row.StoredRow.{StoredRow}
use Rattle.taxii_sqlite.specs.Statements.{AnswersNextRow, AnswersWatermark, Transacts, InsertsRows, DeletesAll}
use Rattle.taxii_sqlite.specs.Forms.{IsReadyStore}
use Rattle.taxii_sqlite.specs.Transactions.{IsUntouched}
use Rattle.taxii_sqlite.specs.declared.connection.Database.{Database}
use Rattle.taxii_sqlite.specs.declared.connection.Database.TheVariants.{Closed, InMemory, Disk}

module _ {D : Type 0} {disk : Ghosts D} where
  -- whether there is a database
  abbrev pub is_open : Database D disk → Bool
  is_open Closed = false
  is_open _ = true

  -- the first row that is later than the date
  abbrev pub FindsNext : ℕ → Database D disk → Database D disk → Option StoredRow → Type 0
  FindsNext date (Disk before) (Disk after) found = HasCleanDisk (file_state after.value) → AnswersNextRow date (file_state before.value) (file_state after.value) found
  FindsNext date InMemory InMemory found = found ≡ None
  FindsNext date _ _ found = ⊥

  -- the last date ever given
  abbrev pub FindsWatermark : Database D disk → Database D disk → ℕ → Type 0
  FindsWatermark (Disk before) (Disk after) watermark = HasCleanDisk (file_state after.value) → AnswersWatermark (file_state before.value) (file_state after.value) watermark
  FindsWatermark InMemory InMemory watermark = watermark ≡ 0
  FindsWatermark _ _ watermark = ⊥

  -- the rows were added, and the date became the watermark
  abbrev pub Appends : List StoredRow → ℕ → Database D disk → Database D disk → Type 0
  Appends rows watermark (Disk before) (Disk after) = HasCleanDisk (file_state after.value) → Transacts file_state (InsertsRows file_state rows watermark) before.value after.value
  Appends rows watermark InMemory InMemory = ⊤
  Appends rows watermark _ _ = ⊥

  -- the rows of the dates were removed, and the watermark stayed
  abbrev pub Removes : List ℕ → Database D disk → Database D disk → Type 0
  Removes dates (Disk before) (Disk after) = HasCleanDisk (file_state after.value) → Transacts file_state (DeletesAll file_state dates) before.value after.value
  Removes dates InMemory InMemory = ⊤
  Removes dates _ _ = ⊥

  -- it is in a file
  abbrev pub HasFile : Database D disk → Type 0
  HasFile (Disk held) = ⊤
  HasFile _ = ⊥

  -- a call can fail: not where nothing is kept
  abbrev pub CanFail : Database D disk → Type 0
  CanFail InMemory = ⊥
  CanFail _ = ⊤

  -- a change failed, and nothing was added or removed; of a file: its contents and the last commit
  -- are unchanged, unless a disk failure has closed it
  abbrev pub StaysAs : Database D disk → Database D disk → Type 0
  StaysAs (Disk before) (Disk after) = HasCleanDisk (file_state after.value) → IsUntouched (file_state before.value) (file_state after.value)
  StaysAs Closed Closed = ⊤
  StaysAs _ _ = ⊥

  -- a disk failure has closed the file: each later call fails, until the file is opened again
  abbrev pub IsClosedByDisk : Database D disk → Type 0
  IsClosedByDisk (Disk held) = (file_state held.value).is_open ≡ false
  IsClosedByDisk _ = ⊥

  -- the disk has returned what was written
  abbrev pub IsClean : Database D disk → Type 0
  IsClean (Disk held) = HasCleanDisk (file_state held.value)
  IsClean _ = ⊤

  -- what was opened under a path: with an empty one nothing; with another one a file, whose
  -- database is the one that these files held, a database and its log, and which was then made
  -- ready
  abbrev pub IsOpenAt : Image → List ℕ → Database D disk → Type 0
  IsOpenAt files path InMemory = path ≡ []
  IsOpenAt files path (Disk after) =
      (path ≢ [])
      × (HasCleanDisk (file_state after.value) → (before : _) × IsNew before × IsOpened before × FindsIn files (file_state before) × IsReadyStore file_state before after.value)
  IsOpenAt files path Closed = ⊥

  -- what an end leaves: of a file, both of its files, of which the database alone holds what was
  -- committed last, also after a crash; else nothing
  abbrev pub LeavesFiles : Database D disk → Option (Files D) → Type 0
  LeavesFiles (Disk held) (Some files) = AreClean disk files.log files.db → IsCopied held.value files
  LeavesFiles (Disk held) None = ⊥
  LeavesFiles InMemory left = left ≡ None
  LeavesFiles Closed left = left ≡ None
