-- A transaction is all or nothing. What is said of a file holds as long as its disk has returned
-- what was written.
use Rattle.std.specs.Prelude.{◌≡◌, IsTrue, Result, OnOk}
use Rattle.std.specs.Borrow.{MutBor}
use Rattle.sqlite.specs.State.{State, HasCleanDisk, KeepsCommit}
use Rattle.sqlite.specs.Held.{Held}
use Rattle.taxii_sqlite.specs.declared.failure.Failure.{Failure}

-- all that the connection holds is committed
abbrev pub IsSettled : State → Type 0
IsSettled now = IsTrue now.is_open × (now.now ≡ now.committed)

-- contents and last commit of the connection are unchanged, unless a disk failure has closed it
abbrev pub IsUntouched : State → State → Type 0
IsUntouched before after = IsTrue after.is_open → (after.now ≡ before.now) × (after.committed ≡ before.committed)

-- a step inside a transaction commits nothing
abbrev pub ContinuesTransaction : State → State → Type 0
ContinuesTransaction before after = HasCleanDisk after → HasCleanDisk before × KeepsCommit before after

-- and does not end it
abbrev pub StaysUnended : State → State → Type 0
StaysUnended before after = HasCleanDisk after → after.in_transaction ≡ before.in_transaction

-- a step of a transaction, whose connection was `before` and is `after`: it is the same one still,
-- nothing was committed, and where the step succeeds it was this, and hasn't ended the transaction;
-- `shown` is what a connection shows
pub record IsStep {S : Type 0} (shown : Held S → State) (Run : Held S → Held S → Type 0) (before after : MutBor (Held S)) (result : Result (Unit {0}) Failure) : Type 0 where
  pub same_reference : after.ghost_name ≡ before.ghost_name
  pub inside : ContinuesTransaction (shown before.now) (shown after.now)
  pub unended : OnOk result (StaysUnended (shown before.now) (shown after.now))
  pub runs : HasCleanDisk (shown after.now) → OnOk result (Run before.now after.now)
