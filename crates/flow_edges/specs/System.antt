-- Adapters of the operating system's readers and writers: their values in contracts.
use Rattle.std.specs.Prelude.{ℕ, List, Option}

-- the bytes left in the reader, if they are observable, and the count of faults
pub record ReaderState : Type 0 where
  pub remaining : Option (List ℕ)
  pub faults : ℕ

-- the contents of the writer, if they are observable, and the count of faults
pub record WriterState : Type 0 where
  pub contents : Option (List ℕ)
  pub faults : ℕ
