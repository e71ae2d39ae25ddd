mod InTurnLemmas
mod StepLemmas
mod CommitLemmas
mod ClosedByDiskLemmas
