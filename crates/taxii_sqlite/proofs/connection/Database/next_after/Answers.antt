-- What is answered on a clean disk, where it is answered.
use Rattle.std.proofs.Common.{IfOk, subst}
use Rattle.sqlite.specs.State.{HasCleanDisk}
use Rattle.sqlite.specs.Files.{file_state}
use Rattle.taxii_sqlite.specs.Statements.{AnswersNextRow}
use Rattle.taxii_sqlite.proofs.StepLemmas.{where_ok}
use Rattle.taxii_sqlite.proofs.connection.Database.next_after.Goals as goal

pub returns-in-Disk-clause-finds : goal.returns-in-Disk-clause-finds
returns-in-Disk-clause-finds g c =
    let after = c.next_after.new.connection in
    let date = c.args.date in
    let asks = subst (λ before. HasCleanDisk (file_state after) → IfOk c.next_after.result (AnswersNextRow date (file_state before) (file_state after))) c.deref_mut.ensures.value c.next_after.ensures.asks in
    rw c.in-Disk.is (where_ok (AnswersNextRow date (file_state c.in-Disk.connection.value) (file_state after)) c.next_after.result asks)
