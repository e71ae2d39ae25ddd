-- What is answered on a clean disk, where it is answered.
use Rattle.std.proofs.Common.{IfOk, subst}
use Rattle.sqlite.specs.State.{HasCleanDisk}
use Rattle.sqlite.specs.Files.{file_state}
use Rattle.taxii_sqlite.specs.Statements.{AnswersWatermark}
use Rattle.taxii_sqlite.proofs.StepLemmas.{where_ok}
use Rattle.taxii_sqlite.proofs.connection.Database.read_watermark.Goals as goal

pub returns-in-Disk-clause-finds : goal.returns-in-Disk-clause-finds
returns-in-Disk-clause-finds g c =
    let after = c.read_watermark.new.connection in
    let asks = subst (λ before. HasCleanDisk (file_state after) → IfOk c.read_watermark.result (AnswersWatermark (file_state before) (file_state after))) c.deref_mut.ensures.value c.read_watermark.ensures.asks in
    rw c.in-Disk.is (where_ok (AnswersWatermark (file_state c.in-Disk.connection.value) (file_state after)) c.read_watermark.result asks)
