use Rattle.taxii_bodies.specs.Times.{IsWritable}
use Rattle.taxii_bodies.specs.Manifest.{IsRecordOf}
use Rattle.taxii_bodies.proofs.PageLemmas.{row_at, next_value}
use Rattle.taxii_bodies.proofs.manifest.records_of.Goals as goal

pub record_of-requires : goal.record_of-requires
record_of-requires c = row_at IsWritable c.args.rows.now c.loop-row.row-index c.row-item.result c.requires c.loop-row-test.true c.row-item.is

pub loop-row-preserved : goal.loop-row-preserved
loop-row-preserved c = rw c.in_ok-push.ensures.ok
    (next_value IsRecordOf c.args.rows.now c.loop-row.row-index c.row-item.result c.loop-row.records c.in_ok-record_of.field-0
    c.loop-row-test.true c.row-item.is c.loop-row.invariant c.in_ok-record_of.ensures)
