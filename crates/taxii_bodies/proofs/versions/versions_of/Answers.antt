use Rattle.taxii_bodies.specs.Times.{IsWritable}
use Rattle.taxii_bodies.specs.Versions.{IsVersionOf}
use Rattle.taxii_bodies.proofs.PageLemmas.{row_at, next_value}
use Rattle.taxii_bodies.proofs.versions.versions_of.Goals as goal

pub version_of-requires : goal.version_of-requires
version_of-requires c = row_at IsWritable c.args.rows.now c.loop-row.row-index c.row-item.result c.requires c.loop-row-test.true c.row-item.is

pub loop-row-preserved : goal.loop-row-preserved
loop-row-preserved c = rw c.in_ok-push.ensures.ok
    (next_value IsVersionOf c.args.rows.now c.loop-row.row-index c.row-item.result c.loop-row.versions c.in_ok-version_of.field-0
    c.loop-row-test.true c.row-item.is c.loop-row.invariant c.in_ok-version_of.ensures)
