use Rattle.match_run.proofs.PendingLemmas.{way-line-written, way-line-cut}
use Rattle.match_run.proofs.lines.add_line.Goals as goal

pub returns-clause-ok : goal.returns-clause-ok
returns-clause-ok g c text first way = way-line-written text _ _ _ first _ _ way c.in_ok-push_line.ensures _ _ c.write_pending.ensures.ok

pub returns-clause-err : goal.returns-clause-err
returns-clause-err g c text first way = way-line-cut text _ _ _ first _ _ way c.in_ok-push_line.ensures _ c.write_pending.ensures.err
