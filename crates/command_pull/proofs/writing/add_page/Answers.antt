use Rattle.command_pull.proofs.WritingLemmas.{cut-of-page, fails_so}
use Rattle.command_pull.proofs.writing.add_page.Goals as goal

pub returns-in_err-add_entry-clause-err : goal.returns-in_err-add_entry-clause-err
returns-in_err-add_entry-clause-err g c =
    fails_so c.from_residual.result (cut-of-page c.args.entries.now c.loop-entry.entry-index c.entry-item.result _ _ c.loop-entry-test.true c.entry-item.is
    (c.in_err-add_entry.ensures.err _ _ c.loop-entry.invariant.way))
