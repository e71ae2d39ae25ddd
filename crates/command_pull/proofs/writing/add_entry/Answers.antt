use Rattle.taxii_client.specs.Telling.{line_of}
use Rattle.command_pull.proofs.WritingLemmas.{fails_so}
use Rattle.command_pull.proofs.writing.add_entry.Goals as goal

pub returns-in_err-line-clause-err : goal.returns-in_err-line-clause-err
returns-in_err-line-clause-err g c before first way =
    fails_so c.from_residual.result (c.parts_are_buffered.ensures.prefix before c.args.pending.now (line_of c.args.entry.now) first _ way)
