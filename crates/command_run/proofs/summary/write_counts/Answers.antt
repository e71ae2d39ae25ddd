use Rattle.command_run.proofs.summary.write_counts.Goals as goal

pub returns-clause-text : goal.returns-clause-text
returns-clause-text g c = rw c.as_bytes.ensures.value at (rw c.as_bytes-2.ensures.value at c.write_all_vectored.ensures.text)

pub returns-clause-part : goal.returns-clause-part
returns-clause-part g c = rw c.as_bytes.ensures.value at (rw c.as_bytes-2.ensures.value at c.write_all_vectored.ensures.part)
