use Rattle.command_reasons.proofs.over_limit.write_numbers.Goals as goal

pub returns-clause-text : goal.returns-clause-text
returns-clause-text g c = rw c.as_bytes.ensures.value at (rw c.as_bytes-2.ensures.value at c.write_all_vectored.ensures.text)
