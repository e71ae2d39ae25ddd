use Rattle.command_mirror.proofs.ArgumentLemmas.{timestamp_exactly}
use Rattle.command_mirror.proofs.arguments.is_timestamp.Goals as goal

pub returns : goal.returns
returns c = timestamp_exactly c.args.text.now c.read.result c.is_ok.result c.read.ensures.ok c.read.ensures.only c.is_ok.ensures.value
