use Rattle.pattern_reader.proofs.OneMeaningLemmas.{one_meant}
use Rattle.pattern_reader.proofs.meaning_laws.one_meaning.Goals as goal

pub returns : goal.returns
returns c = λ text tree first second x y. one_meant c.one_meaning.ensures.integer c.one_meaning.ensures.string c.one_meaning.ensures.hex c.one_meaning.ensures.binary c.one_meaning.ensures.timestamp c.one_block.ensures text x y
