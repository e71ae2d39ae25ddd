use Rattle.std.proofs.Common.{refl, None}
use Rattle.std.specs.Fmt.{digits}
use Rattle.taxii_exchange.specs.Answers.{head_text}
use Rattle.taxii_exchange.proofs.writing.write_no_memory.Goals as goal

pub returns-clause-text : goal.returns-clause-text
unfolding head_text digits
returns-clause-text g c = record {
  text = _;
  text_is = record { first = None; last = None; first_is = tt; last_is = tt; text_is = refl };
  writes = c.write_whole.ensures.text;
  part = c.write_whole.ensures.part;
}
