use Rattle.std.proofs.Common.{None}
use Rattle.match_input.specs.Reading.{lines_in}
use Rattle.match_input.proofs.OneReadingLemmas.{one_reads}
use Rattle.match_input.proofs.laws.one_reading.Goals as goal

pub returns : goal.returns
returns c = λ mode bytes bundles others end other.
    one_reads (record {
      same_json = c.one_json.ensures.value;
      json_refusal = c.one_json.ensures.refusal;
      no_json = c.one_json.ensures.either;
      bundle = c.one_reading.ensures.bundle;
      refusal = c.one_reading.ensures.refusal;
      either = c.one_reading.ensures.either;
      list = c.one_list_of_observations.ensures;
    }) None 1 (lines_in mode bytes) bundles others end other
