use Rattle.flow_lines.specs.Lines.{lines_of}
use Rattle.hunt_feed.proofs.OneReadingLemmas.{one_reads}
use Rattle.hunt_feed.proofs.laws.one_reading.Goals as goal

pub returns : goal.returns
returns c = λ bytes objects others close other.
    one_reads (record {
      same_json = c.one_json.ensures.value;
      json_refusal = c.one_json.ensures.refusal;
      no_json = c.one_json.ensures.either;
      breaks = c.one_list.ensures;
    }) (lines_of bytes) objects others close other
