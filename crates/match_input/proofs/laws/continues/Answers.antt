use Rattle.match_input.proofs.OneReadingLemmas.{continues}
use Rattle.match_input.proofs.laws.continues.Goals as goal

pub returns : goal.returns
returns c = λ last next number bytes later objects observations all end.
    continues (record {
      same_json = c.one_json.ensures.value;
      json_refusal = c.one_json.ensures.refusal;
      no_json = c.one_json.ensures.either;
      bundle = c.one_reading.ensures.bundle;
      refusal = c.one_reading.ensures.refusal;
      either = c.one_reading.ensures.either;
      list = c.one_list_of_observations.ensures;
    }) last next number bytes later objects observations all end
