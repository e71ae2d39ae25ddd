use Rattle.match_input.proofs.SomeReadingLemmas.{some_reading}
use Rattle.match_input.proofs.laws.some_reading.Goals as goal

pub returns : goal.returns
returns c = some_reading (record {
  json = c.value_or_refusal.ensures;
  bundle = c.bundle_or_refusal.ensures;
  embedding = c.first_embedding_or_none.ensures;
  observations = c.some_observations.ensures;
})
