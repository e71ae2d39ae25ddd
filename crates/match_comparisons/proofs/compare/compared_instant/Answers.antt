use Rattle.serde_json.specs.Find.{as_str}
use Rattle.stix_json.specs.DataOf.{data_of}
use Rattle.match_comparisons.proofs.CompareLemmas.{text_compares}
use Rattle.match_comparisons.proofs.compare.compared_instant.Goals as goal

pub returns-in-Some : goal.returns-in-Some
returns-in-Some c = λ last.
    text_compares (as_str (data_of c.args.value.now)) c.in-Some.text.now c.args.instant c.compared_time.result c.in-Some.ensures c.compared_time.ensures
