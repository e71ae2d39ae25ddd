use Rattle.std.proofs.Common.{lit<, rules, tests}
use Rattle.std.proofs.lemmas.Iterator.{cases_from_all}
use Rattle.std.proofs.lemmas.Iterator.Splits.{YieldsList-from_str_split}
use Rattle.std.specs.List.{slice_split}
use Rattle.taxii_routes.specs.MediaType.{is_semicolon, NamesNoOtherVersion}
use Rattle.taxii_routes.proofs.AnswerLemmas.{all_answers}
use Rattle.taxii_routes.proofs.media_type.names_no_other_version.Goals as goal

pub returns : goal.returns
returns c =
    let chain = YieldsList-from_str_split 59 c.args.parameters.now (lit< tt) c.split.ensures.text c.split.ensures.has_more c.split.ensures.pattern in
    all_answers NamesNoOtherVersion (slice_split is_semicolon c.args.parameters.now) c.all.result
    (cases_from_all _ _ _ NamesNoOtherVersion (λ t. ¬ NamesNoOtherVersion t) c.all.ensures.ran chain (λ x q k. search (rules, tests)) (λ x q k. search (rules, tests)))
