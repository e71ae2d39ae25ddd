use Rattle.std.proofs.Common.{lit<, rules, tests, ◌⊎◌, List, ℕ}
use Rattle.std.proofs.lemmas.Iterator.{cases_from_any}
use Rattle.std.proofs.lemmas.Iterator.Splits.{YieldsList-from_str_split}
use Rattle.std.specs.List.{slice_split}
use Rattle.taxii_routes.specs.MediaType.{IsTaxii, IsWildcard}
use Rattle.taxii_routes.specs.Value.{is_comma}
use Rattle.taxii_routes.proofs.AnswerLemmas.{any_answers}
use Rattle.taxii_routes.proofs.media_type.accepts.Goals as goal

abbrev Taken : List ℕ → Type 0
Taken member = IsTaxii member ⊎ IsWildcard member

pub returns : goal.returns
returns c =
    let chain = YieldsList-from_str_split 44 c.args.header.now (lit< tt) c.split.ensures.text c.split.ensures.has_more c.split.ensures.pattern in
    any_answers Taken (slice_split is_comma c.args.header.now) c.any.result
    (cases_from_any _ _ _ Taken (λ t. ¬ Taken t) c.any.ensures.ran chain (λ x q k. search (rules, tests)) (λ x q k. search (rules, tests)))
