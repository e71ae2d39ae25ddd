use Rattle.std.proofs.Common.{map, not, ap, ◌∙◌, rules}
use Rattle.std.proofs.lemmas.Fn.{filter_same}
use Rattle.taxii_rows.specs.Keeper.{is_date_in}
use Rattle.taxii_index.specs.declared.hints.Hint.{Hint}
use Rattle.taxii_index.specs.Hints.{forgotten}
use Rattle.taxii_index.proofs.hints.Hints.forget.Goals as goal

pub returns : goal.returns
returns c =
    let test = λ (hint : Hint). not (is_date_in c.args.dates.now hint.date) in
    c.forget_rows.ensures ∙ ap (map (forgotten (is_date_in c.args.dates.now))) (filter_same _ test _ (λ x b f k. search rules) _ _ c.retain.ensures.filtered)
