use Rattle.std.proofs.Common.{map, not, ap, ◌∙◌, rules, nat_le}
use Rattle.std.proofs.lemmas.Fn.{filter_same}
use Rattle.taxii_index.specs.declared.hints.Hint.{Hint}
use Rattle.taxii_index.specs.Hints.{forgotten}
use Rattle.taxii_index.proofs.hints.Hints.forget_from.Goals as goal

pub returns : goal.returns
returns c =
    let test = λ (hint : Hint). not (nat_le c.args.date hint.date) in
    c.forget_rows_from.ensures ∙ ap (map (forgotten (λ other. nat_le c.args.date other))) (filter_same _ test _ (λ x b f k. search rules) _ _ c.retain.ensures.filtered)
