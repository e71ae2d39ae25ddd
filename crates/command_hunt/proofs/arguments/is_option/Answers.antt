use Rattle.std.proofs.Common.{codes, sym, ◌∙◌}
use Rattle.std.proofs.lemmas.Slice.Eq.{bytes_eq-Decides}
use Rattle.command_hunt.proofs.ArgumentsLemmas.{named-so}
use Rattle.command_hunt.proofs.arguments.is_option.Goals as goal

pub returns-then-eq : goal.returns-then-eq
returns-then-eq c =
    let named = named-so c.args.name.now c.is_empty.result c.is_empty.ensures in
    let option_is = (bytes_eq-Decides c.args.option.now (codes "--indicators")).0 (sym c.eq.ensures ∙ c.if-eq.true) in
    ((λ yes. (option_is, named.0 yes)), (λ both. named.1 both.1))
