use Rattle.match_bindings.proofs.IsBindingLemmas.{binding_to, binding_from}
use Rattle.match_bindings.proofs.laws.test_is_the_rule.Goals as goal

pub returns : goal.returns
returns c o p x = (binding_to o p x, binding_from o p x)
