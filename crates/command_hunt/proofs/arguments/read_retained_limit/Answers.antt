use Rattle.command_hunt.proofs.ArgumentsLemmas.{one-argument, retained_limit-some, retained_limit-none}
use Rattle.command_hunt.proofs.arguments.read_retained_limit.Goals as goal

pub returns-in-len1-clause-some : goal.returns-in-len1-clause-some
returns-in-len1-clause-some c =
    retained_limit-some _ _ c.as_str.result.now (one-argument c.args.arguments.now c.retained_limit-item.result c.in-len1.len_at_least c.in-len1.len_below c.retained_limit-item.is) c.as_str.ensures.value
    c.number_in.result c.number_in.ensures

pub returns-in-len1-clause-none : goal.returns-in-len1-clause-none
returns-in-len1-clause-none c =
    retained_limit-none _ _ c.as_str.result.now (one-argument c.args.arguments.now c.retained_limit-item.result c.in-len1.len_at_least c.in-len1.len_below c.retained_limit-item.is) c.as_str.ensures.value
    c.number_in.result c.number_in.ensures
