use Rattle.http_messages.proofs.MethodLemmas.{other_method}
use Rattle.http_messages.proofs.method.Method.of.Goals as goal

pub returns-in-Err : goal.returns-in-Err
returns-in-Err c =
    other_method c.args.name.now (λ is. let made = c.in-Err.ensures.no_memory_needed is.0 is.1 in absurd (cc made))
