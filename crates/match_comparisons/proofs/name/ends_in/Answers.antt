use Rattle.std.proofs.Common.{rules, ◌≡◌, nat_eq}
use Rattle.std.specs.List.{ends_with}
use Rattle.match_comparisons.proofs.EndsInLemmas.{ends_exactly}
use Rattle.match_comparisons.proofs.name.ends_in.Goals as goal

pub returns : goal.returns
returns c =
    let answer : c.ends_with.result ≡ ends_with nat_eq c.args.name.now c.args.suffix.now = search rules in
    ends_exactly c.args.suffix.now c.args.name.now c.ends_with.result answer
