use Rattle.std.proofs.Common.{sym, ap, ◌∙◌}
use Rattle.pattern_reader.specs.declared.value_refusal.ValueRefusal.TheVariants.{NoCommonRoot}
use Rattle.pattern_reader.specs.Refusals.{IsRootless}
use Rattle.pattern_reader.proofs.OutcomeLemmas.{only_refusal}
use Rattle.pattern_reader.proofs.analysis.rooted.Goals as goal

pub returns-then-is_none : goal.returns-then-is_none
returns-then-is_none c = λ text p q e h. record {
  this = tt;
  earliest = only_refusal (IsRootless text p q) (NoCommonRoot c.args.at) (record { rootless = λ root x. c.is_none.ensures.none c.if-is_none.true root ((h root).1 x); here = ap NoCommonRoot e }) (λ r x. x.here ∙ ap NoCommonRoot (sym e));
}

pub returns : goal.returns
returns c = λ text p q e h.
    let root = c.is_none.ensures.some c.if-is_none.false in
    let both = (h root.0).0 root.1 in
    record { this = (root.0, both); earliest = λ r x. x.rootless root.0 both }
