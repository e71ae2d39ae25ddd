use Rattle.std.proofs.Common.{◌≡◌, arith, rules, Err, sym, ◌∙◌, ap}
use Rattle.match_pruning.specs.declared.stop.Stop.TheVariants as stop
use Rattle.match_pruning.specs.declared.partial_match.PartialMatch.{PartialMatch}
use Rattle.match_pruning.specs.inner.Retains.{retains}
use Rattle.match_pruning.proofs.NeededLemmas.{kept_more}
use Rattle.match_stream.proofs.budget.Budget.take_admitted.Goals as goal

pub returns-in_err-take-clause-over_limit : goal.returns-in_err-take-clause-over_limit
returns-in_err-take-clause-over_limit c = λ e.
    let failed : c.take.result ≡ Err stop.OverLimit = search rules in
    let none = c.take.ensures.over_limit failed in
    let here = ap (λ (p : PartialMatch). retains c.args.window.now p.earliest c.args.now) (sym c.partial_match-item.is) ∙ sym c.is_retained.ensures ∙ c.if-is_retained.true in
    let more = kept_more c.args.window.now c.args.now c.args.new.now c.loop-partial_match.partial_match-index c.partial_match-item.result c.loop-partial_match-test.true here in
    omega (arith, none, more, c.loop-partial_match.invariant)
