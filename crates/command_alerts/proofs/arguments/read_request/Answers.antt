use Rattle.std.proofs.Common.{ℕ, List, refl, subst, sym}
use Rattle.command_line.specs.CommandLines.{IsNumberIn}
use Rattle.command_alerts.specs.declared.arguments.TheConstants.{MAX_N, MAX_SECONDS}
use Rattle.command_alerts.proofs.ArgumentsLemmas.{three, no_n, no_seconds, asks}
use Rattle.command_alerts.proofs.arguments.read_request.Goals as goal

pub returns-in_err-n-clause-none : goal.returns-in_err-n-clause-none
returns-in_err-n-clause-none c =
    let a = c.pattern-item.result in
    let b = c.n-item.result in
    let d = c.seconds-item.result in
    let are = three c.args.arguments.now a b d c.in-len3.len_at_least c.in-len3.len_below c.pattern-item.is c.n-item.is c.seconds-item.is in
    rw c.from_residual.ensures (no_n c.args.arguments.now a b d are (λ n is.
    let found = (c.in_err-n.ensures n).1 (subst (λ (text : List ℕ). IsNumberIn 1 MAX_N text n) (sym c.as_str.ensures.value) is) in cc))

pub returns-in_err-seconds-clause-none : goal.returns-in_err-seconds-clause-none
returns-in_err-seconds-clause-none c =
    let a = c.pattern-item.result in
    let b = c.n-item.result in
    let d = c.seconds-item.result in
    let are = three c.args.arguments.now a b d c.in-len3.len_at_least c.in-len3.len_below c.pattern-item.is c.n-item.is c.seconds-item.is in
    rw c.from_residual-in_err-seconds.ensures (no_seconds c.args.arguments.now a b d are (λ n is.
    let found = (c.in_err-seconds.ensures n).1 (subst (λ (text : List ℕ). IsNumberIn 1 MAX_SECONDS text n) (sym c.as_str-2.ensures.value) is) in cc))

pub returns-clause-some : goal.returns-clause-some
returns-clause-some c =
    let a = c.pattern-item.result in
    let b = c.n-item.result in
    let d = c.seconds-item.result in
    let are = three c.args.arguments.now a b d c.in-len3.len_at_least c.in-len3.len_below c.pattern-item.is c.n-item.is c.seconds-item.is in
    let n = (c.in_ok-n.ensures c.in_ok-n.n).0 refl in
    let seconds = (c.in_ok-seconds.ensures c.in_ok-seconds.seconds).0 refl in
    asks c.args.arguments.now a b d are (record { pattern = c.as_str-3.result.now; n = c.in_ok-n.n; seconds = c.in_ok-seconds.seconds }) c.as_str-3.ensures.value
    (subst (λ (text : List ℕ). IsNumberIn 1 MAX_N text c.in_ok-n.n) c.as_str.ensures.value n)
    (subst (λ (text : List ℕ). IsNumberIn 1 MAX_SECONDS text c.in_ok-seconds.seconds) c.as_str-2.ensures.value seconds)

pub returns-clause-range : goal.returns-clause-range
returns-clause-range c =
    let n = (c.in_ok-n.ensures c.in_ok-n.n).0 refl in
    let seconds = (c.in_ok-seconds.ensures c.in_ok-seconds.seconds).0 refl in
    (n.at_least, n.at_most, seconds.at_least)
