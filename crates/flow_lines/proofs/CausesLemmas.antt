-- How the count of faults of a call follows from that of the last call that it made, where those before made none.
use Rattle.std.proofs.Common.{◌≡◌, ℕ, Result, Ok, Err, subst, ◌∙◌, arith}
use Rattle.std.specs.Result.{IsErrAnd}
use Rattle.flow_edges.specs.Faults.{Counted}

-- no call failed
pub counts_none : {Failed : Type 0} (before now : ℕ) → now ≡ before → ¬ Failed → Counted Failed before now
counts_none before now same fine = record { later = omega (arith, same); failed = λ is. absurd (fine is); quiet = λ _. same }

-- the last call didn't fail
pub counts_fine : {Failed Called : Type 0} (before middle now : ℕ) → middle ≡ before → Counted Called middle now → ¬ Called → ¬ Failed → Counted Failed before now
counts_fine before middle now same causes fine unfailed = counts_none before now (causes.quiet fine ∙ same) unfailed

-- the last call failed
pub counts_failed : {Failed Called : Type 0} (before middle now : ℕ) → middle ≡ before → Counted Called middle now → Called → Failed → Counted Failed before now
counts_failed {Failed} before middle now same causes called is =
    subst (λ (n : ℕ). Counted Failed n now) same (record { later = causes.later; failed = λ _. causes.failed called; quiet = λ fine. absurd (fine is) })

-- another error was answered
pub other_error : {A E : Type 0} (result : Result A E) (this other : E) → IsErrAnd result (λ e. e ≡ this) → ¬ (this ≡ other) → ¬ (result ≡ Err other)
other_error (Ok a) this other found differs is = cc
other_error (Err e) this other found differs is = differs cc

-- the error of the last call was passed on
pub counts_passed : {A B E : Type 0} (result : Result A E) (its other : E) (before middle now : ℕ) → middle ≡ before → IsErrAnd result (λ e. e ≡ its)
    → Counted (◌≡◌ {A = Result B E} (Err its) (Err other)) middle now → Counted (result ≡ Err other) before now
counts_passed (Ok a) its other before middle now same passed causes = absurd passed
counts_passed {A} {B} {E} (Err e) its other before middle now same passed causes =
    subst (λ (n : ℕ). Counted (◌≡◌ {A = Result A E} (Err e) (Err other)) n now) same (record { later = causes.later; failed = λ is. causes.failed cc; quiet = λ fine. causes.quiet (λ called. fine cc) })
