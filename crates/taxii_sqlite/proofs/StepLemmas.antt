-- Steps of a transaction: what they mean, and one after the other.
use Rattle.std.proofs.Common.{◌≡◌, ℕ, ◌+◌, ◌<◌, List, length, take, get_or, Result, Ok, Err, IfOk, ◌∙◌}
use Rattle.std.proofs.lemmas.Result.{on_ok_weaker}
use Rattle.std.specs.Borrow.{MutBor}
use Rattle.sqlite.specs.State.{State, KeepsCommit}
use Rattle.sqlite.specs.Held.{Held}
use Rattle.taxii_sqlite.specs.Statements.{InTurn}
use Rattle.taxii_sqlite.specs.Transactions.{IsStep}
use Rattle.taxii_sqlite.specs.declared.failure.Failure.{Failure}
use Rattle.taxii_sqlite.proofs.InTurnLemmas.{one_more}

keeps_on : (one two three : State) → KeepsCommit one two → KeepsCommit two three → KeepsCommit one three
keeps_on one two three first second = record {
  was_open = λ still. first.was_open (second.was_open still);
  committed = λ still. second.committed still ∙ first.committed (second.was_open still);
}

module _ {S : Type 0} (shown : Held S → State) where
  abbrev Done : (Held S → Held S → Type 0) → MutBor (Held S) → MutBor (Held S) → Type 0
  Done Run before after = IsStep shown Run before after (Ok tt)

  -- what was done is what this means
  pub read_as : (Run Meant : Held S → Held S → Type 0) (before after : MutBor (Held S)) (result : Result (Unit {0}) Failure) → IsStep shown Run before after result
      → (Run before.now after.now → Meant before.now after.now) → IsStep shown Meant before after result
  read_as Run Meant before after result step means = record {
    same_reference = step.same_reference;
    inside = step.inside;
    unended = step.unended;
    runs = λ clean. on_ok_weaker result means (step.runs clean);
  }

  -- two steps are one
  pub both : (First Second : Held S → Held S → Type 0) (before between after : MutBor (Held S)) → Done First before between → Done Second between after
      → Done (λ start end. (mid : Held S) × First start mid × Second mid end) before after
  both First Second before between after one two = record {
    same_reference = two.same_reference ∙ one.same_reference;
    inside = λ clean.
        let later = two.inside clean in
        let earlier = one.inside later.0 in
        (earlier.0, keeps_on (shown before.now) (shown between.now) (shown after.now) earlier.1 later.1);
    unended = λ clean. two.unended clean ∙ one.unended (two.inside clean).0;
    runs = λ clean. (between.now, one.runs (two.inside clean).0, two.runs clean);
  }

  -- one more step of those of a list
  pub one_more_step : {X : Type 0} (step : X → Held S → Held S → Type 0) (xs : List X) (i : ℕ) (default x : X) (before between after : MutBor (Held S)) → i < length xs
      → x ≡ get_or xs i default → Done (InTurn step (take i xs)) before between → Done (step x) between after → Done (InTurn step (take (i + 1) xs)) before after
  one_more_step step xs i default x before between after within its done last =
      read_as _ (InTurn step (take (i + 1) xs)) before after (Ok tt) (both (InTurn step (take i xs)) (step x) before between after done last)
      (λ ran. one_more step xs i default x before.now ran.0 after.now within its ran.1 ran.2)

-- what is answered under a premise, where it is answered
pub where_ok : {X E Premise : Type 0} (Answers : X → Type 0) (result : Result X E) → (Premise → IfOk result Answers) → IfOk result (λ value. Premise → Answers value)
where_ok Answers (Ok value) answers = answers
where_ok Answers (Err error) answers = tt
