-- What holds when the program has ended, by its status.
use Rattle.std.specs.Prelude.{◌≡◌, ◌⊎◌, ℕ, ◌≤◌, List, [], ◌∷◌, ◌++◌}
use Rattle.flow_edges.specs.Faults.{HasIncreased}
use Rattle.taxii_client.specs.Environment.{ClientLinkView, LinkFaultsIncreased}
use Rattle.taxii_client.specs.Pulls.{Lent, PassThroughDial}
use Rattle.taxii_client.specs.declared.target.Target.{Target}
use Rattle.command_pull.specs.declared.ending.PullEnd.{PullEnd}
use Rattle.command_pull.specs.Pulling.{PullEnvironment, StopsBehind}
use Rattle.command_pull.specs.Endings.{AskForPullWhere, AreAllPages, EndsPullArguments, pull_status, end_reason}

-- the program ended with one of the endings, with its exit status and its message
pub record Ends {L : Type 0} (view : L → ClientLinkView) (arguments : List (List ℕ)) (before now : PullEnvironment L) (status : ℕ) (Writes : List ℕ → Type 0) : Type 0 where
  pub end : PullEnd
  pub status_is : status ≡ pull_status end.ending
  pub stands : EndsPullArguments view arguments before now end
  pub reason : Writes (end_reason end)

-- all pages of the collection came, and their valid entries were written
abbrev pub PullsAll : {L : Type 0} → (L → ClientLinkView) → List (List ℕ) → PullEnvironment L → PullEnvironment L → Type 0
PullsAll view arguments before now = AskForPullWhere arguments (λ target. (skipped : ℕ) × StopsBehind view target before now AreAllPages skipped)

-- the link that was dialled last, and returned, counted a fault
pub record LosesLink {L : Type 0} (view : L → ClientLinkView) (target : Target) (before now : PullEnvironment L) : Type 0 where
  pub earlier : List (Lent L)
  pub last : Lent L
  pub through : PassThroughDial target (earlier ++ last ∷ []) before.dial.observable now.dial.observable
  pub rose : LinkFaultsIncreased (view last.given) (view last.finished)

-- the dial's count never decreases; status 5 occurs only if it increased, or if the last link that
-- the run dialled counted a fault; with any other status it stays
pub record CountsDial {L : Type 0} (view : L → ClientLinkView) (arguments : List (List ℕ)) (before now : PullEnvironment L) (status : ℕ) : Type 0 where
  pub later : before.dial.faults ≤ now.dial.faults
  pub failed : status ≡ 5 → HasIncreased before.dial.faults now.dial.faults ⊎ AskForPullWhere arguments (λ target. LosesLink view target before now)
  pub quiet : ¬ (status ≡ 5) → now.dial.faults ≡ before.dial.faults
