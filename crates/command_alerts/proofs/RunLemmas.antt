-- What the status of a run says of its arguments and its streams.
use Rattle.std.proofs.Common.{◌≡◌, ◌≢◌, ◌⊎◌, inl, inr, ℕ, List, [], ◌∷◌, refl, sym, ap, subst, ◌∙◌, arith}
use Rattle.flow_edges.specs.Streams.{Streams}
use Rattle.pattern_types.specs.declared.pattern.Pattern.{Pattern}
use Rattle.pattern_types.specs.PlainPattern.{plain_pattern}
use Rattle.pattern_reader.specs.Read.{IsReadAs}
use Rattle.match_run.specs.declared.watch_end.WatchEnd.TheVariants as end
use Rattle.command_alerts.specs.declared.ending.AlertEnding.{AlertEnding}
use Rattle.command_alerts.specs.declared.ending.AlertEnding.TheVariants.{Usage, PatternRefused, NotLeaf, Ended, NoMemory}
use Rattle.command_alerts.specs.Tasks.{AlertTask, AskForAlerts, IsReadAsNoLeaf}
use Rattle.command_alerts.specs.Endings.{EndsAlertTask, EndsAlerts, alert_status}
use Rattle.command_alerts.specs.Runs.{ReportsRefusals}

-- the law that a text is read as one pattern
abbrev pub OnePattern : Type 0
OnePattern = (text : List ℕ) (p q : Pattern) → IsReadAs text p → IsReadAs text q → plain_pattern p ≡ plain_pattern q

-- arguments ask for the alerts of one text
one-text : (arguments : List (List ℕ)) (task other : AlertTask) → AskForAlerts arguments task → AskForAlerts arguments other → task.pattern ≡ other.pattern
one-text arguments task other asked same =
    let is : task.pattern ∷ asked.n_text ∷ asked.seconds_text ∷ [] ≡ other.pattern ∷ same.n_text ∷ same.seconds_text ∷ [] = sym asked.arguments_are ∙ same.arguments_are in
    cc

module _ (arguments : List (List ℕ)) (before after : Streams) where
  -- the statuses of what is asked for
  usage-task : (task : AlertTask) (ending : AlertEnding) → EndsAlertTask before after ending task → alert_status ending ≢ 2
  usage-task task Usage ends is = ends
  usage-task task (PatternRefused refusal) ends is = omega arith
  usage-task task NotLeaf ends is = omega arith
  usage-task task (Ended end.Done) ends is = omega arith
  usage-task task (Ended (end.Input line why)) ends is = omega arith
  usage-task task (Ended end.ReadFault) ends is = omega arith
  usage-task task (Ended end.WriteFault) ends is = omega arith
  usage-task task (Ended (end.Stopped never)) ends is = ends.answers
  usage-task task (Ended end.NoMemory) ends is = omega arith
  usage-task task NoMemory ends is = omega arith

  refused-task : OnePattern → (task : AlertTask) (ending : AlertEnding) → EndsAlertTask before after ending task → alert_status ending ≡ 3 → IsReadAsNoLeaf task.pattern
  refused-task one task Usage ends is = absurd ends
  refused-task one task (PatternRefused refusal) ends is = λ p read. ends.0.unread p read.0
  refused-task one task NotLeaf ends is = λ p read.
      let more = ends.0 in
      more.2 (read.1.0, one task.pattern more.0 p more.1 read.0 ∙ read.1.1)
  refused-task one task (Ended end.Done) ends is = absurd (omega arith)
  refused-task one task (Ended (end.Input line why)) ends is = absurd (omega arith)
  refused-task one task (Ended end.ReadFault) ends is = absurd (omega arith)
  refused-task one task (Ended end.WriteFault) ends is = absurd (omega arith)
  refused-task one task (Ended (end.Stopped never)) ends is = absurd ends.answers
  refused-task one task (Ended end.NoMemory) ends is = absurd (omega arith)
  refused-task one task NoMemory ends is = absurd (omega arith)

  no_leaf-task : (task : AlertTask) (ending : AlertEnding) → EndsAlertTask before after ending task → IsReadAsNoLeaf task.pattern
      → (alert_status ending ≡ 3) ⊎ (alert_status ending ≡ 1)
  no_leaf-task task Usage ends none = absurd ends
  no_leaf-task task (PatternRefused refusal) ends none = inl refl
  no_leaf-task task NotLeaf ends none = inl refl
  no_leaf-task task (Ended ended) ends none = absurd (none ends.pattern ends.read)
  no_leaf-task task NoMemory ends none = inr refl

  -- and of the arguments
  module _ (ending : AlertEnding) where
    pub refusals-run : OnePattern → EndsAlerts arguments before after ending → ReportsRefusals arguments (alert_status ending)
    refusals-run one (inl (nothing, usage, untouched)) = record {
      usage = ((λ is. nothing), (λ none. ap alert_status usage));
      pattern = λ is. let two = ap alert_status usage in absurd (omega arith);
      refused = λ refuses. absurd (nothing refuses.task refuses.asked);
    }
    refusals-run one (inr asks) = record {
      usage = ((λ is. absurd (usage-task asks.task ending asks.holds is)), (λ none. absurd (none asks.task asks.asked)));
      pattern = λ is. record { task = asks.task; asked = asks.asked; holds = refused-task one asks.task ending asks.holds is };
      refused = λ refuses. no_leaf-task asks.task ending asks.holds
          (subst IsReadAsNoLeaf (one-text arguments refuses.task asks.task refuses.asked asks.asked) refuses.holds);
    }
