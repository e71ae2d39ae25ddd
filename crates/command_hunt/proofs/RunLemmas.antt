-- What the status of a run says of its arguments, its file and its streams, and whose count of faults rose.
use Rattle.std.proofs.Common.{◌≡◌, ◌≢◌, ◌⊎◌, ◌↔◌, inl, inr, ℕ, List, Option, refl, ap, arith}
use Rattle.flow_edges.specs.Streams.{Streams}
use Rattle.match_input.specs.Reading.{Whole, Refused}
use Rattle.match_run.specs.declared.watch_end.WatchEnd.TheVariants as end
use Rattle.hunt_feed.specs.declared.end.FeedEnd.TheVariants as feed
use Rattle.command_hunt.specs.declared.ending.HuntEnding.{HuntEnding}
use Rattle.command_hunt.specs.declared.ending.HuntEnding.TheVariants.{Usage, Unfed, Ended}
use Rattle.command_hunt.specs.Tasks.{HuntTask, AskForNoHunt}
use Rattle.command_hunt.specs.Endings.{AskForHuntWhere, EndsHuntTask, EndsHunt, hunt_status}
use Rattle.command_hunt.specs.Runs.{HuntsOrRefuses}

module _ (arguments : List (List ℕ)) (contents : List ℕ → Option (List ℕ)) (before after : Streams) where
  -- of what is asked for
  module _ (task : HuntTask) where
    pub usage-task : (ending : HuntEnding) → EndsHuntTask contents before after ending task → hunt_status ending ≢ 2
    usage-task Usage ends is = ends
    usage-task (Unfed (feed.Refused line why)) ends is = omega arith
    usage-task (Unfed feed.Fault) ends is = omega arith
    usage-task (Unfed feed.NoMemory) ends is = omega arith
    usage-task (Ended end.Done) ends is = omega arith
    usage-task (Ended (end.Input line why)) ends is = omega arith
    usage-task (Ended end.ReadFault) ends is = omega arith
    usage-task (Ended end.WriteFault) ends is = omega arith
    usage-task (Ended (end.Stopped why)) ends is = omega arith
    usage-task (Ended end.NoMemory) ends is = omega arith

    reported-task : (ending : HuntEnding) → EndsHuntTask contents before after ending task → (hunt_status ending ≡ 0) ⊎ (hunt_status ending ≡ 4)
        → HuntsOrRefuses contents before after (hunt_status ending) task
    reported-task Usage ends is = absurd ends
    reported-task (Unfed (feed.Refused line why)) ends is = inr (record {
      line = line;
      why = why;
      refused = ends.0;
      status_is = refl;
      untouched = ends.1;
    })
    reported-task (Unfed feed.Fault) ends (inl is) = absurd (omega arith)
    reported-task (Unfed feed.Fault) ends (inr is) = absurd (omega arith)
    reported-task (Unfed feed.NoMemory) ends (inl is) = absurd (omega arith)
    reported-task (Unfed feed.NoMemory) ends (inr is) = absurd (omega arith)
    reported-task (Ended end.Done) (file, fed, ends) is = inl (record {
      file = file;
      fed = fed;
      bundles = ends.bundles;
      end = Whole;
      reading = ends.reading;
      end_is = refl;
      text = ends.text;
      reports = ends.reports;
      text_is = ends.text_is;
    })
    reported-task (Ended (end.Input line why)) (file, fed, ends) is = inl (record {
      file = file;
      fed = fed;
      bundles = ends.bundles;
      end = Refused line why;
      reading = ends.reading;
      end_is = refl;
      text = ends.text;
      reports = ends.reports;
      text_is = ends.text_is;
    })
    reported-task (Ended end.ReadFault) ends (inl is) = absurd (omega arith)
    reported-task (Ended end.ReadFault) ends (inr is) = absurd (omega arith)
    reported-task (Ended end.WriteFault) ends (inl is) = absurd (omega arith)
    reported-task (Ended end.WriteFault) ends (inr is) = absurd (omega arith)
    reported-task (Ended (end.Stopped why)) ends (inl is) = absurd (omega arith)
    reported-task (Ended (end.Stopped why)) ends (inr is) = absurd (omega arith)
    reported-task (Ended end.NoMemory) ends (inl is) = absurd (omega arith)
    reported-task (Ended end.NoMemory) ends (inr is) = absurd (omega arith)

  -- and of the arguments
  module _ (ending : HuntEnding) where
    pub refusals-run : EndsHunt arguments contents before after ending → (hunt_status ending ≡ 2) ↔ AskForNoHunt arguments
    refusals-run (inl (nothing, usage, untouched)) = ((λ is. nothing), (λ none. ap hunt_status usage))
    refusals-run (inr asks) = ((λ is. absurd (usage-task asks.task ending asks.holds is)), (λ none. absurd (none asks.task asks.asked)))

    pub reported-run : EndsHunt arguments contents before after ending → (hunt_status ending ≡ 0) ⊎ (hunt_status ending ≡ 4)
        → AskForHuntWhere arguments (HuntsOrRefuses contents before after (hunt_status ending))
    reported-run (inl (nothing, usage, untouched)) is = let two = ap hunt_status usage in absurd (none is)
      where
        none : ¬ ((hunt_status ending ≡ 0) ⊎ (hunt_status ending ≡ 4))
        none (inl zero) = let two = ap hunt_status usage in omega arith
        none (inr four) = let two = ap hunt_status usage in omega arith
    reported-run (inr asks) is = record { task = asks.task; asked = asks.asked; holds = reported-task asks.task ending asks.holds is }
