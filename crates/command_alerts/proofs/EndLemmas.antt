-- What is reported of the bundles of an input, and what an end of the run says of it.
use Rattle.std.proofs.Common.{inl, inr, ℕ, List, [], ◌∷◌, ◌++◌, Option, refl, sym, subst}
use Rattle.std.specs.declared.convert.Infallible.{Infallible}
use Rattle.flow_edges.specs.Flow.{WritesPrefix}
use Rattle.flow_edges.specs.Streams.{Streams}
use Rattle.pattern_types.specs.declared.pattern.Pattern.{Pattern}
use Rattle.pattern_types.specs.PlainPattern.{plain_pattern}
use Rattle.match_bindings.specs.declared.log_entry.LogEntry.{LogEntry}
use Rattle.match_input.specs.Reading.{BundleOf}
use Rattle.match_run.specs.Entries.{AreEntriesOf, AreEntries}
use Rattle.match_run.specs.Watching.{SeesAll, Says, BreaksOff, StopsWithin as EndsWithin, AnswersWatch}
use Rattle.match_run.specs.declared.watch_end.WatchEnd.{WatchEnd}
use Rattle.match_run.specs.declared.watch_end.WatchEnd.TheVariants.{Done, Input, ReadFault, WriteFault, Stopped, NoMemory}
use Rattle.command_alerts.specs.Alerts.{ReportsLog}
use Rattle.command_alerts.specs.Telling.{ReportsBundles, AlerterStopsWithin, AnswersAlerts}
use Rattle.command_alerts.specs.inner.Seeing.{AlerterState, IsBehind, TakesLogRows, AlerterSeesBundle, SeesFirstOfBundle}
use Rattle.command_alerts.proofs.TellingLemmas.{AlertsStay, takes-none, takes-more}

-- bundles were seen in turn, and this text is reported of them
record SeesBundles (bundles : List BundleOf) (before after : AlerterState) (text : List ℕ) : Type 0 where
  rows : List LogEntry
  entries : AreEntries (plain_pattern before.pattern) bundles rows
  takes : TakesLogRows rows before after text

bundles-seen : AlertsStay → (bundles : List BundleOf) (before after : AlerterState) (text : List ℕ)
    → SeesAll AlerterSeesBundle before bundles after text → SeesBundles bundles before after text
bundles-seen stay [] before after text (behind, is) = record {
  rows = [];
  entries = refl;
  takes = subst (λ (state : AlerterState). TakesLogRows [] before state text) (sym behind) (subst (TakesLogRows [] before before) (sym is) (takes-none before));
}
bundles-seen stay (bundle ∷ bundles) before after text (next, own, later, sees, others, is) =
    let rest = bundles-seen stay bundles next after later others in record {
      rows = sees.rows ++ rest.rows;
      entries = (
        sees.rows,
        rest.rows,
        sees.entries,
        subst (λ (p : Pattern). AreEntries (plain_pattern p) bundles rest.rows) sees.takes.pattern_is rest.entries,
        refl,
      );
      takes = subst (TakesLogRows (sees.rows ++ rest.rows) before after) (sym is)
          (takes-more stay sees.rows rest.rows before next after own later sees.takes rest.takes);
    }

-- a run from its start, where nothing was seen
module _ (stay : AlertsStay) (start : AlerterState) (new : IsBehind start.watch []) where
  log-reported : (rows : List LogEntry) (after : AlerterState) (text : List ℕ) → TakesLogRows rows start after text
      → ReportsLog start.watch.n start.watch.x rows text
  log-reported rows after text takes = (takes.reports [] new).reports

  bundles-reported : (bundles : List BundleOf) (after : AlerterState) (written written_after : Option (List ℕ))
      → Says (SeesAll AlerterSeesBundle start bundles after) written written_after
      → ReportsBundles start.pattern start.watch.n start.watch.x bundles written written_after
  bundles-reported bundles after written written_after (text, sees, is) =
      let seen = bundles-seen stay bundles start after text sees in record {
        log = seen.rows;
        entries = seen.entries;
        text = text;
        reports = log-reported seen.rows after text seen.takes;
        text_is = is;
      }

  module _ (first began written : Option (List ℕ)) (behind : AlerterState) (after : Streams) where
    abbrev before : Streams
    before = record { left = first; began = began; written = written }

    within : EndsWithin AlerterSeesBundle (λ at bundle. BreaksOff (SeesFirstOfBundle at bundle)) first [] start written after
        → AlerterStopsWithin start.pattern start.watch.n start.watch.x before after
    within ends = go ends.says ends.within
      where
        go : Says (SeesAll AlerterSeesBundle start ends.bundles ends.at) written ends.before → BreaksOff (SeesFirstOfBundle ends.at ends.bundle) ends.before after.written
            → AlerterStopsWithin start.pattern start.watch.n start.watch.x before after
        go (text, sees, is) (more, firsts, prefix) =
            let seen = bundles-seen stay ends.bundles start ends.at text sees in
            let own = firsts.sees in record {
              earlier = ends.bundles;
              bundle = ends.bundle;
              begins = ends.begins;
              only = ends.only;
              seen = firsts.seen;
              later = firsts.later;
              observations_are = firsts.observations_are;
              log = seen.rows;
              own = own.rows;
              entries = seen.entries;
              own_entries = subst (λ (p : Pattern). AreEntriesOf (plain_pattern p) ends.bundle.objects firsts.seen own.rows) seen.takes.pattern_is own.entries;
              text = text;
              more = more;
              reports = log-reported seen.rows ends.at text seen.takes;
              reports_all = log-reported (seen.rows ++ own.rows) firsts.after (text ++ more)
                  (takes-more stay seen.rows own.rows start ends.at firsts.after text more seen.takes own.takes);
              prefix = subst (λ (w : Option (List ℕ)). WritesPrefix more w after.written) is prefix;
            }

    pub end-reported : (end : WatchEnd Infallible) → AnswersWatch AlerterSeesBundle (λ _ _ _ _. ⊥) SeesFirstOfBundle first [] start behind written after end
        → AnswersAlerts start.pattern start.watch.n start.watch.x before after end
    end-reported Done whole = record {
      bundles = whole.bundles;
      reading = whole.reading;
      reports = bundles-reported whole.bundles behind written after.written whole.says;
      drained = whole.drained;
    }
    end-reported (Input line why) up = record {
      bundles = up.bundles;
      reading = up.reading;
      reports = bundles-reported up.bundles behind written after.written up.says;
      little = up.little;
    }
    end-reported ReadFault taken = record {
      bundles = taken.bundles;
      begins = taken.begins;
      reports = bundles-reported taken.bundles behind written after.written taken.says;
      taken = taken.taken;
    }
    end-reported WriteFault ends = within ends
    end-reported (Stopped never) ends = ends.within.1
    end-reported NoMemory (inl between) = inl (record {
      bundles = between.bundles;
      begins = between.begins;
      reports = bundles-reported between.bundles behind written after.written between.says;
    })
    end-reported NoMemory (inr ends) = inr (within ends)
