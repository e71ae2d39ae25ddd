-- An input followed by a watcher, one bundle at a time, and how it ends.
use Rattle.std.proofs.Common.{◌≡◌, inl, inr, ℕ, ◌+◌, ℤ, List, [], ◌∷◌, ◌++◌, Option, None, Some, Result, Ok, Err, refl, sym, ap, subst, ◌∙◌, append_assoc, arith}
use Rattle.std.proofs.lemmas.List.{append-nil}
use Rattle.flow_edges.specs.Flow.{written_with}
use Rattle.flow_edges.specs.Faults.{Counted}
use Rattle.flow_edges.specs.Streams.{streams}
use Rattle.stix_bundles.specs.declared.observation.Observation.{Observation}
use Rattle.match_input.specs.declared.batch.Batch.{Batch}
use Rattle.match_input.specs.declared.mode.Mode.TheVariants.{Lines}
use Rattle.match_input.specs.declared.read_end.ReadEnd.{ReadEnd}
use Rattle.match_input.specs.declared.read_end.ReadEnd.TheVariants as read
use Rattle.match_input.specs.Line.{last_after}
use Rattle.match_input.specs.Reading.{BundleOf}
use Rattle.match_input.specs.Ahead.{InputReaderState}
use Rattle.match_run.proofs.ReadLemmas.{begins_so}
use Rattle.match_run.proofs.PendingLemmas.{written_with-nil, written_with-both}
use Rattle.match_run.specs.declared.see_end.SeeEnd.{SeeEnd}
use Rattle.match_run.specs.declared.see_end.SeeEnd.TheVariants as see
use Rattle.match_run.specs.declared.watch_end.WatchEnd.{WatchEnd}
use Rattle.match_run.specs.declared.watch_end.WatchEnd.TheVariants.{ReadFault}
use Rattle.match_run.specs.Reading.{bundle_of, HasRead, GivesNextBundle, NextAnswers}
use Rattle.match_run.specs.Watching.{Says, EndsSeeing, SeesAll, WatchesWhole, StopsWithin, AnswersWatch}
use Rattle.match_run.specs.inner.WatchEnds.{watch_end_of_read, end_of_see}
use Rattle.match_run.specs.inner.WatchRuns.{RunsSo}
use Rattle.match_run.proofs.ReadingLemmas.{read_so}

-- ---- what is said of a bundle more

pub sees-more : {W : Type 0} (sees : W → BundleOf → W → List ℕ → Type 0) (start now next : W) (bundles : List BundleOf) (bundle : BundleOf) (text own : List ℕ)
    → SeesAll sees start bundles now text → sees now bundle next own → SeesAll sees start (bundles ++ bundle ∷ []) next (text ++ own)
sees-more {W} sees start now next [] bundle text own all one = (
  next,
  own,
  [],
  subst (λ (w : W). sees w bundle next own) all.0 one,
  (refl, refl),
  ap (λ (t : List ℕ). t ++ own) all.1 ∙ sym (append-nil own),
)
sees-more sees start now next (first ∷ bundles) bundle text own all one = (
  all.0,
  all.1,
  all.2 ++ own,
  all.3,
  sees-more sees all.0 now next bundles bundle all.2 own all.4 one,
  ap (λ (t : List ℕ). t ++ own) all.5 ∙ append_assoc all.1 all.2 own,
)

pub says-more : {W : Type 0} (sees : W → BundleOf → W → List ℕ → Type 0) (start now next : W) (bundles : List BundleOf) (bundle : BundleOf)
    (written written_now written_after : Option (List ℕ)) → Says (SeesAll sees start bundles now) written written_now
    → Says (sees now bundle next) written_now written_after → Says (SeesAll sees start (bundles ++ bundle ∷ []) next) written written_after
says-more sees start now next bundles bundle written written_now written_after all one = (
  all.0 ++ one.0,
  sees-more sees start now next bundles bundle all.0 one.0 all.1 one.1,
  one.2 ∙ ap (written_with one.0) all.2 ∙ written_with-both all.0 one.0 written,
)

-- ---- the watcher and the reader count alike

pub seen-more : (seen seen_after read read_after count : ℕ) → seen_after ≡ seen + count → seen ≡ read → read_after ≡ read + count → seen_after ≡ read_after
seen-more seen seen_after read read_after count more same after = omega (arith, more, same, after)

pub last-more : (last last_now time time_now : Option ℤ) (observations : List Observation) → last_now ≡ last_after last observations → last ≡ time
    → time_now ≡ last_after time observations → last_now ≡ time_now
last-more last last_now time time_now observations more same after = more ∙ ap (λ (l : Option ℤ). last_after l observations) same ∙ sym after

-- ---- faults of the input

read_fault : {S : Type 0} (last : ReadEnd) → watch_end_of_read {S = S} last ≡ ReadFault → last ≡ read.ReadFault
read_fault (read.Input line why) is = absurd (cc)
read_fault read.ReadFault is = refl
read_fault read.Ended is = absurd (cc)
read_fault read.NoMemory is = absurd (cc)

-- a read that failed is the end of the run, where the input was still open and none had failed before
pub counts-reads : {S : Type 0} (Opened : Type 0) (last : ReadEnd) (result : WatchEnd S) (start before now : ℕ) → Opened → result ≡ watch_end_of_read last
    → Counted (Opened × (◌≡◌ {A = Result (Option Batch) ReadEnd} (Err last) (Err read.ReadFault))) before now → before ≡ start → Counted (result ≡ ReadFault) start now
counts-reads {S} Opened last result start before now opened is counted same_start = subst (λ (n : ℕ). Counted (result ≡ ReadFault) n now) same_start (record {
  later = counted.later;
  failed = λ fault. counted.failed (opened, ap Err (read_fault last (sym is ∙ fault)));
  quiet = λ other. counted.quiet (λ both. other (is ∙ same both.1));
})
  where
    same : ◌≡◌ {A = Result (Option Batch) ReadEnd} (Err last) (Err read.ReadFault) → watch_end_of_read {S = S} last ≡ ReadFault
    same e = let it : last ≡ read.ReadFault = cc in ap watch_end_of_read it

-- ---- a run

-- the reader gave a bundle
pub given : (first : Option (List ℕ)) (earlier : List BundleOf) (reader after : InputReaderState) (left_after began_after : Option (List ℕ)) (found : Option Batch) (batch : Batch)
    → found ≡ Some batch → NextAnswers first earlier reader after left_after began_after (Ok found) → GivesNextBundle first earlier reader after left_after began_after batch
given first earlier reader after left_after began_after found batch is answers =
    subst (λ (o : Option Batch). NextAnswers first earlier reader after left_after began_after (Ok o)) is answers

module _ {W : Type 0} (sees : W → BundleOf → W → List ℕ → Type 0) (first : Option (List ℕ)) (earlier : List BundleOf) (start : W) (written : Option (List ℕ)) where
  pub run-start : (reader : InputReaderState) (left began : Option (List ℕ)) → HasRead first reader left began earlier
      → RunsSo sees first earlier start start written written reader left began
  run-start reader left began far = record {
    bundles = [];
    read = subst (λ (bs : List BundleOf). HasRead first reader left began bs) (sym (append-nil earlier)) far;
    says = ([], (refl, refl), written_with-nil written);
  }

  module _ (now : W) (written_now : Option (List ℕ)) (reader : InputReaderState) (left began : Option (List ℕ))
      (far : RunsSo sees first earlier start now written written_now reader left began) where
    pub run-more : (next : W) (written_after : Option (List ℕ)) (after : InputReaderState) (left_after began_after : Option (List ℕ)) (batch : Batch)
        → GivesNextBundle first (earlier ++ far.bundles) reader after left_after began_after batch → Says (sees now (bundle_of batch) next) written_now written_after
        → RunsSo sees first earlier start next written written_after after left_after began_after
    run-more next written_after after left_after began_after batch gives one = record {
      bundles = far.bundles ++ bundle_of batch ∷ [];
      read = subst (λ (bs : List BundleOf). HasRead first after left_after began_after bs) (append_assoc earlier far.bundles (bundle_of batch ∷ [])) gives.read;
      says = says-more sees start now next far.bundles (bundle_of batch) written written_now written_after far.says one;
    }

    -- the input ended
    pub run-none : (after : InputReaderState) (left_after began_after : Option (List ℕ)) → NextAnswers first (earlier ++ far.bundles) reader after left_after began_after (Ok None)
        → WatchesWhole sees first earlier start now written (streams left_after began_after written_now)
    run-none after left_after began_after answers = record { bundles = far.bundles; reading = answers.0; says = far.says; drained = answers.1 }

    module _ {S : Type 0} (stops : W → BundleOf → S → List ℕ → Type 0) (begins : W → BundleOf → List ℕ → Type 0)
        (after : InputReaderState) (left_after began_after : Option (List ℕ)) where
      -- the reader ended
      pub run-read_end : (end : ReadEnd) → NextAnswers first (earlier ++ far.bundles) reader after left_after began_after (Err end)
          → AnswersWatch sees stops begins first earlier start now written (streams left_after began_after written_now) (watch_end_of_read end)
      run-read_end (read.Input line why) answers = record { bundles = far.bundles; reading = answers.0; says = far.says; little = answers.1 }
      run-read_end read.ReadFault answers = record { bundles = far.bundles; begins = answers.0; says = far.says; taken = answers.1 }
      run-read_end read.Ended answers = absurd answers
      run-read_end read.NoMemory answers = inl (record { bundles = far.bundles; begins = answers; says = far.says })

      -- the watcher ended in the next bundle
      module _ (behind : W) (written_after : Option (List ℕ)) (batch : Batch) (gives : GivesNextBundle first (earlier ++ far.bundles) reader after left_after began_after batch) where
        within : (Within : W → BundleOf → Option (List ℕ) → Option (List ℕ) → Type 0) → Within now (bundle_of batch) written_now written_after
            → StopsWithin sees Within first earlier start written (streams left_after began_after written_after)
        within Within here = record {
          bundles = far.bundles;
          bundle = bundle_of batch;
          begins = begins_so Lines first left_after after ((earlier ++ far.bundles) ++ bundle_of batch ∷ [])
              (read_so first left_after began_after after ((earlier ++ far.bundles) ++ bundle_of batch ∷ []) gives.read);
          only = gives.only;
          at = now;
          before = written_now;
          says = far.says;
          within = here;
        }

        pub run-see_end : (end : SeeEnd S) → EndsSeeing (stops now (bundle_of batch)) (begins now (bundle_of batch)) written_now written_after end
            → AnswersWatch sees stops begins first earlier start behind written (streams left_after began_after written_after) (end_of_see end)
        run-see_end (see.Stopped why) ends = within _ ends
        run-see_end see.WriteFault ends = within _ ends
        run-see_end see.NoMemory ends = inr (within _ ends)
