-- What a hunter reports of a bundle, by how it ended.
use Rattle.std.proofs.Common.{◌≡◌, inl, inr, ℕ, Option, List, [], ◌∷◌, ◌++◌, refl, sym, ap, subst, ◌∙◌, Result, Ok, Err, OnOk, IfErr, IsErrAnd}
use Rattle.std.proofs.lemmas.List.{append-nil}
use Rattle.serde_json.specs.Data.{Data}
use Rattle.flow_edges.specs.Faults.{Counted}
use Rattle.flow_edges.specs.Flow.{written_with, WritesPrefix}
use Rattle.stix_bundles.specs.declared.observation.Observation.{Observation}
use Rattle.match_input.specs.Reading.{BundleOf}
use Rattle.match_run.specs.declared.cut_short.CutShort.{CutShort}
use Rattle.match_run.specs.declared.cut_short.CutShort.TheVariants as cut
use Rattle.match_run.specs.declared.see_end.SeeEnd.{SeeEnd}
use Rattle.match_run.specs.declared.see_end.SeeEnd.TheVariants.{Stopped, WriteFault, NoMemory}
use Rattle.match_run.specs.inner.WatchEnds.{end_of_cut}
use Rattle.match_run.specs.Buffered.{IsBuffered}
use Rattle.match_run.specs.Watching.{BreaksOff, EndsSeeing}
use Rattle.hunt_engine.specs.EngineLog.{engine_row}
use Rattle.hunt_report.specs.declared.over_limit.OverLimit.{OverLimit}
use Rattle.hunt_report.specs.Hunting.{HunterState, BeginsBundle, StopsInBundle}
use Rattle.hunt_report.specs.inner.HitReporting.{EndsAtHuntedRow, TakesSoFar, StopsSoFar, ReportsPartOfHits, EndsAmongHits, HasCutHitLines}
use Rattle.hunt_report.proofs.HunterLemmas.{stops-next, takes-none, takes-first}

-- the law on texts that are on their way
abbrev pub Prefix : Type 0
Prefix = (text pending more : List ℕ) (before now : Option (List ℕ)) → IsBuffered text pending before now → WritesPrefix (text ++ more) before now

pub prefix_of : Prefix → (text pending : List ℕ) (first now : Option (List ℕ)) → IsBuffered text pending first now → WritesPrefix text first now
prefix_of law text pending first now way = subst (λ (t : List ℕ). WritesPrefix t first now) (append-nil text) (law text pending [] first now way)

-- ---- an end among the observations

module _ (law : Prefix) (objects : List Data) (observations seen later : List Observation) (o : Observation) (before between : HunterState)
    (pending : List ℕ) (first now : Option (List ℕ)) (are : observations ≡ seen ++ o ∷ later) where
  pub ends-next : TakesSoFar objects seen before between pending first now → (end : SeeEnd OverLimit) → EndsAtHuntedRow (engine_row o objects) between end
      → EndsAmongHits objects observations before pending first now end
  ends-next far (Stopped why) over_limit = subst (λ (os : List Observation). StopsSoFar objects os before why pending first now) (sym are) (record {
    text = far.text;
    stops = stops-next objects seen later o before between far.text why far.takes over_limit;
    way = far.way;
  })
  ends-next far WriteFault never = absurd never
  ends-next far NoMemory any = record {
    text = far.text;
    takes = takes-first objects seen (o ∷ later) observations before between far.text are far.takes;
    prefix = prefix_of law far.text pending first now far.way;
  }

-- the lines were cut
pub ends-cut : {T : Type 0} (objects : List Data) (observations : List Observation) (before : HunterState) (pending : List ℕ) (first now : Option (List ℕ))
    (answer : Result T (SeeEnd OverLimit)) (short : CutShort) → IsErrAnd answer (λ end. end ≡ end_of_cut short)
    → ReportsPartOfHits objects observations before first now → IfErr answer (EndsAmongHits objects observations before pending first now)
ends-cut objects observations before pending first now (Ok value) short is part = absurd is
ends-cut objects observations before pending first now (Err end) cut.WriteFault is part = subst (EndsAmongHits objects observations before pending first now) (sym is) part
ends-cut objects observations before pending first now (Err end) cut.NoMemory is part = subst (EndsAmongHits objects observations before pending first now) (sym is) part

-- memory ran out ahead of the first one
pub ends-first : {T : Type 0} (law : Prefix) (objects : List Data) (observations : List Observation) (before : HunterState) (pending : List ℕ) (first : Option (List ℕ))
    (answer : Result T (SeeEnd OverLimit)) → IsErrAnd answer (λ end. end ≡ NoMemory) → IsBuffered [] pending first first → IfErr answer (EndsAmongHits objects observations before pending first first)
ends-first law objects observations before pending first (Ok value) is way = absurd is
ends-first law objects observations before pending first (Err end) is way = subst (EndsAmongHits objects observations before pending first first) (sym is) (record {
  text = [];
  takes = takes-first objects [] observations observations before before [] refl (takes-none before);
  prefix = prefix_of law [] pending first first way;
})

-- ---- a bundle

module _ (before : HunterState) (bundle : BundleOf) (pending : List ℕ) (first now : Option (List ℕ)) where
  abbrev pub Ends : SeeEnd OverLimit → Type 0
  Ends end = EndsAmongHits bundle.objects bundle.observations before pending first now end

  pub see-cut : (told : Result (Unit {0}) (SeeEnd OverLimit)) → HasCutHitLines told → IfErr told Ends
      → IfErr told (EndsSeeing (StopsInBundle before bundle) (BeginsBundle before bundle) first now)
  see-cut (Ok value) is ends = tt
  see-cut (Err (Stopped why)) (inl is) ends = absurd (cc)
  see-cut (Err (Stopped why)) (inr is) ends = absurd (cc)
  see-cut (Err WriteFault) is ends = (ends.text, ends.takes, ends.prefix)
  see-cut (Err NoMemory) is ends = (ends.text, ends.takes, ends.prefix)

  -- what is pending was written
  pub see-all : (after : Option (List ℕ)) → ((text : List ℕ) → IsBuffered text pending first now → after ≡ written_with text first)
      → (told : Result (Unit {0}) (SeeEnd OverLimit)) → ¬ HasCutHitLines told → IfErr told Ends
      → IfErr told (EndsSeeing (StopsInBundle before bundle) (BeginsBundle before bundle) first after)
  see-all after written (Ok value) uncut ends = tt
  see-all after written (Err (Stopped why)) uncut ends = (ends.text, ends.stops, written ends.text ends.way)
  see-all after written (Err WriteFault) uncut ends = absurd (uncut (inr refl))
  see-all after written (Err NoMemory) uncut ends = absurd (uncut (inl refl))

  -- of what is pending a prefix was written
  pub see-part : (comma_joined : HunterState) (after : Option (List ℕ)) → ((text : List ℕ) → IsBuffered text pending first now → WritesPrefix text first after)
      → (told : Result (Unit {0}) (SeeEnd OverLimit)) → ¬ HasCutHitLines told
      → OnOk told (TakesSoFar bundle.objects bundle.observations before comma_joined pending first now) → IfErr told Ends
      → BreaksOff (BeginsBundle before bundle) first after
  see-part comma_joined after written (Ok value) uncut far ends = (
    far.text,
    takes-first bundle.objects bundle.observations [] bundle.observations before comma_joined far.text (sym (append-nil bundle.observations)) far.takes,
    written far.text far.way,
  )
  see-part comma_joined after written (Err (Stopped why)) uncut far ends =
      let stops = ends.stops in (
        ends.text,
        takes-first bundle.objects stops.seen (stops.observation ∷ stops.later) bundle.observations before stops.after ends.text stops.observations_are stops.takes,
        written ends.text ends.way,
      )
  see-part comma_joined after written (Err WriteFault) uncut far ends = absurd (uncut (inr refl))
  see-part comma_joined after written (Err NoMemory) uncut far ends = absurd (uncut (inl refl))

-- a write failed
pub see-fault : {T S : Type 0} (stops : S → List ℕ → Type 0) (begins : List ℕ → Type 0) (first after : Option (List ℕ)) (answer : Result T (SeeEnd S))
    → IsErrAnd answer (λ end. end ≡ WriteFault) → BreaksOff begins first after → IfErr answer (EndsSeeing stops begins first after)
see-fault stops begins first after (Ok value) is broken = absurd is
see-fault stops begins first after (Err end) is broken = subst (EndsSeeing stops begins first after) (sym is) broken

-- a call passes on how another one failed
pub same-cause : {T U : Type 0} (answer : Result T CutShort) (other : Result U CutShort) (short : CutShort) (before now : ℕ) → answer ≡ Err short
    → IsErrAnd other (λ end. end ≡ short) → Counted (answer ≡ Err cut.WriteFault) before now → Counted (other ≡ Err cut.WriteFault) before now
same-cause answer (Ok value) short before now is same counted = absurd same
same-cause answer (Err end) short before now is same counted = record {
  later = counted.later;
  failed = λ failed. counted.failed (is ∙ (let e : short ≡ cut.WriteFault = cc in ap Err e));
  quiet = λ calm. counted.quiet (λ failed. calm (ap Err (same ∙ (let e : short ≡ cut.WriteFault = cc in e))));
}
