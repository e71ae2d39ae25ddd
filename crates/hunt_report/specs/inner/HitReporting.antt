-- For private clauses: what a hunter writes about some observations.
use Rattle.std.specs.Prelude.{◌≡◌, ◌⊎◌, ⊤, ℕ, ◌<◌, List, [], ◌∷◌, ◌++◌, length, All, Option, Result, Err}
use Rattle.serde_json.specs.Data.{Data}
use Rattle.flow_edges.specs.Flow.{WritesPrefix}
use Rattle.stix_bundles.specs.declared.observation.Observation.{Observation}
use Rattle.match_run.specs.declared.see_end.SeeEnd.{SeeEnd}
use Rattle.match_run.specs.declared.see_end.SeeEnd.TheVariants.{Stopped, WriteFault, NoMemory}
use Rattle.match_run.specs.Buffered.{IsBuffered}
use Rattle.hunt_engine.specs.declared.found.Hit.{Hit}
use Rattle.hunt_engine.specs.declared.refusal.EngineRefusal.{EngineRefusal}
use Rattle.hunt_engine.specs.declared.refusal.EngineRefusal.TheVariants as refusal
use Rattle.hunt_engine.specs.EngineLog.{ObservationRow}
use Rattle.hunt_engine.specs.EngineAnswer.{IsFirstOverLimit}
use Rattle.hunt_report.specs.declared.over_limit.OverLimit.{OverLimit}
use Rattle.hunt_report.specs.Rows.{rows_over}
use Rattle.hunt_report.specs.Hunting.{HunterState, HuntsOver, patterns_of, TakesRows, TakesFirst, TakesUpTo}

-- ---- one row

-- after any rows it took one more, at which these hits end, each of an indicator
pub record TakesHuntRow (row : ObservationRow) (before after : HunterState) (own : List Hit) : Type 0 where
  pub hunted : after.hunted ≡ before.hunted
  pub retained_limit : after.engine.retained_limit ≡ before.engine.retained_limit
  pub takes : (earlier : List ObservationRow) (hits : List Hit) → HuntsOver before earlier hits → HuntsOver after (earlier ++ row ∷ []) (hits ++ own)
  pub inside : All (λ hit. hit.hunted < length before.hunted) own

-- after any rows, a pattern exceeds the limit at this one: the first such pattern
abbrev pub IsHuntOverLimitAt : ObservationRow → HunterState → OverLimit → Type 0
IsHuntOverLimitAt row before why = (earlier : List ObservationRow) (hits : List Hit) → HuntsOver before earlier hits
    → IsFirstOverLimit (patterns_of before.hunted) before.engine.retained_limit (earlier ++ row ∷ []) why.hunted why.number why.retained_limit

-- how a hunter ends where its engine does
abbrev pub end_of_engine : EngineRefusal → SeeEnd OverLimit
end_of_engine (refusal.OverLimit hunted number retained_limit) = Stopped (record { hunted = hunted; number = number; retained_limit = retained_limit })
end_of_engine refusal.Ended = NoMemory
end_of_engine refusal.NoMemory = NoMemory

-- what an end at a row says
abbrev pub EndsAtHuntedRow : ObservationRow → HunterState → SeeEnd OverLimit → Type 0
EndsAtHuntedRow row before (Stopped why) = IsHuntOverLimitAt row before why
EndsAtHuntedRow row before WriteFault = ⊥
EndsAtHuntedRow row before NoMemory = ⊤

-- ---- the observations of a bundle

-- a part of their text is written, and the rest is buffered
pub record TakesSoFar (objects : List Data) (observations : List Observation) (before after : HunterState) (pending : List ℕ)
    (written written_now : Option (List ℕ)) : Type 0 where
  pub text : List ℕ
  pub takes : TakesRows (rows_over objects observations) before after text
  pub way : IsBuffered text pending written written_now

-- the same for those before the first one that exceeds the limit
pub record StopsSoFar (objects : List Data) (observations : List Observation) (before : HunterState) (why : OverLimit) (pending : List ℕ)
    (written written_now : Option (List ℕ)) : Type 0 where
  pub text : List ℕ
  pub stops : TakesUpTo objects observations before why text
  pub way : IsBuffered text pending written written_now

-- a prefix of the text about the first of them is written
pub record ReportsPartOfHits (objects : List Data) (observations : List Observation) (before : HunterState) (written written_now : Option (List ℕ)) : Type 0 where
  pub text : List ℕ
  pub takes : TakesFirst objects observations before text
  pub prefix : WritesPrefix text written written_now

-- what an end among them says
abbrev pub EndsAmongHits : List Data → List Observation → HunterState → List ℕ → Option (List ℕ) → Option (List ℕ) → SeeEnd OverLimit → Type 0
EndsAmongHits objects observations before pending written written_now (Stopped why) = StopsSoFar objects observations before why pending written written_now
EndsAmongHits objects observations before pending written written_now WriteFault = ReportsPartOfHits objects observations before written written_now
EndsAmongHits objects observations before pending written written_now NoMemory = ReportsPartOfHits objects observations before written written_now

-- such an end came in the middle of lines
abbrev pub HasCutHitLines : Result (Unit {0}) (SeeEnd OverLimit) → Type 0
HasCutHitLines ended = (ended ≡ Err NoMemory) ⊎ (ended ≡ Err WriteFault)
