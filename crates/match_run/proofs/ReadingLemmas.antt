-- How far an input is read, after each answer of its reader.
use Rattle.std.proofs.Common.{◌≡◌, inl, inr, ℕ, zero, suc, ◌+◌, ◌-◌, ◌<◌, ◌≤◌, ℤ, List, [], ◌∷◌, ◌++◌, length, Option, None, Some, Result, Ok, Err, option_map, IfSome, IfOk, slice_get, refl, sym, ap, subst, ◌∙◌, length-append, arith}
use Rattle.std.specs.Option.{option_or}
use Rattle.std.proofs.lemmas.List.{append-nil}
use Rattle.std.proofs.lemmas.Grind.{flat_map-append}
use Rattle.flow_lines.specs.Lines.{LinesState, lines_start}
use Rattle.flow_lines.specs.declared.refusal.TheConstants.{MAX_INPUT}
use Rattle.stix_bundles.specs.declared.observation.Observation.{Observation}
use Rattle.stix_bundles.specs.Objects.{data_in}
use Rattle.match_input.specs.declared.batch.Batch.{Batch}
use Rattle.match_input.specs.declared.mode.Mode.TheVariants.{Lines}
use Rattle.match_input.specs.declared.read_end.ReadEnd.{ReadEnd}
use Rattle.match_input.specs.declared.read_end.ReadEnd.TheVariants as read
use Rattle.match_input.specs.declared.stage.Stage.{Stage}
use Rattle.match_input.specs.declared.stage.Stage.TheVariants as stage
use Rattle.match_input.specs.Line.{last_after}
use Rattle.match_input.specs.Reading.{BundleOf}
use Rattle.match_input.specs.Ahead.{InputReaderState, reader_start, next_observation_number, IsOpen, HoldsLines, LacksLineIn, Moves, AnswersNext, GivesBatch}
use Rattle.match_run.specs.Matching.{HasPrefix, IsToCome}
use Rattle.match_run.specs.inner.MatchRuns.{HasReadInMode as ReadSo, IsStageOf, IsReadInTime}
use Rattle.match_run.proofs.FollowLemmas.{Spans, may_follow}
use Rattle.match_run.proofs.StageLemmas.{start_accounts, takes_little, gives_in_time}
use Rattle.match_run.proofs.ReadLemmas.{Continues, read-start, read-more, begins_so, reads-whole, reads-refused, has_taken}
use Rattle.match_run.specs.Reading.{bundle_of, observations_of, MayFollow, HasRead, room_in, GivesNextBundle, NextAnswers}

-- ---- the last time of observations

last_after-tail : (last : Option ℤ) (x o : Observation) (os : List Observation) → last_after last (x ∷ o ∷ os) ≡ last_after last (o ∷ os)
last_after-tail last x o os =
    let two : suc (suc (length os)) - 1 ≡ suc (length os) = omega arith in
    let one : suc (length os) - 1 ≡ length os = omega arith in
    ap (λ (n : ℕ). option_or (option_map (λ observation. observation.last) (slice_get (x ∷ o ∷ os) n)) last) two
    ∙ sym (ap (λ (n : ℕ). option_or (option_map (λ observation. observation.last) (slice_get (o ∷ os) n)) last) one)

last_after-some : (last other : Option ℤ) (o : Observation) (os : List Observation) → last_after last (o ∷ os) ≡ last_after other (o ∷ os)
last_after-some last other o [] = refl
last_after-some last other o (next ∷ os) =
    last_after-tail last o next os ∙ last_after-some last other next os ∙ sym (last_after-tail other o next os)

pub last_after-append : (last : Option ℤ) (xs ys : List Observation) → last_after last (xs ++ ys) ≡ last_after (last_after last xs) ys
last_after-append last xs [] = ap (last_after last) (append-nil xs)
last_after-append last [] (o ∷ os) = refl
last_after-append last (x ∷ []) (o ∷ os) = last_after-tail last x o os ∙ last_after-some last (last_after last (x ∷ [])) o os
last_after-append last (x ∷ z ∷ xs) (o ∷ os) =
    last_after-tail last x z (xs ++ o ∷ os) ∙ last_after-append last (z ∷ xs) (o ∷ os)
    ∙ sym (ap (λ (l : Option ℤ). last_after l (o ∷ os)) (last_after-tail last x z xs))

observations_of-more : (bundles : List BundleOf) (bundle : BundleOf) → observations_of (bundles ++ bundle ∷ []) ≡ observations_of bundles ++ bundle.observations
observations_of-more bundles bundle =
    flat_map-append (λ (b : BundleOf). b.observations) bundles (bundle ∷ [])
    ∙ ap (λ (os : List Observation). observations_of bundles ++ os) (append-nil bundle.observations)

-- ---- the start

pub reading-start : (first began : Option (List ℕ)) → HasRead first (reader_start Lines) first began []
reading-start first began =
    let so = read-start Lines first in
    record {
      forward = so.forward;
      backward = so.backward;
      told = so.told;
      lines = lines_start;
      stage = refl;
      represents = record { unrefused = refl; accounts = start_accounts lines_start first; within = omega arith; in_time = inl refl };
      number = refl;
      last = refl;
    }

-- ---- where a reader is

module _ (first left began : Option (List ℕ)) (reader : InputReaderState) (earlier : List BundleOf) (far : HasRead first reader left began earlier) where
  stage_is : IsStageOf Lines reader.stage earlier first left
  stage_is = subst (λ (s : Stage). IsStageOf Lines s earlier first left) (sym far.stage) (far.represents.unrefused, far.represents.accounts, far.represents.within)

  in_time_so : IsReadInTime Lines reader.stage first began
  in_time_so = subst (λ (s : Stage). IsReadInTime Lines s first began) (sym far.stage) far.represents.in_time

  pub read_so : ReadSo Lines first reader left earlier
  read_so = record { forward = far.forward; backward = far.backward; told = far.told; stage = stage_is }

  pub is_open : IsOpen reader.stage
  is_open = subst IsOpen (sym far.stage) far.represents.unrefused

  pub comes-first : HasPrefix Lines first earlier
  comes-first = begins_so Lines first left reader earlier read_so

-- ---- a bundle more

pub numbers : (last : Option ℤ) (next k : ℕ) (os : List Observation) (o : Observation) → MayFollow last next os → slice_get os k ≡ Some o → o.number ≡ next + k
numbers last next k [] o follow is = absurd (cc)
numbers last next zero (x ∷ os) o follow is =
    let same : x ≡ o = cc in
    let none : next + 0 ≡ next = omega arith in
    subst (λ (y : Observation). y.number ≡ next + 0) same (follow.1 ∙ sym none)
numbers last next (suc k) (x ∷ os) o follow is =
    let one : (next + 1) + k ≡ next + suc k = omega arith in
    numbers (Some x.last) (next + 1) k os o follow.3 is ∙ one

moved : (line : ℕ) (lines : LinesState) (after : Stage) (left left_after : Option (List ℕ)) → Moves line (stage.Lines lines) after left left_after
    → (later : LinesState) × (after ≡ stage.Lines later) × Moves line (stage.Lines lines) (stage.Lines later) left left_after
moved line lines (stage.Lines later) left left_after m = (later, refl, m)
moved line lines stage.Whole left left_after m = absurd m
moved line lines stage.AtEnd left left_after m = absurd m
moved line lines stage.Ended left left_after m = absurd m

module _ (continues : Continues) (spans : Spans) (first left began left_after began_after : Option (List ℕ)) (reader after : InputReaderState)
    (earlier : List BundleOf) (far : HasRead first reader left began earlier) where
  next-given : (batch : Batch) → GivesBatch reader after left left_after batch → (HoldsLines reader.stage → began_after ≡ began)
      → (¬ (HoldsLines reader.stage) → IfSome began_after (LacksLineIn reader.stage batch.line left))
      → GivesNextBundle first earlier reader after left_after began_after batch
  next-given batch gives unread lacks =
      let so = read_so first left began reader earlier far in
      let on = read-more continues Lines first left left_after reader after batch earlier so gives in
      let move = moved batch.line far.lines after.stage left left_after
      (subst (λ (s : Stage). Moves batch.line s after.stage left left_after) far.stage gives.moves) in
      let moves = move.2 in
      let accounts = moves.5 lines_start first far.represents.accounts in
      let in_time : IfSome began_after (IsToCome batch.line first) =
      gives_in_time earlier batch.line first left left_after began began_after Lines reader.stage after.stage
      (stage_is first left began reader earlier far) gives.moves (in_time_so first left began reader earlier far) unread lacks in
      let same = observations_of-more earlier (bundle_of batch) in
      record {
        read = record {
          forward = on.forward;
          backward = on.backward;
          told = on.told;
          lines = move.0;
          stage = move.1;
          represents = record {
            unrefused = moves.0;
            accounts = accounts;
            within = moves.3;
            in_time = inr (subst (λ (n : ℕ). IfSome began_after (IsToCome n first)) moves.1 in_time);
          };
          number = omega (arith, gives.observations, far.number, ap length same, length-append (observations_of earlier) batch.observations);
          last = gives.last ∙ ap (λ (l : Option ℤ). last_after l batch.observations) far.last
              ∙ sym (last_after-append None (observations_of earlier) batch.observations) ∙ sym (ap (last_after None) same);
        };
        only = (record { at = move.0; line_is = sym moves.1; few = moves.4; accounts = accounts }, in_time);
        follow = (may_follow spans reader.last (next_observation_number reader) gives.bytes (data_in batch.bundle) batch.observations gives.is);
        observations = gives.observations;
        last = gives.last;
        less_room = subst (λ (s : Stage). room_in s < room_in reader.stage) (sym move.1)
            (subst (λ (s : Stage). room_in (stage.Lines move.0) < room_in s) (sym far.stage) (less far.lines.given move.0.given moves.2 moves.3));
      }
    where
      less : (given later : ℕ) → given < later → later ≤ MAX_INPUT → MAX_INPUT - later < MAX_INPUT - given
      less given later more most = omega (arith, more, most)

  -- what each answer says
  pub next-answers : (result : Result (Option Batch) ReadEnd) → AnswersNext reader after left left_after result → (HoldsLines reader.stage → began_after ≡ began)
      → (¬ (HoldsLines reader.stage) → IfOk result (λ found. IfSome found (λ batch. IfSome began_after (LacksLineIn reader.stage batch.line left))))
      → NextAnswers first earlier reader after left_after began_after result
  next-answers (Ok (Some batch)) answers unread lacks = next-given batch answers unread lacks
  next-answers (Ok None) answers unread lacks =
      (reads-whole Lines first left reader earlier (read_so first left began reader earlier far) answers.none, answers.drained, answers.is_at_end)
  next-answers (Err (read.Input line why)) answers unread lacks = (
    reads-refused Lines first left reader earlier (read_so first left began reader earlier far) line why answers.refused,
    takes_little earlier first left left_after Lines reader.stage line (stage_is first left began reader earlier far) answers.little,
  )
  next-answers (Err read.ReadFault) answers unread lacks = (
    begins_so Lines first left reader earlier (read_so first left began reader earlier far),
    has_taken Lines first left left_after reader.stage reader.last (next_observation_number reader) earlier far.forward (stage_is first left began reader earlier far) answers,
  )
  next-answers (Err read.Ended) answers unread lacks = answers
  next-answers (Err read.NoMemory) answers unread lacks = begins_so Lines first left reader earlier (read_so first left began reader earlier far)
