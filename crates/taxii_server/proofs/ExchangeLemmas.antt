-- One request: its exchange, and what it asks of the clock and of the keeper.
use Rattle.std.proofs.Common.{◌≡◌, ◌≢◌, ◌⊎◌, inl, inr, ℕ, zero, suc, List, [], ◌∷◌, Bool, true, false, ◌||◌, Option, Some, IfSome, Result, Ok, Err, IsErr, MatchResult, refl, sym, ap, ◌∙◌, subst, arith}
use Rattle.std.specs.Prelude.{slice_get}
use Rattle.flow_edges.specs.Faults.{Counted}
use Rattle.flow_edges.specs.Flow.{written_with, WritesPart}
use Rattle.flow_links.specs.Moments.{IsNext, Continues}
use Rattle.http_messages.specs.declared.request.Request.{Request}
use Rattle.http_messages.specs.declared.status.Status.TheVariants.{InternalServerError}
use Rattle.taxii_exchange.specs.declared.answer.Answer.{Answer}
use Rattle.taxii_exchange.specs.Answers.{IsAnswerText, no_memory_answer}
use Rattle.taxii_exchange.specs.declared.config.Config.{Config}
use Rattle.taxii_service.specs.declared.state.State.{State}
use Rattle.taxii_exchange.proofs.AnswersToRequestsLemmas.{told_fault}
use Rattle.taxii_service.specs.Step.{Step, FailsToKeep}
use Rattle.taxii_service.specs.Exchanges.{Course, IsExchange}
use Rattle.taxii_service.specs.Exchanges.Course.{Stepped, KeeperFailed, OutOfMemory}
use Rattle.taxii_server.specs.Environment.{Environment, GivesMoments}
use Rattle.taxii_server.specs.Connections.{Pass, ends_out_of_memory}
use Rattle.taxii_server.specs.inner.Answering.{Answers}

-- the next moment alone
moments-one : (moment : ℕ) (before now : ℕ → Option ℕ) → IsNext before moment → Continues before now → GivesMoments (moment ∷ []) before now
moments-one moment before now next continues = record { given = given; continues = continues }
  where
    given : (n observable : ℕ) → slice_get (moment ∷ []) n ≡ Some observable → IfSome (before n) (λ its. observable ≡ its)
    given zero observable is = subst (λ (m : ℕ). IfSome (before 0) (λ its. m ≡ its)) (cc is) next
    given (suc n) observable is = absurd (cc is)

-- what was written of an answer to a request
abbrev pub Writes : {E : Type 0} → Bool → List ℕ → Option (List ℕ) → Option (List ℕ) → Result Bool E → Type 0
Writes close text written now result =
    MatchResult result (λ closes. (closes ≡ close) × (now ≡ written_with text written)) (λ _. WritesPart text written now)

-- an exchange, with what it asks of the clock and of the keeper
pub record Exchanged (config : Config) (before : State) (moment : ℕ) (request : Request) (environment now : Environment) (out_of_memory : Bool) (answer : Answer) (after : State) : Type 0 where
  pub course : Course
  pub memory : ends_out_of_memory course ≡ out_of_memory
  pub its : IsExchange config (record { before = before; moment = moment; request = request; course = course; answer = answer; after = after })
  pub passes : Pass (record { before = before; moment = moment; request = request; course = course; answer = answer; after = after } ∷ []) environment now

-- what a law of steps says
abbrev pub NoStepTellsAStoreFault : Type 0
NoStepTellsAStoreFault = (config : Config) (before : State) (moment : ℕ) (request : Request) (answer : Answer) (after : State)
    → Step config before moment request answer after → answer.status ≢ InternalServerError

-- a step, or a fault of the keeper
pub exchanged-answer : NoStepTellsAStoreFault → {config : Config} {before : State} {moment : ℕ} {request : Request} {environment now : Environment} {answer : Answer} {after : State}
    → Step config before moment request answer after ⊎ FailsToKeep config before moment request answer after
    → IsNext environment.moments moment → Continues environment.moments now.moments → Counted (answer.status ≡ InternalServerError) environment.faults now.faults
    → Exchanged config before moment request environment now false answer after
exchanged-answer law {moment = moment} {environment = environment} {now = now} (inl step) next continues tells =
    let quiet = tells.quiet (law _ _ _ _ _ _ step) in record {
      course = Stepped;
      memory = refl;
      its = step;
      passes = record { moments = moments-one moment environment.moments now.moments next continues; faults = omega (arith, quiet); quiet = λ none. quiet };
    }
exchanged-answer law {moment = moment} {request = request} {environment = environment} {now = now} (inr fails) next continues tells = record {
  course = KeeperFailed;
  memory = refl;
  its = fails;
  passes = record {
    moments = moments-one moment environment.moments now.moments next continues;
    faults = tells.failed (ap (λ (its : Answer). its.status) fails.answer_is ∙ told_fault request.method);
    quiet = λ none. absurd (cc none);
  };
}

-- want of memory, where nothing has changed
pub exchanged-no_memory : {config : Config} {before : State} {moment : ℕ} {request : Request} {environment now : Environment} {after : State}
    → after ≡ before → IsNext environment.moments moment → Continues environment.moments now.moments → now.faults ≡ environment.faults
    → Exchanged config before moment request environment now true no_memory_answer after
exchanged-no_memory {moment = moment} {environment = environment} {now = now} same next continues quiet = record {
  course = OutOfMemory;
  memory = refl;
  its = (refl, same);
  passes = record { moments = moments-one moment environment.moments now.moments next continues; faults = omega (arith, quiet); quiet = λ none. quiet };
}

-- whether the connection ends after an answer
pub closes-asked : (asked last close : Bool) → asked ≡ true → close ≡ asked → close ≡ (asked || false || last)
closes-asked true last close asks is = is
closes-asked false last close asks is = absurd (cc asks)

pub closes-last : (asked last close : Bool) → asked ≡ false → close ≡ last → close ≡ (asked || false || last)
closes-last true last close asks is = absurd (cc asks)
closes-last false last close asks is = is

pub closes-no_memory : (asked last : Bool) → true ≡ (asked || true || last)
closes-no_memory true last = refl
closes-no_memory false last = refl

-- an exchange whose answer was written, or less than all of it
pub answers : {E : Type 0} {config : Config} {before : State} {moment : ℕ} {request : Request} {is_last : Bool} {environment now : Environment}
    {out_of_memory : Bool} {answer : Answer} {after : State} {close : Bool} {text : List ℕ} {written written_now : Option (List ℕ)} {result : Result Bool E}
    → Exchanged config before moment request environment now out_of_memory answer after
    → close ≡ (request.close || out_of_memory || is_last) → IsAnswerText answer close text → Writes close text written written_now result
    → Answers config before request is_last environment now written written_now result after
answers {before = before} {moment = moment} {request = request} {is_last = is_last} {answer = answer} {after = after} {close = close} {text = text} exchanged close_is text_is writes = record {
  exchange = record { before = before; moment = moment; request = request; course = exchanged.course; answer = answer; after = after };
  its = exchanged.its;
  request_is = refl;
  before_is = refl;
  after_is = refl;
  passes = exchanged.passes;
  close = close;
  close_is = close_is ∙ ap (λ (memory : Bool). request.close || memory || is_last) (sym exchanged.memory);
  text = text;
  text_is = text_is;
  writes = writes;
}

-- a fault is passed on
pub writes-err : {E : Type 0} (close : Bool) (text : List ℕ) (written now : Option (List ℕ)) (result : Result Bool E)
    → IsErr result → WritesPart text written now → Writes close text written now result
writes-err close text written now (Ok closes) failed part = absurd (cc failed)
writes-err close text written now (Err fault) failed part = part
