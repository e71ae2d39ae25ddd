-- The dates of an answer are those of rows, none of which is later than the last date there is.
use Rattle.std.proofs.Common.{ℕ, suc, ◌≤◌, List, [], ◌∷◌, All, Option, Some, None, Result, Ok, Err, IfOk, sym, subst, arith, slice_index_or}
use Rattle.std.specs.Prelude.{IfSome, Bool}
use Rattle.std.specs.List.{Contains, last_or}
use Rattle.std.proofs.lemmas.List.Elements.{All-contains}
use Rattle.stix_ids.specs.declared.id.Id.{Id}
use Rattle.http_messages.specs.declared.method.Method.{Method}
use Rattle.http_messages.specs.declared.method.Method.TheVariants.{Get, Head, Post, Delete, Other}
use Rattle.http_messages.specs.declared.request.Request.{Request}
use Rattle.taxii_exchange.specs.declared.answer.Answer.{Answer}
use Rattle.taxii_exchange.specs.declared.answer.TheConstants.{MAX_DATE}
use Rattle.taxii_bodies.specs.declared.problem.Problem.{Problem as AnyProblem}
use Rattle.taxii_exchange.specs.declared.refusal.Refusal.{Refusal}
use Rattle.taxii_exchange.specs.declared.refusal.Refusal.TheVariants.{NotAllowed, Problem, NoMemory}
use Rattle.taxii_exchange.specs.Answers.{HasDates}
use Rattle.taxii_routes.specs.declared.query.Query.{Query}
use Rattle.taxii_routes.specs.declared.route.Route.{Route}
use Rattle.taxii_rows.specs.declared.stored_row.StoredRow.{StoredRow}
use Rattle.taxii_rows.specs.StoreState.{dates_of}
use Rattle.taxii_rows.specs.SoundRow.{IsSoundState}
use Rattle.taxii_store.specs.Page.{IsPage}
use Rattle.taxii_exchange.specs.declared.config.Config.{Config}
use Rattle.taxii_exchange.specs.AnswersToRequests.{first_date_of, answer_to_problem}
use Rattle.taxii_service.specs.declared.state.State.{State}
use Rattle.taxii_service.specs.Step.{IsDone, IsAnswerTo}
use Rattle.taxii_service.proofs.StepAnswerLemmas.{HoldsOfForms, done_holds}

abbrev IsEarly : StoredRow → Type 0
IsEarly row = row.date ≤ MAX_DATE

first_early : (rows : List StoredRow) → All IsEarly rows → IfSome (first_date_of (dates_of rows)) (λ micros. micros ≤ MAX_DATE)
first_early [] each = tt
first_early (row ∷ rows) each = each 0 row (omega arith)

last_early : (before : Option ℕ) (rows : List StoredRow) → IfSome before (λ micros. micros ≤ MAX_DATE) → All IsEarly rows
    → IfSome (last_or before (dates_of rows)) (λ micros. micros ≤ MAX_DATE)
last_early before [] its each = its
last_early before (row ∷ rows) its each =
    last_early (Some row.date) rows (each 0 row (omega arith)) (λ k d within. each (suc k) d (omega (arith, within)))

-- what a law of pages says: their rows are rows of the store
abbrev pub PagesAreStored : Type 0
PagesAreStored = (rows : List StoredRow) (collection : ℕ) (only : Option Id) (query : Query) (page : List StoredRow) (more : Bool)
    → IsPage rows collection only query page more → All (Contains rows) page

stored_early : (rows page : List StoredRow) → All IsEarly rows → All (Contains rows) page → All IsEarly page
stored_early rows page early stored k d within = All-contains IsEarly rows (slice_index_or page k d) early (stored k d within)

dated : PagesAreStored → (rows : List StoredRow) → All IsEarly rows → HoldsOfForms rows HasDates
dated stored rows early = record {
  bodies = λ status body other. record { first = tt; last = tt };
  bare = λ status its other. record { first = tt; last = tt };
  pages = λ collection only query page more body its.
      let each = stored_early rows page early (stored rows collection only query page more its) in
      record { first = first_early page each; last = last_early None page tt each };
}

-- the rows of a sound store are early
pub sound_early : (state : State) → IsSoundState state.library → All IsEarly state.library.rows
sound_early state sound k d within = let marked = sound.marked k d within in omega (arith, marked, sound.last)

-- whatever is done, the answer has such dates
pub done_dated : PagesAreStored → (config : Config) (before : State) (moment : ℕ) (request : Request) (route : Route) (text : List ℕ) (answer : Answer) (after : State)
    → IsSoundState before.library → IsDone config before moment request route text answer after → HasDates answer
done_dated stored config before moment request route text answer after sound done =
    done_holds HasDates config before (dated stored before.library.rows (sound_early before sound)) moment request route text answer after done

-- an answer to a refusal has none
told_dated : (method : Method) (problem : AnyProblem) → HasDates (answer_to_problem method problem)
told_dated Get problem = record { first = tt; last = tt }
told_dated Head problem = record { first = tt; last = tt }
told_dated Post problem = record { first = tt; last = tt }
told_dated Delete problem = record { first = tt; last = tt }
told_dated Other problem = record { first = tt; last = tt }

refusal_dated : (method : Method) (refusal : Refusal) (answer : Answer) → IsAnswerTo method refusal answer → HasDates answer
refusal_dated method (NotAllowed its) answer is = subst HasDates (sym is) (record { first = tt; last = tt })
refusal_dated method (Problem problem) answer is = subst HasDates (sym is) (told_dated method problem)
refusal_dated method NoMemory answer is = absurd is

pub refused_dated : {E : Type 0} (method : Method) (refusal : Refusal) (answer : Result Answer E) → IfOk answer (IsAnswerTo method refusal) → IfOk answer HasDates
refused_dated method refusal (Ok answer) is = refusal_dated method refusal answer is
refused_dated method refusal (Err error) is = tt
