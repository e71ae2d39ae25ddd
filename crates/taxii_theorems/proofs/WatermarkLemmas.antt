-- No exchange gives a date past the last one that there is.
use Rattle.std.proofs.Common.{◌≡◌, inl, inr, ℕ, ◌+◌, ◌≤◌, List, unwrap_or, [], ◌∷◌, ◌++◌, length, Option, Some, None, MatchOption, sym, subst, arith}
use Rattle.http_messages.specs.declared.request.Request.{Request}
use Rattle.taxii_exchange.specs.declared.answer.Answer.{Answer}
use Rattle.taxii_routes.specs.declared.query.Query.{Query}
use Rattle.taxii_routes.specs.declared.route.Route.{Route}
use Rattle.taxii_rows.specs.declared.stored_row.StoredRow.{StoredRow}
use Rattle.taxii_rows.specs.declared.stored_row.TheConstants.{LAST_DATE}
use Rattle.taxii_rows.specs.declared.described.Described.{Described}
use Rattle.taxii_rows.specs.Described.{stored_row_of}
use Rattle.taxii_index.specs.Presence.{duplicate_of}
use Rattle.taxii_store.specs.declared.add_outcome.AddOutcome.{AddOutcome}
use Rattle.taxii_store.specs.declared.add_outcome.AddOutcome.TheVariants.{Added, Present}
use Rattle.taxii_store.specs.Addition.{AddsObjects, first_date, watermark_after}
use Rattle.taxii_exchange.specs.declared.config.Config.{Config}
use Rattle.taxii_service.specs.declared.state.State.{State}
use Rattle.taxii_service.specs.Operation.{Operation, Read, Add, Remove, AddsBody, Does}
use Rattle.taxii_service.specs.Step.{RouteStep, Step}
use Rattle.taxii_service.specs.Exchanges.{Course, Stepped, KeeperFailed, OutOfMemory, Exchange, RunsExchange, IsExchange}

-- the last of the new rows is within the last date that there is
adds_within : (most watermark collection date : ℕ) (rows : List StoredRow) (objects : List Described) (outcomes : List AddOutcome) (new : List StoredRow)
    → watermark ≤ most → date + length new ≤ most + 1 → AddsObjects collection date rows objects outcomes new → watermark_after watermark new ≤ most
adds_within most watermark collection date rows [] outcomes new low few adds =
    subst (λ (its : List StoredRow). watermark_after watermark its ≤ most) (sym adds.1) low
adds_within most watermark collection date rows (object ∷ objects) outcomes new low few adds = next (duplicate_of collection object rows) adds
    (λ others. adds_within most watermark collection date rows objects others new low few)
    (λ others more less. adds_within most date collection (date + 1) (rows ++ row ∷ []) objects others more (omega (arith, less)) (omega (arith, less)))
  where
    row : StoredRow
    row = stored_row_of object date collection

    next : (found : Option StoredRow)
        → MatchOption found
        ((others : List AddOutcome) × (more : List StoredRow)
        × (outcomes ≡ Added date ∷ others) × (new ≡ row ∷ more) × AddsObjects collection (date + 1) (rows ++ row ∷ []) objects others more)
        (λ held. (others : List AddOutcome) × (outcomes ≡ Present held.date ∷ others) × AddsObjects collection date rows objects others new)
        → ((others : List AddOutcome) → AddsObjects collection date rows objects others new → watermark_after watermark new ≤ most)
        → ((others : List AddOutcome) (more : List StoredRow) → date + length (row ∷ more) ≤ most + 1 → AddsObjects collection (date + 1) (rows ++ row ∷ []) objects others more
        → watermark_after date more ≤ most)
        → watermark_after watermark new ≤ most
    next (Some held) (others, out_is, it) again behind = again others it
    next None (others, more, out_is, new_is, it) again behind =
        subst (λ (its : List StoredRow). watermark_after watermark its ≤ most) (sym new_is)
        (behind others more (subst (λ (its : List StoredRow). date + length its ≤ most + 1) new_is few) it)

-- a state whose dates are within it
abbrev pub IsWithin : State → Type 0
IsWithin state = state.library.watermark ≤ LAST_DATE

unchanged : (before after : State) → after ≡ before → IsWithin before → IsWithin after
unchanged before after same within = subst IsWithin (sym same) within

posted : (before : State) (moment : ℕ) (body : List ℕ) (collection : ℕ) (answer : Answer) (after : State)
    → AddsBody before moment body collection answer after → IsWithin before → IsWithin after
posted before moment body collection answer after its within =
    let room = its.adding.addition.room in
    subst IsWithin (sym its.after_is)
    (adds_within LAST_DATE before.library.watermark collection (first_date before.library.watermark moment (length its.new)) before.library.rows its.adding.posted.objects.items
    its.adding.outcomes its.new within (omega (arith, room, within)) its.adding.addition.adds)

done : (config : Config) (before : State) (moment : ℕ) (body : List ℕ) (query : Query) (operation : Operation) (answer : Answer) (after : State)
    → Does config before moment body query operation answer after → IsWithin before → IsWithin after
done config before moment body query (Read resource) answer after does within = unchanged before after does.1 within
done config before moment body query (Add info) answer after does within = posted before moment body info.id answer after does within
done config before moment body query (Remove info id) answer after does within = subst IsWithin (sym does.after_is) within

routed : (config : Config) (before : State) (moment : ℕ) (request : Request) (route : Route) (text : List ℕ) (answer : Answer) (after : State)
    → RouteStep config before moment request route text answer after → IsWithin before → IsWithin after
routed config before moment request route text answer after (inl refused) within = unchanged before after refused.3 within
routed config before moment request route text answer after (inr its) within =
    done config before moment request.body its.query its.operation answer after its.does within

stepped : (config : Config) (before : State) (moment : ℕ) (request : Request) (answer : Answer) (after : State)
    → Step config before moment request answer after → IsWithin before → IsWithin after
stepped config before moment request answer after step within = elim step.outcome [
  | inl lost ↦ unchanged before after lost.2 within
  | inr found ↦ routed config before moment request found.0 (unwrap_or step.query []) answer after found.2 within
]

runs : (config : Config) (e : Exchange) (course : Course) → RunsExchange course config e → IsWithin e.before → IsWithin e.after
runs config e Stepped step = stepped config e.before e.moment e.request e.answer e.after step
runs config e KeeperFailed fails = unchanged e.before e.after fails.unchanged
runs config e OutOfMemory wants = unchanged e.before e.after wants.1

pub stays_within : (config : Config) (e : Exchange) → IsExchange config e → IsWithin e.before → IsWithin e.after
stays_within config e its = runs config e e.course its
