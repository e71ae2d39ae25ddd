-- One exchange makes nothing, an addition or a deletion of the store.
use Rattle.std.proofs.Common.{◌≡◌, inl, inr, ℕ, List, unwrap_or, [], refl, sym, ap, subst}
use Rattle.stix_ids.specs.declared.id.Id.{Id}
use Rattle.http_messages.specs.declared.request.Request.{Request}
use Rattle.taxii_exchange.specs.declared.answer.Answer.{Answer}
use Rattle.taxii_routes.specs.declared.query.Query.{Query}
use Rattle.taxii_routes.specs.declared.route.Route.{Route}
use Rattle.taxii_exchange.specs.declared.config.Config.{Config}
use Rattle.taxii_service.specs.declared.state.State.{State}
use Rattle.taxii_service.specs.Adding.{with_added}
use Rattle.taxii_service.specs.Deleting.{without_dates}
use Rattle.taxii_service.specs.Operation.{Operation, Read, Add, Remove, AddsBody, RemovesObject, Does}
use Rattle.taxii_service.specs.Step.{RouteStep, Step}
use Rattle.taxii_store.specs.History.{IsHistory}
use Rattle.taxii_service.specs.Exchanges.{Course, Stepped, KeeperFailed, OutOfMemory, Exchange, RunsExchange, IsExchange}
use Rattle.taxii_service.proofs.DatedLemmas.{no_history, one_change}
use Rattle.taxii_service.proofs.AddedLemmas.{added}

unchanged : (before after : State) → after ≡ before → IsHistory before.library after.library
unchanged before after same = no_history before.library after.library (ap (λ (state : State). state.library) same)

posted : (before : State) (moment : ℕ) (body : List ℕ) (collection : ℕ) (answer : Answer) (after : State)
    → AddsBody before moment body collection answer after → IsHistory before.library after.library
posted before moment body collection answer after its =
    subst (λ (state : State). IsHistory before.library state.library) (sym its.after_is)
    (one_change before.library (with_added its.new its.text before).library
    (inl (added before.library collection moment its.adding.posted.objects.items its.adding.outcomes its.new its.adding.addition)))

deleted : (before : State) (collection : ℕ) (id : Id) (query : Query) (answer : Answer) (after : State)
    → RemovesObject before collection id query answer after → IsHistory before.library after.library
deleted before collection id query answer after its =
    subst (λ (state : State). IsHistory before.library state.library) (sym its.after_is)
    (one_change before.library (without_dates its.dates before).library (inr (record { dates = its.dates; after_is = refl })))

done : (config : Config) (before : State) (moment : ℕ) (body : List ℕ) (query : Query) (operation : Operation) (answer : Answer) (after : State)
    → Does config before moment body query operation answer after → IsHistory before.library after.library
done config before moment body query (Read resource) answer after does = unchanged before after does.1
done config before moment body query (Add info) answer after does = posted before moment body info.id answer after does
done config before moment body query (Remove info id) answer after does = deleted before info.id id query answer after does

routed : (config : Config) (before : State) (moment : ℕ) (request : Request) (route : Route) (text : List ℕ) (answer : Answer) (after : State)
    → RouteStep config before moment request route text answer after → IsHistory before.library after.library
routed config before moment request route text answer after (inl refused) = unchanged before after refused.3
routed config before moment request route text answer after (inr its) =
    done config before moment request.body its.query its.operation answer after its.does

stepped : (config : Config) (before : State) (moment : ℕ) (request : Request) (answer : Answer) (after : State)
    → Step config before moment request answer after → IsHistory before.library after.library
stepped config before moment request answer after step = elim step.outcome [
  | inl lost ↦ unchanged before after lost.2
  | inr found ↦ routed config before moment request found.0 (unwrap_or step.query []) answer after found.2
]

runs : (config : Config) (e : Exchange) (course : Course) → RunsExchange course config e → IsHistory e.before.library e.after.library
runs config e Stepped step = stepped config e.before e.moment e.request e.answer e.after step
runs config e KeeperFailed fails = unchanged e.before e.after fails.unchanged
runs config e OutOfMemory wants = unchanged e.before e.after wants.1

pub exchanged : (config : Config) (e : Exchange) → IsExchange config e → IsHistory e.before.library e.after.library
exchanged config e its = runs config e e.course its
