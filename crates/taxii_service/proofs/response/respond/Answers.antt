use Rattle.std.proofs.Common.{◌≡◌, ◌⊎◌, inl, inr, ℕ, List, [], unwrap_or, option_map, subst}
use Rattle.taxii_exchange.specs.declared.answer.Answer.{Answer}
use Rattle.taxii_bodies.specs.declared.problem.Problem.TheVariants.{StoreFault}
use Rattle.taxii_exchange.specs.AnswersToRequests.{answer_to_problem}
use Rattle.taxii_routes.specs.Route.{IsRoutePath}
use Rattle.taxii_routes.specs.Target.{IsTargetOf}
use Rattle.taxii_service.specs.declared.state.State.{State}
use Rattle.taxii_service.specs.Step.{RouteStep, Step, FailsToKeep}
use Rattle.taxii_service.specs.inner.Performing.{RouteChanges}
use Rattle.taxii_service.proofs.PerformLemmas.{if_ok}
use Rattle.taxii_service.proofs.response.respond.Goals as goal

pub returns-in_default : goal.returns-in_default
returns-in_default g c =
    let config = c.args.config.now in
    let request = c.args.request.now in
    let moment = c.args.moment in
    let before = c.args.state.now in
    let after = c.respond_at.new.state in
    let route = c.in_ok-route.route in
    let path = c.split_target.result.0.now in
    let query = option_map (λ text. text.now) c.split_target.result.1 in
    let target : IsTargetOf request.target path query = subst (λ (text : List ℕ). IsTargetOf text path query) c.as_str.ensures c.split_target.ensures in
    let path_is : IsRoutePath path route = c.in_ok-route.ensures.found c.in_default.not-None in
    let text : c.query_text-query.result.now ≡ unwrap_or query [] = c.query_text-query.ensures in
    let steps = λ (answer : Answer) (now : State) (step : RouteStep config before moment request route c.query_text-query.result.now answer now).
    let its = subst (λ (t : List ℕ). RouteStep config before moment request route t answer now) text step in
    let whole : Step config before moment request answer now = record { path = path; query = query; target_is = target; outcome = inr (route, path_is, its) } in
    whole in
    let ensures = c.respond_at.ensures in
    record {
      agrees = ensures.agrees;
      keeper = ensures.keeper;
      ok = if_ok c.respond_at.result
          (λ answer. RouteStep config before moment request route c.query_text-query.result.now answer after
          ⊎ ((answer ≡ answer_to_problem request.method StoreFault) × (after ≡ before) × RouteChanges config before moment request route c.query_text-query.result.now))
          (λ answer. Step config before moment request answer after ⊎ FailsToKeep config before moment request answer after)
          (λ answer came. elim came [
            | inl step ↦ inl (steps answer after step)
            | inr fault ↦
                let (wanted, changed, done, rows) = fault.2 in
                inr (record { answer_is = fault.0; unchanged = fault.1; wanted = wanted; changed = changed; step = steps wanted changed (inr done); rows = rows })
          ]) ensures.ok;
      err = ensures.err;
      causes = ensures.causes;
      dates = ensures.dates;
    }
