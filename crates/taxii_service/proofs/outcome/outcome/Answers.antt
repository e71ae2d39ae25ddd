use Rattle.std.proofs.Common.{List, ℕ, subst}
use Rattle.std.specs.Prelude.{IfErr}
use Rattle.taxii_exchange.specs.Checking.{IsFit}
use Rattle.taxii_service.specs.Resource.{resource_of, allowed, rights_to}
use Rattle.taxii_service.specs.inner.Performing.{operation_of}
use Rattle.taxii_service.proofs.PerformLemmas.{IsWhyNot, request_fails}
use Rattle.taxii_service.proofs.outcome.outcome.Goals as goal

pub returns-clause-err : goal.returns-clause-err
returns-clause-err g c =
    let config = c.args.config.now in
    let before = c.args.state.now in
    let request = c.args.request.now in
    let query = c.in_ok-query.query in
    let resource = resource_of c.in-Some.resource in
    let operation = operation_of c.of-operation.result in
    let fit : IsFit (allowed resource) (rights_to resource) request =
    subst (λ its. IsFit its (rights_to resource) request) c.allow.ensures
    (subst (λ rights. IsFit c.allow.result rights request) c.rights.ensures c.in_ok-query.ensures.fit) in
    let err = subst (λ (body : List ℕ). IfErr c.perform.result (IsWhyNot config before c.args.moment body query operation)) c.as_slice-body.ensures c.perform.ensures.err in
    request_fails config before c.args.moment request c.args.route.now c.args.query.now query resource operation c.perform.result
    c.in-Some.ensures fit c.in_ok-query.ensures.query c.of-operation.ensures err
