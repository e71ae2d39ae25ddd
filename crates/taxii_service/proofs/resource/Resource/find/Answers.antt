use Rattle.std.proofs.Common.{sym, subst, option_map}
use Rattle.flow_values.specs.Answers.{FindsExactly}
use Rattle.taxii_routes.specs.declared.route.Route.{Route}
use Rattle.taxii_service.specs.Resource as spec
use Rattle.taxii_service.specs.Finding.{IsResource}
use Rattle.taxii_service.proofs.ResourceLemmas.{no_object}
use Rattle.taxii_service.proofs.resource.Resource.find.Goals as goal

pub returns-in_err-id-in-Object : goal.returns-in_err-id-in-Object
returns-in_err-id-in-Object c =
    let infos = c.args.config.now.collections in
    let state = c.args.state.now in
    subst (λ found. FindsExactly (IsResource infos state c.args.route.now) (option_map spec.resource_of found)) (sym c.from_residual-in_err-id-in-Object.ensures)
    (λ resource its.
    let (other, id, names, named, is) = subst (λ (r : Route). IsResource infos state r resource) c.in-Object.is its in
    no_object infos state.library.rows _ _ _ _ c.in_ok-info-in-Object.info.now c.as_str-in-Object.ensures c.as_str-in-Object-2.ensures c.in_ok-info-in-Object.ensures
    c.in_err-id-in-Object.ensures other id names named)

pub returns-in_err-id-in-Versions : goal.returns-in_err-id-in-Versions
returns-in_err-id-in-Versions c =
    let infos = c.args.config.now.collections in
    let state = c.args.state.now in
    subst (λ found. FindsExactly (IsResource infos state c.args.route.now) (option_map spec.resource_of found)) (sym c.from_residual-in_err-id-in-Versions.ensures)
    (λ resource its.
    let (other, id, names, named, is) = subst (λ (r : Route). IsResource infos state r resource) c.in-Versions.is its in
    no_object infos state.library.rows _ _ _ _ c.in_ok-info-in-Versions.info.now c.as_str-in-Versions.ensures c.as_str-in-Versions-2.ensures c.in_ok-info-in-Versions.ensures
    c.in_err-id-in-Versions.ensures other id names named)
