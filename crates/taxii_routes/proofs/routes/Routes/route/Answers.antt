use Rattle.std.proofs.Common.{arith, sym, ap, ◌∙◌}
use Rattle.matchit.specs.Seek.{first}
use Rattle.taxii_routes.specs.inner.Found.{taken}
use Rattle.taxii_routes.proofs.FoundLemmas.{found_match}
use Rattle.taxii_routes.proofs.TableLemmas.{no_route}
use Rattle.taxii_routes.proofs.RouteAnswerLemmas.{has_path, is_some, found_path, only_where}
use Rattle.taxii_routes.proofs.routes.Routes.route.Goals as goal

pub returns-in-Ok-clause-found : goal.returns-in-Ok-clause-found
returns-in-Ok-clause-found c =
    has_path c.args.path.now c.named.result
    (c.named.ensures c.args.path.now
    (found_match c.args.self.now.router c.args.path.now c.in-Ok.found.params c.in-Ok.found.value.now c.args.self.now.whole c.utf8.path (λ k inside. omega (arith, c.type_inv.path k)) c.in-Ok.ensures.found c.in-Ok.ensures.path))

pub returns-in-Ok-clause-none : goal.returns-in-Ok-clause-none
returns-in-Ok-clause-none c = λ is.
    absurd (is_some c.args.path.now c.named.result
    (c.named.ensures c.args.path.now
    (found_match c.args.self.now.router c.args.path.now c.in-Ok.found.params c.in-Ok.found.value.now c.args.self.now.whole c.utf8.path (λ k inside. omega (arith, c.type_inv.path k)) c.in-Ok.ensures.found c.in-Ok.ensures.path)) is)

pub returns-in-Err-clause-none : goal.returns-in-Err-clause-none
returns-in-Err-clause-none c = λ is. no_route c.args.path.now (ap (λ rows. first rows c.args.path.now) (sym c.args.self.now.whole) ∙ c.in-Err.ensures.missing)

pub returns-in-Ok-clause-err : goal.returns-in-Ok-clause-err
returns-in-Ok-clause-err c =
    only_where c.named.result
    (found_path c.in-Ok.found.value.now c.args.path.now (taken c.in-Ok.found.params)
    (found_match c.args.self.now.router c.args.path.now c.in-Ok.found.params c.in-Ok.found.value.now c.args.self.now.whole c.utf8.path (λ k inside. omega (arith, c.type_inv.path k)) c.in-Ok.ensures.found c.in-Ok.ensures.path))
