-- The answer to a problem has the problem's status, whatever the method.
use Rattle.std.proofs.Common.{◌≡◌, refl}
use Rattle.http_messages.specs.declared.method.Method.{Method}
use Rattle.http_messages.specs.declared.method.Method.TheVariants.{Get, Head, Post, Delete, Other}
use Rattle.http_messages.specs.declared.status.Status.TheVariants.{InternalServerError}
use Rattle.taxii_bodies.specs.declared.problem.Problem.{Problem}
use Rattle.taxii_bodies.specs.declared.problem.Problem.TheVariants.{StoreFault}
use Rattle.taxii_exchange.specs.AnswersToRequests.{problem_status, answer_to_problem}

pub told_status : (method : Method) (problem : Problem) → (answer_to_problem method problem).status ≡ problem_status problem
told_status Get problem = refl
told_status Head problem = refl
told_status Post problem = refl
told_status Delete problem = refl
told_status Other problem = refl

-- that to a fault of the store is an error of the server
pub told_fault : (method : Method) → (answer_to_problem method StoreFault).status ≡ InternalServerError
told_fault method = told_status method StoreFault
