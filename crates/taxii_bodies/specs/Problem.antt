-- The titles of errors (TAXII 2.1, section 3.6.1), by what is wrong.
use Rattle.std.specs.Prelude.{ℕ, List, ◌++◌, codes}
use Rattle.taxii_routes.specs.Param.{param_name}
use Rattle.taxii_bodies.specs.declared.problem.Problem.{Problem}
use Rattle.taxii_bodies.specs.declared.problem.Problem.TheVariants.{BadValue, Repeated, Forbidden, NotFound, NotAcceptable, UnsupportedMediaType, NotJson, NotList, StoreFault, DatesUsedUp}

-- the title of a problem
abbrev pub problem_title : Problem → List ℕ
problem_title (BadValue param) = codes "bad value of " ++ param_name param
problem_title (Repeated param) = codes "repeated " ++ param_name param
problem_title Forbidden = codes "forbidden"
problem_title NotFound = codes "not found"
problem_title NotAcceptable = codes "not acceptable"
problem_title UnsupportedMediaType = codes "unsupported media type"
problem_title NotJson = codes "unprocessable: NotJson"
problem_title NotList = codes "unprocessable: NotList"
problem_title StoreFault = codes "store fault"
problem_title DatesUsedUp = codes "date range is used up"
