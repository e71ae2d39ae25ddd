-- The result of a lookup, in terms of `matchit`.
use Rattle.std.specs.Prelude.{◌≡◌, ℕ, List, Some, codes}
use Rattle.matchit.specs.Params.{walk, AllText, named}
use Rattle.matchit.specs.declared.params.Params.{Params}
use Rattle.taxii_routes.specs.declared.endpoint.Endpoint.{Endpoint}
use Rattle.taxii_routes.specs.declared.route.Route.TheVariants as Route
use Rattle.taxii_routes.specs.Route.{IsRoutePath}

-- names, and what stands in the path for each
abbrev pub Taken : Type 0
Taken = List (List ℕ × List ℕ)

-- what the parameters of a match took
abbrev pub taken : Params → Taken
taken params = walk params.pattern.now params.text.now params.path.now params.names.now 0 0

-- the value represents the name, and all is text
pub record RepresentsParameter (took : Taken) (name value : List ℕ) : Type 0 where
  pub found : named name took ≡ Some value
  pub texts : AllText took

-- the path has a route of the endpoint, whose texts represent their names
abbrev pub Found : Endpoint → List ℕ → Taken → Type 0
Found Endpoint.Discovery path took = IsRoutePath path Route.Discovery
Found Endpoint.Root path took = IsRoutePath path Route.Root
Found Endpoint.Status path took = (id : List ℕ) × IsRoutePath path (Route.Status id) × RepresentsParameter took (codes "id") id
Found Endpoint.Collections path took = IsRoutePath path Route.Collections
Found Endpoint.Collection path took = (id : List ℕ) × IsRoutePath path (Route.Collection id) × RepresentsParameter took (codes "id") id
Found Endpoint.Manifest path took = (id : List ℕ) × IsRoutePath path (Route.Manifest id) × RepresentsParameter took (codes "id") id
Found Endpoint.Objects path took = (id : List ℕ) × IsRoutePath path (Route.Objects id) × RepresentsParameter took (codes "id") id
Found Endpoint.Object path took =
    (id object : List ℕ) × IsRoutePath path (Route.Object id object) × RepresentsParameter took (codes "id") id × RepresentsParameter took (codes "object") object
Found Endpoint.Versions path took =
    (id object : List ℕ) × IsRoutePath path (Route.Versions id object) × RepresentsParameter took (codes "id") id × RepresentsParameter took (codes "object") object
