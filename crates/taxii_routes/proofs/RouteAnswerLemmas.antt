-- The answer of a look-up.
use Rattle.std.proofs.Common.{◌≡◌, ◌≢◌, ℕ, List, Option, Some, None, Result, Ok, Err, refl, subst, ◌∙◌}
use Rattle.std.specs.Prelude.{IfOk, OnErr}
use Rattle.flow_values.specs.declared.no_memory.NoMemory.{NoMemory}
use Rattle.taxii_routes.specs.declared.route.Route.{Route}
use Rattle.taxii_routes.specs.declared.route.Route.TheVariants as Route
use Rattle.taxii_routes.specs.declared.endpoint.Endpoint.{Endpoint}
use Rattle.taxii_routes.specs.declared.endpoint.Endpoint.TheVariants as Endpoint
use Rattle.taxii_routes.specs.Route.{IsRoutePath}
use Rattle.taxii_routes.specs.inner.Found.{Taken, Found}

-- a route of the path is answered
abbrev pub Answers : List ℕ → Result Route NoMemory → Type 0
Answers path answer = IfOk answer (λ route. (route ≢ Route.None) × IsRoutePath path route)

pub has_path : (path : List ℕ) (answer : Result Route NoMemory) → Answers path answer → IfOk answer (λ route. route ≢ Route.None → IsRoutePath path route)
has_path path (Ok route) is = λ some. is.1
has_path path (Err e) is = is

pub is_some : (path : List ℕ) (answer : Result Route NoMemory) → Answers path answer → answer ≢ Ok Route.None
is_some path answer is none = let at = subst (Answers path) none is in at.0 refl

-- a copy of a text is a copy of what it is
pub copied : (answer : Result (List ℕ) NoMemory) (text value : List ℕ) → IfOk answer (λ copy. copy ≡ text) → text ≡ value → IfOk answer (λ copy. copy ≡ value)
copied (Ok copy) text value is same = is ∙ same
copied (Err e) text value is same = is

pub same_some : (text value : List ℕ) → Some text ≡ Some value → text ≡ value
same_some text value is = cc

pub no_some : (value : List ℕ) → ◌≡◌ {A = Option (List ℕ)} None (Some value) → ⊥
no_some value is = cc

-- what was found is a route's path
pub found_path : (endpoint : Endpoint) (path : List ℕ) (took : Taken) → Found endpoint path took → (route : Route) × IsRoutePath path route
found_path Endpoint.Discovery path took found = (Route.Discovery, found)
found_path Endpoint.Root path took found = (Route.Root, found)
found_path Endpoint.Status path took found = (Route.Status found.0, found.1)
found_path Endpoint.Collections path took found = (Route.Collections, found)
found_path Endpoint.Collection path took found = (Route.Collection found.0, found.1)
found_path Endpoint.Manifest path took found = (Route.Manifest found.0, found.1)
found_path Endpoint.Objects path took found = (Route.Objects found.0, found.1)
found_path Endpoint.Object path took found = (Route.Object found.0 found.1, found.2)
found_path Endpoint.Versions path took found = (Route.Versions found.0 found.1, found.2)

pub only_where : {X : Type 0} (answer : Result Route NoMemory) → X → OnErr answer X
only_where (Ok route) x = tt
only_where (Err e) x = x
