-- The paths of the router, in terms of `matchit`. proofs/TableLemmas.antt proves that they are the
-- paths of specs/Route.antt. In a pattern's tokens, 256 is a parameter and the others are bytes.
use Rattle.std.specs.Prelude.{ℕ, List, [], ◌∷◌, ◌++◌, codes}
use Rattle.matchit.specs.Rows.{RowsOf}
use Rattle.matchit.specs.Router.{RouteOf}
use Rattle.taxii_routes.specs.declared.endpoint.Endpoint.{Endpoint}
use Rattle.taxii_routes.specs.declared.endpoint.Endpoint.TheVariants.{Discovery, Root, Status, Collections, Collection, Manifest, Objects, Object, Versions}

-- a row: its pattern, the text that it was read from, where the names stand in that text, and its
-- endpoint
abbrev pub row : List ℕ → List ℕ → List (ℕ × ℕ) → Endpoint → List ℕ × RouteOf Endpoint
row pattern text names endpoint = (pattern, record { pattern = pattern; text = text; names = names; value = endpoint })

-- what comes before the identifier of a collection
abbrev pub collections : List ℕ
collections = codes "/api/collections/"

-- the rows, in the router's order: longer ones before what they begin with
unfoldable pub table : RowsOf (RouteOf Endpoint)
table =
    row (collections ++ 256 ∷ codes "/manifest/") (codes "/api/collections/{id}/manifest/") ((18, 20) ∷ []) Manifest
    ∷ row (collections ++ 256 ∷ (codes "/objects/" ++ 256 ∷ codes "/versions/")) (codes "/api/collections/{id}/objects/{object}/versions/") ((18, 20) ∷ (31, 37) ∷ []) Versions
    ∷ row (collections ++ 256 ∷ (codes "/objects/" ++ 256 ∷ codes "/")) (codes "/api/collections/{id}/objects/{object}/") ((18, 20) ∷ (31, 37) ∷ []) Object
    ∷ row (collections ++ 256 ∷ codes "/objects/") (codes "/api/collections/{id}/objects/") ((18, 20) ∷ []) Objects
    ∷ row (collections ++ 256 ∷ codes "/") (codes "/api/collections/{id}/") ((18, 20) ∷ []) Collection
    ∷ row collections collections [] Collections
    ∷ row (codes "/api/status/" ++ 256 ∷ codes "/") (codes "/api/status/{id}/") ((13, 15) ∷ []) Status
    ∷ row (codes "/api/") (codes "/api/") [] Root
    ∷ row (codes "/taxii2/") (codes "/taxii2/") [] Discovery
    ∷ []
