-- A path has one route at most: the route is told by the parts between the slashes.
use Rattle.std.proofs.Common.{◌≡◌, ◌≢◌, ℕ, ◌==◌, Bool, false, List, [], ◌∷◌, ◌++◌, codes, bytes_eq, if◌then◌else◌, refl, sym, ap, ◌∙◌, append-nil, append_assoc}
use Rattle.std.specs.List.{slice_split}
use Rattle.std.proofs.lemmas.Bool.{ne_eqb}
use Rattle.std.proofs.lemmas.List.Elements.{All-weaker}
use Rattle.std.proofs.lemmas.List.Splits.{slice_split_at}
use Rattle.taxii_routes.specs.declared.route.Route.{Route}
use Rattle.taxii_routes.specs.declared.route.Route.TheVariants.{Discovery, Root, Status, Collections, Collection, Manifest, Objects, Object, Versions}
use Rattle.taxii_routes.specs.Route.{IsSegment, collection_path, object_path, IsRoutePath}

abbrev is_slash : ℕ → Bool
is_slash byte = byte == 47

-- the parts between the slashes
abbrev parts_of : List ℕ → List (List ℕ)
parts_of path = slice_split is_slash path

-- the route of these parts, if they are a path's
abbrev route_of : List (List ℕ) → Route
route_of [] = Route.None
route_of (a ∷ []) = Route.None
route_of (a ∷ b ∷ []) = Route.None
route_of (a ∷ root ∷ c ∷ []) = if bytes_eq root (codes "api") then Root else Discovery
route_of (a ∷ b ∷ c ∷ d ∷ []) = Collections
route_of (a ∷ b ∷ row ∷ id ∷ e ∷ []) = if bytes_eq row (codes "status") then Status id else Collection id
route_of (a ∷ b ∷ c ∷ id ∷ row ∷ f ∷ []) = if bytes_eq row (codes "manifest") then Manifest id else Objects id
route_of (a ∷ b ∷ c ∷ collection ∷ e ∷ object ∷ g ∷ []) = Object collection object
route_of (a ∷ b ∷ c ∷ collection ∷ e ∷ object ∷ g ∷ h ∷ more) = Versions collection object

-- a segment before a slash is a part
part_first : (segment rest : List ℕ) → IsSegment segment → parts_of (segment ++ 47 ∷ rest) ≡ segment ∷ parts_of rest
part_first segment rest is =
    slice_split_at is_slash segment 47 rest (All-weaker (λ byte. byte ≢ 47) (λ byte. is_slash byte ≡ false) (λ byte other. ne_eqb byte 47 other) segment is.bytes) refl

-- the parts of the path of a collection, with more after it
collection_parts : (id rest path : List ℕ) → IsSegment id → path ≡ collection_path id ++ rest
    → parts_of path ≡ [] ∷ codes "api" ∷ codes "collections" ∷ id ∷ parts_of rest
collection_parts id rest path is e =
    ap parts_of (e ∙ ap (λ q. codes "/api/collections/" ++ q) (append_assoc id (codes "/") rest))
    ∙ ap (λ (parts : List (List ℕ)). [] ∷ codes "api" ∷ codes "collections" ∷ parts) (part_first id rest is)

-- and of an object in it
object_parts : (collection object rest path : List ℕ) → IsSegment collection → IsSegment object → path ≡ object_path collection object ++ rest
    → parts_of path ≡ [] ∷ codes "api" ∷ codes "collections" ∷ collection ∷ codes "objects" ∷ object ∷ parts_of rest
object_parts collection object rest path is also e =
    let tail : (codes "objects/" ++ (object ++ codes "/")) ++ rest ≡ codes "objects/" ++ (object ++ 47 ∷ rest) = ap (λ q. codes "objects/" ++ q) (append_assoc object (codes "/") rest) in
    let whole : path ≡ collection_path collection ++ (codes "objects/" ++ (object ++ 47 ∷ rest)) =
    e ∙ append_assoc (collection_path collection) (codes "objects/" ++ (object ++ codes "/")) rest ∙ ap (λ q. collection_path collection ++ q) tail in
    collection_parts collection (codes "objects/" ++ (object ++ 47 ∷ rest)) path is whole
    ∙ ap (λ (parts : List (List ℕ)). [] ∷ codes "api" ∷ codes "collections" ∷ collection ∷ codes "objects" ∷ parts) (part_first object rest also)

told : (path : List ℕ) (route : Route) → IsRoutePath path route → route_of (parts_of path) ≡ route
told path Discovery is = ap (λ p. route_of (parts_of p)) is
told path Root is = ap (λ p. route_of (parts_of p)) is
told path (Status id) is =
    ap (λ p. route_of (parts_of p)) is.1 ∙ ap (λ (parts : List (List ℕ)). route_of ([] ∷ codes "api" ∷ codes "status" ∷ parts)) (part_first id [] is.0)
told path Collections is = ap (λ p. route_of (parts_of p)) is
told path (Collection id) is = ap route_of (collection_parts id [] path is.0 (is.1 ∙ sym (append-nil (collection_path id))))
told path (Manifest id) is = ap route_of (collection_parts id (codes "manifest/") path is.0 is.1)
told path (Objects id) is = ap route_of (collection_parts id (codes "objects/") path is.0 is.1)
told path (Object collection object) is = ap route_of (object_parts collection object [] path is.0 is.1 (is.2 ∙ sym (append-nil (object_path collection object))))
told path (Versions collection object) is = ap route_of (object_parts collection object (codes "versions/") path is.0 is.1 is.2)
told path Route.None is = absurd is

pub one_route : (path : List ℕ) (first second : Route) → IsRoutePath path first → IsRoutePath path second → first ≡ second
one_route path first second p q = sym (told path first p) ∙ told path second q
