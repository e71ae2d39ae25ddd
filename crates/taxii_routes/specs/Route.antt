-- The paths of the server: the endpoints of TAXII 2.1, sections 4.1, 4.2, 4.3 and 5.1 to 5.8, with
-- the API root `/api/`. A route is printed to its path, and the texts in it are segments of RFC
-- 3986, section 3.3, that are not empty. Of the bytes, 47 is `/`.
use Rattle.std.specs.Prelude.{◌≡◌, ◌≢◌, ℕ, List, [], ◌++◌, All, codes}
use Rattle.taxii_routes.specs.declared.route.Route.{Route}
use Rattle.taxii_routes.specs.declared.route.Route.TheVariants.{Discovery, Root, Status, Collections, Collection, Manifest, Objects, Object, Versions}

-- segment-nz = 1*pchar, of whatever bytes but the slash
pub record IsSegment (text : List ℕ) : Type 0 where
  pub some : text ≢ []
  pub bytes : All (λ byte. byte ≢ 47) text

-- the path of a collection
abbrev pub collection_path : List ℕ → List ℕ
collection_path id = codes "/api/collections/" ++ id ++ codes "/"

-- the path of an object of a collection
abbrev pub object_path : List ℕ → List ℕ → List ℕ
object_path collection object = collection_path collection ++ (codes "objects/" ++ object ++ codes "/")

-- the path has the route: its texts stand in their places, and each is a segment
abbrev pub IsRoutePath : List ℕ → Route → Type 0
IsRoutePath path Discovery = path ≡ codes "/taxii2/"
IsRoutePath path Root = path ≡ codes "/api/"
IsRoutePath path (Status id) = IsSegment id × (path ≡ codes "/api/status/" ++ id ++ codes "/")
IsRoutePath path Collections = path ≡ codes "/api/collections/"
IsRoutePath path (Collection id) = IsSegment id × (path ≡ collection_path id)
IsRoutePath path (Manifest id) = IsSegment id × (path ≡ collection_path id ++ codes "manifest/")
IsRoutePath path (Objects id) = IsSegment id × (path ≡ collection_path id ++ codes "objects/")
IsRoutePath path (Object collection object) = IsSegment collection × IsSegment object × (path ≡ object_path collection object)
IsRoutePath path (Versions collection object) =
    IsSegment collection × IsSegment object × (path ≡ object_path collection object ++ codes "versions/")
IsRoutePath path Route.None = ⊥
