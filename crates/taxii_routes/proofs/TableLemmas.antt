-- The rows of the router are the paths of the server.
use Rattle.std.proofs.Common.{◌≡◌, inl, inr, ℕ, Bool, true, false, ltb, ◌&&◌, List, [], ◌∷◌, ◌++◌, length, None, codes, refl, sym, ap, subst, ◌∙◌, arith, append-nil, append_assoc}
use Rattle.std.proofs.lemmas.Bool.{ltb-true, false≢true}
use Rattle.std.specs.List.{list_all}
use Rattle.matchit.specs.Router.{RouteOf}
use Rattle.matchit.specs.Seek.{first}
use Rattle.matchit.specs.Level.{IsText}
use Rattle.taxii_routes.specs.declared.endpoint.Endpoint.{Endpoint}
use Rattle.taxii_routes.specs.declared.route.Route.{Route}
use Rattle.taxii_routes.specs.Route.{IsSegment, object_path, IsRoutePath}
use Rattle.taxii_routes.specs.inner.Table.{collections, table}
use Rattle.taxii_routes.proofs.SeekLemmas.{IsPlain, Fits, ArePlain, FitsRow, none_fits}

-- ---- bytes of a pattern

abbrev AreBytes : List ℕ → Type 0
AreBytes w = list_all (λ b. ltb b 256) w ≡ true

both : (a b : Bool) → (a && b) ≡ true → (a ≡ true) × (b ≡ true)
both true b e = (refl, e)
both false b e = absurd (false≢true e)

pub text_from_test : (w : List ℕ) → AreBytes w → IsText w
text_from_test [] e = tt
text_from_test (x ∷ w) e =
    let (first, later) = both (ltb x 256) (list_all (λ b. ltb b 256) w) e in
    (ltb-true x 256 first, text_from_test w later)

plain_bytes : (w t : List ℕ) → IsText w → IsPlain t → IsPlain (w ++ t)
plain_bytes [] t text plain = plain
plain_bytes (x ∷ w) t text plain = (inl text.0, plain_bytes w t text.1 plain)

-- what fits a pattern that begins with bytes begins with them
after_bytes : (w t path : List ℕ) → IsText w → Fits (w ++ t) path → (rest : List ℕ) × (path ≡ w ++ rest) × Fits t rest
after_bytes [] t path text fits = (path, refl, fits)
after_bytes (x ∷ w) t path text (inl (rest, small, is, fits)) =
    let (later, e, more) = after_bytes w t rest text.1 fits in
    (later, is ∙ ap (λ q. x ∷ q) e, more)
after_bytes (x ∷ w) t path text (inr (part, rest, is_param, is_part, is, fits)) = let small = text.0 in absurd (omega arith)

after_param : (t path : List ℕ) → Fits (256 ∷ t) path → (segment rest : List ℕ) × IsSegment segment × (path ≡ segment ++ rest) × Fits t rest
after_param t path (inl (rest, small, is, fits)) = absurd (omega arith)
after_param t path (inr (segment, rest, is_param, is_segment, is, fits)) = (segment, rest, is_segment, is, fits)

bytes_fit : (w t rest : List ℕ) → IsText w → Fits t rest → Fits (w ++ t) (w ++ rest)
bytes_fit [] t rest text fits = fits
bytes_fit (x ∷ w) t rest text fits = inl (w ++ rest, text.0, refl, bytes_fit w t rest text.1 fits)

param_fits : (t segment rest : List ℕ) → IsSegment segment → Fits t rest → Fits (256 ∷ t) (segment ++ rest)
param_fits t segment rest is fits = inr (segment, rest, refl, is, refl, fits)

-- bytes alone
pub whole_fits : (w path : List ℕ) → IsText w → Fits w path → path ≡ w
whole_fits w path text fits =
    let (rest, is, none) = after_bytes w [] path text (subst (λ p. Fits p path) (sym (append-nil w)) fits) in
    is ∙ ap (λ q. w ++ q) none ∙ append-nil w

fits_whole : (w : List ℕ) → IsText w → Fits w w
fits_whole w text = subst (λ p. Fits p p) (append-nil w) (bytes_fit w [] [] text refl)

-- bytes, a parameter and bytes
pub one_fits : (w v path : List ℕ) → IsText w → IsText v → Fits (w ++ 256 ∷ v) path → (id : List ℕ) × IsSegment id × (path ≡ w ++ (id ++ v))
one_fits w v path text also fits =
    let (rest, is, more) = after_bytes w (256 ∷ v) path text fits in
    let (id, last, is_segment, is_rest, end) = after_param v rest more in
    (id, is_segment, is ∙ ap (λ q. w ++ q) (is_rest ∙ ap (λ q. id ++ q) (whole_fits v last also end)))

fits_one : (w v id : List ℕ) → IsText w → IsText v → IsSegment id → Fits (w ++ 256 ∷ v) (w ++ (id ++ v))
fits_one w v id text also is = bytes_fit w (256 ∷ v) (id ++ v) text (param_fits v id v is (fits_whole v also))

-- bytes, a parameter, bytes, a parameter and bytes
pub two_fits : (w v u path : List ℕ) → IsText w → IsText v → IsText u → Fits (w ++ 256 ∷ (v ++ 256 ∷ u)) path
    → (id object : List ℕ) × IsSegment id × IsSegment object × (path ≡ w ++ (id ++ (v ++ (object ++ u))))
two_fits w v u path text also third fits =
    let (rest, is, more) = after_bytes w (256 ∷ (v ++ 256 ∷ u)) path text fits in
    let (id, last, is_segment, is_rest, end) = after_param (v ++ 256 ∷ u) rest more in
    let (object, is_object, is_last) = one_fits v u last also third end in
    (id, object, is_segment, is_object, is ∙ ap (λ q. w ++ q) (is_rest ∙ ap (λ q. id ++ q) is_last))

fits_two : (w v u id object : List ℕ) → IsText w → IsText v → IsText u → IsSegment id → IsSegment object → Fits (w ++ 256 ∷ (v ++ 256 ∷ u)) (w ++ (id ++ (v ++ (object ++ u))))
fits_two w v u id object text also third is is_object =
    bytes_fit w (256 ∷ (v ++ 256 ∷ u)) (id ++ (v ++ (object ++ u))) text (param_fits (v ++ 256 ∷ u) id (v ++ (object ++ u)) is (fits_one v u object also third is_object))

-- ---- the bytes of the rows

pub collections_text : IsText collections
collections_text = text_from_test collections refl

pub objects_text : IsText (codes "/objects/")
objects_text = text_from_test (codes "/objects/") refl

pub manifest_text : IsText (codes "/manifest/")
manifest_text = text_from_test (codes "/manifest/") refl

pub versions_text : IsText (codes "/versions/")
versions_text = text_from_test (codes "/versions/") refl

pub status_text : IsText (codes "/api/status/")
status_text = text_from_test (codes "/api/status/") refl

pub root_text : IsText (codes "/api/")
root_text = text_from_test (codes "/api/") refl

pub discovery_text : IsText (codes "/taxii2/")
discovery_text = text_from_test (codes "/taxii2/") refl

pub slash_text : IsText (codes "/")
slash_text = text_from_test (codes "/") refl

bytes_plain : (w : List ℕ) → IsText w → IsPlain w
bytes_plain w text = subst IsPlain (append-nil w) (plain_bytes w [] text tt)

param_plain : (w v : List ℕ) → IsText w → IsText (47 ∷ v) → IsPlain (w ++ 256 ∷ 47 ∷ v)
param_plain w v text also = plain_bytes w (256 ∷ 47 ∷ v) text (inr (refl, refl), bytes_plain (47 ∷ v) also)

pub table_plain : ArePlain table
unfolding table
table_plain = (
  param_plain collections (codes "manifest/") collections_text manifest_text,
  (
    plain_bytes collections (256 ∷ (codes "/objects/" ++ 256 ∷ codes "/versions/")) collections_text
        (inr (refl, refl), param_plain (codes "/objects/") (codes "versions/") objects_text versions_text),
    (
      plain_bytes collections (256 ∷ (codes "/objects/" ++ 256 ∷ codes "/")) collections_text
          (inr (refl, refl), param_plain (codes "/objects/") [] objects_text slash_text),
      (param_plain collections (codes "objects/") collections_text objects_text, (param_plain collections [] collections_text slash_text, (bytes_plain collections collections_text, (param_plain (codes "/api/status/") [] status_text slash_text, (bytes_plain (codes "/api/") root_text, (bytes_plain (codes "/taxii2/") discovery_text, tt)))))),
    ),
  ),
)

-- ---- nothing is missed

abbrev FitsSome : List ℕ → Type 0
FitsSome path = (k : RouteOf Endpoint) × FitsRow table k path

-- the path of an object, all parts in a row
pub object_is : (collection object : List ℕ) → object_path collection object ≡ collections ++ (collection ++ (codes "/objects/" ++ (object ++ codes "/")))
object_is collection object = ap (λ q. collections ++ q) (append_assoc collection (codes "/") (codes "objects/" ++ (object ++ codes "/")))

pub versions_is : (collection object : List ℕ) → object_path collection object ++ codes "versions/" ≡ collections ++ (collection ++ (codes "/objects/" ++ (object ++ codes "/versions/")))
versions_is collection object =
    ap (λ q. q ++ codes "versions/") (object_is collection object)
    ∙ ap (λ q. collections ++ q) (append_assoc collection (codes "/objects/" ++ (object ++ codes "/")) (codes "versions/")
    ∙ ap (λ q. collection ++ (codes "/objects/" ++ q)) (append_assoc object (codes "/") (codes "versions/")))

-- a path that is bytes, or bytes round one segment, or round two
whole_path : (w path : List ℕ) → IsText w → path ≡ w → Fits w path
whole_path w path text is = subst (λ q. Fits w q) (sym is) (fits_whole w text)

one_path : (w v path id : List ℕ) → IsText w → IsText v → IsSegment id → path ≡ w ++ (id ++ v) → Fits (w ++ 256 ∷ v) path
one_path w v path id text also is_id is = subst (λ q. Fits (w ++ 256 ∷ v) q) (sym is) (fits_one w v id text also is_id)

two_paths : (w v u path id object : List ℕ) → IsText w → IsText v → IsText u → IsSegment id → IsSegment object → path ≡ w ++ (id ++ (v ++ (object ++ u)))
    → Fits (w ++ 256 ∷ (v ++ 256 ∷ u)) path
two_paths w v u path id object text also third is_id is_object is =
    subst (λ q. Fits (w ++ 256 ∷ (v ++ 256 ∷ u)) q) (sym is) (fits_two w v u id object text also third is_id is_object)

pub path_fits : (path : List ℕ) (route : Route) → IsRoutePath path route → FitsSome path
unfolding table
path_fits path (Route.Manifest id) is = (
  _,
  (
    collections ++ 256 ∷ codes "/manifest/",
    inl (refl, refl),
    one_path collections (codes "/manifest/") path id collections_text manifest_text is.0
        (is.1 ∙ ap (λ q. collections ++ q) (append_assoc id (codes "/") (codes "manifest/"))),
  ),
)
path_fits path (Route.Versions collection object) is = (
  _,
  (
    collections ++ 256 ∷ (codes "/objects/" ++ 256 ∷ codes "/versions/"),
    inr (inl (refl, refl)),
    two_paths collections (codes "/objects/") (codes "/versions/") path collection object collections_text objects_text versions_text is.0 is.1
        (is.2 ∙ versions_is collection object),
  ),
)
path_fits path (Route.Object collection object) is = (
  _,
  (
    collections ++ 256 ∷ (codes "/objects/" ++ 256 ∷ codes "/"),
    inr (inr (inl (refl, refl))),
    two_paths collections (codes "/objects/") (codes "/") path collection object collections_text objects_text slash_text is.0 is.1
        (is.2 ∙ object_is collection object),
  ),
)
path_fits path (Route.Objects id) is = (
  _,
  (
    collections ++ 256 ∷ codes "/objects/",
    inr (inr (inr (inl (refl, refl)))),
    one_path collections (codes "/objects/") path id collections_text objects_text is.0
        (is.1 ∙ ap (λ q. collections ++ q) (append_assoc id (codes "/") (codes "objects/"))),
  ),
)
path_fits path (Route.Collection id) is =
    (_, (collections ++ 256 ∷ codes "/", inr (inr (inr (inr (inl (refl, refl))))), one_path collections (codes "/") path id collections_text slash_text is.0 is.1))
path_fits path Route.Collections is = (_, (collections, inr (inr (inr (inr (inr (inl (refl, refl)))))), whole_path collections path collections_text is))
path_fits path (Route.Status id) is =
    (_, (codes "/api/status/" ++ 256 ∷ codes "/", inr (inr (inr (inr (inr (inr (inl (refl, refl))))))), one_path (codes "/api/status/") (codes "/") path id status_text slash_text is.0 is.1))
path_fits path Route.Root is = (_, (codes "/api/", inr (inr (inr (inr (inr (inr (inr (inl (refl, refl)))))))), whole_path (codes "/api/") path root_text is))
path_fits path Route.Discovery is =
    (_, (codes "/taxii2/", inr (inr (inr (inr (inr (inr (inr (inr (inl (refl, refl))))))))), whole_path (codes "/taxii2/") path discovery_text is))
path_fits path Route.None is = absurd is

-- where the router finds nothing, no route has the path
pub no_route : (path : List ℕ) → first table path ≡ None → (route : Route) → ¬ IsRoutePath path route
no_route path none route is = let (k, fits) = path_fits path route is in none_fits (length path) table path (omega arith) table_plain none k fits
