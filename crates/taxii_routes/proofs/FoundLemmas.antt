-- What the router finds is a route of the path, with the texts that stand in it.
use Rattle.std.proofs.Common.{◌≡◌, inl, inr, ℕ, suc, ◌+◌, ◌-◌, ◌<◌, List, [], ◌∷◌, ◌++◌, length, take, drop, get_or, Some, codes, refl, sym, ap, subst, ◌∙◌, arith, append_assoc, length-append}
use Rattle.std.specs.Str.{IsUtf8, IsCharBoundary}
use Rattle.std.proofs.lemmas.Str.{IsUtf8-between, IsCharBoundary-before_ascii, IsCharBoundary-after_ascii}
use Rattle.std.proofs.lemmas.List.{take-append-le, take_all}
use Rattle.std.proofs.lemmas.List.Prefix.{front_rest}
use Rattle.std.proofs.Math.Seq.{get_or-append_seam}
use Rattle.matchit.specs.Rows.{RowsOf}
use Rattle.matchit.specs.Router.{RouteOf}
use Rattle.matchit.specs.Seek.{first}
use Rattle.matchit.specs.Params.{walk, part_of}
use Rattle.matchit.specs.Level.{IsText}
use Rattle.taxii_routes.specs.declared.endpoint.Endpoint.{Endpoint}
use Rattle.taxii_routes.specs.Route.{IsSegment}
use Rattle.taxii_routes.specs.inner.Table.{row, collections, table}
use Rattle.matchit.specs.declared.params.Params.{Params}
use Rattle.taxii_routes.specs.inner.Found.{Taken, taken, RepresentsParameter, Found}
use Rattle.taxii_routes.proofs.SeekLemmas.{Fits, Has, found_fits}
use Rattle.taxii_routes.proofs.WalkLemmas.{walk_param}
use Rattle.taxii_routes.proofs.TableLemmas.{whole_fits, one_fits, two_fits, collections_text, objects_text, manifest_text, versions_text, status_text, root_text, discovery_text, slash_text, table_plain, object_is, versions_is}

-- bytes of a text, by place
pub text_from_reads : (s : List ℕ) → ((k : ℕ) → k < length s → get_or s k 0 < 256) → IsText s
text_from_reads [] small = tt
text_from_reads (x ∷ s) small = (small 0 (omega arith), text_from_reads s (λ k inside. small (suc k) (omega arith)))

-- ---- whole characters

-- what stands between two slashes is text
pub utf8_between : (path front segment rest : List ℕ) → IsUtf8 path → path ≡ front ++ 47 ∷ (segment ++ 47 ∷ rest) → IsUtf8 segment
utf8_between path front segment rest text is =
    let n = length front in
    let m = length segment in
    let long : length path ≡ n + (1 + (m + (1 + length rest))) = ap length is ∙ simp length-append (omega arith) in
    let before : get_or path n 0 ≡ 47 = ap (λ (s : List ℕ). get_or s n 0) is ∙ get_or-append_seam front 47 (segment ++ 47 ∷ rest) 0 in
    let whole : path ≡ ((front ++ 47 ∷ []) ++ segment) ++ 47 ∷ rest =
    is ∙ sym (append_assoc (front ++ 47 ∷ []) segment (47 ∷ rest) ∙ append_assoc front (47 ∷ []) (segment ++ 47 ∷ rest)) in
    let count : length ((front ++ 47 ∷ []) ++ segment) ≡ n + 1 + m = simp length-append (omega arith) in
    let after : get_or path (n + 1 + m) 0 ≡ 47 =
    ap (λ k. get_or path k 0) (sym count) ∙ ap (λ (s : List ℕ). get_or s (length ((front ++ 47 ∷ []) ++ segment)) 0) whole ∙ get_or-append_seam ((front ++ 47 ∷ []) ++ segment) 47 rest 0 in
    let start : IsCharBoundary path (n + 1) = IsCharBoundary-after_ascii path n text (omega arith) (omega arith) in
    let end : IsCharBoundary path (n + 1 + m) = IsCharBoundary-before_ascii path (n + 1 + m) (omega arith) (omega arith) in
    let less : n + 1 + m - (n + 1) ≡ m = omega arith in
    let front_count : length (front ++ 47 ∷ []) ≡ n + 1 = length-append front (47 ∷ []) in
    let from : drop (n + 1) path ≡ segment ++ 47 ∷ rest =
    ap (λ k. drop k path) (sym front_count) ∙ front_rest path (front ++ 47 ∷ []) (segment ++ 47 ∷ rest) (is ∙ sym (append_assoc front (47 ∷ []) (segment ++ 47 ∷ rest))) in
    let part : take (n + 1 + m - (n + 1)) (drop (n + 1) path) ≡ segment =
    ap (λ k. take k (drop (n + 1) path)) less ∙ ap (take m) from ∙ take-append-le m segment (47 ∷ rest) (omega arith) ∙ take_all m segment (omega arith) in
    subst IsUtf8 part (IsUtf8-between path (n + 1) (n + 1 + m) text (omega arith) start end)

id_utf8 : IsUtf8 (codes "id")
unfolding lib.Utf8.encode
id_utf8 = (codes "id", (refl, refl))

object_utf8 : IsUtf8 (codes "object")
unfolding lib.Utf8.encode
object_utf8 = (codes "object", (refl, refl))

-- ---- what the router gives

abbrev pub params_of : RouteOf Endpoint → List ℕ → Taken
params_of r path = walk r.pattern r.text path r.names 0 0

-- one name
one_taken : (params : Taken) (id : List ℕ) → params ≡ (codes "id", id) ∷ [] → IsUtf8 id → RepresentsParameter params (codes "id") id
one_taken params id is text = subst (λ ps. RepresentsParameter ps (codes "id") id) (sym is) (record { found = refl; texts = (id_utf8, text, tt) })

first_taken : (params : Taken) (id object : List ℕ) → params ≡ (codes "id", id) ∷ (codes "object", object) ∷ [] → IsUtf8 id → IsUtf8 object → RepresentsParameter params (codes "id") id
first_taken params id object is text also = subst (λ ps. RepresentsParameter ps (codes "id") id) (sym is) (record { found = refl; texts = (id_utf8, text, (object_utf8, also, tt)) })

second_taken : (params : Taken) (id object : List ℕ) → params ≡ (codes "id", id) ∷ (codes "object", object) ∷ [] → IsUtf8 id → IsUtf8 object → RepresentsParameter params (codes "object") object
second_taken params id object is text also = subst (λ ps. RepresentsParameter ps (codes "object") object) (sym is) (record { found = refl; texts = (id_utf8, text, (object_utf8, also, tt)) })

-- the texts of a row with one name
walk_one : (w v id text path : List ℕ) (name : ℕ × ℕ) → IsText w → IsSegment id → path ≡ w ++ (id ++ 47 ∷ v)
    → walk (w ++ 256 ∷ 47 ∷ v) text path (name ∷ []) 0 0 ≡ (part_of text name.0 name.1, id) ∷ []
walk_one w v id text path name is segment e =
    walk_param (w ++ 256 ∷ 47 ∷ v) text path name [] 0 0 [] w v [] id v
    (record { pattern_is = refl; path_is = e; text = is; plain = segment.bytes }) refl refl

-- and of the two rows with two
walk_two : (u id object text path : List ℕ) (name other : ℕ × ℕ) → IsSegment id → IsSegment object → path ≡ collections ++ (id ++ (codes "/objects/" ++ (object ++ 47 ∷ u)))
    → walk (collections ++ 256 ∷ (codes "/objects/" ++ 256 ∷ 47 ∷ u)) text path (name ∷ other ∷ []) 0 0 ≡ (part_of text name.0 name.1, id) ∷ (part_of text other.0 other.1, object) ∷ []
walk_two u id object text path name other segment also e =
    let pattern = collections ++ 256 ∷ (codes "/objects/" ++ 256 ∷ 47 ∷ u) in
    walk_param pattern text path name (other ∷ []) 0 0 [] collections (codes "objects/" ++ 256 ∷ 47 ∷ u) [] id (codes "objects/" ++ (object ++ 47 ∷ u))
    (record { pattern_is = refl; path_is = e; text = collections_text; plain = segment.bytes }) refl refl
    ∙ ap (λ (more : Taken). (part_of text name.0 name.1, id) ∷ more)
    (walk_param pattern text path other [] 18 (0 + 17 + length id) (collections ++ 256 ∷ []) (codes "/objects/") u (collections ++ id) object u
    (record {
      pattern_is = refl;
      path_is = e ∙ sym (append_assoc collections id (codes "/objects/" ++ (object ++ 47 ∷ u)));
      text = objects_text;
      plain = also.bytes;
    }) refl (sym (length-append collections id)))

at_manifest : (path : List ℕ) → IsUtf8 path → Fits (collections ++ 256 ∷ codes "/manifest/") path → Found Endpoint.Manifest path (params_of (row (collections ++ 256 ∷ codes "/manifest/") (codes "/api/collections/{id}/manifest/") ((18, 20) ∷ []) Endpoint.Manifest).1 path)
at_manifest path text fits =
    let (id, segment, is) = one_fits collections (codes "/manifest/") path collections_text manifest_text fits in
    let taken = walk_one collections (codes "manifest/") id (codes "/api/collections/{id}/manifest/") path (18, 20) collections_text segment is in
    (id, (segment, is ∙ ap (λ q. collections ++ q) (sym (append_assoc id (codes "/") (codes "manifest/")))), one_taken _ id taken (utf8_between path (codes "/api/collections") id (codes "manifest/") text is))

at_objects : (path : List ℕ) → IsUtf8 path → Fits (collections ++ 256 ∷ codes "/objects/") path → Found Endpoint.Objects path (params_of (row (collections ++ 256 ∷ codes "/objects/") (codes "/api/collections/{id}/objects/") ((18, 20) ∷ []) Endpoint.Objects).1 path)
at_objects path text fits =
    let (id, segment, is) = one_fits collections (codes "/objects/") path collections_text objects_text fits in
    let taken = walk_one collections (codes "objects/") id (codes "/api/collections/{id}/objects/") path (18, 20) collections_text segment is in
    (id, (segment, is ∙ ap (λ q. collections ++ q) (sym (append_assoc id (codes "/") (codes "objects/")))), one_taken _ id taken (utf8_between path (codes "/api/collections") id (codes "objects/") text is))

at_collection : (path : List ℕ) → IsUtf8 path → Fits (collections ++ 256 ∷ codes "/") path → Found Endpoint.Collection path (params_of (row (collections ++ 256 ∷ codes "/") (codes "/api/collections/{id}/") ((18, 20) ∷ []) Endpoint.Collection).1 path)
at_collection path text fits =
    let (id, segment, is) = one_fits collections (codes "/") path collections_text slash_text fits in
    let taken = walk_one collections [] id (codes "/api/collections/{id}/") path (18, 20) collections_text segment is in
    (id, (segment, is), one_taken _ id taken (utf8_between path (codes "/api/collections") id [] text is))

at_status : (path : List ℕ) → IsUtf8 path → Fits ((codes "/api/status/") ++ 256 ∷ codes "/") path → Found Endpoint.Status path (params_of (row ((codes "/api/status/") ++ 256 ∷ codes "/") (codes "/api/status/{id}/") ((13, 15) ∷ []) Endpoint.Status).1 path)
at_status path text fits =
    let (id, segment, is) = one_fits (codes "/api/status/") (codes "/") path status_text slash_text fits in
    let taken = walk_one (codes "/api/status/") [] id (codes "/api/status/{id}/") path (13, 15) status_text segment is in
    (id, (segment, is), one_taken _ id taken (utf8_between path (codes "/api/status") id [] text is))

at_object : (path : List ℕ) → IsUtf8 path → Fits (collections ++ 256 ∷ (codes "/objects/" ++ 256 ∷ codes "/")) path
    → Found Endpoint.Object path (params_of (row (collections ++ 256 ∷ (codes "/objects/" ++ 256 ∷ codes "/")) (codes "/api/collections/{id}/objects/{object}/") ((18, 20) ∷ (31, 37) ∷ []) Endpoint.Object).1 path)
at_object path text fits =
    let (id, object, segment, also, is) = two_fits collections (codes "/objects/") (codes "/") path collections_text objects_text slash_text fits in
    let taken = walk_two [] id object (codes "/api/collections/{id}/objects/{object}/") path (18, 20) (31, 37) segment also is in
    let first = utf8_between path (codes "/api/collections") id (codes "objects/" ++ (object ++ codes "/")) text is in
    let second = utf8_between path (collections ++ (id ++ codes "/objects")) object [] text
    (is ∙ ap (λ q. collections ++ q) (sym (append_assoc id (codes "/objects") (47 ∷ (object ++ codes "/"))))) in
    (id, object, (segment, also, is ∙ sym (object_is id object)), first_taken _ id object taken first second, second_taken _ id object taken first second)

at_versions : (path : List ℕ) → IsUtf8 path → Fits (collections ++ 256 ∷ (codes "/objects/" ++ 256 ∷ codes "/versions/")) path
    → Found Endpoint.Versions path (params_of (row (collections ++ 256 ∷ (codes "/objects/" ++ 256 ∷ codes "/versions/")) (codes "/api/collections/{id}/objects/{object}/versions/") ((18, 20) ∷ (31, 37) ∷ []) Endpoint.Versions).1 path)
at_versions path text fits =
    let (id, object, segment, also, is) = two_fits collections (codes "/objects/") (codes "/versions/") path collections_text objects_text versions_text fits in
    let taken = walk_two (codes "versions/") id object (codes "/api/collections/{id}/objects/{object}/versions/") path (18, 20) (31, 37) segment also is in
    let first = utf8_between path (codes "/api/collections") id (codes "objects/" ++ (object ++ codes "/versions/")) text is in
    let second = utf8_between path (collections ++ (id ++ codes "/objects")) object (codes "versions/") text
    (is ∙ ap (λ q. collections ++ q) (sym (append_assoc id (codes "/objects") (47 ∷ (object ++ codes "/versions/"))))) in
    (id, object, (segment, also, is ∙ sym (versions_is id object)), first_taken _ id object taken first second, second_taken _ id object taken first second)

found_row : (path pattern : List ℕ) (r : RouteOf Endpoint) → IsUtf8 path → Has pattern r table → Fits pattern path → Found r.value path (params_of r path)
unfolding table
found_row path pattern r text (inl (same, is)) fits = subst (λ k. Found k.value path (params_of k path)) (sym is) (at_manifest path text (subst (λ q. Fits q path) same fits))
found_row path pattern r text (inr (inl (same, is))) fits = subst (λ k. Found k.value path (params_of k path)) (sym is) (at_versions path text (subst (λ q. Fits q path) same fits))
found_row path pattern r text (inr (inr (inl (same, is)))) fits = subst (λ k. Found k.value path (params_of k path)) (sym is) (at_object path text (subst (λ q. Fits q path) same fits))
found_row path pattern r text (inr (inr (inr (inl (same, is))))) fits = subst (λ k. Found k.value path (params_of k path)) (sym is) (at_objects path text (subst (λ q. Fits q path) same fits))
found_row path pattern r text (inr (inr (inr (inr (inl (same, is)))))) fits = subst (λ k. Found k.value path (params_of k path)) (sym is) (at_collection path text (subst (λ q. Fits q path) same fits))
found_row path pattern r text (inr (inr (inr (inr (inr (inl (same, is))))))) fits = subst (λ k. Found k.value path (params_of k path)) (sym is) (whole_fits collections path collections_text (subst (λ q. Fits q path) same fits))
found_row path pattern r text (inr (inr (inr (inr (inr (inr (inl (same, is)))))))) fits = subst (λ k. Found k.value path (params_of k path)) (sym is) (at_status path text (subst (λ q. Fits q path) same fits))
found_row path pattern r text (inr (inr (inr (inr (inr (inr (inr (inl (same, is))))))))) fits = subst (λ k. Found k.value path (params_of k path)) (sym is) (whole_fits (codes "/api/") path root_text (subst (λ q. Fits q path) same fits))
found_row path pattern r text (inr (inr (inr (inr (inr (inr (inr (inr (inl (same, is)))))))))) fits = subst (λ k. Found k.value path (params_of k path)) (sym is) (whole_fits (codes "/taxii2/") path discovery_text (subst (λ q. Fits q path) same fits))
found_row path pattern r text (inr (inr (inr (inr (inr (inr (inr (inr (inr none))))))))) fits = absurd none

pub found : (path : List ℕ) (r : RouteOf Endpoint) → IsUtf8 path → IsText path → first table path ≡ Some r → Found r.value path (params_of r path)
found path r text bytes is =
    let (pattern, has, fits) = found_fits (length path) table path r (omega arith) table_plain bytes is in
    found_row path pattern r text has fits

-- the same of a match that the router gave
pub found_match : (rows : RowsOf (RouteOf Endpoint)) (path : List ℕ) (params : Params) (endpoint : Endpoint) → rows ≡ table → IsUtf8 path → ((k : ℕ) → k < length path → get_or path k 0 < 256)
    → first rows path ≡ Some (record { pattern = params.pattern.now; text = params.text.now; names = params.names.now; value = endpoint }) → params.path.now ≡ path → Found endpoint path (taken params)
found_match rows path params endpoint whole text small is same =
    subst (λ p. Found endpoint path (walk params.pattern.now params.text.now p params.names.now 0 0)) (sym same)
    (found path (record { pattern = params.pattern.now; text = params.text.now; names = params.names.now; value = endpoint }) text (text_from_reads path small) (ap (λ t. first t path) (sym whole) ∙ is))
