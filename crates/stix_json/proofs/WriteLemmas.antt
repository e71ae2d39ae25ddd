-- The tokens of some first items.
use Rattle.std.proofs.Common.{ℕ, ◌+◌, ◌<◌, ◌≤◌, length, take, get_or, map, ◌≡◌, List, [], ◌∷◌, ◌++◌, append_assoc, append-nil, refl, sym, ap, ◌∙◌}
use Rattle.json.specs.Token.{Token, end_array, end_object, key}
use Rattle.json.specs.Tree.{json_tokens, items_tokens, members_tokens}
use Rattle.serde_json.specs.Data.{Data}
use Rattle.serde_json.specs.View.{items_of}
use Rattle.serde_json.specs.Written.{outline, items_outline, members_outline}
use Rattle.std.proofs.lemmas.List.{take_more, take_all}
use Rattle.stix_json.specs.DataOf.{Member, members_of, field_data, data_of}
use Rattle.stix_json.specs.declared.value.Json.{Json}
use Rattle.stix_json.specs.declared.value.Field.{Field}
use Rattle.stix_json.proofs.ValueErrorsLemmas.{map_pushed}

abbrev pub front : List Data → List Token
front [] = []
front (d ∷ ds) = json_tokens (outline d) ++ front ds

abbrev pub member_front : List Member → List Token
member_front [] = []
member_front (f ∷ fs) = key f.name ∷ (json_tokens (outline f.value) ++ member_front fs)

pub front_push : (ds : List Data) (d : Data) → front (ds ++ d ∷ []) ≡ front ds ++ json_tokens (outline d)
front_push [] d = append-nil _
front_push (e ∷ ds) d = ap (λ ts. json_tokens (outline e) ++ ts) (front_push ds d) ∙ sym (append_assoc (json_tokens (outline e)) (front ds) (json_tokens (outline d)))

pub member_push : (fs : List Member) (f : Member) → member_front (fs ++ f ∷ []) ≡ member_front fs ++ key f.name ∷ json_tokens (outline f.value)
member_push [] f = ap (λ ts. key f.name ∷ ts) (append-nil _)
member_push (g ∷ fs) f = ap (λ ts. key g.name ∷ (json_tokens (outline g.value) ++ ts)) (member_push fs f) ∙ sym (append_assoc (key g.name ∷ json_tokens (outline g.value)) (member_front fs) _)

pub items_end : (ds : List Data) → items_tokens (items_outline (items_of ds)) ≡ front ds ++ end_array ∷ []
items_end [] = refl
items_end (d ∷ ds) = ap (λ ts. json_tokens (outline d) ++ ts) (items_end ds) ∙ sym (append_assoc (json_tokens (outline d)) (front ds) _)

pub members_end : (fs : List Member) → members_tokens (members_outline (members_of fs)) ≡ member_front fs ++ end_object ∷ []
members_end [] = refl
members_end (f ∷ fs) = ap (λ ts. key f.name ∷ (json_tokens (outline f.value) ++ ts)) (members_end fs) ∙ sym (append_assoc (key f.name ∷ json_tokens (outline f.value)) (member_front fs) _)

pub items_step : (xs : List Json) (i : ℕ) (x : Json) (start old new : List Token) → i < length xs → x ≡ get_or xs i x → old ≡ start ++ front (map data_of (take i xs))
    → new ≡ old ++ json_tokens (outline (data_of x)) → new ≡ start ++ front (map data_of (take (i + 1) xs))
items_step xs i x start old new within is before after =
    let grown : take (i + 1) xs ≡ take i xs ++ x ∷ [] = take_more xs i x within ∙ ap (λ y. take i xs ++ y ∷ []) (sym is) in
    let tokens : front (map data_of (take (i + 1) xs)) ≡ front (map data_of (take i xs)) ++ json_tokens (outline (data_of x)) =
    ap (λ ys. front (map data_of ys)) grown ∙ ap front (map_pushed data_of (take i xs) x) ∙ front_push (map data_of (take i xs)) (data_of x) in
    after ∙ ap (λ ts. ts ++ json_tokens (outline (data_of x))) before ∙ append_assoc start _ _ ∙ ap (λ ts. start ++ ts) (sym tokens)

pub fields_step : (xs : List Field) (i : ℕ) (x : Field) (start old named_old new : List Token) → i < length xs → x ≡ get_or xs i x → old ≡ start ++ member_front (map field_data (take i xs))
    → named_old ≡ old ++ key (x.name) ∷ [] → new ≡ named_old ++ json_tokens (outline (data_of x.value)) → new ≡ start ++ member_front (map field_data (take (i + 1) xs))
fields_step xs i x start old named_old new within is before at_key after =
    let grown : take (i + 1) xs ≡ take i xs ++ x ∷ [] = take_more xs i x within ∙ ap (λ y. take i xs ++ y ∷ []) (sym is) in
    let more = key (x.name) ∷ json_tokens (outline (data_of x.value)) in
    let tokens : member_front (map field_data (take (i + 1) xs)) ≡ member_front (map field_data (take i xs)) ++ more =
    ap (λ ys. member_front (map field_data ys)) grown ∙ ap member_front (map_pushed field_data (take i xs) x) ∙ member_push (map field_data (take i xs)) (field_data x) in
    let both : new ≡ old ++ more = after ∙ ap (λ ts. ts ++ json_tokens (outline (data_of x.value))) at_key ∙ append_assoc old _ _ in
    both ∙ ap (λ ts. ts ++ more) before ∙ append_assoc start _ _ ∙ ap (λ ts. start ++ ts) (sym tokens)

pub items_done : (xs : List Json) (i : ℕ) (start old new : List Token) → length xs ≤ i → old ≡ start ++ front (map data_of (take i xs)) → new ≡ old ++ end_array ∷ []
    → new ≡ start ++ items_tokens (items_outline (items_of (map data_of xs)))
items_done xs i start old new past before after =
    let all : take i xs ≡ xs = take_all i xs past in
    after ∙ ap (λ ts. ts ++ end_array ∷ []) (before ∙ ap (λ ys. start ++ front (map data_of ys)) all) ∙ append_assoc start _ _ ∙ ap (λ ts. start ++ ts) (sym (items_end (map data_of xs)))

pub fields_done : (xs : List Field) (i : ℕ) (start old new : List Token) → length xs ≤ i → old ≡ start ++ member_front (map field_data (take i xs)) → new ≡ old ++ end_object ∷ []
    → new ≡ start ++ members_tokens (members_outline (members_of (map field_data xs)))
fields_done xs i start old new past before after =
    let all : take i xs ≡ xs = take_all i xs past in
    after ∙ ap (λ ts. ts ++ end_object ∷ []) (before ∙ ap (λ ys. start ++ member_front (map field_data ys)) all) ∙ append_assoc start _ _ ∙ ap (λ ts. start ++ ts) (sym (members_end (map field_data xs)))
