-- What the one identifier of a text tells of every reading of it.
use Rattle.std.proofs.Common.{◌≡◌, ℕ, List, Option, Some, None, IfSome, option_map, unwrap_or, codes, true, false, bytes_eq, subst, sym, ap, ◌∙◌}
use Rattle.std.proofs.lemmas.Slice.Eq.{bytes_eq-Decides}
use Rattle.flow_values.specs.Answers.{FindsExactly}
use Rattle.serde_json.specs.Data.{Data}
use Rattle.stix_ids.specs.declared.id.Id.{Id}
use Rattle.stix_ids.specs.declared.parts.IdRef.{IdRef}
use Rattle.stix_ids.specs.Identifier.{IsTextOfId, IsIdText}
use Rattle.stix_ids.specs.PartsOf.{id_of}
use Rattle.stix_objects.specs.Types.{is_among}
use Rattle.stix_json.specs.Properties.{property_text}
use Rattle.stix_objects.specs.Properties.{HasId}
use Rattle.stix_objects.specs.Singles.{Refers, NamesOwn}

abbrev pub IsOnly : List ℕ → Option Id → Type 0
IsOnly s found = (id : Id) → IsTextOfId s id → found ≡ Some id

pub names_none : (s : List ℕ) → IsOnly s None → IsIdText s → ⊥
names_none s only named = let same : None ≡ Some named.0 = only named.0 named.1 in cc

-- the identifier is another one than that of one of these kinds
pub refers_not : (s : List ℕ) (id : Id) (kinds : List (List ℕ)) → IsOnly s (Some id) → is_among id.kind kinds ≡ false → Refers kinds s → ⊥
refers_not s id kinds only out named =
    let same : Some id ≡ Some named.0 = only named.0 named.1 in
    let kind : id.kind ≡ named.0.kind = cc in
    let inside : is_among id.kind kinds ≡ true = ap (λ name. is_among name kinds) kind ∙ named.2 in
    cc

pub own_by_kind : (s own : List ℕ) (id : Id) → IsTextOfId s id → bytes_eq id.kind own ≡ true → NamesOwn (Some own) s
own_by_kind s own id named same =
    let kind : id.kind ≡ own = (bytes_eq-Decides id.kind own).0 same in
    (id.number, subst (λ (k : List ℕ). IsTextOfId s (record { kind = k; number = id.number })) kind named)

pub kind_of_own : (s own : List ℕ) (id : Id) → IsOnly s (Some id) → NamesOwn (Some own) s → bytes_eq id.kind own ≡ true
kind_of_own s own id only named =
    let owner : Id = record { kind = own; number = named.0 } in
    let same : Some id ≡ Some owner = only owner named.1 in
    let kind : id.kind ≡ own = cc in
    (bytes_eq-Decides id.kind own).1 kind

pub named_by_own : (own : Option (List ℕ)) (s : List ℕ) → NamesOwn own s → IsIdText s
named_by_own None s named = named
named_by_own (Some own) s named = (record { kind = own; number = named.0 }, named.1)

-- an object has one identifier
pub one_id : ((text : List ℕ) (first second : Id) → IsTextOfId text first → IsTextOfId text second → first ≡ second) → (d : Data) (first second : Id)
    → HasId d first → HasId d second → first ≡ second
one_id one d first second is also =
    let text : also.text ≡ is.text = ap (λ (o : Option (List ℕ)). unwrap_or o also.text) (sym also.there ∙ is.there) in
    one is.text first second is.reads (subst (λ (t : List ℕ). IsTextOfId t second) text also.reads)

-- the identifier that is read of the text of `id`, if it is one
pub identified : (d : Data) (s : List ℕ) → Some s ≡ property_text (codes "id") d → (found : Option IdRef) → IfSome found (λ parts. IsTextOfId s (id_of parts))
    → IsOnly s (option_map id_of found) → FindsExactly (HasId d) (option_map id_of found)
identified d s there None some only = λ id has.
    let text : has.text ≡ s = ap (λ (o : Option (List ℕ)). unwrap_or o s) (sym has.there ∙ sym there) in
    names_none s only (id, subst (λ (t : List ℕ). IsTextOfId t id) text has.reads)
identified d s there (Some parts) some only = record { text = s; there = sym there; reads = some }
