-- Bytes are read in one way.
use Rattle.std.proofs.Common.{◌≡◌, ◌≢◌, ◌⊎◌, inl, inr, ℕ, List, Some, None, refl, sym, ap, ◌∙◌}
use Rattle.serde_json.specs.Data.{Data}
use Rattle.stix_json.specs.declared.value.Json.{Json}
use Rattle.stix_json.specs.declared.refusal.JsonRefusal.{JsonRefusal}
use Rattle.stix_json.specs.declared.refusal.JsonRefusal.TheVariants.{NotJson, TooDeep, NotWhole, Null, OutOfRange, NotList, NoMemory}
use Rattle.stix_json.specs.DataOf.{data_of}
use Rattle.stix_json.specs.Refusal.{data_refusal}
use Rattle.stix_json.specs.Reading.{IsValueOf, HasNoValue, IsJsonOf, IsJsonRefusedAs}

one_value : (bytes : List ℕ) (d e : Data) → IsValueOf bytes d → IsValueOf bytes e → d ≡ e
one_value bytes d e p q = let same : Some d ≡ Some e = sym p.value ∙ q.value in cc

-- what bytes are refused for as JSON: they are no value, or their value is refused so
told : (bytes : List ℕ) (r : JsonRefusal) → r ≢ NoMemory → IsJsonRefusedAs bytes r
    → ((r ≡ NotJson) × HasNoValue bytes) ⊎ ((d : Data) × IsValueOf bytes d × (data_refusal d ≡ Some r))
told bytes NotJson some h = inl (refl, h)
told bytes (TooDeep path) some h = inr h
told bytes (NotWhole path) some h = inr h
told bytes (Null path) some h = inr h
told bytes (OutOfRange path) some h = inr h
told bytes NotList some h = absurd h
told bytes NoMemory some h = absurd (some refl)

pub one_refusal : (bytes : List ℕ) (r s : JsonRefusal) → r ≢ NoMemory → s ≢ NoMemory → IsJsonRefusedAs bytes r → IsJsonRefusedAs bytes s → r ≡ s
one_refusal bytes r s first second p q = go (told bytes r first p) (told bytes s second q)
  where
    go : ((r ≡ NotJson) × HasNoValue bytes) ⊎ ((d : Data) × IsValueOf bytes d × (data_refusal d ≡ Some r))
        → ((s ≡ NotJson) × HasNoValue bytes) ⊎ ((d : Data) × IsValueOf bytes d × (data_refusal d ≡ Some s)) → r ≡ s
    go (inl x) (inl y) = x.0 ∙ sym y.0
    go (inl x) (inr y) = absurd (x.1 y.0 y.1)
    go (inr x) (inl y) = absurd (y.1 x.0 x.1)
    go (inr x) (inr y) =
        let same = one_value bytes x.0 y.0 x.1 y.1 in
        let both : Some r ≡ Some s = sym x.2 ∙ ap data_refusal same ∙ y.2 in
        cc

pub not_both : (bytes : List ℕ) (r : JsonRefusal) (value : Json) → r ≢ NoMemory → IsJsonRefusedAs bytes r → IsJsonOf bytes value → ⊥
not_both bytes r value some p q = go (told bytes r some p)
  where
    go : ((r ≡ NotJson) × HasNoValue bytes) ⊎ ((d : Data) × IsValueOf bytes d × (data_refusal d ≡ Some r)) → ⊥
    go (inl x) = x.1 (data_of value) q.value
    go (inr x) =
        let same = one_value bytes x.0 (data_of value) x.1 q.value in
        let both : Some r ≡ None = sym x.2 ∙ ap data_refusal same ∙ q.good in
        cc

pub same_value : (bytes : List ℕ) (v w : Json) → IsJsonOf bytes v → IsJsonOf bytes w → data_of v ≡ data_of w
same_value bytes v w p q = one_value bytes (data_of v) (data_of w) p.value q.value
