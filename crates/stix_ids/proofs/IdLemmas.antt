-- A text is cut in one way, so it names one identifier or has one refusal.
use Rattle.std.proofs.Common.{◌≡◌, ◌≢◌, ℕ, ◌+◌, List, ◌∷◌, length, take, drop, refl, sym, ap, ◌∙◌, subst, arith, length-append}
use Rattle.std.proofs.lemmas.List.{take_at, drop_at}
use Rattle.stix_ids.specs.declared.id.Id.{Id}
use Rattle.stix_ids.specs.declared.refusal.IdRefusal.{IdRefusal}
use Rattle.stix_ids.specs.declared.refusal.IdRefusal.TheVariants.{NoSeparator, BadUuid, BadKind, NoMemory}
use Rattle.stix_ids.specs.Kind.{IsKind, IsLongestKindPrefix}
use Rattle.stix_ids.specs.Uuid.{IsUuidOf, IsUuid, uuid_text}
use Rattle.stix_ids.specs.Identifier.{IsSplitId, IsTextOfId, IsCanonicalIdText}
use Rattle.stix_ids.specs.Reading.{IsRefusedId}
use Rattle.stix_ids.proofs.KindLemmas.{one_place}
use Rattle.stix_ids.proofs.UuidLemmas.{one_number, uuid_of_text, length-uuid}

-- where a text is cut
cut_place : (s f l : List ℕ) → IsSplitId s f l → length s ≡ length f + 38
cut_place s f l c = ap length c.parts ∙ length-append f (45 ∷ 45 ∷ l) ∙ (let long = c.long in omega arith)

same_front : (s f l g m : List ℕ) → IsSplitId s f l → IsSplitId s g m → f ≡ g
same_front s f l g m c d =
    let same : length g ≡ length f = omega (arith, cut_place s f l c, cut_place s g m d) in
    sym (take_at f (45 ∷ 45 ∷ l) (length f) refl) ∙ ap (take (length f)) (sym c.parts ∙ d.parts) ∙ take_at g (45 ∷ 45 ∷ m) (length f) same

same_last : (s f l g m : List ℕ) → IsSplitId s f l → IsSplitId s g m → l ≡ m
same_last s f l g m c d =
    let same : length g ≡ length f = omega (arith, cut_place s f l c, cut_place s g m d) in
    ap (drop 2) (sym (drop_at f (45 ∷ 45 ∷ l) (length f) refl) ∙ ap (drop (length f)) (sym c.parts ∙ d.parts) ∙ drop_at g (45 ∷ 45 ∷ m) (length f) same)

-- a text is that of one identifier
id_with : List ℕ → ℕ → Id
id_with kind number = record { kind = kind; number = number }

same_id : (a b : Id) → a.kind ≡ b.kind → a.number ≡ b.number → a ≡ b
unfolding id_with
same_id a b e f = ap (λ k. id_with k a.number) e ∙ ap (λ n. id_with b.kind n) f

pub one_identifier : (s : List ℕ) (a b : Id) → IsTextOfId s a → IsTextOfId s b → a ≡ b
one_identifier s a b p q =
    same_id a b (same_front s a.kind p.uuid b.kind q.uuid p.cut q.cut)
    (one_number q.uuid a.number b.number (subst (λ u. IsUuidOf u a.number) (same_last s a.kind p.uuid b.kind q.uuid p.cut q.cut) p.number) q.number)

-- a text that names an identifier is refused only for lack of memory
pub not_refused : (s : List ℕ) (a : Id) (e : IdRefusal) → IsTextOfId s a → IsRefusedId s e → e ≡ NoMemory
not_refused s a NoSeparator p q = absurd (q (a.kind, p.uuid, p.cut))
not_refused s a BadUuid p q = absurd (q.3 (a.number, subst (λ u. IsUuidOf u a.number) (same_last s a.kind p.uuid q.0 q.1 p.cut q.2) p.number))
not_refused s a (BadKind at) p q = absurd (q.3.1 (subst IsKind (same_front s a.kind p.uuid q.0 q.1 p.cut q.2) p.kind))
not_refused s a NoMemory p q = refl

-- and a refused text has one refusal
pub one_refusal : (s : List ℕ) (d e : IdRefusal) → d ≢ NoMemory → e ≢ NoMemory → IsRefusedId s d → IsRefusedId s e → d ≡ e
one_refusal s NoMemory e m n p q = absurd (m refl)
one_refusal s d NoMemory m n p q = absurd (n refl)
one_refusal s NoSeparator NoSeparator m n p q = refl
one_refusal s NoSeparator BadUuid m n p q = absurd (p (q.0, q.1, q.2))
one_refusal s NoSeparator (BadKind at) m n p q = absurd (p (q.0, q.1, q.2))
one_refusal s BadUuid NoSeparator m n p q = absurd (q (p.0, p.1, p.2))
one_refusal s BadUuid BadUuid m n p q = refl
one_refusal s BadUuid (BadKind at) m n p q = absurd (p.3 (subst IsUuid (same_last s q.0 q.1 p.0 p.1 q.2 p.2) q.3.0))
one_refusal s (BadKind at) NoSeparator m n p q = absurd (q (p.0, p.1, p.2))
one_refusal s (BadKind at) BadUuid m n p q = absurd (q.3 (subst IsUuid (same_last s p.0 p.1 q.0 q.1 p.2 q.2) p.3.0))
one_refusal s (BadKind at) (BadKind place) m n p q =
    ap BadKind (one_place q.0 at place (subst (λ f. IsLongestKindPrefix f at) (same_front s p.0 p.1 q.0 q.1 p.2 q.2) p.3.2) q.3.2)

-- what is written reads back
pub text_from_canonical : (s : List ℕ) (a : Id) → IsCanonicalIdText s a → IsTextOfId s a
text_from_canonical s a p =
    let u = uuid_of_text a.number p.number in
    record {
      uuid = uuid_text a.number;
      cut = record { long = length-uuid (uuid_text a.number) a.number u; parts = p.spelling };
      kind = p.kind;
      number = u;
    }

-- two identifiers of one text are one, part by part
pub same_parts : (s : List ℕ) (a b : Id) → IsTextOfId s a → IsTextOfId s b → (a.kind ≡ b.kind) × (a.number ≡ b.number)
same_parts s a b p q = (ap (λ (id : Id). id.kind) (one_identifier s a b p q), ap (λ (id : Id). id.number) (one_identifier s a b p q))

pub text_with_parts : (s : List ℕ) (a b : Id) → IsTextOfId s a → a.kind ≡ b.kind → a.number ≡ b.number → IsTextOfId s b
text_with_parts s a b p e f = subst (IsTextOfId s) (same_id a b e f) p
