-- Collections in arguments: an argument is one collection at most, for a UUID has one length, and rights have no colon.
use Rattle.std.proofs.Common.{◌≡◌, ◌≢◌, ◌<◌, ℕ, zero, suc, Bool, true, false, Option, List, [], ◌∷◌, ◌++◌, length, get_or, codes, Bor, refl, sym, ap, ◌∙◌, subst, arith}
use Rattle.std.specs.Prelude.{MatchOption}
use Rattle.std.proofs.lemmas.Str.Pattern.{IsSplitOnceResult, split_after}
use Rattle.stix_ids.specs.Uuid.{IsUuidOf}
use Rattle.stix_ids.proofs.UuidLemmas.{length-uuid, one_number}
use Rattle.command_line.specs.CommandLines.{AreCollectionsOf, AreRights, IsCollectionOf, PlainCollection}
use Rattle.command_line.proofs.HasLemmas.{Text, differ}

-- no byte is a colon
abbrev pub HasNoColon : Text → Type 0
HasNoColon text = (i : ℕ) → i < length text → get_or text i 0 ≢ 58

rest_free : (x : ℕ) (xs : Text) → HasNoColon (x ∷ xs) → HasNoColon xs
rest_free x xs free = λ i inside. free (suc i) (omega arith)

-- one way to cut at the first colon
pub same_cut : (front front' back back' : Text) → HasNoColon front → HasNoColon front' → front ++ 58 ∷ back ≡ front' ++ 58 ∷ back' → (front ≡ front') × (back ≡ back')
same_cut [] [] back back' free free' same = (refl, cc)
same_cut [] (x ∷ front') back back' free free' same = let colon : x ≡ 58 = cc in absurd (free' 0 (omega arith) colon)
same_cut (x ∷ front) [] back back' free free' same = let colon : x ≡ 58 = cc in absurd (free 0 (omega arith) colon)
same_cut (x ∷ front) (y ∷ front') back back' free free' same =
    let heads : x ≡ y = cc in
    let tails : front ++ 58 ∷ back ≡ front' ++ 58 ∷ back' = cc in
    let rest = same_cut front front' back back' (rest_free x front free) (rest_free y front' free') tails in
    (λ i. heads i ∷ rest.0 i, rest.1)

-- one way to cut after the first bytes
pub same_front : (front front' back back' : Text) → length front ≡ length front' → front ++ back ≡ front' ++ back' → (front ≡ front') × (back ≡ back')
same_front [] [] back back' size same = (refl, same)
same_front [] (x ∷ front') back back' size same = absurd (omega arith)
same_front (x ∷ front) [] back back' size same = absurd (omega arith)
same_front (x ∷ front) (y ∷ front') back back' size same =
    let heads : x ≡ y = cc in
    let tails : front ++ back ≡ front' ++ back' = cc in
    let rest = same_front front front' back back' (omega arith) tails in
    (λ i. heads i ∷ rest.0 i, rest.1)

-- rights have no colon
letter_free : (c : ℕ) → c ≢ 58 → HasNoColon (c ∷ [])
letter_free c other = λ i inside colon. let first : i ≡ 0 = omega arith in other (subst (λ (k : ℕ). get_or (c ∷ []) k 0 ≡ 58) first colon)

letters_free : (c d : ℕ) → c ≢ 58 → d ≢ 58 → HasNoColon (c ∷ d ∷ [])
letters_free c d first second zero inside colon = first colon
letters_free c d first second (suc k) inside colon = letter_free d second k (omega arith) colon

pub rights_free : (text : Text) (can_read can_write : Bool) → AreRights text can_read can_write → HasNoColon text
rights_free text true false h = subst HasNoColon (sym h) (letter_free 114 (λ e. absurd (omega arith)))
rights_free text false true h = subst HasNoColon (sym h) (letter_free 119 (λ e. absurd (omega arith)))
rights_free text true true h = subst HasNoColon (sym h) (letters_free 114 119 (λ e. absurd (omega arith)) (λ e. absurd (omega arith)))
rights_free text false false h = absurd h

pub same_rights : (text : Text) (a b a' b' : Bool) → AreRights text a b → AreRights text a' b' → (a ≡ a') × (b ≡ b')
same_rights text true true true true h g = (refl, refl)
same_rights text true false true false h g = (refl, refl)
same_rights text false true false true h g = (refl, refl)
same_rights text false false a b h g = absurd h
same_rights text a b false false h g = absurd g
same_rights text true true true false h g = differ (codes "rw") (codes "r") refl (sym h ∙ g)
same_rights text true true false true h g = differ (codes "rw") (codes "w") refl (sym h ∙ g)
same_rights text true false true true h g = differ (codes "r") (codes "rw") refl (sym h ∙ g)
same_rights text true false false true h g = differ (codes "r") (codes "w") refl (sym h ∙ g)
same_rights text false true true true h g = differ (codes "w") (codes "rw") refl (sym h ∙ g)
same_rights text false true true false h g = differ (codes "w") (codes "r") refl (sym h ∙ g)

same_tails : (xs ys : Text) → 58 ∷ xs ≡ 58 ∷ ys → xs ≡ ys
same_tails xs ys e = cc

-- an argument is one collection
pub one_collection : (argument : Text) (a b : PlainCollection) → IsCollectionOf argument a → IsCollectionOf argument b → a ≡ b
one_collection argument a b one two =
    let first = same_front one.uuid two.uuid (58 ∷ (one.rights ++ 58 ∷ a.title)) (58 ∷ (two.rights ++ 58 ∷ b.title)) (length-uuid one.uuid a.id one.id_is ∙ sym (length-uuid two.uuid b.id two.id_is))
    (sym one.argument_is ∙ two.argument_is) in
    let behind : one.rights ++ 58 ∷ a.title ≡ two.rights ++ 58 ∷ b.title = same_tails _ _ first.1 in
    let second = same_cut one.rights two.rights a.title b.title (rights_free one.rights a.can_read a.can_write one.rights_are) (rights_free two.rights b.can_read b.can_write two.rights_are) behind in
    let ids : a.id ≡ b.id = one_number two.uuid a.id b.id (subst (λ (t : Text). IsUuidOf t a.id) first.0 one.id_is) two.id_is in
    let rights = same_rights two.rights a.can_read a.can_write b.can_read b.can_write (subst (λ (t : Text). AreRights t a.can_read a.can_write) second.0 one.rights_are) two.rights_are in
    λ i. record { id = ids i; can_read = rights.0 i; can_write = rights.1 i; title = second.1 i }

pub same_collections : (arguments : List Text) (xs ys : List PlainCollection) → AreCollectionsOf arguments xs → AreCollectionsOf arguments ys → xs ≡ ys
same_collections [] [] [] one two = refl
same_collections [] (a ∷ xs) ys one two = absurd one
same_collections [] [] (b ∷ ys) one two = absurd two
same_collections (argument ∷ arguments) [] ys one two = absurd one
same_collections (argument ∷ arguments) (a ∷ xs) [] one two = absurd two
same_collections (argument ∷ arguments) (a ∷ xs) (b ∷ ys) one two =
    let first = one_collection argument a b one.0 two.0 in
    let rest = same_collections arguments xs ys one.1 two.1 in
    λ i. first i ∷ rest i

pub as_many : (arguments : List Text) (collections : List PlainCollection) → AreCollectionsOf arguments collections → length arguments ≡ length collections
as_many [] [] all = refl
as_many [] (c ∷ cs) all = absurd all
as_many (argument ∷ arguments) [] all = absurd all
as_many (argument ∷ arguments) (c ∷ cs) all = ap suc (as_many arguments cs all.1)

-- one more argument and its collection
pub are_collections-append : (arguments more : List Text) (xs ys : List PlainCollection) → AreCollectionsOf arguments xs → AreCollectionsOf more ys → AreCollectionsOf (arguments ++ more) (xs ++ ys)
are_collections-append [] more [] ys all rest = rest
are_collections-append [] more (a ∷ xs) ys all rest = absurd all
are_collections-append (argument ∷ arguments) more [] ys all rest = absurd all
are_collections-append (argument ∷ arguments) more (a ∷ xs) ys all rest = (all.0, are_collections-append arguments more xs ys all.1 rest)

-- an argument among them that is no collection
pub bad_argument : (arguments : List Text) (argument : Text) (more : List Text) → ((collection : PlainCollection) → ¬ IsCollectionOf argument collection)
    → (collections : List PlainCollection) → ¬ AreCollectionsOf (arguments ++ argument ∷ more) collections
bad_argument [] argument more bad [] all = all
bad_argument [] argument more bad (c ∷ cs) all = bad c all.0
bad_argument (other ∷ arguments) argument more bad [] all = all
bad_argument (other ∷ arguments) argument more bad (c ∷ cs) all = bad_argument arguments argument more bad cs all.1

-- what the reader of a collection cuts out of its argument
module _ (argument : Text) (collection : PlainCollection) (is : IsCollectionOf argument collection) where
  pub behind_uuid : (uuid rest : Text) → argument ≡ uuid ++ 58 ∷ rest → length uuid ≡ 36 → IsUuidOf uuid collection.id × (rest ≡ is.rights ++ 58 ∷ collection.title)
  behind_uuid uuid rest cut long =
      let same = same_front uuid is.uuid (58 ∷ rest) (58 ∷ (is.rights ++ 58 ∷ collection.title)) (long ∙ sym (length-uuid is.uuid collection.id is.id_is)) (sym cut ∙ is.argument_is) in
      (subst (λ (t : Text). IsUuidOf t collection.id) (sym same.0) is.id_is, same_tails _ _ same.1)

  pub behind_rights : (uuid rest : Text) → argument ≡ uuid ++ 58 ∷ rest → length uuid ≡ 36 → (cut : Option (Bor Text × Bor Text)) → IsSplitOnceResult 58 rest cut
      → MatchOption cut ⊥ (λ x. (x.0.now ≡ is.rights) × (x.1.now ≡ collection.title))
  behind_rights uuid rest at long cut split =
      split_after 58 rest is.rights collection.title cut split (omega arith) (behind_uuid uuid rest at long).1 (rights_free is.rights collection.can_read collection.can_write is.rights_are)
