-- A value is one bundle, or is refused for one cause.
use Rattle.std.proofs.Common.{arith, ◌≡◌, ◌⊎◌, ℕ, ◌+◌, List, [], ◌∷◌, ◌++◌, map, Option, Some, None, MatchOption, unwrap_or, slice_get, codes, inl, inr, refl, sym, ap, subst, ◌∙◌}
use Rattle.std.proofs.lemmas.Bool.{cases_lt}
use Rattle.std.proofs.lemmas.Option.{slice_get_within, get_or_from_slice_get}
use Rattle.serde_json.specs.Data.{Data, Items}
use Rattle.serde_json.specs.Find.{get}
use Rattle.stix_json.specs.Walk.{path_text, index_part}
use Rattle.stix_objects.specs.declared.rule_break.Break.{Break}
use Rattle.stix_objects.specs.Breaks.{AreBreaksOf}
use Rattle.stix_bundles.specs.declared.object_break.ObjectBreak.{ObjectBreak}
use Rattle.stix_bundles.specs.declared.refusal.BundleRefusal.{BundleRefusal}
use Rattle.stix_bundles.specs.declared.refusal.BundleRefusal.TheVariants.{NotBundle, Breaks, NoMemory}
use Rattle.stix_bundles.specs.Bundle.{items_in_order, IsObject, HasBundleType, IsIdentified, IsListOf, HasObjects, IsOutlined, IsFirstNoObject, FailsAt, IsNoBundle, break_of_object, AreAllBreaks, IsBundle, IsBundleRefused}

-- a value has one list of breaks
abbrev pub OneList : Type 0
OneList = (d : Data) (a b : List Break) → AreBreaksOf d a → AreBreaksOf d b → a ≡ b

one_members : (value : Data) (xs ys : List Data) → IsListOf value xs → IsListOf value ys → xs ≡ ys
one_members value xs ys a b =
    let items : a.items ≡ b.items = ap (λ (o : Option Items). unwrap_or o a.items) (sym a.list ∙ b.list) in
    a.members_are ∙ ap items_in_order items ∙ sym b.members_are

one_found : (found : Option Data) (xs ys : List Data) → MatchOption found (xs ≡ []) (λ value. IsListOf value xs)
    → MatchOption found (ys ≡ []) (λ value. IsListOf value ys) → xs ≡ ys
one_found None xs ys a b = a ∙ sym b
one_found (Some value) xs ys a b = one_members value xs ys a b

one_objects : (d : Data) (xs ys : List Data) → HasObjects d xs → HasObjects d ys → xs ≡ ys
one_objects d xs ys a b = one_found (get (codes "objects") d) xs ys a b

all_breaks_once : OneList → (at : ℕ) (xs : List Data) (a b : List ObjectBreak) → AreAllBreaks at xs a → AreAllBreaks at xs b → a ≡ b
all_breaks_once one at [] a b first second = first ∙ sym second
all_breaks_once one at (x ∷ xs) a b first second =
    let own : first.0 ≡ second.0 = one x first.0 second.0 first.2 second.2 in
    let rest : first.1 ≡ second.1 = all_breaks_once one (at + 1) xs first.1 second.1 first.3 second.3 in
    first.4 ∙ ap (λ (bs : List Break). map (break_of_object at) bs ++ first.1) own ∙ ap (λ (r : List ObjectBreak). map (break_of_object at) second.0 ++ r) rest ∙ sym second.4

-- a value with a bundle's outline fails nowhere
no_failure : (d : Data) (xs : List Data) (parts : List (List ℕ)) → IsOutlined d xs → ¬ (FailsAt d parts)
no_failure d xs [] outline fails = fails outline.is_object
no_failure d xs (name ∷ []) outline fails = elim fails.1 [
  | inl kind ↦ kind.1 outline.typed
  | inr (inl id) ↦ id.2 outline.identified
  | inr (inr list) ↦ list.3 xs outline.listed_are
]
no_failure d xs (name ∷ place ∷ []) outline fails =
    let same : fails.4.0 ≡ xs = one_objects d fails.4.0 xs fails.4.1 outline.listed_are in
    let first = fails.4.2.2 in
    let there : slice_get xs fails.4.2.0 ≡ Some first.member = subst (λ (os : List Data). slice_get os fails.4.2.0 ≡ Some first.member) same first.there in
    let inside = slice_get_within xs fails.4.2.0 first.member there in
    first.no_object (subst IsObject (get_or_from_slice_get xs fails.4.2.0 first.member first.member there) (outline.members fails.4.2.0 first.member inside))
no_failure d xs (name ∷ place ∷ more ∷ parts) outline fails = elim fails [ ]

one_first : (xs : List Data) (n m : ℕ) → IsFirstNoObject xs n → IsFirstNoObject xs m → n ≡ m
one_first xs n m a b = elim (cases_lt n m) [
  | inl less ↦ absurd (a.no_object (b.before n a.member less a.there))
  | inr not_less ↦ elim (cases_lt m n) [
    | inl less ↦ absurd (b.no_object (a.before m b.member less b.there))
    | inr not_more ↦ omega arith
  ]
]

-- one condition of three
one_name : (d : Data) (n m : List ℕ)
    → ((n ≡ codes "type") × (¬ HasBundleType d)) ⊎ ((n ≡ codes "id") × HasBundleType d × (¬ IsIdentified d))
    ⊎ ((n ≡ codes "objects") × HasBundleType d × IsIdentified d × ((objects : List Data) → ¬ HasObjects d objects))
    → ((m ≡ codes "type") × (¬ HasBundleType d)) ⊎ ((m ≡ codes "id") × HasBundleType d × (¬ IsIdentified d))
    ⊎ ((m ≡ codes "objects") × HasBundleType d × IsIdentified d × ((objects : List Data) → ¬ HasObjects d objects))
    → n ≡ m
one_name d n m (inl a) (inl b) = a.0 ∙ sym b.0
one_name d n m (inl a) (inr (inl b)) = absurd (a.1 b.1)
one_name d n m (inl a) (inr (inr b)) = absurd (a.1 b.1)
one_name d n m (inr (inl a)) (inl b) = absurd (b.1 a.1)
one_name d n m (inr (inl a)) (inr (inl b)) = a.0 ∙ sym b.0
one_name d n m (inr (inl a)) (inr (inr b)) = absurd (a.2 b.2)
one_name d n m (inr (inr a)) (inl b) = absurd (b.1 a.1)
one_name d n m (inr (inr a)) (inr (inl b)) = absurd (b.2 a.2)
one_name d n m (inr (inr a)) (inr (inr b)) = a.0 ∙ sym b.0

-- a condition on the whole list is no condition on a member
other_name : (d : Data) (n m place : List ℕ) → FailsAt d (n ∷ []) → ¬ (FailsAt d (m ∷ place ∷ []))
other_name d n m place a b = elim a.1 [
  | inl kind ↦ kind.1 b.2
  | inr (inl id) ↦ id.2 b.3
  | inr (inr list) ↦ list.3 b.4.0 b.4.1
]

one_failure : (d : Data) (p q : List (List ℕ)) → FailsAt d p → FailsAt d q → p ≡ q
one_failure d [] [] a b = refl
one_failure d [] (m ∷ []) a b = absurd (a b.0)
one_failure d [] (m ∷ place ∷ []) a b = absurd (a b.1)
one_failure d [] (m ∷ place ∷ more ∷ parts) a b = elim b [ ]
one_failure d (n ∷ []) [] a b = absurd (b a.0)
one_failure d (n ∷ []) (m ∷ []) a b = ap (λ (name : List ℕ). name ∷ []) (one_name d n m a.1 b.1)
one_failure d (n ∷ []) (m ∷ place ∷ []) a b = absurd (other_name d n m place a b)
one_failure d (n ∷ []) (m ∷ place ∷ more ∷ parts) a b = elim b [ ]
one_failure d (n ∷ place ∷ []) [] a b = absurd (b a.1)
one_failure d (n ∷ place ∷ []) (m ∷ []) a b = absurd (other_name d m n place b a)
one_failure d (n ∷ place ∷ []) (m ∷ other ∷ []) a b =
    let names : n ≡ m = a.0 ∙ sym b.0 in
    let same : a.4.0 ≡ b.4.0 = one_objects d a.4.0 b.4.0 a.4.1 b.4.1 in
    let at : a.4.2.0 ≡ b.4.2.0 = one_first b.4.0 a.4.2.0 b.4.2.0 (subst (λ (os : List Data). IsFirstNoObject os a.4.2.0) same a.4.2.2) b.4.2.2 in
    let places : place ≡ other = a.4.2.1 ∙ ap index_part at ∙ sym b.4.2.1 in
    ap (λ (name : List ℕ). name ∷ place ∷ []) names ∙ ap (λ (p : List ℕ). m ∷ p ∷ []) places
one_failure d (n ∷ place ∷ []) (m ∷ other ∷ more ∷ parts) a b = elim b [ ]
one_failure d (n ∷ place ∷ more ∷ parts) q a b = elim a [ ]

one_path : (d : Data) (p q : List ℕ) → IsNoBundle d p → IsNoBundle d q → p ≡ q
one_path d p q a b = a.2 ∙ ap path_text (one_failure d a.0 b.0 a.1 b.1) ∙ sym b.2

-- the objects of an outline, whose breaks are these
one_breaks : OneList → (d : Data) (xs ys : List Data) (a b : List ObjectBreak) → IsOutlined d xs → IsOutlined d ys
    → AreAllBreaks 0 xs a → AreAllBreaks 0 ys b → a ≡ b
one_breaks one d xs ys a b first second all others =
    let same : xs ≡ ys = one_objects d xs ys first.listed_are second.listed_are in
    all_breaks_once one 0 ys a b (subst (λ (os : List Data). AreAllBreaks 0 os a) same all) others

pub bundle_once : (d : Data) (first second : List Data) → IsBundle d first → IsBundle d second → first ≡ second
bundle_once d first second is also = one_objects d first second is.outline.listed_are also.outline.listed_are

pub bundle_or_refusal : OneList → (d : Data) (objects : List Data) (refusal : BundleRefusal) → IsBundle d objects → ¬ IsBundleRefused d refusal
bundle_or_refusal one d objects (NotBundle path) is why = no_failure d objects why.0 is.outline why.1
bundle_or_refusal one d objects (Breaks breaks) is why = why.0 (one_breaks one d why.1.0 objects breaks [] why.1.1 is.outline why.1.2 is.unbroken)
bundle_or_refusal one d objects NoMemory is why = why

pub refusal_once : OneList → (d : Data) (first second : BundleRefusal) → IsBundleRefused d first → IsBundleRefused d second → first ≡ second
refusal_once one d (NotBundle path) (NotBundle other) why also = ap NotBundle (one_path d path other why also)
refusal_once one d (NotBundle path) (Breaks breaks) why also = absurd (no_failure d also.1.0 why.0 also.1.1 why.1)
refusal_once one d (NotBundle path) NoMemory why also = absurd also
refusal_once one d (Breaks breaks) (NotBundle path) why also = absurd (no_failure d why.1.0 also.0 why.1.1 also.1)
refusal_once one d (Breaks breaks) (Breaks others) why also = ap Breaks (one_breaks one d why.1.0 also.1.0 breaks others why.1.1 also.1.1 why.1.2 also.1.2)
refusal_once one d (Breaks breaks) NoMemory why also = absurd also
refusal_once one d NoMemory second why also = absurd why
