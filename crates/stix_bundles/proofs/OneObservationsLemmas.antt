-- A bundle has one list of observations: two lists in order, each with all the places, go side by side.
use Rattle.std.proofs.Common.{arith, ◌≡◌, ◌⊎◌, ℕ, zero, suc, ◌+◌, ◌<◌, ℤ, List, [], ◌∷◌, ◌++◌, map, Option, Some, None, slice_get, option_to_list, codes, inl, inr, refl, sym, ap, subst, ◌∙◌}
use Rattle.std.proofs.lemmas.Bool.{cases_lt}
use Rattle.std.proofs.lemmas.Int.{ints}
use Rattle.serde_json.specs.Data.{Data}
use Rattle.stix_ids.specs.declared.id.Id.{Id}
use Rattle.stix_objects.specs.declared.form.Precision.TheVariants.{Any}
use Rattle.stix_objects.specs.Properties.{IsTimestampAt, HasId}
use Rattle.stix_bundles.specs.declared.observation.Observation.{Observation}
use Rattle.stix_bundles.specs.Lookup.{ResolvesTo}
use Rattle.stix_bundles.specs.Observations.{IsObservationAt, ObservationAt, IsObservedBefore, AreResolved, references, AreObservations}
use Rattle.stix_bundles.proofs.ObjectsLemmas.{same_some}
use Rattle.stix_bundles.proofs.LookupLemmas.{OneTimestamp}

abbrev pub OneId : Type 0
OneId = (d : Data) (first second : Id) → HasId d first → HasId d second → first ≡ second

abbrev pub OneMeaning : Type 0
OneMeaning = (objects : List Data) (text : List ℕ) (first second : Option ℕ) → ResolvesTo objects text first → ResolvesTo objects text second → first ≡ second

-- what an observation rests on
pub record Laws : Type 0 where
  pub id : OneId
  pub timestamp : OneTimestamp
  pub meaning : OneMeaning

resolved_once : OneMeaning → (objects : List Data) (texts : List (List ℕ)) (xs ys : List ℕ) → AreResolved objects texts xs → AreResolved objects texts ys → xs ≡ ys
resolved_once one objects [] xs ys a b = a ∙ sym b
resolved_once one objects (text ∷ texts) xs ys a b =
    let place : a.0 ≡ b.0 = one objects text a.0 b.0 a.2 b.2 in
    let rest : a.1 ≡ b.1 = resolved_once one objects texts a.1 b.1 a.3 b.3 in
    a.4 ∙ ap (λ (o : Option ℕ). option_to_list o ++ a.1) place ∙ ap (λ (l : List ℕ). option_to_list b.0 ++ l) rest ∙ sym b.4

abbrev of : ℕ → Id → ℤ → ℤ → List ℕ → Observation
of number id first last roots = record { number = number; id = id; first = first; last = last; roots = roots }

abbrev placed : ℕ → Observation → ObservationAt
placed at observation = record { at = at; observation = observation }

-- a place has one observation of a number
observation_once : Laws → (objects : List Data) (at number : ℕ) (o p : Observation) → IsObservationAt objects at number o → IsObservationAt objects at number p → o ≡ p
observation_once laws objects at number o p a b =
    let object : b.object ≡ a.object = same_some b.object a.object (sym b.there ∙ a.there) in
    let numbers : o.number ≡ p.number = a.numbered ∙ sym b.numbered in
    let ids : o.id ≡ p.id = laws.id a.object o.id p.id a.named (subst (λ (d : Data). HasId d p.id) object b.named) in
    let firsts : o.first ≡ p.first = laws.timestamp Any (codes "first_observed") a.object o.first p.first a.first (subst (λ (d : Data). IsTimestampAt Any (codes "first_observed") d p.first) object b.first) in
    let lasts : o.last ≡ p.last = laws.timestamp Any (codes "last_observed") a.object o.last p.last a.last (subst (λ (d : Data). IsTimestampAt Any (codes "last_observed") d p.last) object b.last) in
    let roots : o.roots ≡ p.roots = resolved_once laws.meaning objects (references a.object) o.roots p.roots a.roots (subst (λ (d : Data). AreResolved objects (references d) p.roots) object b.roots) in
    ap (λ (n : ℕ). of n o.id o.first o.last o.roots) numbers
    ∙ ap (λ (i : Id). of p.number i o.first o.last o.roots) ids
    ∙ ap (λ (t : ℤ). of p.number p.id t o.last o.roots) firsts
    ∙ ap (λ (t : ℤ). of p.number p.id p.first t o.roots) lasts
    ∙ ap (λ (r : List ℕ). of p.number p.id p.first p.last r) roots

-- two observations at one place, of one time
abbrev AreAlike : ObservationAt → ObservationAt → Type 0
AreAlike s t = (s.at ≡ t.at) × (s.observation.last ≡ t.observation.last)

-- for each observation of the first list one of the second that is alike
abbrev HasAll : List ObservationAt → List ObservationAt → Type 0
HasAll xs ys = (k : ℕ) (s : ObservationAt) → slice_get xs k ≡ Some s → (m : ℕ) × (t : ObservationAt) × (slice_get ys m ≡ Some t) × AreAlike s t

-- the earlier stands before the later
abbrev AscendsBy : List ObservationAt → Type 0
AscendsBy xs = (j k : ℕ) (s t : ObservationAt) → j < k → slice_get xs j ≡ Some s → slice_get xs k ≡ Some t → IsObservedBefore s t

-- the second list has one that is alike at the same place
abbrev GoesAlong : List ObservationAt → List ObservationAt → ℕ → Type 0
GoesAlong xs ys k = (s : ObservationAt) → slice_get xs k ≡ Some s → (t : ObservationAt) × (slice_get ys k ≡ Some t) × AreAlike s t

not_alike : (s t : ObservationAt) → IsObservedBefore s t → AreAlike s t → ⊥
not_alike s t (inl earlier) alike = let same = alike.1 in omega (arith, ints, earlier, same)
not_alike s t (inr stands) alike = let same = alike.0 in let before = stands.1 in omega (arith, same, before)

alike_turned : (s t : ObservationAt) → AreAlike s t → AreAlike t s
alike_turned s t alike = (sym alike.0, sym alike.1)

alike_through : (s t u : ObservationAt) → AreAlike s t → AreAlike t u → AreAlike s u
alike_through s t u first second = (first.0 ∙ second.0, first.1 ∙ second.1)

not_around : (s w u t : ObservationAt) → IsObservedBefore s w → AreAlike w u → IsObservedBefore u t → AreAlike s t → ⊥
not_around s w u t (inl first) alike (inl second) also = let a = alike.1 in let b = also.1 in omega (arith, ints, first, second, a, b)
not_around s w u t (inl first) alike (inr second) also = let a = alike.1 in let b = also.1 in let c = second.0 in omega (arith, ints, first, c, a, b)
not_around s w u t (inr first) alike (inl second) also = let a = alike.1 in let b = also.1 in let c = first.0 in omega (arith, ints, second, c, a, b)
not_around s w u t (inr first) alike (inr second) also = let a = alike.0 in let b = also.0 in let c = first.1 in let d = second.1 in omega (arith, a, b, c, d)

there_before : (ys : List ObservationAt) (k m : ℕ) (t : ObservationAt) → slice_get ys m ≡ Some t → k < m → (u : ObservationAt) × (slice_get ys k ≡ Some u)
there_before [] k m t there below = absurd cc
there_before (y ∷ ys) zero m t there below = (y, refl)
there_before (y ∷ ys) (suc k) zero t there below = absurd (omega arith)
there_before (y ∷ ys) (suc k) (suc m) t there below = there_before ys k m t there (omega arith)

three : (n k : ℕ) → (n < k) ⊎ ((n ≡ k) ⊎ (k < n))
three n k = elim (cases_lt n k) [
  | inl below ↦ inl below
  | inr upto ↦ elim (cases_lt k n) [ inl above ↦ inr (inr above) | inr at ↦ inr (inl (omega arith)) ]
]

-- the second list can't have its own one at a later place
not_later : (xs ys : List ObservationAt) (k : ℕ) (s : ObservationAt) → AscendsBy xs → AscendsBy ys → ((j : ℕ) → j < k → GoesAlong xs ys j) → slice_get xs k ≡ Some s
    → (m : ℕ) (t u : ObservationAt) → slice_get ys m ≡ Some t → k < m → slice_get ys k ≡ Some u → AreAlike s t
    → (n : ℕ) (w : ObservationAt) → slice_get xs n ≡ Some w → AreAlike u w → (n < k) ⊎ ((n ≡ k) ⊎ (k < n)) → ⊥
not_later xs ys k s ascends climbs before here m t u there past at alike n w is same (inl below) =
    let v = before n below w is in
    not_alike v.0 u (climbs n k v.0 u below v.1 at) (alike_through v.0 w u (alike_turned w v.0 v.2) (alike_turned u w same))
not_later xs ys k s ascends climbs before here m t u there past at alike n w is same (inr (inl equal)) =
    let own : w ≡ s = same_some w s (sym is ∙ ap (slice_get xs) equal ∙ here) in
    not_alike u t (climbs k m u t past at there) (alike_through u w t same (subst (λ (o : ObservationAt). AreAlike o t) (sym own) alike))
not_later xs ys k s ascends climbs before here m t u there past at alike n w is same (inr (inr above)) =
    not_around s w u t (ascends k n s w above here is) (alike_turned u w same) (climbs k m u t past at there) alike

-- nor at an earlier one
not_sooner : (xs ys : List ObservationAt) (k : ℕ) (s : ObservationAt) → AscendsBy xs → ((j : ℕ) → j < k → GoesAlong xs ys j) → slice_get xs k ≡ Some s
    → (m : ℕ) (t : ObservationAt) → slice_get ys m ≡ Some t → m < k → AreAlike s t → ⊥
not_sooner xs ys k s ascends before here m t there below alike =
    let w = there_before xs m k s here below in
    let v = before m below w.0 w.1 in
    let own : v.0 ≡ t = same_some v.0 t (sym v.1 ∙ there) in
    not_alike w.0 s (ascends m k w.0 s below w.1 here) (alike_through w.0 v.0 s v.2 (subst (λ (o : ObservationAt). AreAlike o s) (sym own) (alike_turned s t alike)))

along_by : (xs ys : List ObservationAt) (k : ℕ) (s : ObservationAt) → HasAll ys xs → AscendsBy xs → AscendsBy ys → ((j : ℕ) → j < k → GoesAlong xs ys j) → slice_get xs k ≡ Some s
    → (m : ℕ) (t : ObservationAt) → slice_get ys m ≡ Some t → AreAlike s t → (m < k) ⊎ ((m ≡ k) ⊎ (k < m))
    → (u : ObservationAt) × (slice_get ys k ≡ Some u) × AreAlike s u
along_by xs ys k s also ascends climbs before here m t there alike (inl below) = absurd (not_sooner xs ys k s ascends before here m t there below alike)
along_by xs ys k s also ascends climbs before here m t there alike (inr (inl equal)) = (t, ap (slice_get ys) (sym equal) ∙ there, alike)
along_by xs ys k s also ascends climbs before here m t there alike (inr (inr past)) =
    let u = there_before ys k m t there past in
    let w = also k u.0 u.1 in
    absurd (not_later xs ys k s ascends climbs before here m t u.0 there past u.1 alike w.0 w.1 w.2 w.3 (three w.0 k))

along_before : (xs ys : List ObservationAt) → HasAll xs ys → HasAll ys xs → AscendsBy xs → AscendsBy ys → (k j : ℕ) → j < k → GoesAlong xs ys j
along_before xs ys all also ascends climbs zero j below = absurd (omega arith)
along_before xs ys all also ascends climbs (suc k) j below = λ s here.
    let t = all j s here in
    along_by xs ys j s also ascends climbs (λ i under. along_before xs ys all also ascends climbs k i (omega arith)) here t.0 t.1 t.2 t.3 (three t.0 j)

-- lists that go along each other, with one observation a place and number, are the same
same_lists : {A : Type 0} (xs ys : List A) → ((k : ℕ) → slice_get xs k ≡ slice_get ys k) → xs ≡ ys
same_lists [] [] same = refl
same_lists [] (y ∷ ys) same = let no = same 0 in absurd cc
same_lists (x ∷ xs) [] same = let no = same 0 in absurd cc
same_lists {A} (x ∷ xs) (y ∷ ys) same =
    let first : x ≡ y = same_some x y (same 0) in
    ap (λ (a : A). a ∷ xs) first ∙ ap (λ (l : List A). y ∷ l) (same_lists xs ys (λ k. same (suc k)))

side_by : (f g : Option ObservationAt) → ((s : ObservationAt) → f ≡ Some s → g ≡ Some s) → ((s : ObservationAt) → g ≡ Some s → f ≡ Some s) → f ≡ g
side_by None None there back = refl
side_by None (Some t) there back = back t refl
side_by (Some s) g there back = sym (there s refl)

all_of : Laws → (objects : List Data) (first : ℕ) (a b : List Observation) (x : AreObservations objects first a) (y : AreObservations objects first b) → HasAll x.seen y.seen
all_of laws objects first a b x y k s here =
    let own = x.each k s here in
    let found = y.all s.at (record { object = own.object; there = own.there; observed = own.observed }) in
    let other = y.each found.0 found.1 found.2 in
    let object : other.object ≡ own.object = same_some other.object own.object (sym other.there ∙ ap (slice_get objects) found.3 ∙ own.there) in
    let last = laws.timestamp Any (codes "last_observed") own.object s.observation.last found.1.observation.last own.last
    (subst (λ (d : Data). IsTimestampAt Any (codes "last_observed") d found.1.observation.last) object other.last) in
    (found.0, found.1, found.2, (sym found.3, last))

along : Laws → (objects : List Data) (first : ℕ) (a b : List Observation) (x : AreObservations objects first a) (y : AreObservations objects first b)
    → (k : ℕ) (s : ObservationAt) → slice_get x.seen k ≡ Some s → slice_get y.seen k ≡ Some s
along laws objects first a b x y k s here =
    let t = along_before x.seen y.seen (all_of laws objects first a b x y) (all_of laws objects first b a y x) x.in_order y.in_order (k + 1) k (omega arith) s here in
    let own = x.each k s here in
    let other = subst (λ (n : ℕ). IsObservationAt objects n (first + k) t.0.observation) (sym t.2.0) (y.each k t.0 t.1) in
    let same : t.0.observation ≡ s.observation = observation_once laws objects s.at (first + k) t.0.observation s.observation other own in
    t.1 ∙ ap (λ (n : ℕ). Some (placed n t.0.observation)) (sym t.2.0) ∙ ap (λ (o : Observation). Some (placed s.at o)) same

pub observations_once : Laws → (objects : List Data) (first : ℕ) (a b : List Observation) → AreObservations objects first a → AreObservations objects first b → a ≡ b
observations_once laws objects first a b x y =
    let same : x.seen ≡ y.seen = same_lists x.seen y.seen (λ k. side_by (slice_get x.seen k) (slice_get y.seen k) (along laws objects first a b x y k) (along laws objects first b a y x k)) in
    x.are ∙ ap (map (λ s. s.observation)) same ∙ sym y.are
