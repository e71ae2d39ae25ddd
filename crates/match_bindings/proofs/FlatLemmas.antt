-- Flat lists tell bindings apart, and there is one listing.
use Rattle.std.proofs.Common.{◌≡◌, ℕ, zero, suc, ◌+◌, ◌≤◌, ◌<◌, List, [], ◌∷◌, ◌++◌, get_or, refl, sym, ◌∙◌, ap, arith, append_assoc, append-nil}
use Rattle.std.specs.Prelude.{Bool, true, false, nat_lt, nat_eq}
use Rattle.std.specs.Ordering.{nat_cmp, is_lt}
use Rattle.std.specs.declared.cmp.Ordering.{Ordering}
use Rattle.std.specs.declared.cmp.Ordering.TheVariants.{Less, Equal, Greater}
use Rattle.std.specs.Cmp.Lexicographic.{slice_cmp}
use Rattle.std.specs.List.Sorted.{IsSortedBy}
use Rattle.std.proofs.lemmas.Bool.{ltb-false, le-ltb, eq-eqb}
use Rattle.std.proofs.lemmas.Cmp.{nat_list_cmp_total, tied_itself}
use Rattle.match_bindings.specs.NumberedPattern.{NumberedPattern, Leaf, Both, Then, Either, Within, Between, Repeats}
use Rattle.match_bindings.specs.BindTree.{BindTree, One, Pair, First, Second, Single, More}
use Rattle.match_bindings.specs.Log.{Observed}
use Rattle.match_bindings.specs.Binding.{AreRepeats, IsBinding}
use Rattle.match_bindings.specs.Test.{is_binding}
use Rattle.match_bindings.specs.Once.{bit, is_same_tree, count, Exactly}
use Rattle.match_bindings.specs.Flat.{flat, rank, comes_before, Ascends}
use Rattle.match_bindings.specs.Listing.{IsListing}
use Rattle.match_bindings.proofs.OnceLemmas.{same_is, same_self}
use Rattle.match_bindings.proofs.IsBindingLemmas.{binding_to, binding_from}

-- what flat lists of one pattern say: if two go on in one way, they are of one tree
abbrev Tells : (BindTree → Type 0) → Type 0
Tells Binds = (x y : BindTree) (u v : List ℕ) → Binds x → Binds y → flat x ++ u ≡ flat y ++ v → (x ≡ y) × (u ≡ v)

pair_tells : (a b c d : BindTree) (u v : List ℕ) →
    ((u v : List ℕ) → flat a ++ u ≡ flat c ++ v → (a ≡ c) × (u ≡ v)) → ((u v : List ℕ) → flat b ++ u ≡ flat d ++ v → (b ≡ d) × (u ≡ v)) →
    (flat a ++ flat b) ++ u ≡ (flat c ++ flat d) ++ v → (a ≡ c) × (b ≡ d) × (u ≡ v)
pair_tells a b c d u v left right h =
    let one = left (flat b ++ u) (flat d ++ v) (sym (append_assoc (flat a) (flat b) u) ∙ h ∙ append_assoc (flat c) (flat d) v) in
    let two = right u v one.1 in
    (one.0, two.0, two.1)

repeats_tell : (Binds : BindTree → Type 0) → Tells Binds → (n : ℕ) → Tells (AreRepeats Binds n)
repeats_tell Binds h zero x y u v hx hy e = absurd hx
repeats_tell Binds h (suc zero) (Single a) (Single b) u v hx hy e = let one = h a b u v hx hy e in (ap Single one.0, one.1)
repeats_tell Binds h (suc (suc j)) (More m a) (More n b) u v hx hy e =
    let both = pair_tells m a n b u v (λ u v e. repeats_tell Binds h (suc j) m n u v hx.0 hy.0 e) (λ u v e. h a b u v hx.1 hy.1 e) e in
    let e0 : m ≡ n = both.0 in let e1 : a ≡ b = both.1 in
    (cc, both.2)
repeats_tell Binds h (suc zero) (Single a) y u v hx hy e = absurd hy
repeats_tell Binds h (suc (suc j)) (More m a) y u v hx hy e = absurd hy
repeats_tell Binds h n x y u v hx hy e = absurd hx

sides_differ : (u v : List ℕ) → 0 ∷ u ≡ 18446744073709551615 ∷ v → ⊥
sides_differ u v h = apart 0 18446744073709551615 refl cc where
  apart : (m n : ℕ) → nat_eq m n ≡ false → m ≡ n → ⊥
  apart m n other same_number = let yes_it_is : nat_eq m n ≡ true = eq-eqb m n same_number in absurd (cc)

pub bindings_tell : (o : Observed) (p : NumberedPattern) → Tells (IsBinding o p)
bindings_tell o (Leaf k) (One i) (One j) u v hx hy e = let one : i ≡ j = cc in (ap One one, cc)
bindings_tell o (Leaf k) (One i) y u v hx hy e = absurd hy
bindings_tell o (Both p q) (Pair a b) (Pair c d) u v hx hy e =
    let both = pair_tells a b c d u v (λ u v e. bindings_tell o p a c u v hx.0 hy.0 e) (λ u v e. bindings_tell o q b d u v hx.1 hy.1 e) e in
    let e0 : a ≡ c = both.0 in let e1 : b ≡ d = both.1 in
    (cc, both.2)
bindings_tell o (Both p q) (Pair a b) y u v hx hy e = absurd hy
bindings_tell o (Then p q) (Pair a b) (Pair c d) u v hx hy e =
    let both = pair_tells a b c d u v (λ u v e. bindings_tell o p a c u v hx.0 hy.0 e) (λ u v e. bindings_tell o q b d u v hx.1 hy.1 e) e in
    let e0 : a ≡ c = both.0 in let e1 : b ≡ d = both.1 in
    (cc, both.2)
bindings_tell o (Then p q) (Pair a b) y u v hx hy e = absurd hy
bindings_tell o (Either p q) (First a) (First b) u v hx hy e =
    let rest : flat a ++ u ≡ flat b ++ v = cc in
    let one = bindings_tell o p a b u v hx hy rest in (ap First one.0, one.1)
bindings_tell o (Either p q) (First a) (Second b) u v hx hy e = absurd (sides_differ (flat a ++ u) (flat b ++ v) e)
bindings_tell o (Either p q) (First a) y u v hx hy e = absurd hy
bindings_tell o (Either p q) (Second a) (First b) u v hx hy e = absurd (sides_differ (flat b ++ v) (flat a ++ u) (sym e))
bindings_tell o (Either p q) (Second a) (Second b) u v hx hy e =
    let rest : flat a ++ u ≡ flat b ++ v = cc in
    let one = bindings_tell o q a b u v hx hy rest in (ap Second one.0, one.1)
bindings_tell o (Either p q) (Second a) y u v hx hy e = absurd hy
bindings_tell o (Within p n) x y u v hx hy e = bindings_tell o p x y u v hx.0 hy.0 e
bindings_tell o (Between p start stop) x y u v hx hy e = bindings_tell o p x y u v hx.0 hy.0 e
bindings_tell o (Repeats p n) x y u v hx hy e = repeats_tell (IsBinding o p) (λ x y u v a b e. bindings_tell o p x y u v a b e) n x y u v hx hy e
bindings_tell o p x y u v hx hy e = absurd hx

pub flats_tell : (o : Observed) (p : NumberedPattern) (x y : BindTree) → IsBinding o p x → IsBinding o p y → flat x ≡ flat y → x ≡ y
flats_tell o p x y hx hy e = (bindings_tell o p x y [] [] hx hy (append-nil (flat x) ∙ e ∙ sym (append-nil (flat y)))).0

-- ---- order

-- lists of which neither comes first are one
level_lists : (xs ys : List ℕ) → is_lt (slice_cmp nat_cmp xs ys) ≡ false → is_lt (slice_cmp nat_cmp ys xs) ≡ false → xs ≡ ys
level_lists [] [] h k = refl
level_lists [] (y ∷ ys) h k = absurd (cc)
level_lists (x ∷ xs) [] h k = absurd (cc)
level_lists (x ∷ xs) (y ∷ ys) h k = by_test (nat_lt x y) (nat_lt y x) refl refl (λ a b. level_lists xs ys a b) where
  by_test : (s t : Bool) → nat_lt x y ≡ s → nat_lt y x ≡ t → (is_lt (slice_cmp nat_cmp xs ys) ≡ false → is_lt (slice_cmp nat_cmp ys xs) ≡ false → xs ≡ ys) → (x ∷ xs) ≡ (y ∷ ys)
  by_test true t e f ih = absurd (let less : nat_cmp x y ≡ Less = rw e refl in let now : is_lt (slice_cmp nat_cmp (x ∷ xs) (y ∷ ys)) ≡ true = rw less refl in cc)
  by_test false true e f ih = absurd (let less : nat_cmp y x ≡ Less = rw f refl in let now : is_lt (slice_cmp nat_cmp (y ∷ ys) (x ∷ xs)) ≡ true = rw less refl in cc)
  by_test false false e f ih =
      let one : x ≡ y = omega (arith, ltb-false x y e, ltb-false y x f) in
      let tie : nat_cmp x y ≡ Equal = tied x y one in
      let tie' : nat_cmp y x ≡ Equal = tied y x (sym one) in
      let h' : is_lt (slice_cmp nat_cmp xs ys) ≡ false = rw tie at h in
      let k' : is_lt (slice_cmp nat_cmp ys xs) ≡ false = rw tie' at k in
      let rest : xs ≡ ys = ih h' k' in
      cc where
        tied : (m n : ℕ) → m ≡ n → nat_cmp m n ≡ Equal
        tied m n e = rw (le-ltb m n (omega arith), eq-eqb m n e) refl

less_from : (o : Ordering) → is_lt o ≡ true → o ≡ Less
less_from Less h = refl
less_from Equal h = absurd (cc)
less_from Greater h = absurd (cc)

pub before_trans : (x y z : BindTree) → comes_before x y ≡ true → comes_before y z ≡ true → comes_before x z ≡ true
before_trans x y z h k =
    ap is_lt (nat_list_cmp_total.trans (rank x) (rank y) (rank z) (less_from (slice_cmp nat_cmp (rank x) (rank y)) h) (less_from (slice_cmp nat_cmp (rank y) (rank z)) k))

pub never_before_itself : (x : BindTree) → comes_before x x ≡ false
never_before_itself x = ap is_lt (tied_itself nat_list_cmp_total (rank x))

-- the first of an ascending list comes before each other one
pub first_before : (x : BindTree) (xs : List BindTree) → Ascends (x ∷ xs) → (y : BindTree) → 0 < count y xs → comes_before x y ≡ true
first_before x [] ascends y h = absurd (omega arith)
first_before x (z ∷ zs) ascends y h = by_test (is_same_tree y z) refl (λ k. first_before z zs ascends.1 y k) where
  by_test : (b : Bool) → is_same_tree y z ≡ b → (0 < count y zs → comes_before z y ≡ true) → comes_before x y ≡ true
  by_test true e ih = let one : y ≡ z = same_is y z e in ap (comes_before x) one ∙ ascends.0
  by_test false e ih =
      let h' : 0 < bit (is_same_tree y z) + count y zs = h in
      let h'' : 0 < bit false + count y zs = rw e at h' in
      before_trans x z y ascends.0 (ih (omega arith))

pub tail_ascends : (x : BindTree) (xs : List BindTree) → Ascends (x ∷ xs) → Ascends xs
tail_ascends x [] ascends = tt
tail_ascends x (y ∷ xs) ascends = ascends.1

-- ascending lists with the is_same_tree counts are one
same_lists : (xs ys : List BindTree) → Ascends xs → Ascends ys → ((x : BindTree) → count x xs ≡ count x ys) → xs ≡ ys
same_lists [] [] hx hy h = refl
same_lists [] (y ∷ ys) hx hy h =
    let e : 0 ≡ bit (is_same_tree y y) + count y ys = h y in
    let e' : 0 ≡ 1 + count y ys = rw (same_self y) at e in
    absurd (omega arith)
same_lists (x ∷ xs) [] hx hy h =
    let e : bit (is_same_tree x x) + count x xs ≡ 0 = h x in
    let e' : 1 + count x xs ≡ 0 = rw (same_self x) at e in
    absurd (omega arith)
same_lists (x ∷ xs) (y ∷ ys) hx hy h = by_test (is_same_tree x y) (is_same_tree y x) refl refl (λ k. same_lists xs ys (tail_ascends x xs hx) (tail_ascends y ys hy) k) where
  by_test : (s t : Bool) → is_same_tree x y ≡ s → is_same_tree y x ≡ t → (((z : BindTree) → count z xs ≡ count z ys) → xs ≡ ys) → (x ∷ xs) ≡ (y ∷ ys)
  by_test true t e f ih =
      let one : x ≡ y = same_is x y e in
      let rest : xs ≡ ys = ih (λ z.
      let k : bit (is_same_tree z x) + count z xs ≡ bit (is_same_tree z y) + count z ys = h z in
      let b : bit (is_same_tree z x) ≡ bit (is_same_tree z y) = ap (λ w. bit (is_same_tree z w)) one in
      omega arith) in
      cc
  by_test false true e f ih =
      let one : y ≡ x = same_is y x f in
      let twice : is_same_tree x y ≡ true = ap (is_same_tree x) one ∙ same_self x in
      absurd (cc)
  by_test false false e f ih =
      let k : bit (is_same_tree x x) + count x xs ≡ bit (is_same_tree x y) + count x ys = h x in
      let k1 : 1 + count x xs ≡ bit false + count x ys = rw (same_self x, e) at k in
      let l : bit (is_same_tree y x) + count y xs ≡ bit (is_same_tree y y) + count y ys = h y in
      let l1 : bit false + count y xs ≡ 1 + count y ys = rw (same_self y, f) at l in
      let k2 : 1 + count x xs ≡ 0 + count x ys = k1 in
      let l2 : 0 + count y xs ≡ 1 + count y ys = l1 in
      let one : comes_before y x ≡ true = first_before y ys hy x (omega arith) in
      let two : comes_before x y ≡ true = first_before x xs hx y (omega arith) in
      let three : comes_before x x ≡ true = before_trans x y x two one in
      absurd (let no : comes_before x x ≡ false = never_before_itself x in cc)

-- a listing holds each tree as often as the test says
pub listed_exactly : (o : Observed) (p : NumberedPattern) (xs : List BindTree) → IsListing o p xs → Exactly (is_binding o p) xs
listed_exactly o p xs h x = by_test (is_binding o p x) refl where
  by_test : (b : Bool) → is_binding o p x ≡ b → count x xs ≡ bit (is_binding o p x)
  by_test true e = rw e (h.each_once x (binding_to o p x e))
  by_test false e = rw e (h.no_other x (λ k. let yes_it_is : is_binding o p x ≡ true = binding_from o p x k in absurd (cc)))

pub one_listing : (o : Observed) (p : NumberedPattern) (xs ys : List BindTree) → IsListing o p xs → IsListing o p ys → xs ≡ ys
one_listing o p xs ys hx hy = same_lists xs ys hx.ascends hy.ascends (λ x. listed_exactly o p xs hx x ∙ sym (listed_exactly o p ys hy x))

-- ---- what is sorted by rank

-- all that pass, and none twice
abbrev pub Once : (BindTree → Bool) → List BindTree → Type 0
Once f [] = Unit {0}
Once f (x ∷ xs) = (f x ≡ true) × (count x xs ≡ 0) × Once f xs

bit_most : (b : Bool) → bit b ≤ 1
bit_most true = omega arith
bit_most false = omega arith

bit_some : (b : Bool) → 0 < bit b → b ≡ true
bit_some true h = refl
bit_some false h = absurd (omega arith)

pub once_each : (f : BindTree → Bool) (xs : List BindTree) → ((x : BindTree) → count x xs ≤ bit (f x)) → Once f xs
once_each f [] h = tt
once_each f (x ∷ xs) h =
    let me : is_same_tree x x ≡ true = same_self x in
    let here : bit (is_same_tree x x) + count x xs ≤ bit (f x) = h x in
    let here' : 1 + count x xs ≤ bit (f x) = rw me at here in
    let most = bit_most (f x) in
    (bit_some (f x) (omega arith), omega arith, once_each f xs (λ y. let there : bit (is_same_tree y x) + count y xs ≤ bit (f y) = h y in omega arith))

abbrev pub Sorted : List BindTree → Type 0
Sorted [] = Unit {0}
Sorted (x ∷ []) = Unit {0}
Sorted (x ∷ y ∷ xs) = (comes_before y x ≡ false) × Sorted (y ∷ xs)

sorted_by : (xs : List BindTree) → IsSortedBy comes_before xs → Sorted xs
sorted_by [] up = tt
sorted_by (x ∷ []) up = tt
sorted_by (x ∷ y ∷ xs) up = (
  up 0 x (omega arith) (omega arith),
  sorted_by (y ∷ xs) (λ k d low high.
      let at : suc k + 1 ≡ suc (k + 1) = omega arith in
      ap (λ i. comes_before (get_or (x ∷ y ∷ xs) i d) (get_or (y ∷ xs) k d)) (sym at) ∙ up (suc k) d (omega arith) (omega arith)),
)

same_rank : (x y : BindTree) → rank x ≡ rank y → flat x ≡ flat y
same_rank x y h = cc

pub ascends_from : (o : Observed) (p : NumberedPattern) (xs : List BindTree) → Once (is_binding o p) xs → Sorted xs → Ascends xs
ascends_from o p [] once up = tt
ascends_from o p (x ∷ []) once up = tt
ascends_from o p (x ∷ y ∷ xs) once up = (by_test (comes_before x y) refl, ascends_from o p (y ∷ xs) once.2 up.1) where
  by_test : (t : Bool) → comes_before x y ≡ t → comes_before x y ≡ true
  by_test true e = e
  by_test false e =
      let level : rank x ≡ rank y = level_lists (rank x) (rank y) e up.0 in
      let one : x ≡ y = flats_tell o p x y (binding_to o p x once.0) (binding_to o p y once.2.0) (same_rank x y level) in
      let twice : is_same_tree x y ≡ true = ap (is_same_tree x) (sym one) ∙ same_self x in
      let none : bit (is_same_tree x y) + count x xs ≡ 0 = once.1 in
      let none' : 1 + count x xs ≡ 0 = rw twice at none in
      absurd (omega arith)

-- the bindings, each once and ascending, are the listing
pub exactly_listed : (o : Observed) (p : NumberedPattern) (xs : List BindTree) → Exactly (is_binding o p) xs → Ascends xs → IsListing o p xs
exactly_listed o p xs each up = record {
  each_once = λ x h. let yes_it_is = binding_from o p x h in each x ∙ ap bit yes_it_is;
  no_other = λ x h. each x ∙ ap bit (no_binding x h (is_binding o p x) refl);
  ascends = up;
} where
  no_binding : (x : BindTree) → (IsBinding o p x → ⊥) → (b : Bool) → is_binding o p x ≡ b → is_binding o p x ≡ false
  no_binding x h true e = absurd (h (binding_to o p x e))
  no_binding x h false e = e

-- what is sorted by rank ascends
pub sorted_ascend : (o : Observed) (p : NumberedPattern) (xs : List BindTree) → ((x : BindTree) → count x xs ≤ bit (is_binding o p x)) → IsSortedBy comes_before xs → Ascends xs
sorted_ascend o p xs most up = ascends_from o p xs (once_each (is_binding o p) xs most) (sorted_by xs up)

-- so it is the listing where it has all bindings
pub listing_from : (o : Observed) (p : NumberedPattern) (xs : List BindTree) → Exactly (is_binding o p) xs → IsSortedBy comes_before xs → IsListing o p xs
listing_from o p xs each up =
    exactly_listed o p xs each (sorted_ascend o p xs (λ x. let e = each x in omega (arith, e)) up)
