-- Numbers that are taken of choices, each of one.
use Rattle.std.proofs.Common.{◌≡◌, ℕ, zero, suc, ◌+◌, ◌≤◌, List, [], ◌∷◌, ◌++◌, take, length, refl, sym, ◌∙◌, ap, subst, arith, ◌⊎◌, inl, inr}
use Rattle.std.specs.Prelude.{Bool, true, false, nat_eq, Some, slice_get}
use Rattle.std.specs.List.{AllByRecursion, AllZip, Contains, IsDistinct}
use Rattle.std.proofs.lemmas.Bool.{or_left, or_right, eqb-true}
use Rattle.std.proofs.lemmas.Cmp.{nat_eq_equiv}
use Rattle.std.proofs.lemmas.List.Elements.{All-contains, All-from_recursion, Contains-append_cases}
use Rattle.std.proofs.lemmas.Map.Made.{length-le_from_is_member}
use Rattle.std.proofs.lemmas.Map.Views.{list_any-from_Contains, Contains-from_any}
use Rattle.match_bindings.specs.BindTree.{BindTree, One, Pair, First, Second, Empty, Single, More, firsts, tree_of, has, disjoint}
use Rattle.match_bindings.specs.declared.bind.Bind.TheVariants.{One as Only}
use Rattle.match_bindings.proofs.BindTreeLemmas.{tree_one}
use Rattle.match_bindings.proofs.IsBindingLemmas.{apart_to}
use Rattle.match_pruning.specs.declared.matching.Neighbors.{Neighbors}
use Rattle.match_pruning.specs.declared.join.Join.{Join}
use Rattle.match_pruning.specs.declared.join.Join.TheVariants as join
use Rattle.match_pruning.specs.inner.Numbers.{numbers}
use Rattle.match_pruning.specs.inner.Picks.{MayPick, HasPerfectMatching, HasNumberAt, IsAmong}
use Rattle.match_pruning.specs.inner.Steps.{joined_tree}
use Rattle.match_pruning.proofs.RowNumbersLemmas.{contains_numbers, numbers_firsts}

-- ---- of a tree

contains_next : (n m : ℕ) (ns : List ℕ) → Contains (n ∷ ns) m → (n ≡ m) ⊎ Contains ns m
contains_next n m ns (zero, l, is) = inl is
contains_next n m ns (suc k, l, is) = inr (k, omega (arith, l), is)

contains_after_left : (n m : ℕ) (ns : List ℕ) → Contains ns m → Contains (n ∷ ns) m
contains_after_left n m ns c = (suc c.0, omega (arith, c.1), c.2)

all_differ : (n : ℕ) (ns : List ℕ) → ((m : ℕ) → Contains ns m → nat_eq n m ≡ false) → AllByRecursion (λ m. nat_eq n m ≡ false) ns
all_differ n [] h = tt
all_differ n (m ∷ ns) h = (h m (zero, omega arith, refl), all_differ n ns (λ k c. h k (contains_after_left m k ns c)))

other : (n m : ℕ) (x : BindTree) → has n x ≡ false → has m x ≡ true → nat_eq n m ≡ false
other n m x out there = by (nat_eq n m) refl where
  by : (b : Bool) → nat_eq n m ≡ b → nat_eq n m ≡ false
  by false is = is
  by true is = absurd (let same : n ≡ m = eqb-true n m is in let e : false ≡ true = sym out ∙ ap (λ k. has k x) same ∙ there in cc)

picks_had : (matching : List Neighbors) (x : BindTree) (picks : List ℕ) → AllZip (MayPick x) matching picks → (m : ℕ) → Contains picks m → has m x ≡ true
picks_had [] x [] e m c = absurd (omega (arith, c.1))
picks_had [] x (p ∷ ps) e m c = absurd e
picks_had (neighbors ∷ matching) x [] e m c = absurd e
picks_had (neighbors ∷ matching) x (p ∷ ps) e m c = elim (contains_next p m ps c) [
  | inl is ↦ subst (λ i. has i x ≡ true) is e.0.1
  | inr d ↦ picks_had matching x ps e.1 m d
]

still_picked : (matching : List Neighbors) (left x : BindTree) (picks : List ℕ) → AllZip (MayPick x) matching picks → AllZip (MayPick (Pair left x)) matching picks
still_picked [] left x [] e = tt
still_picked [] left x (p ∷ ps) e = absurd e
still_picked (neighbors ∷ matching) left x [] e = absurd e
still_picked (neighbors ∷ matching) left x (p ∷ ps) e = ((e.0.0, or_right (has p left) (has p x) e.0.1), still_picked matching left x ps e.1)

pub none_picked : (x : BindTree) → HasPerfectMatching [] x
unfolding IsDistinct
none_picked x = record { picks = []; differ = tt; each = tt }

-- ---- places of a list

at_place : (ns : List ℕ) (place n : ℕ) → slice_get ns place ≡ Some n → Contains ns n
at_place [] place n is = absurd (cc)
at_place (x ∷ ns) zero n is = (zero, omega arith, cc)
at_place (x ∷ ns) (suc place) n is = contains_after_left x n ns (at_place ns place n is)

at_place_taken : (ns : List ℕ) (place n : ℕ) → slice_get ns place ≡ Some n → Contains (take (place + 1) ns) n
at_place_taken ns place n is = (let e : suc place ≡ place + 1 = omega arith in subst (λ k. Contains (take k ns) n) e (by ns place n is)) where
  by : (ns : List ℕ) (place n : ℕ) → slice_get ns place ≡ Some n → Contains (take (suc place) ns) n
  by [] place n is = absurd (cc)
  by (x ∷ ns) zero n is = (zero, omega arith, cc)
  by (x ∷ ns) (suc place) n is = contains_after_left x n (take (suc place) ns) (by ns place n is)

take_longer : (place m : ℕ) (ns : List ℕ) → Contains (take place ns) m → Contains (take (place + 1) ns) m
take_longer place m ns c = (let e : suc place ≡ place + 1 = omega arith in subst (λ k. Contains (take k ns) m) e (by place ns c)) where
  by : (place : ℕ) (ns : List ℕ) → Contains (take place ns) m → Contains (take (suc place) ns) m
  by zero ns c = absurd (omega (arith, c.1))
  by (suc place) [] c = absurd (omega (arith, c.1))
  by (suc place) (x ∷ ns) c = elim (contains_next x m (take place ns) c) [
    | inl is ↦ (zero, omega arith, is)
    | inr d ↦ contains_after_left x m (take (suc place) ns) (by place ns d)
  ]

flip : (n m : ℕ) → nat_eq m n ≡ false → nat_eq n m ≡ false
flip n m h = by (nat_eq n m) refl where
  by : (b : Bool) → nat_eq n m ≡ b → nat_eq n m ≡ false
  by false is = is
  by true is = absurd (let same : n ≡ m = eqb-true n m is in let e : false ≡ true = sym h ∙ ap (λ k. nat_eq m k) same ∙ nat_eq_equiv.refl m in cc)

-- ---- of a thing, each of whose numbers stands once

once_number : (n : ℕ) → IsDistinct nat_eq (n ∷ [])
unfolding IsDistinct
once_number n = (tt, tt)

pub once_one : (n : ℕ) → IsDistinct nat_eq (numbers (tree_of (Only n)))
once_one n = subst (λ t. IsDistinct nat_eq (numbers t)) (sym (tree_one n)) (once_number n)

-- a tree under so many Firsts, or under a Second, has each number once where it has alone
pub once_firsts : (count : ℕ) (tree part : BindTree) → tree ≡ firsts count part → IsDistinct nat_eq (numbers part) → IsDistinct nat_eq (numbers tree)
once_firsts count tree part is once = subst (λ (z : List ℕ). IsDistinct nat_eq z) (sym (ap numbers is ∙ numbers_firsts count part)) once

pub once_second : (tree part : BindTree) → tree ≡ Second part → IsDistinct nat_eq (numbers part) → IsDistinct nat_eq (numbers tree)
once_second tree part is once = subst (λ (t : BindTree). IsDistinct nat_eq (numbers t)) (sym is) once

distinct_both : (ms ns : List ℕ) → IsDistinct nat_eq ms → IsDistinct nat_eq ns → ((n : ℕ) → Contains ms n → Contains ns n → ⊥) → IsDistinct nat_eq (ms ++ ns)
unfolding IsDistinct
distinct_both [] ns x y apart = y
distinct_both (m ∷ ms) ns x y apart = (
  all_differ m (ms ++ ns) (λ n c. elim (Contains-append_cases ms ns n c) [
    | inl a ↦ All-contains (λ k. nat_eq m k ≡ false) ms n (All-from_recursion (λ k. nat_eq m k ≡ false) ms x.0) a
    | inr b ↦ not_same n b (nat_eq m n) refl
  ]),
  distinct_both ms ns x.1 y (λ n a b. apart n (contains_after_left m n ms a) b),
) where
  not_same : (n : ℕ) → Contains ns n → (b : Bool) → nat_eq m n ≡ b → nat_eq m n ≡ false
  not_same n c false is = is
  not_same n c true is = absurd (apart n (zero, omega arith, eqb-true m n is) c)

once_both : (a b : BindTree) → IsDistinct nat_eq (numbers a) → IsDistinct nat_eq (numbers b) → disjoint a b ≡ true → IsDistinct nat_eq (numbers a ++ numbers b)
once_both a b x y h =
    distinct_both (numbers a) (numbers b) x y
    (λ n c d. let e : false ≡ true = sym (apart_to a b h n ((contains_numbers n a).0 c)) ∙ (contains_numbers n b).0 d in absurd (cc))

pub once_joined : (j : Join) (a b : BindTree) → IsDistinct nat_eq (numbers a) → IsDistinct nat_eq (numbers b) → disjoint a b ≡ true → IsDistinct nat_eq (numbers (joined_tree j a b))
once_joined join.Both a b x y h = once_both a b x y h
once_joined join.Then a b x y h = once_both a b x y h
once_joined join.Repeats (Single a) b x y h = once_both (Single a) b x y h
once_joined join.Repeats (More m a) b x y h = once_both (More m a) b x y h
once_joined join.Repeats (One n) b x y h = y
once_joined join.Repeats (Pair a c) b x y h = y
once_joined join.Repeats (First a) b x y h = y
once_joined join.Repeats (Second a) b x y h = y
once_joined join.Repeats Empty b x y h = y

-- the number at a place stands at none before it
before_differs : (ns : List ℕ) (place n m : ℕ) → IsDistinct nat_eq ns → slice_get ns place ≡ Some n → Contains (take place ns) m → nat_eq n m ≡ false
unfolding IsDistinct
before_differs [] place n m d is c = absurd (cc)
before_differs (x ∷ ns) zero n m d is c = absurd (omega (arith, c.1))
before_differs (x ∷ ns) (suc place) n m d is c = elim (contains_next x m (take place ns) c) [
  | inl here ↦ flip n m (subst (λ k. nat_eq k n ≡ false) here (All-contains (λ k. nat_eq x k ≡ false) ns n (All-from_recursion (λ k. nat_eq x k ≡ false) ns d.0) (at_place ns place n is)))
  | inr more ↦ before_differs ns place n m d.1 is more
]

-- ---- picks of what joins a tree: the tree's, and numbers at some first places of the other

pub record HasPicksTo (place : ℕ) (matching : List Neighbors) (left x : BindTree) : Type 0 where
  pub picks : List ℕ
  pub differ : IsDistinct nat_eq picks
  pub each : AllZip (MayPick (Pair left x)) matching picks
  pub from : (m : ℕ) → Contains picks m → (has m x ≡ true) ⊎ Contains (take place (numbers left)) m

pub picks_start : (matching : List Neighbors) (left x : BindTree) → HasPerfectMatching matching x → HasPicksTo 0 matching left x
picks_start matching left x h = record {
  picks = h.picks;
  differ = h.differ;
  each = still_picked matching left x h.picks h.each;
  from = λ m c. inl (picks_had matching x h.picks h.each m c);
}

pub picks_end : (place : ℕ) (matching : List Neighbors) (left x : BindTree) → HasPicksTo place matching left x → HasPerfectMatching matching (Pair left x)
picks_end place matching left x h = record { picks = h.picks; differ = h.differ; each = h.each }

-- one more place, of which no choice is noted
pub picks_pass : (place : ℕ) (matching : List Neighbors) (left x : BindTree) → HasPicksTo place matching left x → HasPicksTo (place + 1) matching left x
picks_pass place matching left x h = record {
  picks = h.picks;
  differ = h.differ;
  each = h.each;
  from = λ m c. elim (h.from m c) [ inl had ↦ inl had | inr taken ↦ inr (take_longer place m (numbers left) taken) ];
}

-- or one is
pub picks_more : (place : ℕ) (matching : List Neighbors) (neighbors : Neighbors) (left x : BindTree) → HasPicksTo place matching left x → disjoint left x ≡ true →
    IsDistinct nat_eq (numbers left) → HasNumberAt neighbors.numbers.items place left → HasPicksTo (place + 1) (neighbors ∷ matching) left x
unfolding IsDistinct
picks_more place matching neighbors left x h apart once at = record {
  picks = at.number ∷ h.picks;
  differ = (
    all_differ at.number h.picks (λ m c. elim (h.from m c) [
      | inl had ↦ other at.number m x (apart_to left x apart at.number here) had
      | inr taken ↦ before_differs (numbers left) place at.number m once at.there taken
    ]),
    h.differ,
  );
  each = ((at.among, or_left (has at.number left) (has at.number x) here), h.each);
  from = λ m c. elim (contains_next at.number m h.picks c) [
    | inl is ↦ inr (subst (Contains (take (place + 1) (numbers left))) is (at_place_taken (numbers left) place at.number at.there))
    | inr d ↦ elim (h.from m d) [ inl had ↦ inl had | inr taken ↦ inr (take_longer place m (numbers left) taken) ]
  ];
} where
  here : has at.number left ≡ true
  here = (contains_numbers at.number left).0 (at_place (numbers left) place at.number at.there)

-- ---- among some numbers

pub none_among : (numbers picks : List ℕ) → IsAmong 0 numbers picks
unfolding IsDistinct
none_among numbers picks = record { some = []; differ = tt; counted = refl; each = λ n c. absurd (omega (arith, c.1)) }

pub among_after_left : (count : ℕ) (numbers : List ℕ) (n : ℕ) (picks : List ℕ) → IsAmong count numbers picks → IsAmong count numbers (n ∷ picks)
among_after_left count numbers n picks h = record {
  some = h.some;
  differ = h.differ;
  counted = h.counted;
  each = λ m c. (contains_after_left n m picks (h.each m c).0, (h.each m c).1);
}

pub among_more : (count : ℕ) (old new : List ℕ) (n : ℕ) (picks : List ℕ) → IsDistinct nat_eq (n ∷ picks) → IsAmong count old picks → Contains new n →
    ((m : ℕ) → Contains old m → Contains new m) → IsAmong (count + 1) new (n ∷ picks)
unfolding IsDistinct
among_more count old new n picks differ h there kept = record {
  some = n ∷ h.some;
  differ = (all_differ n h.some (λ m c. All-contains (λ k. nat_eq n k ≡ false) picks m (All-from_recursion (λ k. nat_eq n k ≡ false) picks differ.0) (h.each m c).0), h.differ);
  counted = omega (arith, h.counted);
  each = λ m c. elim (contains_next n m h.some c) [
    | inl is ↦ (subst (Contains (n ∷ picks)) is (zero, omega arith, refl), subst (Contains new) is there)
    | inr d ↦ (contains_after_left n m picks (h.each m d).0, kept m (h.each m d).1)
  ];
}

pub rest_distinct : (n : ℕ) (picks : List ℕ) → IsDistinct nat_eq (n ∷ picks) → IsDistinct nat_eq picks
unfolding IsDistinct
rest_distinct n picks h = h.1

-- there are no more different ones of some numbers than these
pub at_most : (count : ℕ) (numbers sort_dedup picks : List ℕ) → IsAmong count numbers picks → ((n : ℕ) → Contains numbers n → Contains sort_dedup n) → count ≤ length sort_dedup
at_most count numbers sort_dedup picks h kept =
    let le : length h.some ≤ length sort_dedup
    = length-le_from_is_member nat_eq_equiv h.some sort_dedup h.differ
    (λ n m. list_any-from_Contains nat_eq_equiv n sort_dedup (kept n (h.each n (Contains-from_any (λ a b e. eqb-true a b e) n h.some m)).1)) in
    omega (arith, le, h.counted)

-- picks of the first choice and of the others: those of the others are among some numbers, or the first, too
pub among_others : (x : BindTree) (all others : List Neighbors) (neighbors : Neighbors) (picks : List ℕ) (count : ℕ) (numbers : List ℕ) → all ≡ neighbors ∷ others →
    IsDistinct nat_eq picks → AllZip (MayPick x) all picks →
    ((ps : List ℕ) → IsDistinct nat_eq ps → AllZip (MayPick x) others ps → IsAmong count numbers ps) → IsAmong count numbers picks
among_others x all others neighbors picks count numbers is differ each rest = by picks differ (subst (λ (z : List Neighbors). AllZip (MayPick x) z picks) is each) where
  by : (ps : List ℕ) → IsDistinct nat_eq ps → AllZip (MayPick x) (neighbors ∷ others) ps → IsAmong count numbers ps
  by [] d e = absurd e
  by (p ∷ ps) d e = among_after_left count numbers p ps (rest ps (rest_distinct p ps d) e.1)

pub among_all : (x : BindTree) (all others : List Neighbors) (neighbors : Neighbors) (picks : List ℕ) (count : ℕ) (old new : List ℕ) → all ≡ neighbors ∷ others →
    IsDistinct nat_eq picks → AllZip (MayPick x) all picks →
    ((ps : List ℕ) → IsDistinct nat_eq ps → AllZip (MayPick x) others ps → IsAmong count old ps) →
    ((n : ℕ) → Contains old n → Contains new n) → ((n : ℕ) → Contains neighbors.numbers.items n → Contains new n) → IsAmong (count + 1) new picks
among_all x all others neighbors picks count old new is differ each rest kept added = by picks differ (subst (λ (z : List Neighbors). AllZip (MayPick x) z picks) is each) where
  by : (ps : List ℕ) → IsDistinct nat_eq ps → AllZip (MayPick x) (neighbors ∷ others) ps → IsAmong (count + 1) new ps
  by [] d e = absurd e
  by (p ∷ ps) d e = among_more count old new p ps d (rest ps (rest_distinct p ps d) e.1) (added p e.0.0) kept
