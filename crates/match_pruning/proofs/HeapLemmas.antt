-- How a thing ascends and sinks in a heap, by what its times are before and after each exchange.
use Rattle.std.proofs.Common.{◌≡◌, ℕ, zero, suc, ◌+◌, ◌-◌, ◌*◌, ◌/◌, ◌≤◌, ◌<◌, ℤ, ◌≤ℤ◌, ◌<ℤ◌, List, [], ◌∷◌, length, get_or, refl, sym, ◌∙◌, ap, subst, arith, inl, inr}
use Rattle.std.specs.Prelude.{Bool, true, false, cond, Option, Some, slice_get, ◌⊎◌}
use Rattle.std.proofs.lemmas.Bool.{cases_order}
use Rattle.std.proofs.lemmas.Int.{ints}
use Rattle.std.specs.List.{swap, swap_remove, sum_by}
use Rattle.std.specs.List.Sorted.{IsPermutation}
use Rattle.std.proofs.lemmas.List.{get_or_default}
use Rattle.std.proofs.lemmas.List.Sums.{sum_by-cons, sum_by-swap_remove}
use Rattle.std.proofs.lemmas.List.Edits.{Swapped, swapped_from_swap}
use Rattle.std.proofs.lemmas.List.Sorted.{IsPermutation-map, sum_by-IsPermutation}
use Rattle.match_pruning.specs.declared.partial_match.PartialMatch.{PartialMatch}
use Rattle.match_pruning.specs.PartialMatchTree.{PartialMatchTree}
use Rattle.match_pruning.specs.inner.PartialMatches.{partial_match_tree, partial_match_trees}
use Rattle.match_pruning.specs.declared.window.Window.{Window}
use Rattle.match_pruning.specs.inner.Retains.{retains}
use Rattle.match_pruning.specs.inner.Steps.{kept}
use Rattle.match_pruning.specs.inner.UpToOrder.{AreSameMultiset}
use Rattle.match_pruning.specs.inner.Heaps.{IsChild, AreHeaped, AreHeapedBelow, time_at}
use Rattle.match_pruning.proofs.RetainsLemmas.{le_trans, le_self}

is_or : (a b : ℕ) → (a ≡ b) ⊎ (a ≡ b → ⊥)
is_or a b = elim (cases_order a b) [
  | inl e ↦ inl e
  | inr k ↦ elim k [ inl l ↦ inr (λ e. omega (arith, l, e)) | inr l ↦ inr (λ e. omega (arith, l, e)) ]
]

le_by : (a b c d : ℤ) → a ≡ c → b ≡ d → c ≤ℤ d → a ≤ℤ b
le_by a b c d e f h = subst (λ (z : ℤ). z ≤ℤ b) (sym e) (subst (λ (z : ℤ). c ≤ℤ z) (sym f) h)

pub lt_le : (a b : ℤ) → a <ℤ b → a ≤ℤ b
lt_le a b h = omega (arith, ints)

lt_le_trans : (a b c : ℤ) → a <ℤ b → b ≤ℤ c → a <ℤ c
lt_le_trans a b c h k = omega (arith, ints)

pub parent_of : (at : ℕ) → 0 < at → IsChild ((at - 1) / 4) at
parent_of at some = (omega arith, omega arith)

-- ---- ascending

-- a heap but for the thing at a place, which may be earlier than its parent
abbrev pub Ascends : (ℕ → ℤ) → ℕ → ℕ → Type 0
Ascends f n at =
    ((p i : ℕ) → IsChild p i → i < n → (i ≡ at → ⊥) → f p ≤ℤ f i)
    × ((p i : ℕ) → IsChild p at → IsChild at i → i < n → f p ≤ℤ f i)

pub ascend_begins : (f : ℕ → ℤ) (at : ℕ) → AreHeaped f at → Ascends f (at + 1) at
ascend_begins f at h = (
  λ p i c k other. h p i c (let differs : i ≡ at → ⊥ = other in by i differs k),
  λ p i c d k. absurd (let low = d.0 in omega (arith, low, k)),
) where
  by : (i : ℕ) → (i ≡ at → ⊥) → i < at + 1 → i < at
  by i other k = elim (cases_order i at) [ inl e ↦ absurd (other e) | inr l ↦ elim l [ inl m ↦ m | inr m ↦ absurd (omega (arith, m, k)) ] ]

pub ascend_on : (f g : ℕ → ℤ) (n at p : ℕ) → IsChild p at → at < n → Swapped f g p at → f at <ℤ f p → Ascends f n at → Ascends g n p
ascend_on f g n at p child inside sw lt r = (one, two) where
  same_parent : (q i : ℕ) → IsChild q i → i ≡ at → q ≡ p
  same_parent q i c e = let low = c.0 in let high = c.1 in let low' = child.0 in let high' = child.1 in omega (arith, low, high, low', high', e)

  one : (q i : ℕ) → IsChild q i → i < n → (i ≡ p → ⊥) → g q ≤ℤ g i
  one q i c k other = elim (is_or i at) [
    | inl e ↦ le_by (g q) (g i) (f at) (f p) (ap g (same_parent q i c e) ∙ sw.0) (ap g e ∙ sw.1) (lt_le (f at) (f p) lt)
    | inr ne ↦ elim (is_or q at) [
      | inl e ↦ le_by (g q) (g i) (f p) (f i) (ap g e ∙ sw.1) (sw.2 i other ne) (r.1 p i child (subst (λ (m : ℕ). IsChild m i) e c) k)
      | inr na ↦ elim (is_or q p) [
        | inl e ↦ le_by (g q) (g i) (f at) (f i) (ap g e ∙ sw.0) (sw.2 i other ne)
            (le_trans (f at) (f p) (f i) (lt_le (f at) (f p) lt) (r.0 p i (subst (λ (m : ℕ). IsChild m i) e c) k ne))
        | inr np ↦ le_by (g q) (g i) (f q) (f i) (sw.2 q np na) (sw.2 i other ne) (r.0 q i c k ne)
      ]
    ]
  ]

  two : (q i : ℕ) → IsChild q p → IsChild p i → i < n → g q ≤ℤ g i
  two q i above below k =
      let low = above.0 in let low' = child.0 in let low'' = below.0 in
      let not_p : q ≡ p → ⊥ = λ e. omega (arith, low, e) in
      let not_at : q ≡ at → ⊥ = λ e. omega (arith, low, low', e) in
      let p_not_at : p ≡ at → ⊥ = λ e. omega (arith, low', e) in
      let i_not_p : i ≡ p → ⊥ = λ e. omega (arith, low'', e) in
      let p_inside : p < n = omega (arith, low', inside) in
      elim (is_or i at) [
        | inl e ↦ le_by (g q) (g i) (f q) (f p) (sw.2 q not_p not_at) (ap g e ∙ sw.1) (r.0 q p above p_inside p_not_at)
        | inr ne ↦ le_by (g q) (g i) (f q) (f i) (sw.2 q not_p not_at) (sw.2 i i_not_p ne)
            (le_trans (f q) (f p) (f i) (r.0 q p above p_inside p_not_at) (r.0 p i below k ne))
      ]

pub ascend_tops : (f : ℕ → ℤ) (n at : ℕ) → at ≡ 0 → Ascends f n at → AreHeaped f n
ascend_tops f n at top r = λ p i c k. r.0 p i c k (λ e. let low = c.0 in omega (arith, low, e, top))

pub ascend_rests : (f : ℕ → ℤ) (n at p : ℕ) → IsChild p at → f p ≤ℤ f at → Ascends f n at → AreHeaped f n
ascend_rests f n at p child h r = λ q i c k. elim (is_or i at) [
  | inl e ↦ (
      let low = c.0 in let high = c.1 in let low' = child.0 in let high' = child.1 in
      let same : q ≡ p = omega (arith, low, high, low', high', e) in
      le_by (f q) (f i) (f p) (f at) (ap f same) (ap f e) h
      )
  | inr ne ↦ r.0 q i c k ne
]

-- ---- sinking

-- a heap but for the thing at a place, which may be later than its children
abbrev pub Sinks : (ℕ → ℤ) → ℕ → ℕ → Type 0
Sinks f n at =
    ((p i : ℕ) → IsChild p i → i < n → (p ≡ at → ⊥) → f p ≤ℤ f i)
    × ((p i : ℕ) → IsChild p at → IsChild at i → i < n → f p ≤ℤ f i)

pub sink_begins : (f : ℕ → ℤ) (n at : ℕ) → at ≡ 0 → AreHeapedBelow f n → Sinks f n at
sink_begins f n at top h = (
  λ p i c k other. h p i c k (elim (cases_order p 0) [ inl e ↦ absurd (other (e ∙ sym top)) | inr l ↦ elim l [ inl m ↦ absurd (omega (arith, m)) | inr m ↦ m ] ]),
  λ p i c d k. absurd (let low = c.0 in omega (arith, low, top)),
)

pub sink_on : (f g : ℕ → ℤ) (n at m : ℕ) → IsChild at m → m < n → Swapped f g at m → f m <ℤ f at → ((i : ℕ) → IsChild at i → i < n → f m ≤ℤ f i) → Sinks f n at → Sinks g n m
sink_on f g n at m child inside sw lt least s = (one, two) where
  one : (q i : ℕ) → IsChild q i → i < n → (q ≡ m → ⊥) → g q ≤ℤ g i
  one q i c k other = elim (is_or q at) [
    | inl e ↦ elim (is_or i m) [
      | inl e' ↦ le_by (g q) (g i) (f m) (f at) (ap g e ∙ sw.0) (ap g e' ∙ sw.1) (lt_le (f m) (f at) lt)
      | inr ne ↦ (
          let low = c.0 in
          let not_at : i ≡ at → ⊥ = λ e'. omega (arith, low, e, e') in
          le_by (g q) (g i) (f m) (f i) (ap g e ∙ sw.0) (sw.2 i not_at ne) (least i (subst (λ (z : ℕ). IsChild z i) e c) k)
          )
    ]
    | inr na ↦ elim (is_or i at) [
      | inl e' ↦ le_by (g q) (g i) (f q) (f m) (sw.2 q na other) (ap g e' ∙ sw.0) (s.1 q m (subst (λ (z : ℕ). IsChild q z) e' c) child inside)
      | inr ni ↦ (
          let low = c.0 in let high = c.1 in let low' = child.0 in let high' = child.1 in
          let not_m : i ≡ m → ⊥ = λ e'. na (omega (arith, low, high, low', high', e')) in
          le_by (g q) (g i) (f q) (f i) (sw.2 q na other) (sw.2 i ni not_m) (s.0 q i c k na)
          )
    ]
  ]

  two : (q i : ℕ) → IsChild q m → IsChild m i → i < n → g q ≤ℤ g i
  two q i above below k =
      let low = above.0 in let high = above.1 in let low' = child.0 in let high' = child.1 in let low'' = below.0 in
      let same : q ≡ at = omega (arith, low, high, low', high') in
      let i_not_at : i ≡ at → ⊥ = λ e. omega (arith, low', low'', e) in
      let i_not_m : i ≡ m → ⊥ = λ e. omega (arith, low'', e) in
      let m_not_at : m ≡ at → ⊥ = λ e. omega (arith, low', e) in
      le_by (g q) (g i) (f m) (f i) (ap g same ∙ sw.0) (sw.2 i i_not_at i_not_m) (s.0 m i below k m_not_at)

pub sink_rests : (f : ℕ → ℤ) (n at m : ℕ) → f at ≤ℤ f m → ((i : ℕ) → IsChild at i → i < n → f m ≤ℤ f i) → Sinks f n at → AreHeaped f n
sink_rests f n at m h least s = λ q i c k. elim (is_or q at) [
  | inl e ↦ le_by (f q) (f i) (f at) (f i) (ap f e) refl (le_trans (f at) (f m) (f i) h (least i (subst (λ (z : ℕ). IsChild z i) e c) k))
  | inr ne ↦ s.0 q i c k ne
]

pub sink_ends : (f : ℕ → ℤ) (n at : ℕ) → n ≤ 4 * at + 1 → Sinks f n at → AreHeaped f n
sink_ends f n at h s = λ q i c k. s.0 q i c k (λ e. let low = c.0 in omega (arith, low, e, h, k))

-- ---- the first is the earliest

has_parent : (i : ℕ) → 0 < i → (p : ℕ) × IsChild p i
has_parent zero h = absurd (omega arith)
has_parent (suc zero) h = (0, (omega arith, omega arith))
has_parent (suc (suc zero)) h = (0, (omega arith, omega arith))
has_parent (suc (suc (suc zero))) h = (0, (omega arith, omega arith))
has_parent (suc (suc (suc (suc zero)))) h = (0, (omega arith, omega arith))
has_parent (suc (suc (suc (suc (suc i))))) h =
    let r = has_parent (suc i) (omega arith) in let low = r.1.0 in let high = r.1.1 in
    (suc r.0, (omega (arith, low), omega (arith, high)))

first_up_to : (f : ℕ → ℤ) (n : ℕ) → AreHeaped f n → (k i : ℕ) → i ≤ k → i < n → f 0 ≤ℤ f i
first_up_to f n h zero i below inside = let e : i ≡ 0 = omega (arith, below) in le_by (f 0) (f i) (f 0) (f 0) refl (ap f e) (le_self (f 0))
first_up_to f n h (suc k) i below inside = elim (is_or i 0) [
  | inl e ↦ le_by (f 0) (f i) (f 0) (f 0) refl (ap f e) (le_self (f 0))
  | inr ne ↦ (
      let some : 0 < i = elim (cases_order i 0) [ inl e ↦ absurd (ne e) | inr l ↦ elim l [ inl m ↦ absurd (omega (arith, m)) | inr m ↦ m ] ] in
      let parent = has_parent i some in let low = parent.1.0 in
      le_trans (f 0) (f parent.0) (f i) (first_up_to f n h k parent.0 (omega (arith, low, below)) (omega (arith, low, inside))) (h parent.0 i parent.1 inside)
      )
]

pub first_is_earliest : (f : ℕ → ℤ) (n i : ℕ) → AreHeaped f n → i < n → f 0 ≤ℤ f i
first_is_earliest f n i h inside = first_up_to f n h i i (omega arith) inside

-- ---- lists of things

pub times_swapped : (xs ys : List PartialMatch) (a b : ℕ) (d : PartialMatch) → a < length xs → b < length xs → ys ≡ swap xs a b → Swapped (time_at xs d) (time_at ys d) a b
times_swapped xs ys a b d ha hb e =
    let s = swapped_from_swap xs ys a b d ha hb e in
    (ap (λ (x : PartialMatch). x.earliest) s.0, ap (λ (x : PartialMatch). x.earliest) s.1, λ m na nb. ap (λ (x : PartialMatch). x.earliest) (s.2 m na nb))

-- a list in another order has the same things
pub same_swapped : (xs ys : List PartialMatch) → IsPermutation xs ys → AreSameMultiset (partial_match_trees xs) (partial_match_trees ys)
same_swapped xs ys p weight = sum_by-IsPermutation weight (partial_match_trees xs) (partial_match_trees ys) (IsPermutation-map partial_match_tree xs ys p)

-- a thing less
sum_of : (weight : PartialMatchTree → ℕ) (xs : List PartialMatch) → sum_by weight (partial_match_trees xs) ≡ sum_by (λ x. weight (partial_match_tree x)) xs
sum_of weight [] = refl
sum_of weight (x ∷ xs) =
    sum_by-cons weight (partial_match_tree x) (partial_match_trees xs) ∙ ap (λ n. weight (partial_match_tree x) + n) (sum_of weight xs) ∙ sym (sum_by-cons (λ x. weight (partial_match_tree x)) x xs)

pub same_removed : (weight : PartialMatchTree → ℕ) (old removed : List PartialMatch) (x d : PartialMatch) → 0 < length old → removed ≡ swap_remove old 0 x →
    weight (partial_match_tree (get_or old 0 d)) + sum_by weight (partial_match_trees removed) ≡ sum_by weight (partial_match_trees old)
same_removed weight old removed x d some e =
    let f = λ (x : PartialMatch). weight (partial_match_tree x) in
    let first : weight (partial_match_tree (get_or old 0 d)) ≡ f (get_or old 0 x) = ap f (get_or_default old 0 d x some) in
    let less : sum_by weight (partial_match_trees removed) ≡ sum_by f (swap_remove old 0 x) = ap (λ y. sum_by weight (partial_match_trees y)) e ∙ sum_of weight (swap_remove old 0 x) in
    let all : sum_by f (swap_remove old 0 x) + f (get_or old 0 x) ≡ sum_by f old = sum_by-swap_remove f old 0 x some in
    let whole : sum_by weight (partial_match_trees old) ≡ sum_by f old = sum_of weight old in
    omega (arith, first, less, all, whole)

-- ---- what retains of the same things is the same

zero_more : (n : ℕ) → n ≡ 0 + n
zero_more n = omega arith

sum_kept : (weight : PartialMatchTree → ℕ) (w : Window) (t : ℤ) (held : List PartialMatchTree) → sum_by weight (kept w t held) ≡ sum_by (λ h. cond (retains w h.earliest t) (weight h) 0) held
sum_kept weight w t [] = refl
sum_kept weight w t (h ∷ held) = by (retains w h.earliest t) refl (sum_kept weight w t held) ∙ sym (sum_by-cons (λ h. cond (retains w h.earliest t) (weight h) 0) h held) where
  by : (b : Bool) → retains w h.earliest t ≡ b → sum_by weight (kept w t held) ≡ sum_by (λ h. cond (retains w h.earliest t) (weight h) 0) held →
      sum_by weight (kept w t (h ∷ held)) ≡ cond (retains w h.earliest t) (weight h) 0 + sum_by (λ h. cond (retains w h.earliest t) (weight h) 0) held
  by true e ih = rw e (sum_by-cons weight h (kept w t held) ∙ ap (λ n. weight h + n) ih)
  by false e ih = rw e (ih ∙ zero_more (sum_by (λ h. cond (retains w h.earliest t) (weight h) 0) held))

pub same_kept : (w : Window) (t : ℤ) (held other : List PartialMatchTree) → AreSameMultiset held other → AreSameMultiset (kept w t held) (kept w t other)
same_kept w t held other e weight = sum_kept weight w t other ∙ e (λ h. cond (retains w h.earliest t) (weight h) 0) ∙ sym (sum_kept weight w t held)

-- a thing that doesn't retained is no part of it
pub same_without : (w : Window) (t : ℤ) (h : PartialMatchTree) (held other : List PartialMatchTree) → retains w h.earliest t ≡ false → AreSameMultiset held (h ∷ other) → AreSameMultiset (kept w t held) (kept w t other)
same_without w t h held other gone e weight =
    ap (sum_by weight) (only gone) ∙ same_kept w t held (h ∷ other) e weight where
      only : retains w h.earliest t ≡ false → kept w t other ≡ kept w t (h ∷ other)
      only k = rw k refl

-- the first thing, where there is one
pub first_of : (held : List PartialMatch) (x d : PartialMatch) → ◌≡◌ {A = Option PartialMatch} (Some x) (slice_get held 0) → x ≡ get_or held 0 d
first_of [] x d e = absurd (cc)
first_of (y ∷ held) x d e = cc

-- ---- what begins later

-- where the parents begin after a time, so do their children
pub later_children : (f : ℕ → ℤ) (n place from : ℕ) (t : ℤ) → AreHeaped f n → 0 < place → place < n →
    ((i : ℕ) → from ≤ i → i < (place - 1) / 4 + 1 → t <ℤ f i) → (i : ℕ) → 4 * from + 1 ≤ i → i < place + 1 → t <ℤ f i
later_children f n place from t heap some inside parents i low high =
    let above : IsChild ((i - 1) / 4) i = parent_of i (omega (arith, low)) in
    let first : from ≤ (i - 1) / 4 = omega (arith, low) in
    let last : (i - 1) / 4 < (place - 1) / 4 + 1 = omega (arith, low, high) in
    lt_le_trans t (f ((i - 1) / 4)) (f i) (parents ((i - 1) / 4) first last) (heap ((i - 1) / 4) i above (omega (arith, high, inside)))

pub later_children_to : (f : ℕ → ℤ) (n place end : ℕ) (t : ℤ) → AreHeaped f n → 0 < place →
    ((i : ℕ) → (place - 1) / 4 ≤ i → i < end → t <ℤ f i) → (i : ℕ) → place ≤ i → i < 4 * end + 1 → i < n → t <ℤ f i
later_children_to f n place end t heap some parents i low high inside =
    let above : IsChild ((i - 1) / 4) i = parent_of i (omega (arith, some, low)) in
    let first : (place - 1) / 4 ≤ (i - 1) / 4 = omega (arith, low) in
    let last : (i - 1) / 4 < end = omega (arith, some, low, high) in
    lt_le_trans t (f ((i - 1) / 4)) (f i) (parents ((i - 1) / 4) first last) (heap ((i - 1) / 4) i above inside)
