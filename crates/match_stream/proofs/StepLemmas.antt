-- One row: what ends at it and what is kept after it, by induction over the pattern.
use Rattle.std.proofs.Common.{◌≡◌, ℕ, zero, suc, ◌+◌, ◌≤◌, ◌<◌, ℤ, ◌≤ℤ◌, List, [], ◌∷◌, ◌++◌, refl, sym, ◌∙◌, ap, subst, arith}
use Rattle.std.specs.Prelude.{Bool, true, false, ◌&&◌, ◌||◌, not, map, cond, nat_eq, nat_lt, int_le, int_lt}
use Rattle.std.proofs.lemmas.Bool.{and_parts, lt-ltb, le-ltb, eqb-true, eqb-false, eq-eqb, ne_eqb}
use Rattle.std.proofs.lemmas.Int.{ints}
use Rattle.match_bindings.specs.declared.bounds.Bounds.{Bounds}
use Rattle.match_bindings.specs.Bounds.{within, between}
use Rattle.match_bindings.specs.NumberedPattern.{NumberedPattern, Leaf, Both, Then, Either, Within, Between, Repeats}
use Rattle.match_bindings.specs.BindTree.{BindTree, One, Pair, First, Second, Empty, Single, More, has, disjoint, greatest}
use Rattle.match_bindings.specs.Log.{Observed}
use Rattle.match_bindings.specs.Span.{earliest, latest, later_by}
use Rattle.match_bindings.specs.Test.{are_repeats, is_binding}
use Rattle.match_bindings.specs.Once.{bit, is_same_tree, count, Exactly}
use Rattle.match_bindings.proofs.IsBindingLemmas.{le_true}
use Rattle.match_bindings.proofs.CandidatesLemmas.{pair_joins, more_joins}
use Rattle.match_pruning.specs.declared.window.Window.{Window}
use Rattle.match_pruning.specs.Stores.{window_of}
use Rattle.match_pruning.specs.declared.join.Join.{Join}
use Rattle.match_pruning.specs.declared.join.Join.TheVariants as join
use Rattle.match_pruning.specs.declared.row.Row.{Row}
use Rattle.match_pruning.specs.PartialMatchTree.{PartialMatchTree, partial_match_of}
use Rattle.match_pruning.specs.inner.Retains.{alive, retains}
use Rattle.match_pruning.specs.inner.Steps.{held_with, joined_tree, may_join, match_joins, kept, SideStores, State, a_leaf, a_join, a_choice, a_limit, a_chain, truth_at, new_at_leaf, joins_new, sides_after, levels_new, levels_after, repeated_sets, step_new, step_state}
use Rattle.match_bindings.proofs.ListLemmas.{map_append}
use Rattle.match_bindings.proofs.PairsLemmas.{pairs}
use Rattle.match_bindings.proofs.OnceLemmas.{same_self, count_append, count_others, count_under, count_not_under}
use Rattle.match_stream.proofs.AliveLemmas.{alive_min, alive_within, alive_between, after_left_alive, after_left_ahead}
use Rattle.match_pruning.proofs.NumberLemmas.{latest_new, latest_binding, has_greatest, greatest_binding, old_set, apart}
use Rattle.match_stream.proofs.JoinLemmas.{join_law, level_law}
use Rattle.match_stream.proofs.StoreLemmas.{AreHeld, held_same, joins_are, both_joins_are, under_are, bit_positive, sets_made, kept_law, added_law, stored_law}
use Rattle.match_pruning.proofs.RetainsLemmas.{le_both}

-- ---- what stands before and after a row

-- the bindings of a pattern that count, and for a level those of its sets that do
pub record Counted : Type 0 where
  pub binding : NumberedPattern → BindTree → Bool
  pub level : NumberedPattern → ℕ → BindTree → Bool

-- all bindings
abbrev pub all_of : Observed → Counted
all_of o = record { binding = is_binding o; level = λ p j x. are_repeats (is_binding o p) j x }

-- those without the number n
abbrev pub without : ℕ → Observed → Counted
without n o = record {
  binding = λ p x. is_binding o p x && not (has n x);
  level = λ p j x. are_repeats (is_binding o p) j x && not (has n x);
}

-- the stores of two sides partial_match_of what counts and retains at s
pub record SidesStand (o : Observed) (f g : BindTree → Bool) (s : ℤ) (w : Bounds) (v : Window) (sides : SideStores) : Type 0 where
  pub left_window : sides.left_window ≡ window_of w false
  pub right_window : sides.right_window ≡ v
  pub left : AreHeld o (λ x. f x && alive w (earliest o.first x) s) sides.left
  pub right : AreHeld o (λ x. g x && retains v (earliest o.first x) s) sides.right

-- the stores of the levels from j on, up to the one before n
abbrev pub LevelsStand : Observed → (ℕ → BindTree → Bool) → ℤ → Bounds → ℕ → ℕ → List (List PartialMatchTree) → Type 0
LevelsStand o f s w n j [] = n ≡ j
LevelsStand o f s w n j (held ∷ levels) = AreHeld o (λ x. f j x && alive w (earliest o.first x) s) held × LevelsStand o f s w n (suc j) levels

-- none of no repeats
abbrev pub AllLevelsStand : Observed → (ℕ → BindTree → Bool) → ℤ → Bounds → ℕ → List (List PartialMatchTree) → Type 0
AllLevelsStand o f s w zero levels = levels ≡ []
AllLevelsStand o f s w (suc n) levels = LevelsStand o f s w (suc n) 1 levels

-- the stores partial_match_of what counts and retains at s
abbrev pub Stands : Observed → Counted → ℤ → Bounds → NumberedPattern → State → Type 0
Stands o b s w (Leaf k) (a_leaf leaf window) = (leaf ≡ k) × (window ≡ window_of w false)
Stands o b s w (Both p q) (a_join join.Both l r sides) = Stands o b s w p l × Stands o b s w q r × SidesStand o (b.binding p) (b.binding q) s w (window_of w false) sides
Stands o b s w (Then p q) (a_join join.Then l r sides) = Stands o b s w p l × Stands o b s w q r × SidesStand o (b.binding p) (b.binding q) s w (window_of w true) sides
Stands o b s w (Either p q) (a_choice l r) = Stands o b s w p l × Stands o b s w q r
Stands o b s w (Within p x) (a_limit part) = Stands o b s (within w x) p part
Stands o b s w (Between p x y) (a_limit part) = Stands o b s (between w x y) p part
Stands o b s w (Repeats p n) (a_chain part count window levels) =
    Stands o b s w p part × (count ≡ n) × (window ≡ window_of w false) × AllLevelsStand o (b.level p) s w n levels
Stands o b s w _ _ = ⊥

-- what ends at row n, at time t, and hasn't expired by the qualifiers above
abbrev pub ends : Observed → ℕ → ℤ → Bounds → NumberedPattern → BindTree → Bool
ends o n t w p x = (is_binding o p x && alive w (earliest o.first x) t) && has n x

-- a row after a time s
pub record Given (o : Observed) (row : Row) (truths : List Bool) (s : ℤ) : Type 0 where
  pub first : o.first row.number ≡ row.first
  pub last : o.last row.number ≡ row.last
  pub past : (k i : ℕ) → o.holds k i ≡ true → o.last i ≤ℤ row.last
  pub counted : (k i : ℕ) → o.holds k i ≡ true → i ≤ row.number
  pub earlier : s ≤ℤ row.last
  pub holds : (k : ℕ) → o.holds k row.number ≡ truth_at truths k

-- ---- leaves

leaf_count : (n i : ℕ) (b q e : Bool) → nat_eq n i ≡ e → (n ≡ i → q ≡ b) → count (One i) (cond b (One n ∷ []) []) ≡ bit (q && nat_eq n i)
leaf_count n i true q true h k =
    let is_same_tree : n ≡ i = eqb-true n i h in
    let back : nat_eq i n ≡ true = eq-eqb i n (sym is_same_tree) in
    let e : q ≡ true = k is_same_tree in
    rw (back, h, e) refl
leaf_count n i false q true h k =
    let is_same_tree : n ≡ i = eqb-true n i h in
    let e : q ≡ false = k is_same_tree in
    rw (h, e) refl
leaf_count n i true q false h k =
    let back : nat_eq i n ≡ false = ne_eqb i n (λ z. eqb-false n i h (sym z)) in
    rw (back, h) (none q) where
      none : (q : Bool) → 0 ≡ bit (q && false)
      none true = refl
      none false = refl
leaf_count n i false q false h k = rw h (none q) where
  none : (q : Bool) → 0 ≡ bit (q && false)
  none true = refl
  none false = refl

leaf_other : (n : ℕ) (b : Bool) (x : BindTree) → is_same_tree x (One n) ≡ false → count x (cond b (One n ∷ []) []) ≡ 0
leaf_other n true x h = rw h refl
leaf_other n false x h = refl

leaf_map : (o : Observed) (row : Row) (b : Bool) → o.first row.number ≡ row.first → o.last row.number ≡ row.last →
    cond b (record { tree = One row.number; earliest = row.first; latest = row.last } ∷ []) [] ≡ map (partial_match_of o) (cond b (One row.number ∷ []) [])
leaf_map o row true h k =
    ap (λ z. record { tree = One row.number; earliest = z; latest = row.last } ∷ []) (sym h)
    ∙ ap (λ z. record { tree = One row.number; earliest = o.first row.number; latest = z } ∷ []) (sym k)
leaf_map o row false h k = refl

leaf_exactly : (o : Observed) (row : Row) (truths : List Bool) (s : ℤ) → Given o row truths s → (k : ℕ) (w : Bounds) →
    Exactly (ends o row.number row.last w (Leaf k)) (cond (truth_at truths k && alive w row.first row.last) (One row.number ∷ []) [])
leaf_exactly o row truths s g k w (One i) =
    leaf_count row.number i (truth_at truths k && alive w row.first row.last) (o.holds k i && alive w (o.first i) row.last) (nat_eq row.number i) refl
    (λ e. let now : o.first i ≡ row.first = ap o.first (sym e) ∙ g.first in
    let true_now : o.holds k i ≡ truth_at truths k = ap (o.holds k) (sym e) ∙ g.holds k in
    rw (now, true_now) refl)
leaf_exactly o row truths s g k w (Pair x y) = leaf_other row.number (truth_at truths k && alive w row.first row.last) (Pair x y) refl
leaf_exactly o row truths s g k w (First x) = leaf_other row.number (truth_at truths k && alive w row.first row.last) (First x) refl
leaf_exactly o row truths s g k w (Second x) = leaf_other row.number (truth_at truths k && alive w row.first row.last) (Second x) refl
leaf_exactly o row truths s g k w Empty = leaf_other row.number (truth_at truths k && alive w row.first row.last) Empty refl
leaf_exactly o row truths s g k w (Single x) = leaf_other row.number (truth_at truths k && alive w row.first row.last) (Single x) refl
leaf_exactly o row truths s g k w (More x y) = leaf_other row.number (truth_at truths k && alive w row.first row.last) (More x y) refl

leaf_law : (o : Observed) (row : Row) (truths : List Bool) (s : ℤ) → Given o row truths s → (k : ℕ) (w : Bounds) →
    AreHeld o (ends o row.number row.last w (Leaf k)) (new_at_leaf row truths k (window_of w false))
leaf_law o row truths s g k w = (
  cond (truth_at truths k && alive w row.first row.last) (One row.number ∷ []) [],
  leaf_map o row (truth_at truths k && alive w row.first row.last) g.first g.last,
  leaf_exactly o row truths s g k w,
)

-- ---- WITHIN, START and STOP

-- what is new passes a test of its latest time where it passes that of now
within_bits : (i h al lt lt' : Bool) → (i ≡ true → h ≡ true → lt ≡ lt') → ((i && (al && lt)) && h) ≡ (((i && lt') && al) && h)
within_bits false h al lt lt' k = refl
within_bits true false al lt lt' k = none (al && lt) (lt' && al) where
  none : (x y : Bool) → (x && false) ≡ (y && false)
  none true true = refl
  none true false = refl
  none false true = refl
  none false false = refl
within_bits true true al lt true k = let e : lt ≡ true = k refl refl in rw e (last al) where
  last : (al : Bool) → ((al && true) && true) ≡ (al && true)
  last true = refl
  last false = refl
within_bits true true al lt false k = let e : lt ≡ false = k refl refl in rw e (last al) where
  last : (al : Bool) → ((al && false) && true) ≡ false
  last true = refl
  last false = refl

-- a new binding ends now
ends_now : (o : Observed) (row : Row) (truths : List Bool) (s : ℤ) → Given o row truths s → (p : NumberedPattern) (b : BindTree) →
    is_binding o p b ≡ true → has row.number b ≡ true → row.last ≡ latest o.last b
ends_now o row truths s g p b i h =
    le_both row.last (latest o.last b)
    (subst (λ (z : ℤ). z ≤ℤ latest o.last b) g.last (latest_new o.last row.number b h))
    (latest_binding o row.last g.past p b i)

within_law : (o : Observed) (row : Row) (truths : List Bool) (s : ℤ) → Given o row truths s → (p : NumberedPattern) (w : Bounds) (x : ℕ) (b : BindTree) →
    ends o row.number row.last (within w x) p b ≡ ends o row.number row.last w (Within p x) b
within_law o row truths s g p w x b =
    let narrow = alive_within w x (earliest o.first b) row.last in
    rw narrow (within_bits (is_binding o p b) (has row.number b) (alive w (earliest o.first b) row.last)
    (int_lt row.last (later_by x (earliest o.first b))) (int_lt (latest o.last b) (later_by x (earliest o.first b)))
    (λ i h. ap (λ z. int_lt z (later_by x (earliest o.first b))) (ends_now o row truths s g p b i h)))

between_law : (o : Observed) (row : Row) (truths : List Bool) (s : ℤ) → Given o row truths s → (p : NumberedPattern) (w : Bounds) (x y : ℤ) (b : BindTree) →
    ends o row.number row.last (between w x y) p b ≡ ends o row.number row.last w (Between p x y) b
between_law o row truths s g p w x y b =
    let narrow = alive_between w x y (earliest o.first b) row.last in
    rw narrow (within_bits (is_binding o p b) (has row.number b) (alive w (earliest o.first b) row.last)
    (int_le x (earliest o.first b) && int_lt row.last y) (int_le x (earliest o.first b) && int_lt (latest o.last b) y)
    (λ i h. ap (λ z. int_le x (earliest o.first b) && int_lt z y) (ends_now o row truths s g p b i h)))

-- ---- AND and FOLLOWEDBY

side_bits : (p q c x y h : Bool) → (((p && x) && (q && y) && c) && h) ≡ (((p && q && c) && (x && y)) && h)
side_bits false q c x y h = refl
side_bits true false c true y h = refl
side_bits true false c false y h = refl
side_bits true true false true true h = refl
side_bits true true false true false h = refl
side_bits true true false false y h = refl
side_bits true true true true true h = refl
side_bits true true true true false h = refl
side_bits true true true false y h = refl

-- how a node that match_joins two sides tells its bindings: f by the join j
pub record Joined (o : Observed) (n : ℕ) (t : ℤ) (w : Bounds) (v : Window) (j : Join) (p q f : BindTree → Bool) : Type 0 where
  pub makes : (a b : BindTree) → joined_tree j a b ≡ Pair a b
  pub other : (x : BindTree) → ((c d : BindTree) → is_same_tree x (Pair c d) ≡ false) → f x ≡ false
  pub pair : (a b : BindTree) → f (Pair a b) ≡ (p a && q b && may_join j (partial_match_of o a) (partial_match_of o b))
  pub distinct : (a b : BindTree) → may_join j (partial_match_of o a) (partial_match_of o b) ≡ true → (has n a && has n b) ≡ false
  pub completion_bound : (a b : BindTree) → has n a ≡ true → may_join j (partial_match_of o a) (partial_match_of o b) ≡ true → retains v (earliest o.first b) t ≡ alive w (earliest o.first b) t
  pub lasting : (e : ℤ) → retains v e t ≡ true → alive w e t ≡ true

join_node : (o : Observed) (n : ℕ) (t : ℤ) (w : Bounds) (v : Window) (j : Join) (p q f : BindTree → Bool) → Joined o n t w v j p q f →
    (new_l left new_r right : List PartialMatchTree) →
    AreHeld o (λ x. (p x && alive w (earliest o.first x) t) && has n x) new_l →
    AreHeld o (λ x. (p x && alive w (earliest o.first x) t) && not (has n x)) left →
    AreHeld o (λ x. (q x && alive w (earliest o.first x) t) && has n x) new_r →
    AreHeld o (λ x. (q x && retains v (earliest o.first x) t) && not (has n x)) right →
    AreHeld o (λ x. (f x && alive w (earliest o.first x) t) && has n x) (match_joins j new_l right ++ match_joins j left new_r)
join_node o n t w v j p q f k new_l left new_r right (us, u_is, u_each) (cs, c_is, c_each) (ds, d_is, d_each) (bs, b_is, b_each) = (
  pairs Pair (λ a b. may_join j (partial_match_of o a) (partial_match_of o b)) us bs ++ pairs Pair (λ a b. may_join j (partial_match_of o a) (partial_match_of o b)) cs ds,
  ap (λ z. match_joins j z right ++ match_joins j left new_r) u_is
      ∙ ap (λ z. match_joins j (map (partial_match_of o) us) z ++ match_joins j left new_r) b_is
      ∙ ap (λ z. match_joins j (map (partial_match_of o) us) (map (partial_match_of o) bs) ++ match_joins j z new_r) c_is
      ∙ ap (λ z. match_joins j (map (partial_match_of o) us) (map (partial_match_of o) bs) ++ match_joins j (map (partial_match_of o) cs) z) d_is
      ∙ both_joins_are o j Pair (record { early = λ a b. refl; late = λ a b. refl }) k.makes us bs cs ds,
  each,
) where
  none : (x : BindTree) → ((a b : BindTree) → is_same_tree x (Pair a b) ≡ false) →
      count x (pairs Pair (λ a b. may_join j (partial_match_of o a) (partial_match_of o b)) us bs ++ pairs Pair (λ a b. may_join j (partial_match_of o a) (partial_match_of o b)) cs ds)
      ≡ bit ((f x && alive w (earliest o.first x) t) && has n x)
  none x h = let no = k.other x h in
      rw no (omega (
        arith,
        count_append x (pairs Pair (λ a b. may_join j (partial_match_of o a) (partial_match_of o b)) us bs) (pairs Pair (λ a b. may_join j (partial_match_of o a) (partial_match_of o b)) cs ds),
        count_others Pair (λ a b. may_join j (partial_match_of o a) (partial_match_of o b)) x h us bs,
        count_others Pair (λ a b. may_join j (partial_match_of o a) (partial_match_of o b)) x h cs ds,
      ))

  each : (x : BindTree) →
      count x (pairs Pair (λ a b. may_join j (partial_match_of o a) (partial_match_of o b)) us bs ++ pairs Pair (λ a b. may_join j (partial_match_of o a) (partial_match_of o b)) cs ds)
      ≡ bit ((f x && alive w (earliest o.first x) t) && has n x)
  each (Pair a b) =
      join_law Pair pair_joins n
      (λ x. p x && alive w (earliest o.first x) t)
      (λ x. q x && alive w (earliest o.first x) t)
      (λ x. (q x && retains v (earliest o.first x) t) && not (has n x))
      (λ x. (p x && alive w (earliest o.first x) t) && not (has n x))
      (λ a b. may_join j (partial_match_of o a) (partial_match_of o b)) us cs ds bs u_each c_each d_each b_each
      (λ a b hp hn hc. ap (λ z. (q b && z) && not (has n b)) (k.completion_bound a b hn hc))
      (λ a b hq hn hc. refl)
      (λ a b hc. k.distinct a b hc) a b
      ∙ ap bit (side_bits (p a) (q b) (may_join j (partial_match_of o a) (partial_match_of o b)) (alive w (earliest o.first a) t) (alive w (earliest o.first b) t) (has n a || has n b))
      ∙ sym (ap bit (ap (λ z. (z && alive w (earliest o.first (Pair a b)) t) && (has n a || has n b)) (k.pair a b)
      ∙ ap (λ z. ((p a && q b && may_join j (partial_match_of o a) (partial_match_of o b)) && z) && (has n a || has n b)) (alive_min w (earliest o.first a) (earliest o.first b) t)))
  each (One i) = none (One i) (λ a b. refl)
  each (First x) = none (First x) (λ a b. refl)
  each (Second x) = none (Second x) (λ a b. refl)
  each Empty = none Empty (λ a b. refl)
  each (Single x) = none (Single x) (λ a b. refl)
  each (More x y) = none (More x y) (λ a b. refl)

-- what ends at a node that match_joins two sides, and what is kept there
sides_law : (o : Observed) (n : ℕ) (s t : ℤ) (w : Bounds) (v : Window) (j : Join) (p q f : BindTree → Bool) → Joined o n t w v j p q f → s ≤ℤ t →
    (sides : SideStores) → SidesStand o (λ x. p x && not (has n x)) (λ x. q x && not (has n x)) s w v sides → (new_l new_r : List PartialMatchTree) →
    AreHeld o (λ x. (p x && alive w (earliest o.first x) t) && has n x) new_l →
    AreHeld o (λ x. (q x && alive w (earliest o.first x) t) && has n x) new_r →
    AreHeld o (λ x. (f x && alive w (earliest o.first x) t) && has n x) (joins_new j t sides new_l new_r) × SidesStand o p q t w v (sides_after t sides new_l new_r)
sides_law o n s t w v j p q f k h sides st new_l new_r hl hr =
    let old_l : AreHeld o (λ x. (p x && alive w (earliest o.first x) t) && not (has n x)) (kept sides.left_window t sides.left) =
    subst (λ (u : Window). AreHeld o (λ x. (p x && alive w (earliest o.first x) t) && not (has n x)) (kept u t sides.left)) (sym st.left_window)
    (kept_law o (window_of w false) s t n p sides.left h st.left) in
    let old_r : AreHeld o (λ x. (q x && retains v (earliest o.first x) t) && not (has n x)) (kept sides.right_window t sides.right) =
    subst (λ (u : Window). AreHeld o (λ x. (q x && retains v (earliest o.first x) t) && not (has n x)) (kept u t sides.right)) (sym st.right_window)
    (kept_law o v s t n q sides.right h st.right) in
    let add_l : AreHeld o (λ x. (p x && alive w (earliest o.first x) t) && has n x) (kept sides.left_window t new_l) =
    subst (λ (u : Window). AreHeld o (λ x. (p x && alive w (earliest o.first x) t) && has n x) (kept u t new_l)) (sym st.left_window)
    (added_law o (window_of w false) w t n p new_l (λ e z. z) hl) in
    let add_r : AreHeld o (λ x. (q x && retains v (earliest o.first x) t) && has n x) (kept sides.right_window t new_r) =
    subst (λ (u : Window). AreHeld o (λ x. (q x && retains v (earliest o.first x) t) && has n x) (kept u t new_r)) (sym st.right_window)
    (added_law o v w t n q new_r k.lasting hr) in (
      join_node o n t w v j p q f k new_l (kept sides.left_window t sides.left) new_r (kept sides.right_window t sides.right) hl old_l hr old_r,
      record {
        left_window = st.left_window;
        right_window = st.right_window;
        left = stored_law o n (λ x. p x && alive w (earliest o.first x) t) (kept sides.left_window t sides.left) (kept sides.left_window t new_l) old_l add_l;
        right = stored_law o n (λ x. q x && retains v (earliest o.first x) t) (kept sides.right_window t sides.right) (kept sides.right_window t new_r) old_r add_r;
      },
    )

no_pair : (x : BindTree) → ((c d : BindTree) → is_same_tree x (Pair c d) ≡ false) → (a b : BindTree) → x ≡ Pair a b → ⊥
no_pair x h a b e =
    let no : is_same_tree (Pair a b) (Pair a b) ≡ false = ap (λ z. is_same_tree z (Pair a b)) (sym e) ∙ h a b in
    let is : is_same_tree (Pair a b) (Pair a b) ≡ true = same_self (Pair a b) in
    let both : true ≡ false = sym is ∙ no in
    cc

both_joined : (o : Observed) (n : ℕ) (t : ℤ) (w : Bounds) (p q : NumberedPattern) → Joined o n t w (window_of w false) join.Both (is_binding o p) (is_binding o q) (is_binding o (Both p q))
both_joined o n t w p q = record {
  makes = λ a b. refl;
  other = other;
  pair = λ a b. refl;
  distinct = λ a b h. apart n a b h;
  completion_bound = λ a b h k. refl;
  lasting = λ e h. h;
} where
  other : (x : BindTree) → ((c d : BindTree) → is_same_tree x (Pair c d) ≡ false) → is_binding o (Both p q) x ≡ false
  other (Pair a b) h = absurd (no_pair (Pair a b) h a b refl)
  other x h = refl

then_joined : (o : Observed) (row : Row) (truths : List Bool) (s : ℤ) → Given o row truths s → (w : Bounds) (p q : NumberedPattern) →
    Joined o row.number row.last w (window_of w true) join.Then (is_binding o p) (is_binding o q) (is_binding o (Then p q))
then_joined o row truths s g w p q = record {
  makes = λ a b. refl;
  other = other;
  pair = λ a b. refl;
  distinct = λ a b h. apart row.number a b (and_parts (int_le (latest o.last a) (earliest o.first b)) (disjoint a b) h).1;
  completion_bound = λ a b h k. after_left_ahead w (earliest o.first b) row.last
      (le_trans row.last (latest o.last a) (earliest o.first b)
      (subst (λ (z : ℤ). z ≤ℤ latest o.last a) g.last (latest_new o.last row.number a h))
      (le_true (latest o.last a) (earliest o.first b) (and_parts (int_le (latest o.last a) (earliest o.first b)) (disjoint a b) k).0));
  lasting = λ e h. after_left_alive w e row.last h;
} where
  other : (x : BindTree) → ((c d : BindTree) → is_same_tree x (Pair c d) ≡ false) → is_binding o (Then p q) x ≡ false
  other (Pair a b) h = absurd (no_pair (Pair a b) h a b refl)
  other x h = refl

  le_trans : (a b c : ℤ) → a ≤ℤ b → b ≤ℤ c → a ≤ℤ c
  le_trans a b c h k = omega (arith, ints)

-- ---- REPEATS

swap_bits : (p q lt d x h : Bool) → (((p && q && (d && lt)) && x) && h) ≡ (((p && q && (lt && d)) && x) && h)
swap_bits p q true true x h = refl
swap_bits p q true false x h = refl
swap_bits p q false true x h = refl
swap_bits p q false false x h = refl

-- one level up: the older sets of the level below, each with a new part
level_node : (o : Observed) (row : Row) (truths : List Bool) (s : ℤ) → Given o row truths s → (p : NumberedPattern) (w : Bounds) (j : ℕ) (held new : List PartialMatchTree) →
    AreHeld o (λ x. (are_repeats (is_binding o p) (suc j) x && alive w (earliest o.first x) row.last) && not (has row.number x)) held →
    AreHeld o (ends o row.number row.last w p) new →
    AreHeld o (λ x. (are_repeats (is_binding o p) (suc (suc j)) x && alive w (earliest o.first x) row.last) && has row.number x) (match_joins join.Repeats held new)
level_node o row truths s g p w j held new (xs, x_is, x_each) (ys, y_is, y_each) = (
  pairs More (λ a b. disjoint a b) xs ys,
  ap (λ z. match_joins join.Repeats z new) x_is ∙ ap (λ z. match_joins join.Repeats (map (partial_match_of o) xs) z) y_is
      ∙ joins_are o join.Repeats More (record { early = λ a b. refl; late = λ a b. refl }) xs ys (sets_made (is_binding o p) (suc j) xs excludes),
  each,
) where
  excludes : (x : BindTree) → 0 < count x xs → are_repeats (is_binding o p) (suc j) x ≡ true
  excludes x k = (and_parts _ _ (and_parts _ _ (bit_positive ((are_repeats (is_binding o p) (suc j) x && alive w (earliest o.first x) row.last) && not (has row.number x)) (count x xs) (x_each x) k)).0).0

  none : (x : BindTree) → ((a b : BindTree) → is_same_tree x (More a b) ≡ false) → are_repeats (is_binding o p) (suc (suc j)) x ≡ false →
      count x (pairs More (λ a b. disjoint a b) xs ys) ≡ bit ((are_repeats (is_binding o p) (suc (suc j)) x && alive w (earliest o.first x) row.last) && has row.number x)
  none x h isnt = rw isnt (count_others More (λ a b. disjoint a b) x h xs ys)

  each : (x : BindTree) → count x (pairs More (λ a b. disjoint a b) xs ys) ≡ bit ((are_repeats (is_binding o p) (suc (suc j)) x && alive w (earliest o.first x) row.last) && has row.number x)
  each (More m b) =
      level_law More more_joins row.number
      (λ x. are_repeats (is_binding o p) (suc j) x) (λ x. alive w (earliest o.first x) row.last)
      (λ x. is_binding o p x) (λ x. alive w (earliest o.first x) row.last)
      (λ a b. disjoint a b) (λ a b. nat_lt (greatest a) (greatest b)) xs ys x_each y_each
      (λ m b hb hm new_b old_m.
      let below : greatest m < row.number = old_set o row.number g.counted p (suc j) m hm old_m in
      let above : row.number ≤ greatest b = has_greatest row.number b new_b in
      lt-ltb (greatest m) (greatest b) (omega arith))
      (λ m b hb hm new_m.
      let above : row.number ≤ greatest m = has_greatest row.number m new_m in
      let below : greatest b ≤ row.number = greatest_binding o row.number g.counted p b hb in
      le-ltb (greatest m) (greatest b) (omega arith)) m b
      ∙ ap (λ z. bit (((are_repeats (is_binding o p) (suc j) m && is_binding o p b && (disjoint m b && nat_lt (greatest m) (greatest b))) && z) && (has row.number m || has row.number b)))
      (sym (alive_min w (earliest o.first m) (earliest o.first b) row.last))
      ∙ ap bit (swap_bits (are_repeats (is_binding o p) (suc j) m) (is_binding o p b) (nat_lt (greatest m) (greatest b)) (disjoint m b)
      (alive w (earliest o.first (More m b)) row.last) (has row.number m || has row.number b))
  each (One i) = none (One i) (λ a b. refl) refl
  each (First x) = none (First x) (λ a b. refl) refl
  each (Second x) = none (Second x) (λ a b. refl) refl
  each Empty = none Empty (λ a b. refl) refl
  each (Single x) = none (Single x) (λ a b. refl) refl
  each (Pair x y) = none (Pair x y) (λ a b. refl) refl

-- what is new at the first level
first_level : (o : Observed) (n : ℕ) (t : ℤ) (p : NumberedPattern) (w : Bounds) (new : List PartialMatchTree) →
    AreHeld o (ends o n t w p) new →
    AreHeld o (λ x. (are_repeats (is_binding o p) (suc zero) x && alive w (earliest o.first x) t) && has n x) (map (held_with Single) new)
first_level o n t p w new (ys, y_is, y_each) = (
  map Single ys,
  ap (map (held_with Single)) y_is ∙ under_are o Single (λ x. refl) ys,
  each,
) where
  each : (x : BindTree) → count x (map Single ys) ≡ bit ((are_repeats (is_binding o p) (suc zero) x && alive w (earliest o.first x) t) && has n x)
  each (Single a) = count_under Single (λ a b. refl) a ys ∙ y_each a
  each (One i) = count_not_under Single (One i) (λ b. refl) ys
  each (Pair x y) = count_not_under Single (Pair x y) (λ b. refl) ys
  each (First x) = count_not_under Single (First x) (λ b. refl) ys
  each (Second x) = count_not_under Single (Second x) (λ b. refl) ys
  each Empty = count_not_under Single Empty (λ b. refl) ys
  each (More x y) = count_not_under Single (More x y) (λ b. refl) ys

-- all levels from j on
levels_law : (o : Observed) (row : Row) (truths : List Bool) (s : ℤ) → Given o row truths s → (p : NumberedPattern) (w : Bounds) (n j : ℕ)
    (first new : List PartialMatchTree) (levels : List (List PartialMatchTree)) →
    AreHeld o (λ x. (are_repeats (is_binding o p) (suc j) x && alive w (earliest o.first x) row.last) && has row.number x) first →
    AreHeld o (ends o row.number row.last w p) new →
    LevelsStand o (λ i x. are_repeats (is_binding o p) i x && not (has row.number x)) s w n (suc j) levels →
    AreHeld o (λ x. (are_repeats (is_binding o p) n x && alive w (earliest o.first x) row.last) && has row.number x) (levels_new (window_of w false) row.last first new levels)
    × LevelsStand o (λ i x. are_repeats (is_binding o p) i x) row.last w n (suc j) (levels_after (window_of w false) row.last first new levels)
levels_law o row truths s g p w n j first new [] hf hn st =
    (subst (λ (i : ℕ). AreHeld o (λ x. (are_repeats (is_binding o p) i x && alive w (earliest o.first x) row.last) && has row.number x) first) (sym st) hf, st)
levels_law o row truths s g p w n j first new (held ∷ levels) hf hn st =
    let old = kept_law o (window_of w false) s row.last row.number (λ x. are_repeats (is_binding o p) (suc j) x) held g.earlier st.0 in
    let add = added_law o (window_of w false) w row.last row.number (λ x. are_repeats (is_binding o p) (suc j) x) first (λ e z. z) hf in
    let up = level_node o row truths s g p w j (kept (window_of w false) row.last held) new old hn in
    let rest = levels_law o row truths s g p w n (suc j) (match_joins join.Repeats (kept (window_of w false) row.last held) new) new levels up hn st.1 in (
      rest.0,
      (
        stored_law o row.number (λ x. are_repeats (is_binding o p) (suc j) x && alive w (earliest o.first x) row.last) (kept (window_of w false) row.last held) (kept (window_of w false) row.last first) old add,
        rest.1,
      ),
    )

-- the sets of a REPEATS
chain_law : (o : Observed) (row : Row) (truths : List Bool) (s : ℤ) → Given o row truths s → (p : NumberedPattern) (w : Bounds) (n : ℕ)
    (new : List PartialMatchTree) (levels : List (List PartialMatchTree)) → AreHeld o (ends o row.number row.last w p) new →
    AllLevelsStand o (λ i x. are_repeats (is_binding o p) i x && not (has row.number x)) s w n levels →
    AreHeld o (ends o row.number row.last w (Repeats p n)) (repeated_sets n (levels_new (window_of w false) row.last (map (held_with Single) new) new levels))
    × AllLevelsStand o (λ i x. are_repeats (is_binding o p) i x) row.last w n (levels_after (window_of w false) row.last (map (held_with Single) new) new levels)
chain_law o row truths s g p w zero new levels hn st =
    (([], refl, λ x. refl), ap (levels_after (window_of w false) row.last (map (held_with Single) new) new) st)
chain_law o row truths s g p w (suc n) new levels hn st =
    levels_law o row truths s g p w (suc n) zero (map (held_with Single) new) new levels (first_level o row.number row.last p w new hn) hn st

-- ---- OR

either_node : (o : Observed) (n : ℕ) (t : ℤ) (p q : NumberedPattern) (w : Bounds) (new_l new_r : List PartialMatchTree) →
    AreHeld o (ends o n t w p) new_l → AreHeld o (ends o n t w q) new_r →
    AreHeld o (ends o n t w (Either p q)) (map (held_with First) new_l ++ map (held_with Second) new_r)
either_node o n t p q w new_l new_r (xs, x_is, x_each) (ys, y_is, y_each) = (
  map First xs ++ map Second ys,
  ap (λ z. map (held_with First) z ++ map (held_with Second) new_r) x_is
      ∙ ap (λ z. map (held_with First) (map (partial_match_of o) xs) ++ map (held_with Second) z) y_is
      ∙ ap (λ z. z ++ map (held_with Second) (map (partial_match_of o) ys)) (under_are o First (λ x. refl) xs)
      ∙ ap (λ z. map (partial_match_of o) (map First xs) ++ z) (under_are o Second (λ x. refl) ys)
      ∙ sym (map_append (partial_match_of o) (map First xs) (map Second ys)),
  λ x. count_append x (map First xs) (map Second ys) ∙ each x,
) where
  none : (x : BindTree) → ((b : BindTree) → is_same_tree x (First b) ≡ false) → ((b : BindTree) → is_same_tree x (Second b) ≡ false) → count x (map First xs) + count x (map Second ys) ≡ 0
  none x h k = omega (arith, count_not_under First x h xs, count_not_under Second x k ys)

  each : (x : BindTree) → count x (map First xs) + count x (map Second ys) ≡ bit (ends o n t w (Either p q) x)
  each (First a) = omega (arith, count_under First (λ a b. refl) a xs, x_each a, count_not_under Second (First a) (λ b. refl) ys)
  each (Second a) = omega (arith, count_under Second (λ a b. refl) a ys, y_each a, count_not_under First (Second a) (λ b. refl) xs)
  each (One i) = none (One i) (λ b. refl) (λ b. refl)
  each (Pair x y) = none (Pair x y) (λ b. refl) (λ b. refl)
  each Empty = none Empty (λ b. refl) (λ b. refl)
  each (Single x) = none (Single x) (λ b. refl) (λ b. refl)
  each (More x y) = none (More x y) (λ b. refl) (λ b. refl)

-- ---- patterns

-- From stores that partial_match_of what lived before the row: what ends at it, and stores that partial_match_of what retains after it.
pub step_law : (o : Observed) (row : Row) (truths : List Bool) (s : ℤ) → Given o row truths s →
    (p : NumberedPattern) (w : Bounds) (z : State) → Stands o (without row.number o) s w p z →
    AreHeld o (ends o row.number row.last w p) (step_new row truths z) × Stands o (all_of o) row.last w p (step_state row truths z)
step_law o row truths s g (Leaf k) w (a_leaf leaf window) st = (
  subst (λ (i : ℕ). AreHeld o (ends o row.number row.last w (Leaf k)) (new_at_leaf row truths i window)) (sym st.0)
      (subst (λ (u : Window). AreHeld o (ends o row.number row.last w (Leaf k)) (new_at_leaf row truths k u)) (sym st.1) (leaf_law o row truths s g k w)),
  st,
)
step_law o row truths s g (Both p q) w (a_join join.Both l r sides) st =
    let one = step_law o row truths s g p w l st.0 in
    let two = step_law o row truths s g q w r st.1 in
    let law = sides_law o row.number s row.last w (window_of w false) join.Both (is_binding o p) (is_binding o q) (is_binding o (Both p q))
    (both_joined o row.number row.last w p q) g.earlier sides st.2 (step_new row truths l) (step_new row truths r) one.0 two.0 in
    (law.0, (one.1, two.1, law.1))
step_law o row truths s g (Then p q) w (a_join join.Then l r sides) st =
    let one = step_law o row truths s g p w l st.0 in
    let two = step_law o row truths s g q w r st.1 in
    let law = sides_law o row.number s row.last w (window_of w true) join.Then (is_binding o p) (is_binding o q) (is_binding o (Then p q))
    (then_joined o row truths s g w p q) g.earlier sides st.2 (step_new row truths l) (step_new row truths r) one.0 two.0 in
    (law.0, (one.1, two.1, law.1))
step_law o row truths s g (Either p q) w (a_choice l r) st =
    let one = step_law o row truths s g p w l st.0 in
    let two = step_law o row truths s g q w r st.1 in
    (either_node o row.number row.last p q w (step_new row truths l) (step_new row truths r) one.0 two.0, (one.1, two.1))
step_law o row truths s g (Within p x) w (a_limit part) st =
    let one = step_law o row truths s g p (within w x) part st in (
      held_same o (ends o row.number row.last (within w x) p) (ends o row.number row.last w (Within p x)) (step_new row truths part)
          (within_law o row truths s g p w x) one.0,
      one.1,
    )
step_law o row truths s g (Between p x y) w (a_limit part) st =
    let one = step_law o row truths s g p (between w x y) part st in (
      held_same o (ends o row.number row.last (between w x y) p) (ends o row.number row.last w (Between p x y)) (step_new row truths part)
          (between_law o row truths s g p w x y) one.0,
      one.1,
    )
step_law o row truths s g (Repeats p n) w (a_chain part count window levels) st =
    let one = step_law o row truths s g p w part st.0 in
    let law = chain_law o row truths s g p w n (step_new row truths part) levels one.0 st.3 in
    let new = step_new row truths part in let first = map (held_with Single) new in (
      subst (λ (c : ℕ). AreHeld o (ends o row.number row.last w (Repeats p n)) (repeated_sets c (levels_new window row.last first new levels))) (sym st.1)
          (subst (λ (u : Window). AreHeld o (ends o row.number row.last w (Repeats p n)) (repeated_sets n (levels_new u row.last first new levels))) (sym st.2) law.0),
      (
        one.1,
        st.1,
        st.2,
        subst (λ (u : Window). AllLevelsStand o (λ i x. are_repeats (is_binding o p) i x) row.last w n (levels_after u row.last first new levels)) (sym st.2) law.1,
      ),
    )
step_law o row truths s g p w z st = absurd st
