-- Stores that partial_match_of the is_same_tree things in another order stand for the is_same_tree log, and what has expired may be taken out of them first.
use Rattle.std.proofs.Common.{◌≡◌, ℕ, zero, suc, ◌+◌, ◌-◌, ◌*◌, ◌<◌, ℤ, ◌≤ℤ◌, List, [], ◌∷◌, ◌++◌, length, take, drop, get_or, slice_set, refl, sym, ◌∙◌, ap, subst, arith}
use Rattle.std.specs.Prelude.{Bool, true, false, ◌&&◌, not, map, filter, int_le, nat_eq}
use Rattle.std.specs.List.{sum_by}
use Rattle.std.proofs.lemmas.Bool.{and_parts, and_from}
use Rattle.std.proofs.lemmas.List.{length-map, take_more, take_more_set, get_or-drop, drop-drop, drop-set-lt}
use Rattle.std.proofs.lemmas.List.Sums.{sum_by-cons}
use Rattle.match_bindings.specs.declared.bounds.Bounds.{Bounds}
use Rattle.match_bindings.specs.Bounds.{no_bounds, within, between}
use Rattle.match_bindings.specs.NumberedPattern.{NumberedPattern, Leaf, Both, Then, Either, Within, Between, Repeats}
use Rattle.match_bindings.specs.BindTree.{BindTree}
use Rattle.match_bindings.specs.Log.{Observed}
use Rattle.match_bindings.specs.Span.{earliest, latest}
use Rattle.match_bindings.specs.Once.{bit, is_same_tree, count}
use Rattle.match_bindings.proofs.ListLemmas.{map_append, filter_map}
use Rattle.match_bindings.proofs.OnceLemmas.{count_filter}
use Rattle.match_bindings.proofs.IsBindingLemmas.{le_true, true_le}
use Rattle.match_pruning.specs.declared.window.Window.{Window}
use Rattle.match_pruning.specs.Stores.{window_of}
use Rattle.match_pruning.specs.declared.join.Join.{Join}
use Rattle.match_pruning.specs.declared.join.Join.TheVariants as join
use Rattle.match_pruning.specs.PartialMatchTree.{PartialMatchTree, partial_match_of, trees_in}
use Rattle.match_pruning.specs.declared.store.Store.{Store}
use Rattle.match_stream.specs.inner.Nodes.{store_list, store_lists}
use Rattle.match_pruning.specs.inner.UpToOrder.{AreSameMultiset, AreSameSides, AreSameLevels, IsSameUpToOrder}
use Rattle.match_pruning.specs.inner.Retains.{alive, retains}
use Rattle.match_stream.specs.inner.Shape.{state_fits, same_window, have_windows}
use Rattle.match_pruning.specs.inner.Steps.{kept, SideStores, State, a_leaf, a_join, a_choice, a_limit, a_chain, sides_kept, no_levels, levels_above, all_levels, expired}
use Rattle.match_stream.proofs.AliveLemmas.{retains_before}
use Rattle.match_pruning.proofs.RetainsLemmas.{le_both, le_self}
use Rattle.match_stream.proofs.StoreLemmas.{AreHeld}
use Rattle.match_stream.proofs.StepLemmas.{Counted, SidesStand, LevelsStand, AllLevelsStand, Stands}
use Rattle.match_stream.proofs.AnswerLemmas.{held_counts}
use Rattle.match_stream.proofs.PassLemmas.{none_kept, fits_expired}

-- ---- one store

-- whether a thing has the times of its tree
abbrev is_timed : Observed → PartialMatchTree → Bool
is_timed o h = (int_le h.earliest (earliest o.first h.tree) && int_le (earliest o.first h.tree) h.earliest) && (int_le h.latest (latest o.last h.tree) && int_le (latest o.last h.tree) h.latest)

le_yes : (a : ℤ) → int_le a a ≡ true
le_yes a = true_le a a (le_self a)

hold_timed : (o : Observed) (x : BindTree) → is_timed o (partial_match_of o x) ≡ true
hold_timed o x = rw (le_yes (earliest o.first x), le_yes (latest o.last x)) refl

timed_hold : (o : Observed) (h : PartialMatchTree) → is_timed o h ≡ true → h ≡ partial_match_of o h.tree
timed_hold o h k =
    let parts = and_parts (int_le h.earliest (earliest o.first h.tree) && int_le (earliest o.first h.tree) h.earliest) (int_le h.latest (latest o.last h.tree) && int_le (latest o.last h.tree) h.latest) k in
    let one = and_parts (int_le h.earliest (earliest o.first h.tree)) (int_le (earliest o.first h.tree) h.earliest) parts.0 in
    let two = and_parts (int_le h.latest (latest o.last h.tree)) (int_le (latest o.last h.tree) h.latest) parts.1 in
    let e : h.earliest ≡ earliest o.first h.tree = le_both h.earliest (earliest o.first h.tree) (le_true h.earliest (earliest o.first h.tree) one.0) (le_true (earliest o.first h.tree) h.earliest one.1) in
    let l : h.latest ≡ latest o.last h.tree = le_both h.latest (latest o.last h.tree) (le_true h.latest (latest o.last h.tree) two.0) (le_true (latest o.last h.tree) h.latest two.1) in
    λ i. record { tree = h.tree; earliest = e i; latest = l i }

abbrev untimed : Observed → PartialMatchTree → ℕ
untimed o h = bit (not (is_timed o h))

none_untimed : (o : Observed) (xs : List BindTree) → sum_by (untimed o) (map (partial_match_of o) xs) ≡ 0
none_untimed o [] = refl
none_untimed o (x ∷ xs) = sum_by-cons (untimed o) (partial_match_of o x) (map (partial_match_of o) xs) ∙ (let e = hold_timed o x in let rest = none_untimed o xs in let here : untimed o (partial_match_of o x) ≡ 0 = ap (λ b. bit (not b)) e in omega (arith, here, rest))

timed_from : (b : Bool) → bit (not b) ≡ 0 → b ≡ true
timed_from true h = refl
timed_from false h = absurd (omega (arith, h))

all_timed : (o : Observed) (held : List PartialMatchTree) → sum_by (untimed o) held ≡ 0 → held ≡ map (partial_match_of o) (trees_in held)
all_timed o [] h = refl
all_timed o (x ∷ held) h =
    let sum : untimed o x + sum_by (untimed o) held ≡ 0 = sym (sum_by-cons (untimed o) x held) ∙ h in
    let here : untimed o x ≡ 0 = omega (arith, sum) in
    let rest : sum_by (untimed o) held ≡ 0 = omega (arith, sum) in
    ap (λ z. z ∷ held) (timed_hold o x (timed_from (is_timed o x) here)) ∙ ap (λ z. partial_match_of o x.tree ∷ z) (all_timed o held rest)

-- so often a tree stands among those of the things
stands_among : (x : BindTree) (held : List PartialMatchTree) → count x (trees_in held) ≡ sum_by (λ h. bit (is_same_tree x h.tree)) held
stands_among x [] = refl
stands_among x (h ∷ held) = ap (λ n. bit (is_same_tree x h.tree) + n) (stands_among x held) ∙ sym (sum_by-cons (λ h. bit (is_same_tree x h.tree)) h held)

pub same_held : (o : Observed) (f : BindTree → Bool) (held other : List PartialMatchTree) → AreSameMultiset held other → AreHeld o f held → AreHeld o f other
same_held o f held other e (xs, is, each) = (
  trees_in other,
  all_timed o other (e (untimed o) ∙ ap (sum_by (untimed o)) is ∙ none_untimed o xs),
  λ x. stands_among x other ∙ e (λ h. bit (is_same_tree x h.tree)) ∙ sym (stands_among x held) ∙ held_counts o f held (xs, is, each) x,
)

-- what has expired is out
later_bits : (b s t : Bool) → (t ≡ true → s ≡ true) → bit t * bit (b && s) ≡ bit (b && t)
later_bits false s true k = omega arith
later_bits false s false k = omega arith
later_bits true s false k = omega arith
later_bits true s true k = rw (k refl) refl

pub kept_held : (o : Observed) (v : Window) (s t : ℤ) (f : BindTree → Bool) (held : List PartialMatchTree) → s ≤ℤ t →
    AreHeld o (λ x. f x && retains v (earliest o.first x) s) held → AreHeld o (λ x. f x && retains v (earliest o.first x) t) (kept v t held)
kept_held o v s t f held h (xs, is, each) = (
  filter (λ x. retains v (earliest o.first x) t) xs,
  ap (kept v t) is ∙ filter_map (partial_match_of o) (λ k. retains v k.earliest t) xs,
  λ x. count_filter x (λ x. retains v (earliest o.first x) t) xs
      ∙ ap (λ z. bit (retains v (earliest o.first x) t) * z) (each x)
      ∙ later_bits (f x) (retains v (earliest o.first x) s) (retains v (earliest o.first x) t) (retains_before v (earliest o.first x) s t h),
)

-- ---- all stores: what has expired is taken out

expired_sides : (o : Observed) (s t : ℤ) (w : Bounds) (v : Window) (f g : BindTree → Bool) (sides : SideStores) → s ≤ℤ t →
    SidesStand o f g s w v sides → SidesStand o f g t w v (sides_kept t sides)
expired_sides o s t w v f g sides h st = record {
  left_window = st.left_window;
  right_window = st.right_window;
  left = subst (λ (u : Window). AreHeld o (λ x. f x && alive w (earliest o.first x) t) (kept u t sides.left)) (sym st.left_window)
      (kept_held o (window_of w false) s t f sides.left h st.left);
  right = subst (λ (u : Window). AreHeld o (λ x. g x && retains v (earliest o.first x) t) (kept u t sides.right)) (sym st.right_window)
      (kept_held o v s t g sides.right h st.right);
}

expired_levels : (o : Observed) (s t : ℤ) (w : Bounds) (f : ℕ → BindTree → Bool) (n j : ℕ) (levels : List (List PartialMatchTree)) → s ≤ℤ t →
    LevelsStand o f s w n j levels → LevelsStand o f t w n j (map (kept (window_of w false) t) levels)
expired_levels o s t w f n j [] h st = st
expired_levels o s t w f n j (x ∷ levels) h st = (kept_held o (window_of w false) s t (f j) x h st.0, expired_levels o s t w f n (suc j) levels h st.1)

expired_all_levels : (o : Observed) (s t : ℤ) (w : Bounds) (f : ℕ → BindTree → Bool) (n : ℕ) (levels : List (List PartialMatchTree)) → s ≤ℤ t →
    AllLevelsStand o f s w n levels → AllLevelsStand o f t w n (map (kept (window_of w false) t) levels)
expired_all_levels o s t w f zero levels h st = ap (map (kept (window_of w false) t)) st
expired_all_levels o s t w f (suc n) levels h st = expired_levels o s t w f (suc n) 1 levels h st

expired_stands : (o : Observed) (b : Counted) (s t : ℤ) → s ≤ℤ t → (w : Bounds) (p : NumberedPattern) (z : State) → Stands o b s w p z → Stands o b t w p (expired t z)
expired_stands o b s t h w (Leaf k) (a_leaf leaf window) st = st
expired_stands o b s t h w (Both p q) (a_join join.Both l r sides) st = (
  expired_stands o b s t h w p l st.0,
  expired_stands o b s t h w q r st.1,
  expired_sides o s t w (window_of w false) (b.binding p) (b.binding q) sides h st.2,
)
expired_stands o b s t h w (Then p q) (a_join join.Then l r sides) st = (
  expired_stands o b s t h w p l st.0,
  expired_stands o b s t h w q r st.1,
  expired_sides o s t w (window_of w true) (b.binding p) (b.binding q) sides h st.2,
)
expired_stands o b s t h w (Either p q) (a_choice l r) st = (expired_stands o b s t h w p l st.0, expired_stands o b s t h w q r st.1)
expired_stands o b s t h w (Within p x) (a_limit part) st = expired_stands o b s t h (within w x) p part st
expired_stands o b s t h w (Between p x y) (a_limit part) st = expired_stands o b s t h (between w x y) p part st
expired_stands o b s t h w (Repeats p n) (a_chain part k window levels) st = (
  expired_stands o b s t h w p part st.0,
  st.1,
  st.2,
  subst (λ (u : Window). AllLevelsStand o (b.level p) t w n (map (kept u t) levels)) (sym st.2) (expired_all_levels o s t w (b.level p) n levels h st.3),
)
expired_stands o b s t h w p z st = absurd st

-- ---- all stores: another order

arranged_sides : (o : Observed) (t : ℤ) (w : Bounds) (v : Window) (f g : BindTree → Bool) (sides other : SideStores) →
    SidesStand o f g t w v sides → AreSameSides sides other → SidesStand o f g t w v other
arranged_sides o t w v f g sides other st is_same_tree = record {
  left_window = is_same_tree.left_window ∙ st.left_window;
  right_window = is_same_tree.right_window ∙ st.right_window;
  left = same_held o (λ x. f x && alive w (earliest o.first x) t) sides.left other.left is_same_tree.left st.left;
  right = same_held o (λ x. g x && retains v (earliest o.first x) t) sides.right other.right is_same_tree.right st.right;
}

arranged_levels : (o : Observed) (t : ℤ) (w : Bounds) (f : ℕ → BindTree → Bool) (n j : ℕ) (levels other : List (List PartialMatchTree)) →
    LevelsStand o f t w n j levels → AreSameLevels levels other → LevelsStand o f t w n j other
arranged_levels o t w f n j [] [] st is_same_tree = st
arranged_levels o t w f n j (x ∷ levels) (y ∷ other) st is_same_tree = (
  same_held o (λ z. f j z && alive w (earliest o.first z) t) x y is_same_tree.0 st.0,
  arranged_levels o t w f n (suc j) levels other st.1 is_same_tree.1,
)
arranged_levels o t w f n j [] (y ∷ other) st is_same_tree = absurd is_same_tree
arranged_levels o t w f n j (x ∷ levels) [] st is_same_tree = absurd is_same_tree

same_none : (levels other : List (List PartialMatchTree)) → levels ≡ [] → AreSameLevels levels other → other ≡ []
same_none [] [] e is_same_tree = refl
same_none [] (y ∷ other) e is_same_tree = absurd is_same_tree
same_none (x ∷ levels) other e is_same_tree = absurd (cc)

arranged_all_levels : (o : Observed) (t : ℤ) (w : Bounds) (f : ℕ → BindTree → Bool) (n : ℕ) (levels other : List (List PartialMatchTree)) →
    AllLevelsStand o f t w n levels → AreSameLevels levels other → AllLevelsStand o f t w n other
arranged_all_levels o t w f zero levels other st is_same_tree = same_none levels other st is_same_tree
arranged_all_levels o t w f (suc n) levels other st is_same_tree = arranged_levels o t w f (suc n) 1 levels other st is_same_tree

pub arranged_stands : (o : Observed) (b : Counted) (t : ℤ) (w : Bounds) (p : NumberedPattern) (z z' : State) → Stands o b t w p z → IsSameUpToOrder z z' → Stands o b t w p z'
arranged_stands o b t w (Leaf k) (a_leaf leaf window) z' st e = subst (λ (y : State). Stands o b t w (Leaf k) y) (sym e) st
arranged_stands o b t w (Both p q) (a_join join.Both l r sides) (a_join j l' r' sides') st e =
    subst (λ (i : Join). Stands o b t w (Both p q) (a_join i l' r' sides')) (sym e.0) (
      arranged_stands o b t w p l l' st.0 e.1,
      arranged_stands o b t w q r r' st.1 e.2,
      arranged_sides o t w (window_of w false) (b.binding p) (b.binding q) sides sides' st.2 e.3,
    )
arranged_stands o b t w (Both p q) (a_join join.Both l r sides) z' st e = absurd e
arranged_stands o b t w (Then p q) (a_join join.Then l r sides) (a_join j l' r' sides') st e =
    subst (λ (i : Join). Stands o b t w (Then p q) (a_join i l' r' sides')) (sym e.0) (
      arranged_stands o b t w p l l' st.0 e.1,
      arranged_stands o b t w q r r' st.1 e.2,
      arranged_sides o t w (window_of w true) (b.binding p) (b.binding q) sides sides' st.2 e.3,
    )
arranged_stands o b t w (Then p q) (a_join join.Then l r sides) z' st e = absurd e
arranged_stands o b t w (Either p q) (a_choice l r) (a_choice l' r') st e = (arranged_stands o b t w p l l' st.0 e.0, arranged_stands o b t w q r r' st.1 e.1)
arranged_stands o b t w (Either p q) (a_choice l r) z' st e = absurd e
arranged_stands o b t w (Within p x) (a_limit part) (a_limit part') st e = arranged_stands o b t (within w x) p part part' st e
arranged_stands o b t w (Within p x) (a_limit part) z' st e = absurd e
arranged_stands o b t w (Between p x y) (a_limit part) (a_limit part') st e = arranged_stands o b t (between w x y) p part part' st e
arranged_stands o b t w (Between p x y) (a_limit part) z' st e = absurd e
arranged_stands o b t w (Repeats p n) (a_chain part k window levels) (a_chain part' k' window' levels') st e =
    (arranged_stands o b t w p part part' st.0 e.0, e.1 ∙ st.1, e.2 ∙ st.2, arranged_all_levels o t w (b.level p) n levels levels' st.3 e.3)
arranged_stands o b t w (Repeats p n) (a_chain part k window levels) z' st e = absurd e
arranged_stands o b t w p z z' st e = absurd st

-- once what has expired is taken out, what counts and retains then is held
pub cleared_stands : (o : Observed) (b : Counted) (s t : ℤ) → s ≤ℤ t → (w : Bounds) (p : NumberedPattern) (z z' : State) →
    Stands o b s w p z → IsSameUpToOrder (expired t z) z' → Stands o b t w p z'
cleared_stands o b s t h w p z z' st e = arranged_stands o b t w p (expired t z) z' (expired_stands o b s t h w p z st) e

-- ---- and the shape stays

same_many : (levels other : List (List PartialMatchTree)) → AreSameLevels levels other → length other ≡ length levels
same_many [] [] e = refl
same_many (x ∷ levels) (y ∷ other) e = ap suc (same_many levels other e.1)
same_many [] (y ∷ other) e = absurd e
same_many (x ∷ levels) [] e = absurd e

same_two : (a b c d : Bool) → a ≡ c → b ≡ d → (a && b) ≡ (c && d)
same_two a b c d e f = cc

arranged_windows : (sides other : SideStores) (v u : Window) → AreSameSides sides other → have_windows other v u ≡ have_windows sides v u
arranged_windows sides other v u e =
    same_two (same_window other.left_window v) (same_window other.right_window u) (same_window sides.left_window v) (same_window sides.right_window u)
    (ap (λ y. same_window y v) e.left_window) (ap (λ y. same_window y u) e.right_window)

pub fits_arranged : (p : NumberedPattern) (w : Bounds) (z z' : State) → IsSameUpToOrder z z' → state_fits w p z ≡ true → state_fits w p z' ≡ true
fits_arranged (Leaf k) w (a_leaf leaf window) z' e h = ap (state_fits w (Leaf k)) e ∙ h
fits_arranged (Both p q) w (a_join join.Both l r sides) (a_join j l' r' sides') e h =
    let parts = and_parts (state_fits w p l && state_fits w q r) (have_windows sides (window_of w false) (window_of w false)) h in
    let both = and_parts (state_fits w p l) (state_fits w q r) parts.0 in
    ap (λ i. state_fits w (Both p q) (a_join i l' r' sides')) e.0
    ∙ and_from _ _ (and_from _ _ (fits_arranged p w l l' e.1 both.0) (fits_arranged q w r r' e.2 both.1))
    (arranged_windows sides sides' (window_of w false) (window_of w false) e.3 ∙ parts.1)
fits_arranged (Both p q) w (a_join join.Both l r sides) z' e h = absurd e
fits_arranged (Then p q) w (a_join join.Then l r sides) (a_join j l' r' sides') e h =
    let parts = and_parts (state_fits w p l && state_fits w q r) (have_windows sides (window_of w false) (window_of w true)) h in
    let both = and_parts (state_fits w p l) (state_fits w q r) parts.0 in
    ap (λ i. state_fits w (Then p q) (a_join i l' r' sides')) e.0
    ∙ and_from _ _ (and_from _ _ (fits_arranged p w l l' e.1 both.0) (fits_arranged q w r r' e.2 both.1))
    (arranged_windows sides sides' (window_of w false) (window_of w true) e.3 ∙ parts.1)
fits_arranged (Then p q) w (a_join join.Then l r sides) z' e h = absurd e
fits_arranged (Either p q) w (a_choice l r) (a_choice l' r') e h =
    let both = and_parts (state_fits w p l) (state_fits w q r) h in
    and_from _ _ (fits_arranged p w l l' e.0 both.0) (fits_arranged q w r r' e.1 both.1)
fits_arranged (Either p q) w (a_choice l r) z' e h = absurd e
fits_arranged (Within p x) w (a_limit part) (a_limit part') e h = fits_arranged p (within w x) part part' e h
fits_arranged (Within p x) w (a_limit part) z' e h = absurd e
fits_arranged (Between p x y) w (a_limit part) (a_limit part') e h = fits_arranged p (between w x y) part part' e h
fits_arranged (Between p x y) w (a_limit part) z' e h = absurd e
fits_arranged (Repeats p n) w (a_chain part k window levels) (a_chain part' k' window' levels') e h =
    let parts = and_parts (state_fits w p part && same_window window (window_of w false)) (nat_eq k n && nat_eq (length levels) (n - 1)) h in
    let two = and_parts (state_fits w p part) (same_window window (window_of w false)) parts.0 in
    and_from _ _ (and_from _ _ (fits_arranged p w part part' e.0 two.0) (ap (λ y. same_window y (window_of w false)) e.2 ∙ two.1))
    (ap (λ y. nat_eq y n && nat_eq (length levels') (n - 1)) e.1 ∙ ap (λ m. nat_eq k n && nat_eq m (n - 1)) (same_many levels levels' e.3) ∙ parts.1)
fits_arranged (Repeats p n) w (a_chain part k window levels) z' e h = absurd e
fits_arranged p w z z' e h = absurd (cc)

pub cleared_fits : (p : NumberedPattern) (t : ℤ) (z z' : State) → IsSameUpToOrder (expired t z) z' → state_fits no_bounds p z ≡ true → state_fits no_bounds p z' ≡ true
cleared_fits p t z z' e h = fits_arranged p no_bounds (expired t z) z' e (fits_expired t p no_bounds z ∙ h)

-- ---- stores gone through in place

same_levels_both : (us vs xs ys : List (List PartialMatchTree)) → AreSameLevels us vs → AreSameLevels xs ys → AreSameLevels (us ++ xs) (vs ++ ys)
same_levels_both [] [] xs ys h k = k
same_levels_both (u ∷ us) (v ∷ vs) xs ys h k = (h.0, same_levels_both us vs xs ys h.1 k)
same_levels_both [] (v ∷ vs) xs ys h k = absurd h
same_levels_both (u ∷ us) [] xs ys h k = absurd h

same_levels_self : (xs : List (List PartialMatchTree)) → AreSameLevels xs xs
same_levels_self [] = tt
same_levels_self (x ∷ xs) = (λ weight. refl, same_levels_self xs)

pub levels_cleared : (w : Window) (t : ℤ) (count : ℕ) (xs made : List (List PartialMatchTree)) → AreSameLevels (map (kept w t) xs) made →
    AreSameLevels (map (kept w t) (all_levels count xs)) (all_levels count made)
levels_cleared w t count xs made h =
    let many : length made ≡ length xs = same_many (map (kept w t) xs) made h ∙ length-map xs (kept w t) in
    let above : levels_above count xs ≡ levels_above count made = ap (λ k. count - 1 - k) (sym many) in
    subst (λ (y : List (List PartialMatchTree)). AreSameLevels y (all_levels count made)) (sym (map_append (kept w t) xs (no_levels (levels_above count xs))))
    (subst (λ (y : List (List PartialMatchTree)). AreSameLevels (map (kept w t) xs ++ y) (all_levels count made))
    (ap no_levels (sym above) ∙ sym (none_kept w t (levels_above count xs)))
    (same_levels_both (map (kept w t) xs) made (no_levels (levels_above count made)) (no_levels (levels_above count made)) h (same_levels_self (no_levels (levels_above count made)))))

-- the next store of those that are gone through
pub stores_more : (f : List PartialMatchTree → List PartialMatchTree) (xs ys : List Store) (i : ℕ) (x x' : Store) → i < length xs → length ys ≡ length xs →
    AreSameLevels (map f (store_lists (take i xs))) (store_lists (take i ys)) → drop i ys ≡ drop i xs → x ≡ get_or ys i x → AreSameMultiset (f (store_list x)) (store_list x') →
    AreSameLevels (map f (store_lists (take (i + 1) xs))) (store_lists (take (i + 1) (slice_set ys i x')))
stores_more f xs ys i x x' h many done rest is is_same_tree =
    let inside : i < length ys = omega (arith, h, many) in
    let old : get_or xs i x ≡ x = old_is xs ys i x rest is in
    let left : map f (store_lists (take (i + 1) xs)) ≡ map f (store_lists (take i xs)) ++ f (store_list x) ∷ [] =
    ap (λ y. map f (store_lists y)) (take_more xs i x h ∙ ap (λ y. take i xs ++ y ∷ []) old)
    ∙ ap (map f) (map_append store_list (take i xs) (x ∷ [])) ∙ map_append f (store_lists (take i xs)) (store_list x ∷ []) in
    let right : store_lists (take (i + 1) (slice_set ys i x')) ≡ store_lists (take i ys) ++ store_list x' ∷ [] =
    ap store_lists (take_more_set ys i x' inside) ∙ map_append store_list (take i ys) (x' ∷ []) in
    subst (λ (y : List (List PartialMatchTree)). AreSameLevels y (store_lists (take (i + 1) (slice_set ys i x')))) (sym left)
    (subst (λ (y : List (List PartialMatchTree)). AreSameLevels (map f (store_lists (take i xs)) ++ f (store_list x) ∷ []) y) (sym right)
    (same_levels_both (map f (store_lists (take i xs))) (store_lists (take i ys)) (f (store_list x) ∷ []) (store_list x' ∷ []) done (is_same_tree, tt))) where
      old_is : (xs ys : List Store) (i : ℕ) (x : Store) → drop i ys ≡ drop i xs → x ≡ get_or ys i x → get_or xs i x ≡ x
      old_is xs ys i x rest is =
          let zero_more : i + 0 ≡ i = omega arith in
          sym (get_or-drop i xs 0 x ∙ ap (λ k. get_or xs k x) zero_more) ∙ ap (λ y. get_or y 0 x) (sym rest) ∙ get_or-drop i ys 0 x ∙ ap (λ k. get_or ys k x) zero_more ∙ sym is

pub rest_more : (xs ys : List Store) (i : ℕ) (x' : Store) → i < length xs → drop i ys ≡ drop i xs → drop (i + 1) (slice_set ys i x') ≡ drop (i + 1) xs
rest_more xs ys i x' h rest =
    drop-set-lt (i + 1) ys i x' (omega arith) ∙ sym (drop-drop 1 i ys) ∙ ap (drop 1) rest ∙ drop-drop 1 i xs
