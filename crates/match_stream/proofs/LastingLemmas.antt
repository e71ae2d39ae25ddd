-- What was a binding stays one, and what is held for a log is held for the log with one more row.
use Rattle.std.proofs.Common.{◌≡◌, ℕ, zero, suc, ◌<◌, ℤ, List, [], ◌∷◌, refl, ◌∙◌, ap, arith}
use Rattle.std.specs.Prelude.{Bool, true, false, ◌&&◌, ◌||◌, not, map, nat_eq, nat_lt, int_le, int_lt}
use Rattle.std.specs.Int.{int_min, int_max}
use Rattle.std.proofs.lemmas.Bool.{and_parts}
use Rattle.match_bindings.specs.declared.bounds.Bounds.{Bounds}
use Rattle.match_bindings.specs.Bounds.{within, between}
use Rattle.match_bindings.specs.NumberedPattern.{NumberedPattern, Leaf, Both, Then, Either, Within, Between, Repeats}
use Rattle.match_bindings.specs.BindTree.{BindTree, One, Pair, First, Second, Empty, Single, More, has, disjoint, greatest}
use Rattle.match_bindings.specs.Log.{Observed}
use Rattle.match_bindings.specs.Span.{earliest, latest, later_by}
use Rattle.match_bindings.specs.Test.{are_repeats, is_binding}
use Rattle.match_bindings.specs.Once.{is_same_tree, count}
use Rattle.match_pruning.specs.declared.window.Window.{Window}
use Rattle.match_pruning.specs.Stores.{window_of}
use Rattle.match_pruning.specs.declared.join.Join.TheVariants as join
use Rattle.match_pruning.specs.PartialMatchTree.{PartialMatchTree, partial_match_of}
use Rattle.match_pruning.specs.inner.Retains.{retains}
use Rattle.match_pruning.specs.inner.Steps.{SideStores, State, a_leaf, a_join, a_choice, a_limit, a_chain}
use Rattle.match_bindings.proofs.OnceLemmas.{same_self}
use Rattle.match_pruning.proofs.NumberLemmas.{both_parts}
use Rattle.match_stream.proofs.StoreLemmas.{AreHeld, exactly_same, held_same, bit_positive}
use Rattle.match_stream.proofs.StepLemmas.{SidesStand, LevelsStand, AllLevelsStand, Stands, all_of, without}

-- a log goes on in another one, whose new row is n
pub record Continues (o o' : Observed) (n : ℕ) : Type 0 where
  pub holds : (k i : ℕ) → o.holds k i ≡ (o'.holds k i && not (nat_eq n i))
  pub first : (k i : ℕ) → o.holds k i ≡ true → o.first i ≡ o'.first i
  pub last : (k i : ℕ) → o.holds k i ≡ true → o.last i ≡ o'.last i

-- a tree has the is_same_tree times in both
abbrev pub SameTimes : Observed → Observed → BindTree → Type 0
SameTimes o o' x = (earliest o.first x ≡ earliest o'.first x) × (latest o.last x ≡ latest o'.last x)

pair_times : (e e' f f' l l' m m' : ℤ) → (e ≡ e') × (l ≡ l') → (f ≡ f') × (m ≡ m') → (int_min e f ≡ int_min e' f') × (int_max l m ≡ int_max l' m')
pair_times e e' f f' l l' m m' (a, b) (c, d) = (cc, cc)

many_times : (o o' : Observed) (f : BindTree → Bool) → ((x : BindTree) → f x ≡ true → SameTimes o o' x) →
    (j : ℕ) (x : BindTree) → are_repeats f j x ≡ true → SameTimes o o' x
many_times o o' f h zero x k = absurd (cc)
many_times o o' f h (suc zero) (Single a) k = h a k
many_times o o' f h (suc (suc j)) (More m a) k =
    let parts = both_parts (are_repeats f (suc j) m) (f a) (nat_lt (greatest m) (greatest a) && disjoint m a) k in
    pair_times (earliest o.first m) (earliest o'.first m) (earliest o.first a) (earliest o'.first a) (latest o.last m) (latest o'.last m) (latest o.last a) (latest o'.last a)
    (many_times o o' f h (suc j) m parts.0) (h a parts.1)
many_times o o' f h j x k = absurd (cc)

-- the times of a binding stay
pub same_times : (o o' : Observed) (n : ℕ) → Continues o o' n → (p : NumberedPattern) (x : BindTree) → is_binding o p x ≡ true → SameTimes o o' x
same_times o o' n g (Leaf k) (One i) h = (g.first k i h, g.last k i h)
same_times o o' n g (Both p q) (Pair a b) h =
    let parts = both_parts (is_binding o p a) (is_binding o q b) (disjoint a b) h in
    pair_times (earliest o.first a) (earliest o'.first a) (earliest o.first b) (earliest o'.first b) (latest o.last a) (latest o'.last a) (latest o.last b) (latest o'.last b)
    (same_times o o' n g p a parts.0) (same_times o o' n g q b parts.1)
same_times o o' n g (Then p q) (Pair a b) h =
    let parts = both_parts (is_binding o p a) (is_binding o q b) (int_le (latest o.last a) (earliest o.first b) && disjoint a b) h in
    pair_times (earliest o.first a) (earliest o'.first a) (earliest o.first b) (earliest o'.first b) (latest o.last a) (latest o'.last a) (latest o.last b) (latest o'.last b)
    (same_times o o' n g p a parts.0) (same_times o o' n g q b parts.1)
same_times o o' n g (Either p q) (First a) h = same_times o o' n g p a h
same_times o o' n g (Either p q) (Second a) h = same_times o o' n g q a h
same_times o o' n g (Within p x) b h = same_times o o' n g p b (and_parts _ _ h).0
same_times o o' n g (Between p x y) b h = same_times o o' n g p b (and_parts _ _ h).0
same_times o o' n g (Repeats p m) b h = many_times o o' (is_binding o p) (λ x k. same_times o o' n g p x k) m b h
same_times o o' n g p x h = absurd (cc)

-- a test that both sides pass together
pair_bits : (p q c c' : Bool) → (p ≡ true → q ≡ true → c ≡ c') → ((p && q) && c) ≡ ((p && q) && c')
pair_bits false q c c' h = refl
pair_bits true false c c' h = refl
pair_bits true true c c' h = h refl refl

split_bits : (p q c u v : Bool) → (((p && not u) && (q && not v)) && c) ≡ (((p && q) && c) && not (u || v))
split_bits false q c u v = refl
split_bits true false c true v = refl
split_bits true false c false v = refl
split_bits true true true true v = refl
split_bits true true false true v = refl
split_bits true true true false true = refl
split_bits true true true false false = refl
split_bits true true false false true = refl
split_bits true true false false false = refl

swap_bits : (i h c : Bool) → ((i && not h) && c) ≡ ((i && c) && not h)
swap_bits false h c = refl
swap_bits true true true = refl
swap_bits true true false = refl
swap_bits true false true = refl
swap_bits true false false = refl

-- the is_same_tree of sets
many_lasting : (n : ℕ) (f f' : BindTree → Bool) → ((x : BindTree) → f x ≡ (f' x && not (has n x))) → (j : ℕ) (x : BindTree) → are_repeats f j x ≡ (are_repeats f' j x && not (has n x))
many_lasting n f f' h zero x = refl
many_lasting n f f' h (suc zero) (Single a) = h a
many_lasting n f f' h (suc (suc j)) (More m a) =
    ap (λ z. z && f a && (nat_lt (greatest m) (greatest a) && disjoint m a)) (many_lasting n f f' h (suc j) m)
    ∙ ap (λ z. (are_repeats f' (suc j) m && not (has n m)) && z && (nat_lt (greatest m) (greatest a) && disjoint m a)) (h a)
    ∙ split_bits (are_repeats f' (suc j) m) (f' a) (nat_lt (greatest m) (greatest a) && disjoint m a) (has n m) (has n a)
many_lasting n f f' h (suc zero) (One i) = refl
many_lasting n f f' h (suc zero) (Pair a b) = refl
many_lasting n f f' h (suc zero) (First a) = refl
many_lasting n f f' h (suc zero) (Second a) = refl
many_lasting n f f' h (suc zero) Empty = refl
many_lasting n f f' h (suc zero) (More m a) = refl
many_lasting n f f' h (suc (suc j)) x = refl

one_bits : (p c c' : Bool) → (p ≡ true → c ≡ c') → (p && c) ≡ (p && c')
one_bits false c c' h = refl
one_bits true c c' h = h refl

-- a binding over the longer log without the new row is one over the shorter
pub lasting : (o o' : Observed) (n : ℕ) → Continues o o' n → (p : NumberedPattern) (x : BindTree) → is_binding o p x ≡ (is_binding o' p x && not (has n x))
lasting o o' n g (Leaf k) (One i) = g.holds k i
lasting o o' n g (Both p q) (Pair a b) =
    ap (λ z. z && is_binding o q b && disjoint a b) (lasting o o' n g p a)
    ∙ ap (λ z. (is_binding o' p a && not (has n a)) && z && disjoint a b) (lasting o o' n g q b)
    ∙ split_bits (is_binding o' p a) (is_binding o' q b) (disjoint a b) (has n a) (has n b)
lasting o o' n g (Then p q) (Pair a b) =
    pair_bits (is_binding o p a) (is_binding o q b)
    (int_le (latest o.last a) (earliest o.first b) && disjoint a b) (int_le (latest o'.last a) (earliest o'.first b) && disjoint a b)
    (λ ha hb. ap (λ z. int_le z (earliest o.first b) && disjoint a b) (same_times o o' n g p a ha).1
    ∙ ap (λ z. int_le (latest o'.last a) z && disjoint a b) (same_times o o' n g q b hb).0)
    ∙ ap (λ z. z && is_binding o q b && (int_le (latest o'.last a) (earliest o'.first b) && disjoint a b)) (lasting o o' n g p a)
    ∙ ap (λ z. (is_binding o' p a && not (has n a)) && z && (int_le (latest o'.last a) (earliest o'.first b) && disjoint a b)) (lasting o o' n g q b)
    ∙ split_bits (is_binding o' p a) (is_binding o' q b) (int_le (latest o'.last a) (earliest o'.first b) && disjoint a b) (has n a) (has n b)
lasting o o' n g (Either p q) (First a) = lasting o o' n g p a
lasting o o' n g (Either p q) (Second a) = lasting o o' n g q a
lasting o o' n g (Within p x) b =
    one_bits (is_binding o p b) (int_lt (latest o.last b) (later_by x (earliest o.first b))) (int_lt (latest o'.last b) (later_by x (earliest o'.first b)))
    (λ h. ap (λ z. int_lt z (later_by x (earliest o.first b))) (same_times o o' n g p b h).1
    ∙ ap (λ z. int_lt (latest o'.last b) (later_by x z)) (same_times o o' n g p b h).0)
    ∙ ap (λ z. z && int_lt (latest o'.last b) (later_by x (earliest o'.first b))) (lasting o o' n g p b)
    ∙ swap_bits (is_binding o' p b) (has n b) (int_lt (latest o'.last b) (later_by x (earliest o'.first b)))
lasting o o' n g (Between p x y) b =
    one_bits (is_binding o p b) (int_le x (earliest o.first b) && int_lt (latest o.last b) y) (int_le x (earliest o'.first b) && int_lt (latest o'.last b) y)
    (λ h. ap (λ z. int_le x z && int_lt (latest o.last b) y) (same_times o o' n g p b h).0
    ∙ ap (λ z. int_le x (earliest o'.first b) && int_lt z y) (same_times o o' n g p b h).1)
    ∙ ap (λ z. z && (int_le x (earliest o'.first b) && int_lt (latest o'.last b) y)) (lasting o o' n g p b)
    ∙ swap_bits (is_binding o' p b) (has n b) (int_le x (earliest o'.first b) && int_lt (latest o'.last b) y)
lasting o o' n g (Repeats p m) b = many_lasting n (is_binding o p) (is_binding o' p) (λ x. lasting o o' n g p x) m b
lasting o o' n g p x = refl

-- ---- what is held

map_same : (f g : BindTree → PartialMatchTree) (xs : List BindTree) → ((x : BindTree) → 0 < count x xs → f x ≡ g x) → map f xs ≡ map g xs
map_same f g [] h = refl
map_same f g (x ∷ xs) h =
    let me : is_same_tree x x ≡ true = same_self x in
    let one : f x ≡ g x = h x (rw me (omega arith)) in
    let rest : map f xs ≡ map g xs = map_same f g xs (λ y k. h y (omega (arith, k))) in
    cc

same_hold : (o o' : Observed) (x : BindTree) → SameTimes o o' x → partial_match_of o x ≡ partial_match_of o' x
same_hold o o' x e = ap (λ z. record { tree = x; earliest = z; latest = latest o.last x }) e.0 ∙ ap (λ z. record { tree = x; earliest = earliest o'.first x; latest = z }) e.1

lasting_store : (o o' : Observed) (n : ℕ) (s : ℤ) (v : Window) (f f' : BindTree → Bool) (held : List PartialMatchTree) →
    ((x : BindTree) → f x ≡ true → SameTimes o o' x) → ((x : BindTree) → f x ≡ (f' x && not (has n x))) →
    AreHeld o (λ x. f x && retains v (earliest o.first x) s) held →
    AreHeld o' (λ x. (f' x && not (has n x)) && retains v (earliest o'.first x) s) held
lasting_store o o' n s v f f' held times still (xs, is, each) = (
  xs,
  is ∙ map_same (partial_match_of o) (partial_match_of o') xs (λ x k.
      let binding : f x ≡ true = (and_parts _ _ (bit_positive (f x && retains v (earliest o.first x) s) (count x xs) (each x) k)).0 in
      same_hold o o' x (times x binding)),
  exactly_same (λ x. f x && retains v (earliest o.first x) s) (λ x. (f' x && not (has n x)) && retains v (earliest o'.first x) s) xs
      (λ x. one_bits (f x) (retains v (earliest o.first x) s) (retains v (earliest o'.first x) s) (λ h. ap (λ z. retains v z s) (times x h).0)
      ∙ ap (λ z. z && retains v (earliest o'.first x) s) (still x))
      each,
)

lasting_levels : (o o' : Observed) (n : ℕ) (s : ℤ) (w : Bounds) (f f' : ℕ → BindTree → Bool) (count : ℕ) →
    ((j : ℕ) (x : BindTree) → f j x ≡ true → SameTimes o o' x) → ((j : ℕ) (x : BindTree) → f j x ≡ (f' j x && not (has n x))) →
    (j : ℕ) (levels : List (List PartialMatchTree)) → LevelsStand o f s w count j levels → LevelsStand o' (λ i x. f' i x && not (has n x)) s w count j levels
lasting_levels o o' n s w f f' count times still j [] st = st
lasting_levels o o' n s w f f' count times still j (held ∷ levels) st = (
  lasting_store o o' n s (window_of w false) (f j) (f' j) held (times j) (still j) st.0,
  lasting_levels o o' n s w f f' count times still (suc j) levels st.1,
)

lasting_all_levels : (o o' : Observed) (n : ℕ) (s : ℤ) (w : Bounds) (f f' : ℕ → BindTree → Bool) (count : ℕ) →
    ((j : ℕ) (x : BindTree) → f j x ≡ true → SameTimes o o' x) → ((j : ℕ) (x : BindTree) → f j x ≡ (f' j x && not (has n x))) →
    (levels : List (List PartialMatchTree)) → AllLevelsStand o f s w count levels → AllLevelsStand o' (λ i x. f' i x && not (has n x)) s w count levels
lasting_all_levels o o' n s w f f' zero times still levels st = st
lasting_all_levels o o' n s w f f' (suc count) times still levels st = lasting_levels o o' n s w f f' (suc count) times still 1 levels st

lasting_sides : (o o' : Observed) (n : ℕ) (s : ℤ) (w : Bounds) (v : Window) (f f' g g' : BindTree → Bool) (sides : SideStores) →
    ((x : BindTree) → f x ≡ true → SameTimes o o' x) → ((x : BindTree) → f x ≡ (f' x && not (has n x))) →
    ((x : BindTree) → g x ≡ true → SameTimes o o' x) → ((x : BindTree) → g x ≡ (g' x && not (has n x))) →
    SidesStand o f g s w v sides → SidesStand o' (λ x. f' x && not (has n x)) (λ x. g' x && not (has n x)) s w v sides
lasting_sides o o' n s w v f f' g g' sides tf sf tg sg st = record {
  left_window = st.left_window;
  right_window = st.right_window;
  left = lasting_store o o' n s (window_of w false) f f' sides.left tf sf st.left;
  right = lasting_store o o' n s v g g' sides.right tg sg st.right;
}

pub lasting_stands : (o o' : Observed) (n : ℕ) (s : ℤ) → Continues o o' n →
    (p : NumberedPattern) (w : Bounds) (z : State) → Stands o (all_of o) s w p z → Stands o' (without n o') s w p z
lasting_stands o o' n s g (Leaf k) w (a_leaf leaf window) st = st
lasting_stands o o' n s g (Both p q) w (a_join join.Both l r sides) st = (
  lasting_stands o o' n s g p w l st.0,
  lasting_stands o o' n s g q w r st.1,
  lasting_sides o o' n s w (window_of w false) (is_binding o p) (is_binding o' p) (is_binding o q) (is_binding o' q) sides
      (same_times o o' n g p) (lasting o o' n g p) (same_times o o' n g q) (lasting o o' n g q) st.2,
)
lasting_stands o o' n s g (Then p q) w (a_join join.Then l r sides) st = (
  lasting_stands o o' n s g p w l st.0,
  lasting_stands o o' n s g q w r st.1,
  lasting_sides o o' n s w (window_of w true) (is_binding o p) (is_binding o' p) (is_binding o q) (is_binding o' q) sides
      (same_times o o' n g p) (lasting o o' n g p) (same_times o o' n g q) (lasting o o' n g q) st.2,
)
lasting_stands o o' n s g (Either p q) w (a_choice l r) st = (lasting_stands o o' n s g p w l st.0, lasting_stands o o' n s g q w r st.1)
lasting_stands o o' n s g (Within p x) w (a_limit part) st = lasting_stands o o' n s g p (within w x) part st
lasting_stands o o' n s g (Between p x y) w (a_limit part) st = lasting_stands o o' n s g p (between w x y) part st
lasting_stands o o' n s g (Repeats p m) w (a_chain part count window levels) st = (
  lasting_stands o o' n s g p w part st.0,
  st.1,
  st.2,
  lasting_all_levels o o' n s w (are_repeats (is_binding o p)) (are_repeats (is_binding o' p)) m
      (λ j x h. many_times o o' (is_binding o p) (same_times o o' n g p) j x h)
      (λ j x. many_lasting n (is_binding o p) (is_binding o' p) (lasting o o' n g p) j x) levels st.3,
)
lasting_stands o o' n s g p w z st = absurd st

-- ---- where nothing is a binding

pub no_sets : (f : BindTree → Bool) → ((x : BindTree) → f x ≡ false) → (j : ℕ) (x : BindTree) → are_repeats f j x ≡ false
no_sets f h zero x = refl
no_sets f h (suc zero) (Single a) = h a
no_sets f h (suc (suc j)) (More m a) = rw (no_sets f h (suc j) m) refl
no_sets f h j x = refl

any_store : (o : Observed) (f : BindTree → Bool) (v : Window) (s t : ℤ) (held : List PartialMatchTree) → ((x : BindTree) → f x ≡ false) →
    AreHeld o (λ x. f x && retains v (earliest o.first x) s) held → AreHeld o (λ x. f x && retains v (earliest o.first x) t) held
any_store o f v s t held h = held_same o (λ x. f x && retains v (earliest o.first x) s) (λ x. f x && retains v (earliest o.first x) t) held (λ x. let no = h x in rw no refl)

any_levels : (o : Observed) (f : ℕ → BindTree → Bool) (w : Bounds) (s t : ℤ) (n j : ℕ) (levels : List (List PartialMatchTree)) → ((j : ℕ) (x : BindTree) → f j x ≡ false) →
    LevelsStand o f s w n j levels → LevelsStand o f t w n j levels
any_levels o f w s t n j [] h st = st
any_levels o f w s t n j (held ∷ levels) h st = (any_store o (f j) (window_of w false) s t held (h j) st.0, any_levels o f w s t n (suc j) levels h st.1)

any_all_levels : (o : Observed) (f : ℕ → BindTree → Bool) (w : Bounds) (s t : ℤ) (n : ℕ) (levels : List (List PartialMatchTree)) → ((j : ℕ) (x : BindTree) → f j x ≡ false) →
    AllLevelsStand o f s w n levels → AllLevelsStand o f t w n levels
any_all_levels o f w s t zero levels h st = st
any_all_levels o f w s t (suc n) levels h st = any_levels o f w s t (suc n) 1 levels h st

any_sides : (o : Observed) (f g : BindTree → Bool) (w : Bounds) (v : Window) (s t : ℤ) (sides : SideStores) → ((x : BindTree) → f x ≡ false) → ((x : BindTree) → g x ≡ false) →
    SidesStand o f g s w v sides → SidesStand o f g t w v sides
any_sides o f g w v s t sides hf hg st = record {
  left_window = st.left_window;
  right_window = st.right_window;
  left = any_store o f (window_of w false) s t sides.left hf st.left;
  right = any_store o g v s t sides.right hg st.right;
}

-- what stands at one time stands at all
pub any_time : (o : Observed) → ((p : NumberedPattern) (x : BindTree) → is_binding o p x ≡ false) → (s t : ℤ) →
    (p : NumberedPattern) (w : Bounds) (z : State) → Stands o (all_of o) s w p z → Stands o (all_of o) t w p z
any_time o h s t (Leaf k) w (a_leaf leaf window) st = st
any_time o h s t (Both p q) w (a_join join.Both l r sides) st =
    (any_time o h s t p w l st.0, any_time o h s t q w r st.1, any_sides o (is_binding o p) (is_binding o q) w (window_of w false) s t sides (h p) (h q) st.2)
any_time o h s t (Then p q) w (a_join join.Then l r sides) st =
    (any_time o h s t p w l st.0, any_time o h s t q w r st.1, any_sides o (is_binding o p) (is_binding o q) w (window_of w true) s t sides (h p) (h q) st.2)
any_time o h s t (Either p q) w (a_choice l r) st = (any_time o h s t p w l st.0, any_time o h s t q w r st.1)
any_time o h s t (Within p x) w (a_limit part) st = any_time o h s t p (within w x) part st
any_time o h s t (Between p x y) w (a_limit part) st = any_time o h s t p (between w x y) part st
any_time o h s t (Repeats p m) w (a_chain part count window levels) st = (
  any_time o h s t p w part st.0,
  st.1,
  st.2,
  any_all_levels o (are_repeats (is_binding o p)) w s t m levels (no_sets (is_binding o p) (h p)) st.3,
)
any_time o h s t p w z st = absurd st
