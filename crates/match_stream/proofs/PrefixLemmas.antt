-- The listing of a log is what the listing of a longer log begins with.
use Rattle.std.proofs.Common.{◌≡◌, ℕ, zero, suc, ◌+◌, ◌*◌, ◌≤◌, ◌<◌, List, [], ◌∷◌, ◌++◌, length, refl, sym, ◌∙◌, ap, subst, arith, append_assoc, append-nil, inl, inr}
use Rattle.std.specs.Prelude.{Bool, true, false, ◌&&◌, not, nat_le, ◌⊎◌, filter, cond}
use Rattle.std.proofs.lemmas.Bool.{leb-true, le-leb, cases_order}
use Rattle.match_bindings.specs.declared.log_entry.LogEntry.{LogEntry}
use Rattle.match_bindings.specs.NumberedPattern.{NumberedPattern}
use Rattle.match_bindings.specs.BindTree.{BindTree, has, greatest}
use Rattle.match_bindings.specs.Log.{Observed, observed_in}
use Rattle.match_bindings.specs.Test.{is_binding}
use Rattle.match_bindings.specs.Once.{bit, is_same_tree, count, Exactly}
use Rattle.match_bindings.specs.Flat.{comes_before, Ascends}
use Rattle.match_bindings.specs.Listing.{IsListing}
use Rattle.match_bindings.proofs.OnceLemmas.{same_self, count_append, count_filter}
use Rattle.match_bindings.proofs.FlatLemmas.{tail_ascends}
use Rattle.match_pruning.proofs.NumberLemmas.{has_greatest, greatest_binding, old_binding}
use Rattle.match_stream.proofs.StoreLemmas.{bit_positive}
use Rattle.match_stream.proofs.LastingLemmas.{lasting}
use Rattle.match_stream.proofs.LogLemmas.{holds_inside, length_more, continues}
use Rattle.match_stream.proofs.ListingLemmas.{ByTest, lesser_first, ascends_append}

-- in an ascending list each tree comes before all after it
abbrev pub Ordered : Type 0
Ordered = (x : BindTree) (xs : List BindTree) → Ascends (x ∷ xs) → (y : BindTree) → 0 < count y xs → comes_before x y ≡ true

abbrev pub OneListing : Type 0
OneListing = (o : Observed) (p : NumberedPattern) (xs ys : List BindTree) → IsListing o p xs → IsListing o p ys → xs ≡ ys

le_false : (m n : ℕ) → n < m → nat_le m n ≡ false
le_false m n h = by (nat_le m n) refl where
  by : (b : Bool) → nat_le m n ≡ b → nat_le m n ≡ false
  by false e = e
  by true e = absurd (let k : m ≤ n = leb-true m n e in omega arith)

above : (m n : ℕ) → nat_le m n ≡ false → n < m
above m n e = by (cases_order m n) where
  no : m ≤ n → ⊥
  no h = let yes_it_is : nat_le m n ≡ true = le-leb m n h in let both : true ≡ false = sym yes_it_is ∙ e in cc

  by : (m ≡ n) ⊎ ((m < n) ⊎ (n < m)) → n < m
  by (inl is_same_tree) = absurd (no (omega arith))
  by (inr (inl less)) = absurd (no (omega arith))
  by (inr (inr more)) = more

-- over a log, what a longer one binds by numbers of the log
last_bits : (i j k h : Bool) (len g : ℕ) → i ≡ (j && not h) → j ≡ (k && nat_le g (suc len)) → (j ≡ true → h ≡ true → suc len ≤ g) → (j ≡ true → h ≡ false → g < suc len) →
    i ≡ (k && nat_le g len)
last_bits i j false h len g a b c d = a ∙ ap (λ z. z && not h) b
last_bits i false true h len g a b c d =
    let over : suc len < g = above g (suc len) (sym b) in
    let no = le_false g len (omega arith) in rw no a
last_bits i true true true len g a b c d = let no = le_false g len (let e : suc len ≤ g = c refl refl in omega arith) in rw no a
last_bits i true true false len g a b c d = let yes_it_is = le-leb g len (let e : g < suc len = d refl refl in omega arith) in rw yes_it_is a

no_more : (b c : Bool) → (b ≡ true → c ≡ true) → b ≡ (b && c)
no_more true c h = sym (h refl)
no_more false c h = refl

lasting_long : (more log : List LogEntry) (p : NumberedPattern) (x : BindTree) →
    is_binding (observed_in log) p x ≡ (is_binding (observed_in (log ++ more)) p x && nat_le (greatest x) (length log))
lasting_long [] log p x =
    subst (λ (l : List LogEntry). is_binding (observed_in log) p x ≡ (is_binding (observed_in l) p x && nat_le (greatest x) (length log))) (sym (append-nil log))
    (no_more (is_binding (observed_in log) p x) (nat_le (greatest x) (length log))
    (λ h. le-leb (greatest x) (length log) (greatest_binding (observed_in log) (length log) (holds_inside log) p x h)))
lasting_long (r ∷ more) log p x =
    subst (λ (l : List LogEntry). is_binding (observed_in log) p x ≡ (is_binding (observed_in l) p x && nat_le (greatest x) (length log))) (append_assoc log (r ∷ []) more)
    (last_bits (is_binding (observed_in log) p x) (is_binding (observed_in (log ++ r ∷ [])) p x) (is_binding (observed_in ((log ++ r ∷ []) ++ more)) p x) (has (suc (length log)) x)
    (length log) (greatest x)
    (lasting (observed_in log) (observed_in (log ++ r ∷ [])) (suc (length log)) (continues log r) p x)
    (lasting_long more (log ++ r ∷ []) p x ∙ ap (λ n. is_binding (observed_in ((log ++ r ∷ []) ++ more)) p x && nat_le (greatest x) n) (length_more log r))
    (λ b h. has_greatest (suc (length log)) x h)
    (λ b h. old_binding (observed_in (log ++ r ∷ [])) (suc (length log)) counted p x b h)) where
      counted : (k i : ℕ) → (observed_in (log ++ r ∷ [])).holds k i ≡ true → i ≤ suc (length log)
      counted k i h = let within_log : i ≤ length (log ++ r ∷ []) = holds_inside (log ++ r ∷ []) k i h in omega (arith, within_log, length_more log r)

-- ---- ascending lists

ascends_cons : (x : BindTree) (zs : List BindTree) → Ascends zs → ((y : BindTree) → 0 < count y zs → comes_before x y ≡ true) → Ascends (x ∷ zs)
ascends_cons x [] ascends h = tt
ascends_cons x (z ∷ zs) ascends h = let me : is_same_tree z z ≡ true = same_self z in (h z (rw me (omega arith)), ascends)

some_left : (b n m : ℕ) → n ≡ b * m → 0 < n → 0 < m
some_left b n zero e h = absurd (omega (arith, e, h))
some_left b n (suc m) e h = omega arith

pub ascends_filter : Ordered → (g : BindTree → Bool) (xs : List BindTree) → Ascends xs → Ascends (filter g xs)
ascends_filter ordered g [] ascends = tt
ascends_filter ordered g (x ∷ xs) ascends = by (g x) (ascends_filter ordered g xs (tail_ascends x xs ascends)) where
  by : (b : Bool) → Ascends (filter g xs) → Ascends (cond b (x ∷ filter g xs) (filter g xs))
  by false ih = ih
  by true ih = ascends_cons x (filter g xs) ih (λ y k. ordered x xs ascends y (some_left (bit (g y)) (count y (filter g xs)) (count y xs) (count_filter y g xs) k))

-- ---- the longer listing

sum_bits : (b c : Bool) → bit (b && c) + bit (not c) * bit b ≡ bit b
sum_bits true true = refl
sum_bits true false = refl
sum_bits false true = refl
sum_bits false false = refl

not_and : (c : Bool) (n m : ℕ) → n ≡ bit (not c) * m → 0 < n → c ≡ false
not_and false n m e h = refl
not_and true n m e h = absurd (omega (arith, e, h))

pub prefix_law : ByTest → OneListing → Ordered → (p : NumberedPattern) (log more : List LogEntry) (xs ys : List BindTree) →
    IsListing (observed_in log) p xs → IsListing (observed_in (log ++ more)) p ys → (zs : List BindTree) × (ys ≡ xs ++ zs)
prefix_law test one ordered p log more xs ys hx hy = (
  filter (λ x. not (nat_le (greatest x) (length log))) ys,
  one (observed_in (log ++ more)) p ys (xs ++ filter (λ x. not (nat_le (greatest x) (length log))) ys) hy listed,
) where
  old : Exactly (is_binding (observed_in log) p) xs × Ascends xs
  old = (test (observed_in log) p xs).0 hx

  all : Exactly (is_binding (observed_in (log ++ more)) p) ys × Ascends ys
  all = (test (observed_in (log ++ more)) p ys).0 hy

  exactly : (x : BindTree) → count x (xs ++ filter (λ x. not (nat_le (greatest x) (length log))) ys) ≡ bit (is_binding (observed_in (log ++ more)) p x)
  exactly x =
      let here : count x xs ≡ bit (is_binding (observed_in (log ++ more)) p x && nat_le (greatest x) (length log)) = old.0 x ∙ ap bit (lasting_long more log p x) in
      let there : count x (filter (λ x. not (nat_le (greatest x) (length log))) ys) ≡ bit (not (nat_le (greatest x) (length log))) * bit (is_binding (observed_in (log ++ more)) p x) =
      count_filter x (λ x. not (nat_le (greatest x) (length log))) ys ∙ ap (λ n. bit (not (nat_le (greatest x) (length log))) * n) (all.0 x) in
      count_append x xs (filter (λ x. not (nat_le (greatest x) (length log))) ys)
      ∙ (rw (here, there) (sum_bits (is_binding (observed_in (log ++ more)) p x) (nat_le (greatest x) (length log))))

  before : (x y : BindTree) → 0 < count x xs → 0 < count y (filter (λ x. not (nat_le (greatest x) (length log))) ys) → comes_before x y ≡ true
  before x y kx ky =
      let b : is_binding (observed_in log) p x ≡ true = bit_positive (is_binding (observed_in log) p x) (count x xs) (old.0 x) kx in
      let low : greatest x ≤ length log = greatest_binding (observed_in log) (length log) (holds_inside log) p x b in
      let no = not_and (nat_le (greatest y) (length log)) (count y (filter (λ x. not (nat_le (greatest x) (length log))) ys)) (count y ys) (count_filter y (λ x. not (nat_le (greatest x) (length log))) ys) ky in
      let high : length log < greatest y = above (greatest y) (length log) no in
      lesser_first x y (omega arith)

  listed : IsListing (observed_in (log ++ more)) p (xs ++ filter (λ x. not (nat_le (greatest x) (length log))) ys)
  listed = (test (observed_in (log ++ more)) p (xs ++ filter (λ x. not (nat_le (greatest x) (length log))) ys)).1
      (exactly, ascends_append xs (filter (λ x. not (nat_le (greatest x) (length log))) ys) old.1 (ascends_filter ordered (λ x. not (nat_le (greatest x) (length log))) ys all.1) before)
