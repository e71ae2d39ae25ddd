-- Levels one after another, and those that aren't made.
use Rattle.std.proofs.Common.{◌≡◌, subst, ℕ, zero, suc, ◌+◌, ◌-◌, ◌≤◌, ◌<◌, List, [], ◌∷◌, ◌++◌, length, refl, sym, ◌∙◌, ap, arith, ℤ, append-nil, length-append}
use Rattle.match_pruning.specs.declared.window.Window.{Window}
use Rattle.match_pruning.specs.declared.join.Join.TheVariants as join
use Rattle.match_pruning.specs.declared.partial_match.PartialMatch.{PartialMatch}
use Rattle.match_pruning.specs.PartialMatchTree.{PartialMatchTree}
use Rattle.match_pruning.specs.inner.PartialMatches.{partial_match_trees}
use Rattle.match_stream.specs.RetainedPart.{held_count}
use Rattle.match_pruning.specs.inner.Steps.{kept, stored, match_joins, levels_new, levels_after, no_levels, levels_above, all_levels, risen, raised, repeated_sets}
use Rattle.match_pruning.specs.inner.Needed.{PendingLeftTrees, needed, needed_trees}
use Rattle.match_stream.specs.inner.Totals.{AdmitLevels}

pub new_append : (w : Window) (t : ℤ) (first new : List PartialMatchTree) (xs ys : List (List PartialMatchTree)) →
    levels_new w t first new (xs ++ ys) ≡ levels_new w t (levels_new w t first new xs) new ys
new_append w t first new [] ys = refl
new_append w t first new (x ∷ xs) ys = new_append w t (match_joins join.Repeats (kept w t x) new) new xs ys

pub after_append : (w : Window) (t : ℤ) (first new : List PartialMatchTree) (xs ys : List (List PartialMatchTree)) →
    levels_after w t first new (xs ++ ys) ≡ levels_after w t first new xs ++ levels_after w t (levels_new w t first new xs) new ys
after_append w t first new [] ys = refl
after_append w t first new (x ∷ xs) ys = ap (λ z. stored w t x first ∷ z) (after_append w t (match_joins join.Repeats (kept w t x) new) new xs ys)

-- nothing is new above a level that holds nothing
none_new : (w : Window) (t : ℤ) (new : List PartialMatchTree) (k : ℕ) → levels_new w t [] new (no_levels k) ≡ []
none_new w t new zero = refl
none_new w t new (suc k) = none_new w t new k

none_after : (w : Window) (t : ℤ) (new : List PartialMatchTree) (k : ℕ) → levels_after w t [] new (no_levels k) ≡ no_levels k
none_after w t new zero = refl
none_after w t new (suc k) = ap (λ z. [] ∷ z) (none_after w t new k)

pub above_new : (w : Window) (t : ℤ) (first new : List PartialMatchTree) (k : ℕ) → levels_new w t first new (no_levels k) ≡ risen k first
above_new w t first new zero = refl
above_new w t first new (suc k) = none_new w t new k

pub above_after : (w : Window) (t : ℤ) (first new : List PartialMatchTree) (k : ℕ) → levels_after w t first new (no_levels k) ≡ raised w t k first
above_after w t first new zero = refl
above_after w t first new (suc k) = ap (λ z. kept w t first ∷ z) (none_after w t new k)

pub length_after : (w : Window) (t : ℤ) (first new : List PartialMatchTree) (xs : List (List PartialMatchTree)) → length (levels_after w t first new xs) ≡ length xs
length_after w t first new [] = refl
length_after w t first new (x ∷ xs) = ap suc (length_after w t (match_joins join.Repeats (kept w t x) new) new xs)

-- one level more
pub after_more : (w : Window) (t : ℤ) (first new : List PartialMatchTree) (xs : List (List PartialMatchTree)) (x : List PartialMatchTree) (made : List (List PartialMatchTree)) (sets : List PartialMatchTree) →
    made ≡ levels_after w t first new xs → sets ≡ levels_new w t first new xs → made ++ stored w t x sets ∷ [] ≡ levels_after w t first new (xs ++ x ∷ [])
after_more w t first new xs x made sets e f =
    ap (λ z. z ++ stored w t x sets ∷ []) e
    ∙ ap (λ z. levels_after w t first new xs ++ stored w t x z ∷ []) f
    ∙ sym (after_append w t first new xs (x ∷ []))

pub new_more : (w : Window) (t : ℤ) (first new : List PartialMatchTree) (xs : List (List PartialMatchTree)) (x : List PartialMatchTree) →
    match_joins join.Repeats (kept w t x) new ≡ levels_new w t first new (xs ++ x ∷ [])
new_more w t first new xs x = sym (new_append w t first new xs (x ∷ []))

-- the levels that are made, and those above them
pub all_new : (w : Window) (t : ℤ) (first new : List PartialMatchTree) (count : ℕ) (xs made : List (List PartialMatchTree)) (sets : List PartialMatchTree) →
    made ≡ levels_after w t first new xs → sets ≡ levels_new w t first new xs →
    risen (levels_above count made) sets ≡ levels_new w t first new (all_levels count xs)
all_new w t first new count xs made sets e f =
    let same : length made ≡ length xs = ap length e ∙ length_after w t first new xs in
    ap (λ n. risen (count - 1 - n) sets) same
    ∙ ap (risen (levels_above count xs)) f
    ∙ sym (above_new w t (levels_new w t first new xs) new (levels_above count xs))
    ∙ sym (new_append w t first new xs (no_levels (levels_above count xs)))

pub all_after : (w : Window) (t : ℤ) (first new : List PartialMatchTree) (count : ℕ) (xs made : List (List PartialMatchTree)) (sets : List PartialMatchTree) →
    made ≡ levels_after w t first new xs → sets ≡ levels_new w t first new xs →
    made ++ raised w t (levels_above count made) sets ≡ levels_after w t first new (all_levels count xs)
all_after w t first new count xs made sets e f =
    let same : length made ≡ length xs = ap length e ∙ length_after w t first new xs in
    ap (λ n. made ++ raised w t (count - 1 - n) sets) same
    ∙ ap (λ z. z ++ raised w t (levels_above count xs) sets) e
    ∙ ap (λ z. levels_after w t first new xs ++ raised w t (levels_above count xs) z) f
    ∙ ap (λ z. levels_after w t first new xs ++ z) (sym (above_after w t (levels_new w t first new xs) new (levels_above count xs)))
    ∙ sym (after_append w t first new xs (no_levels (levels_above count xs)))

-- ---- how much they hold

held_append : (xs ys : List (List PartialMatchTree)) → held_count (xs ++ ys) ≡ held_count xs + held_count ys
held_append [] ys = omega arith
held_append (x ∷ xs) ys = omega (arith, held_append xs ys)

pub held_more : (xs : List (List PartialMatchTree)) (x : List PartialMatchTree) → held_count (xs ++ x ∷ []) ≡ held_count xs + length x
held_more xs x = omega (arith, held_append xs (x ∷ []))

length_stored : (w : Window) (t : ℤ) (x f : List PartialMatchTree) → length (stored w t x f) ≡ length (kept w t x) + length (kept w t f)
length_stored w t x f = length-append (kept w t x) (kept w t f)

-- what is new at a level is held there, or is the answer
levels_hold : (w : Window) (t : ℤ) (f n : List PartialMatchTree) (zs : List (List PartialMatchTree)) → AdmitLevels w t f n zs →
    length f ≤ held_count (levels_after w t f n zs) + length (levels_new w t f n zs)
levels_hold w t f n [] a = omega arith
levels_hold w t f n (z ∷ zs) a =
    let same = ap length a.0 in let sum = length_stored w t z f in
    omega (arith, same, sum)

admit_rest : (w : Window) (t : ℤ) (f n : List PartialMatchTree) (ys zs : List (List PartialMatchTree)) → AdmitLevels w t f n (ys ++ zs) → AdmitLevels w t (levels_new w t f n ys) n zs
admit_rest w t f n [] zs a = a
admit_rest w t f n (y ∷ ys) zs a = admit_rest w t (match_joins join.Repeats (kept w t y) n) n ys zs a.1

-- at a level that is made there is no budget
pub made_full : (w : Window) (t : ℤ) (f n : List PartialMatchTree) (ys : List (List PartialMatchTree)) (x : List PartialMatchTree) (rest : List (List PartialMatchTree)) (budget left : ℕ) →
    left + held_count (levels_after w t f n ys) ≡ budget → left < length (stored w t x (levels_new w t f n ys)) + length (match_joins join.Repeats (kept w t x) n) →
    AdmitLevels w t f n (ys ++ x ∷ rest) →
    budget < held_count (levels_after w t f n (ys ++ x ∷ rest)) + length (levels_new w t f n (ys ++ x ∷ rest))
made_full w t f n ys x rest budget left is over a =
    let g = match_joins join.Repeats (kept w t x) n in
    let all = ap held_count (after_append w t f n ys (x ∷ rest)) ∙ held_append (levels_after w t f n ys) (levels_after w t (levels_new w t f n ys) n (x ∷ rest)) in
    let last = ap length (new_append w t f n ys (x ∷ rest)) in
    let hold = levels_hold w t g n rest (admit_rest w t f n ys (x ∷ rest) a).1 in
    omega (arith, all, last, hold, is, over)

-- what is new above some levels is held in the next one
pub prefix_held : (w : Window) (t : ℤ) (f n : List PartialMatchTree) (ys : List (List PartialMatchTree)) (x : List PartialMatchTree) (rest : List (List PartialMatchTree)) → AdmitLevels w t f n (ys ++ x ∷ rest) →
    held_count (levels_after w t f n ys) + length (levels_new w t f n ys) ≤ held_count (levels_after w t f n (ys ++ x ∷ rest))
prefix_held w t f n ys x rest a =
    let all = ap held_count (after_append w t f n ys (x ∷ rest)) ∙ held_append (levels_after w t f n ys) (levels_after w t (levels_new w t f n ys) n (x ∷ rest)) in
    let same = ap length (admit_rest w t f n ys (x ∷ rest) a).0 in
    let sum = length_stored w t x (levels_new w t f n ys) in
    omega (arith, all, same, sum)

-- ---- all levels are made

none_above : (count : ℕ) (xs : List (List PartialMatchTree)) → length xs + 1 ≡ count → all_levels count xs ≡ xs
none_above count xs h = (let none : count - 1 - length xs ≡ 0 = omega arith in ap (λ k. xs ++ no_levels k) none) ∙ append-nil xs

pub last_new : (w : Window) (t : ℤ) (ahead : List PendingLeftTrees) (f n : List PartialMatchTree) (count : ℕ) (ys : List (List PartialMatchTree)) (x : List PartialMatchTree) → length ys + 2 ≡ count →
    needed t ahead (match_joins join.Repeats (kept w t x) n) ≡ needed_trees count t ahead (levels_new w t f n (all_levels count (ys ++ x ∷ [])))
last_new w t ahead f n zero ys x h = absurd (omega arith)
last_new w t ahead f n (suc zero) ys x h = absurd (omega arith)
last_new w t ahead f n (suc (suc k)) ys x h =
    ap (needed t ahead) (new_more w t f n ys x)
    ∙ ap (λ z. needed t ahead (levels_new w t f n z)) (sym (none_above (suc (suc k)) (ys ++ x ∷ []) (omega (arith, length-append ys (x ∷ [])))))

pub last_after : (w : Window) (t : ℤ) (f n : List PartialMatchTree) (count : ℕ) (ys : List (List PartialMatchTree)) (x : List PartialMatchTree) (made : List (List PartialMatchTree)) (sets : List PartialMatchTree) →
    length ys + 2 ≡ count → made ≡ levels_after w t f n ys → sets ≡ levels_new w t f n ys →
    made ++ stored w t x sets ∷ [] ≡ levels_after w t f n (all_levels count (ys ++ x ∷ []))
last_after w t f n count ys x made sets h e g =
    after_more w t f n ys x made sets e g
    ∙ ap (levels_after w t f n) (sym (none_above count (ys ++ x ∷ []) (omega (arith, length-append ys (x ∷ [])))))

pub all_made : (w : Window) (t : ℤ) (f n : List PartialMatchTree) (count : ℕ) (ys : List (List PartialMatchTree)) (x : List PartialMatchTree) (made : List (List PartialMatchTree)) → length ys + 2 ≡ count →
    made ≡ levels_after w t f n (all_levels count (ys ++ x ∷ [])) → all_levels count made ≡ levels_after w t f n (all_levels count (ys ++ x ∷ []))
all_made w t f n count ys x made h e =
    let whole = none_above count (ys ++ x ∷ []) (omega (arith, length-append ys (x ∷ []))) in
    let long = ap length (e ∙ ap (levels_after w t f n) whole) ∙ length_after w t f n (ys ++ x ∷ []) ∙ length-append ys (x ∷ []) in
    none_above count made (omega (arith, h, long)) ∙ e

-- ---- not all are made

-- what is needed_trees of what ascends
pub risen_chosen : (w : Window) (t : ℤ) (ahead : List PendingLeftTrees) (f n : List PartialMatchTree) (count : ℕ) (xs : List (List PartialMatchTree)) (sets : List PartialMatchTree) → length xs ≤ count - 1 →
    (2 ≤ count → length xs + 1 < count) → risen (levels_above count xs) sets ≡ levels_new w t f n (all_levels count xs) →
    repeated_sets count (risen (levels_above count xs) sets) ≡ needed_trees count t ahead (levels_new w t f n (all_levels count xs))
risen_chosen w t ahead f n zero xs sets few more e = refl
risen_chosen w t ahead f n (suc zero) xs sets few more e = e
risen_chosen w t ahead f n (suc (suc k)) xs sets few more e =
    let less = more (omega arith) in
    let some : levels_above (suc (suc k)) xs ≡ suc (k - length xs) = omega (arith, less) in
    let none : risen (levels_above (suc (suc k)) xs) sets ≡ [] = ap (λ m. risen m sets) some in
    none ∙ ap (needed t ahead) (sym none ∙ e)

none_held : (k : ℕ) → held_count (no_levels k) ≡ 0
none_held zero = refl
none_held (suc k) = omega (arith, none_held k)

pub raised_held : (w : Window) (t : ℤ) (k : ℕ) (sets : List PartialMatchTree) → held_count (raised w t (suc k) sets) ≡ length (kept w t sets)
raised_held w t k sets = omega (arith, none_held k)

-- ---- one row at all levels, where these were made: those below the last, and the last

pub record Made (w : Window) (t : ℤ) (f n : List PartialMatchTree) (ys : List (List PartialMatchTree)) (made : List (List PartialMatchTree)) (sets : List PartialMatchTree) (left budget : ℕ) : Type 0 where
  pub kept : made ≡ levels_after w t f n ys
  pub new : sets ≡ levels_new w t f n ys
  pub counted : left + held_count (levels_after w t f n ys) ≡ budget

pub last_counted : (w : Window) (t : ℤ) (f n : List PartialMatchTree) (count : ℕ) (ys : List (List PartialMatchTree)) (x : List PartialMatchTree) (made : List (List PartialMatchTree)) (sets : List PartialMatchTree) (left budget : ℕ) →
    length ys + 2 ≡ count → Made w t f n ys made sets left budget →
    held_count (levels_after w t f n (all_levels count (ys ++ x ∷ []))) + left ≡ budget + length (stored w t x sets)
last_counted w t f n count ys x made sets left budget h m =
    let all = ap held_count (sym (last_after w t f n count ys x made sets h m.kept m.new)) ∙ held_more made (stored w t x sets) in
    let before = ap held_count m.kept in
    omega (arith, all, before, m.counted)

pub above_counted : (w : Window) (t : ℤ) (f n : List PartialMatchTree) (count : ℕ) (xs : List (List PartialMatchTree)) (made : List (List PartialMatchTree)) (sets : List PartialMatchTree) (left budget : ℕ) →
    Made w t f n xs made sets left budget →
    held_count (levels_after w t f n (all_levels count xs)) + left ≡ budget + held_count (raised w t (levels_above count made) sets)
above_counted w t f n count xs made sets left budget m =
    let all = ap held_count (sym (all_after w t f n count xs made sets m.kept m.new)) ∙ held_append made (raised w t (levels_above count made) sets) in
    let before = ap held_count m.kept in
    omega (arith, all, before, m.counted)

-- where there is no budget for what is made
pub none_full : (w : Window) (t : ℤ) (f n : List PartialMatchTree) (count : ℕ) (xs : List (List PartialMatchTree)) (budget : ℕ) → 0 < length xs → length xs ≤ count - 1 → (2 ≤ count → length xs + 1 < count) →
    budget < held_count (levels_after w t f n xs) + length (levels_new w t f n xs) → AdmitLevels w t f n (all_levels count xs) →
    budget < held_count (levels_after w t f n (all_levels count xs))
none_full w t f n count xs budget some few more over a =
    let less = more (omega (arith, some, few)) in
    let next : levels_above count xs ≡ suc (count - 2 - length xs) = omega (arith, less) in
    let whole : all_levels count xs ≡ xs ++ [] ∷ no_levels (count - 2 - length xs) = ap (λ k. xs ++ no_levels k) next in
    let hold = prefix_held w t f n xs [] (no_levels (count - 2 - length xs)) (subst (AdmitLevels w t f n) whole a) in
    let all = ap (λ z. held_count (levels_after w t f n z)) whole in
    omega (arith, hold, all, over)

pub last_full : (w : Window) (t : ℤ) (f n : List PartialMatchTree) (count : ℕ) (ys : List (List PartialMatchTree)) (x : List PartialMatchTree) (budget : ℕ) → length ys + 2 ≡ count →
    budget < held_count (levels_after w t f n ys) + length (levels_new w t f n ys) → AdmitLevels w t f n (all_levels count (ys ++ x ∷ [])) →
    budget < held_count (levels_after w t f n (all_levels count (ys ++ x ∷ [])))
last_full w t f n count ys x budget h over a =
    let whole = none_above count (ys ++ x ∷ []) (omega (arith, length-append ys (x ∷ []))) in
    let hold = prefix_held w t f n ys x [] (subst (AdmitLevels w t f n) whole a) in
    let all = ap (λ z. held_count (levels_after w t f n z)) whole in
    omega (arith, hold, all, over)

pub admit_part : (w : Window) (t : ℤ) (f n : List PartialMatchTree) (ys zs : List (List PartialMatchTree)) → AdmitLevels w t f n (ys ++ zs) → AdmitLevels w t f n ys
admit_part w t f n [] zs a = tt
admit_part w t f n (y ∷ ys) zs a = (a.0, admit_part w t (match_joins join.Repeats (kept w t y) n) n ys zs a.1)

-- ---- what ascends

pub raised_empty : (w : Window) (t : ℤ) (k : ℕ) (sets : List PartialMatch) → length sets ≡ 0 → held_count (raised w t k (partial_match_trees sets)) ≡ 0
raised_empty w t zero sets h = refl
raised_empty w t (suc k) [] h = raised_held w t k []
raised_empty w t (suc k) (x ∷ sets) h = absurd (omega arith)

pub raised_some : (w : Window) (t : ℤ) (count : ℕ) (xs : List (List PartialMatchTree)) (sets : List PartialMatchTree) → length xs + 1 < count →
    held_count (raised w t (levels_above count xs) sets) ≡ length (kept w t sets)
raised_some w t count xs sets h =
    let next : levels_above count xs ≡ suc (count - 2 - length xs) = omega (arith, h) in
    ap (λ k. held_count (raised w t k sets)) next ∙ raised_held w t (count - 2 - length xs) sets

pub admit_last : (w : Window) (t : ℤ) (f n : List PartialMatchTree) (count : ℕ) (ys : List (List PartialMatchTree)) (x : List PartialMatchTree) → length ys + 2 ≡ count →
    AdmitLevels w t f n (all_levels count (ys ++ x ∷ [])) → AdmitLevels w t f n ys
admit_last w t f n count ys x h a =
    admit_part w t f n ys (x ∷ []) (subst (AdmitLevels w t f n) (none_above count (ys ++ x ∷ []) (omega (arith, length-append ys (x ∷ [])))) a)
