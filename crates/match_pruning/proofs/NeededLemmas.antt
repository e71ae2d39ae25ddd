-- What is needed: pending lefts one by one, and match_joins of which only what is needed is made.
use Rattle.std.proofs.Common.{◌≡◌, ℕ, ◌+◌, ◌≤◌, ◌<◌, ℤ, List, [], ◌∷◌, ◌++◌, length, get_or, take, drop, refl, sym, ◌∙◌, ap, arith, length-append, append_assoc}
use Rattle.std.specs.Prelude.{Bool, true, false, ◌&&◌, ◌||◌, map, filter}
use Rattle.std.specs.List.{Contains, list_any}
use Rattle.std.proofs.lemmas.List.{take-append-drop, length-map}
use Rattle.std.proofs.lemmas.List.Elements.{filter-append}
use Rattle.std.proofs.lemmas.List.Folds.{list_any_at}
use Rattle.match_bindings.proofs.ListLemmas.{map_append}
use Rattle.match_pruning.specs.declared.join.Join.{Join}
use Rattle.match_pruning.specs.declared.join.Join.TheVariants as join
use Rattle.match_pruning.specs.declared.pending_left.PendingLeft.{PendingLeft}
use Rattle.match_pruning.specs.declared.partial_match.PartialMatch.{PartialMatch}
use Rattle.match_pruning.specs.declared.window.Window.{Window}
use Rattle.match_pruning.specs.PartialMatchTree.{PartialMatchTree}
use Rattle.match_pruning.specs.inner.Retains.{retains}
use Rattle.match_pruning.specs.inner.PartialMatches.{partial_match_tree, partial_match_trees}
use Rattle.match_pruning.specs.inner.Steps.{joined_matches, may_join, match_join_row, match_joins, kept}
use Rattle.match_pruning.specs.inner.Needed.{PendingLeftTrees, is_needed, needed}
use Rattle.match_pruning.specs.inner.PendingLefts.{pending_left_trees, pending_lefts_from, pending_lefts_of}
use Rattle.match_pruning.proofs.OldestLemmas.{next_taken}

-- one pending left more is the innermost
from_more : (above : List PendingLeftTrees) (pending_lefts : List PendingLeft) (x : PendingLeft) → pending_lefts_from above (pending_lefts ++ x ∷ []) ≡ pending_left_trees x ∷ pending_lefts_from above pending_lefts
from_more above [] x = refl
from_more above (y ∷ pending_lefts) x = from_more (pending_left_trees y ∷ above) pending_lefts x

pub pending_lefts_more : (pending_lefts : List PendingLeft) (x : PendingLeft) → pending_lefts_of (pending_lefts ++ x ∷ []) ≡ pending_left_trees x ∷ pending_lefts_of pending_lefts
pending_lefts_more pending_lefts x = from_more [] pending_lefts x

-- ---- a row of a join

pub row_append : (now : ℤ) (ahead : List PendingLeftTrees) (j : Join) (x : PartialMatchTree) (us vs : List PartialMatchTree) →
    needed now ahead (match_join_row j x (us ++ vs)) ≡ needed now ahead (match_join_row j x us) ++ needed now ahead (match_join_row j x vs)
row_append now ahead j x us vs =
    ap (λ z. needed now ahead (map (joined_matches j x) z)) (filter-append (may_join j x) us vs)
    ∙ ap (needed now ahead) (map_append (joined_matches j x) (filter (may_join j x) us) (filter (may_join j x) vs))
    ∙ filter-append (is_needed now ahead) (match_join_row j x us) (match_join_row j x vs)

pub row_part : (now : ℤ) (ahead : List PendingLeftTrees) (j : Join) (x : PartialMatchTree) (ys : List PartialMatch) (at : ℕ) →
    length (needed now ahead (match_join_row j x (partial_match_trees (take at ys)))) ≤ length (needed now ahead (match_join_row j x (partial_match_trees ys)))
row_part now ahead j x ys at =
    let whole : partial_match_trees ys ≡ partial_match_trees (take at ys) ++ partial_match_trees (drop at ys)
    = ap partial_match_trees (sym (take-append-drop at ys)) ∙ map_append partial_match_tree (take at ys) (drop at ys) in
    let parts = ap (λ z. length (needed now ahead (match_join_row j x z))) whole
    ∙ ap length (row_append now ahead j x (partial_match_trees (take at ys)) (partial_match_trees (drop at ys)))
    ∙ length-append (needed now ahead (match_join_row j x (partial_match_trees (take at ys)))) (needed now ahead (match_join_row j x (partial_match_trees (drop at ys)))) in
    omega (arith, parts)

-- ---- all rows

pub joins_append : (now : ℤ) (ahead : List PendingLeftTrees) (j : Join) (us vs ys : List PartialMatchTree) →
    needed now ahead (match_joins j (us ++ vs) ys) ≡ needed now ahead (match_joins j us ys) ++ needed now ahead (match_joins j vs ys)
joins_append now ahead j [] vs ys = refl
joins_append now ahead j (u ∷ us) vs ys =
    filter-append (is_needed now ahead) (match_join_row j u ys) (match_joins j (us ++ vs) ys)
    ∙ ap (λ z. needed now ahead (match_join_row j u ys) ++ z) (joins_append now ahead j us vs ys)
    ∙ sym (assoc (needed now ahead (match_join_row j u ys)) (needed now ahead (match_joins j us ys)) (needed now ahead (match_joins j vs ys)))
    ∙ ap (λ z. z ++ needed now ahead (match_joins j vs ys)) (sym (filter-append (is_needed now ahead) (match_join_row j u ys) (match_joins j us ys))) where
      assoc : (a b c : List PartialMatchTree) → (a ++ b) ++ c ≡ a ++ (b ++ c)
      assoc [] b c = refl
      assoc (x ∷ a) b c = ap (λ z. x ∷ z) (assoc a b c)

joins_one : (now : ℤ) (ahead : List PendingLeftTrees) (j : Join) (x : PartialMatchTree) (ys : List PartialMatchTree) → needed now ahead (match_joins j (x ∷ []) ys) ≡ needed now ahead (match_join_row j x ys)
joins_one now ahead j x ys = ap (needed now ahead) (none (match_join_row j x ys)) where
  none : (a : List PartialMatchTree) → a ++ [] ≡ a
  none [] = refl
  none (x ∷ a) = ap (λ z. x ∷ z) (none a)

pub joins_more : (now : ℤ) (ahead : List PendingLeftTrees) (j : Join) (xs : List PartialMatch) (ys : List PartialMatchTree) (at : ℕ) (d : PartialMatch) → at < length xs →
    needed now ahead (match_joins j (partial_match_trees (take (at + 1) xs)) ys)
    ≡ needed now ahead (match_joins j (partial_match_trees (take at xs)) ys) ++ needed now ahead (match_join_row j (partial_match_tree (get_or xs at d)) ys)
joins_more now ahead j xs ys at d h =
    ap (λ z. needed now ahead (match_joins j z ys)) (next_taken xs at d h)
    ∙ joins_append now ahead j (partial_match_trees (take at xs)) (partial_match_tree (get_or xs at d) ∷ []) ys
    ∙ ap (λ z. needed now ahead (match_joins j (partial_match_trees (take at xs)) ys) ++ z) (joins_one now ahead j (partial_match_tree (get_or xs at d)) ys)

-- one row more, or nothing of it
pub joins_grown : (now : ℤ) (ahead : List PendingLeftTrees) (j : Join) (xs : List PartialMatch) (ys : List PartialMatchTree) (at : ℕ) (d : PartialMatch) (old mid : List PartialMatchTree) → at < length xs →
    mid ≡ old ++ needed now ahead (match_joins j (partial_match_trees (take at xs)) ys) →
    mid ++ needed now ahead (match_join_row j (partial_match_tree (get_or xs at d)) ys) ≡ old ++ needed now ahead (match_joins j (partial_match_trees (take (at + 1) xs)) ys)
joins_grown now ahead j xs ys at d old mid h is =
    ap (λ z. z ++ needed now ahead (match_join_row j (partial_match_tree (get_or xs at d)) ys)) is
    ∙ append_assoc old (needed now ahead (match_joins j (partial_match_trees (take at xs)) ys)) (needed now ahead (match_join_row j (partial_match_tree (get_or xs at d)) ys))
    ∙ ap (λ z. old ++ z) (sym (joins_more now ahead j xs ys at d h))

pub joins_part : (now : ℤ) (ahead : List PendingLeftTrees) (j : Join) (xs : List PartialMatch) (ys : List PartialMatchTree) (at : ℕ) →
    length (needed now ahead (match_joins j (partial_match_trees (take at xs)) ys)) ≤ length (needed now ahead (match_joins j (partial_match_trees xs) ys))
joins_part now ahead j xs ys at =
    let whole : partial_match_trees xs ≡ partial_match_trees (take at xs) ++ partial_match_trees (drop at xs)
    = ap partial_match_trees (sym (take-append-drop at xs)) ∙ map_append partial_match_tree (take at xs) (drop at xs) in
    let parts = ap (λ z. length (needed now ahead (match_joins j z ys))) whole
    ∙ ap length (joins_append now ahead j (partial_match_trees (take at xs)) (partial_match_trees (drop at xs)) ys)
    ∙ length-append (needed now ahead (match_joins j (partial_match_trees (take at xs)) ys)) (needed now ahead (match_joins j (partial_match_trees (drop at xs)) ys)) in
    omega (arith, parts)

-- ---- a part of what retains

pub kept_part : (w : Window) (now : ℤ) (xs : List PartialMatch) (at : ℕ) → length (kept w now (partial_match_trees (take at xs))) ≤ length (kept w now (partial_match_trees xs))
kept_part w now xs at =
    let whole : partial_match_trees xs ≡ partial_match_trees (take at xs) ++ partial_match_trees (drop at xs)
    = ap partial_match_trees (sym (take-append-drop at xs)) ∙ map_append partial_match_tree (take at xs) (drop at xs) in
    let parts = ap (λ z. length (kept w now z)) whole
    ∙ ap length (filter-append (λ h. retains w h.earliest now) (partial_match_trees (take at xs)) (partial_match_trees (drop at xs)))
    ∙ length-append (kept w now (partial_match_trees (take at xs))) (kept w now (partial_match_trees (drop at xs))) in
    omega (arith, parts)

pub kept_more : (w : Window) (now : ℤ) (xs : List PartialMatch) (at : ℕ) (d : PartialMatch) → at < length xs → retains w (get_or xs at d).earliest now ≡ true →
    length (kept w now (partial_match_trees (take at xs))) + 1 ≤ length (kept w now (partial_match_trees xs))
kept_more w now xs at d h retained =
    let next : kept w now (partial_match_trees (take (at + 1) xs)) ≡ kept w now (partial_match_trees (take at xs)) ++ partial_match_tree (get_or xs at d) ∷ []
    = ap (kept w now) (next_taken xs at d h)
    ∙ filter-append (λ h. retains w h.earliest now) (partial_match_trees (take at xs)) (partial_match_tree (get_or xs at d) ∷ [])
    ∙ (rw retained refl) in
    let longer = ap length next ∙ length-append (kept w now (partial_match_trees (take at xs))) (partial_match_tree (get_or xs at d) ∷ []) in
    omega (arith, longer, kept_part w now xs (at + 1))

-- ---- a test of all that is held

pub any_of : (f : PartialMatchTree → Bool) (xs : List PartialMatchTree) (x : PartialMatchTree) → Contains xs x → f x ≡ true → list_any f xs ≡ true
any_of f xs x h excludes = list_any_at f xs h.0 x h.1 (ap f h.2 ∙ excludes)

pub or_true : (a : Bool) → (a || true) ≡ true
or_true true = refl
or_true false = refl

pub needed_by : (now : ℤ) (pending_lefts : List PendingLeft) (above : List PendingLeft) (x : PendingLeft) (p : PartialMatchTree) → pending_lefts ≡ above ++ x ∷ [] →
    is_needed now (pending_lefts_of pending_lefts) p
    ≡ (retains x.window p.earliest now || list_any (λ (h : PartialMatchTree). may_join join.Then h p && is_needed now (pending_lefts_of above) (joined_matches join.Then h p)) (partial_match_trees x.left.held.items))
needed_by now pending_lefts above x p is = ap (λ z. is_needed now (pending_lefts_of z) p) is ∙ ap (λ z. is_needed now z p) (pending_lefts_more above x)

-- ---- where there is no budget

-- a row passes what is left
pub joins_full : (now : ℤ) (ahead : List PendingLeftTrees) (j : Join) (xs : List PartialMatch) (ys : List PartialMatchTree) (at : ℕ) (d : PartialMatch) (budget : ℕ) (out old : List PartialMatch) → at < length xs →
    budget < length out + length (needed now ahead (match_join_row j (partial_match_tree (get_or xs at d)) ys)) →
    partial_match_trees out ≡ partial_match_trees old ++ needed now ahead (match_joins j (partial_match_trees (take at xs)) ys) →
    budget < length old + length (needed now ahead (match_joins j (partial_match_trees xs) ys))
joins_full now ahead j xs ys at d budget out old h over is =
    let more = ap length (joins_more now ahead j xs ys at d h)
    ∙ length-append (needed now ahead (match_joins j (partial_match_trees (take at xs)) ys)) (needed now ahead (match_join_row j (partial_match_tree (get_or xs at d)) ys)) in
    let long = sym (length-map out partial_match_tree) ∙ ap length is ∙ length-append (partial_match_trees old) (needed now ahead (match_joins j (partial_match_trees (take at xs)) ys)) in
    omega (arith, more, long, over, joins_part now ahead j xs ys (at + 1), length-map old partial_match_tree)

-- nothing is joined_matches with nothing
pub none_joined : (now : ℤ) (ahead : List PendingLeftTrees) (j : Join) (out xs : List PartialMatchTree) (ys : List PartialMatch) → length ys ≡ 0 → out ≡ out ++ needed now ahead (match_joins j xs (partial_match_trees ys))
none_joined now ahead j out xs [] h = sym (none out) ∙ ap (λ z. out ++ needed now ahead z) (sym (no_joins xs)) where
  none : (a : List PartialMatchTree) → a ++ [] ≡ a
  none [] = refl
  none (x ∷ a) = ap (λ z. x ∷ z) (none a)

  no_joins : (xs : List PartialMatchTree) → match_joins j xs [] ≡ []
  no_joins [] = refl
  no_joins (x ∷ xs) = no_joins xs
none_joined now ahead j out xs (y ∷ ys) h = absurd (omega arith)

-- ---- where all is needed

pub needed_all : (now : ℤ) (xs : List PartialMatchTree) → needed now [] xs ≡ xs
needed_all now [] = refl
needed_all now (x ∷ xs) = ap (λ z. x ∷ z) (needed_all now xs)
