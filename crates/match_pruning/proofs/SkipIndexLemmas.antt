-- What is joined_matches in vain adds nothing that is needed.
use Rattle.std.proofs.Common.{◌≡◌, ℕ, zero, suc, ◌+◌, ◌-◌, ◌≤◌, ◌<◌, ℤ, List, [], ◌∷◌, ◌++◌, length, get_or, take, refl, sym, ◌∙◌, ap, subst, arith, append-nil, length-append, inl, inr}
use Rattle.std.specs.Prelude.{Bool, true, false, Option, nat_eq, filter, slice_index_or}
use Rattle.std.specs.List.{AllWithin, Contains, list_any}
use Rattle.std.specs.List.Sorted.{IsNonDecreasing}
use Rattle.std.proofs.lemmas.Bool.{and_parts, cases_order, eqb-true}
use Rattle.std.proofs.lemmas.List.Elements.{All-contains, All-contains_itself, All-filter, filter_passes}
use Rattle.std.proofs.lemmas.Map.Views.{Contains-from_any}
use Rattle.std.proofs.lemmas.List.{length-map, get_or_default}
use Rattle.match_bindings.specs.BindTree.{has, disjoint}
use Rattle.match_pruning.specs.declared.join.Join.{Join}
use Rattle.match_pruning.specs.declared.join.Join.TheVariants as join
use Rattle.match_pruning.specs.declared.block.Block.{Block}
use Rattle.match_pruning.specs.declared.key.SortKey.{SortKey}
use Rattle.match_pruning.specs.declared.partial_match.PartialMatch.{PartialMatch}
use Rattle.match_pruning.specs.declared.query.Query.{Query}
use Rattle.match_pruning.specs.PartialMatchTree.{PartialMatchTree}
use Rattle.match_pruning.specs.inner.PartialMatches.{partial_match_tree, partial_match_trees}
use Rattle.match_pruning.specs.inner.CompletionBounds.{covers}
use Rattle.match_pruning.specs.inner.SkipIndexes.{HasCommon, IsCommonTo, IsLeftOperandQuery, CannotJoin, AreTried, BeginsEarly}
use Rattle.match_pruning.specs.inner.Steps.{joined_matches, may_join, match_join_row}
use Rattle.match_pruning.specs.inner.Needed.{PendingLeftTrees, is_needed, needed}
use Rattle.match_pruning.proofs.RetainsLemmas.{le_trans}
use Rattle.match_pruning.proofs.NumberLemmas.{apart}
use Rattle.match_pruning.proofs.OldestLemmas.{next_taken}
use Rattle.match_pruning.proofs.NeededLemmas.{row_append, row_part}

-- ---- pairs in vain

-- where the two share a number
may_be_apart : (j : Join) (x y : PartialMatchTree) → may_join j x y ≡ true → disjoint x.tree y.tree ≡ true
may_be_apart join.Both x y h = h
may_be_apart join.Then x y h = (and_parts _ _ h).1
may_be_apart join.Repeats x y h = h

pub shared_early : (earliest_start : Option ℤ) (j : Join) (x y : PartialMatchTree) (n : ℕ) → has n x.tree ≡ true → has n y.tree ≡ true → BeginsEarly earliest_start j x y
shared_early earliest_start j x y n left right = λ may.
    let out = apart n x.tree y.tree (may_be_apart j x y may) in
    absurd (let e : true ≡ false = sym (let l = left in let r = right in rw (l, r) refl) ∙ out in cc)

pub pair_vain : (now : ℤ) (ahead : List PendingLeftTrees) (earliest_start : Option ℤ) (j : Join) (x y : PartialMatchTree) →
    ((q : PartialMatchTree) → is_needed now ahead q ≡ true → covers earliest_start q.earliest ≡ true) → BeginsEarly earliest_start j x y →
    needed now ahead (match_join_row j x (y ∷ [])) ≡ []
pair_vain now ahead earliest_start j x y all early = by (may_join j x y) refl where
  not_needed : (b : Bool) → is_needed now ahead (joined_matches j x y) ≡ b → may_join j x y ≡ true → is_needed now ahead (joined_matches j x y) ≡ false
  not_needed false is may = is
  not_needed true is may = absurd (let e : false ≡ true = sym (early may) ∙ all (joined_matches j x y) is in cc)

  by : (b : Bool) → may_join j x y ≡ b → needed now ahead (match_join_row j x (y ∷ [])) ≡ []
  by false is = rw is refl
  by true is = rw is (let out : is_needed now ahead (joined_matches j x y) ≡ false = not_needed (is_needed now ahead (joined_matches j x y)) refl is in rw out refl)

-- ---- a row of a join, a pair at a time

pub row_more : (now : ℤ) (ahead : List PendingLeftTrees) (j : Join) (x : PartialMatchTree) (ys : List PartialMatch) (at : ℕ) (d : PartialMatch) → at < length ys →
    needed now ahead (match_join_row j x (partial_match_trees (take (at + 1) ys)))
    ≡ needed now ahead (match_join_row j x (partial_match_trees (take at ys))) ++ needed now ahead (match_join_row j x (partial_match_tree (get_or ys at d) ∷ []))
row_more now ahead j x ys at d h =
    ap (λ z. needed now ahead (match_join_row j x z)) (next_taken ys at d h)
    ∙ row_append now ahead j x (partial_match_trees (take at ys)) (partial_match_tree (get_or ys at d) ∷ [])

pub row_grown : (now : ℤ) (ahead : List PendingLeftTrees) (j : Join) (x : PartialMatchTree) (ys : List PartialMatch) (at : ℕ) (d : PartialMatch) (old mid : List PartialMatchTree) → at < length ys →
    mid ≡ old ++ needed now ahead (match_join_row j x (partial_match_trees (take at ys))) →
    mid ++ needed now ahead (match_join_row j x (partial_match_tree (get_or ys at d) ∷ [])) ≡ old ++ needed now ahead (match_join_row j x (partial_match_trees (take (at + 1) ys)))
row_grown now ahead j x ys at d old mid h is =
    ap (λ z. z ++ needed now ahead (match_join_row j x (partial_match_tree (get_or ys at d) ∷ []))) is
    ∙ append_assoc old (needed now ahead (match_join_row j x (partial_match_trees (take at ys)))) (needed now ahead (match_join_row j x (partial_match_tree (get_or ys at d) ∷ [])))
    ∙ ap (λ z. old ++ z) (sym (row_more now ahead j x ys at d h)) where
      append_assoc : (a b c : List PartialMatchTree) → (a ++ b) ++ c ≡ a ++ (b ++ c)
      append_assoc [] b c = refl
      append_assoc (y ∷ a) b c = ap (λ z. y ∷ z) (append_assoc a b c)

-- a pair passes what is left
pub row_full : (now : ℤ) (ahead : List PendingLeftTrees) (j : Join) (x : PartialMatchTree) (ys : List PartialMatch) (at : ℕ) (d : PartialMatch) (budget : ℕ) (out old : List PartialMatch) → at < length ys →
    budget < length out + length (needed now ahead (match_join_row j x (partial_match_tree (get_or ys at d) ∷ []))) →
    partial_match_trees out ≡ partial_match_trees old ++ needed now ahead (match_join_row j x (partial_match_trees (take at ys))) →
    budget < length old + length (needed now ahead (match_join_row j x (partial_match_trees ys)))
row_full now ahead j x ys at d budget out old h over is =
    let more = ap length (row_more now ahead j x ys at d h)
    ∙ length-append (needed now ahead (match_join_row j x (partial_match_trees (take at ys)))) (needed now ahead (match_join_row j x (partial_match_tree (get_or ys at d) ∷ []))) in
    let long = sym (length-map out partial_match_tree) ∙ ap length is ∙ length-append (partial_match_trees old) (needed now ahead (match_join_row j x (partial_match_trees (take at ys)))) in
    omega (arith, more, long, over, row_part now ahead j x ys (at + 1), length-map old partial_match_tree)

-- pairs in vain add nothing
pub rows_passed : (now : ℤ) (ahead : List PendingLeftTrees) (earliest_start : Option ℤ) (j : Join) (x : PartialMatchTree) (ys : List PartialMatch) (d : PartialMatch) (at more : ℕ) →
    ((q : PartialMatchTree) → is_needed now ahead q ≡ true → covers earliest_start q.earliest ≡ true) → at + more ≤ length ys →
    AllWithin (λ (y : PartialMatch). BeginsEarly earliest_start j x (partial_match_tree y)) ys at (at + more) →
    needed now ahead (match_join_row j x (partial_match_trees (take (at + more) ys))) ≡ needed now ahead (match_join_row j x (partial_match_trees (take at ys)))
rows_passed now ahead earliest_start j x ys d at zero all h early =
    let e : at + 0 ≡ at = omega arith in ap (λ z. needed now ahead (match_join_row j x (partial_match_trees (take z ys)))) e
rows_passed now ahead earliest_start j x ys d at (suc more) all h early =
    let here : at + more < length ys = omega (arith, h) in
    let vain = pair_vain now ahead earliest_start j x (partial_match_tree (get_or ys (at + more) d)) all (early (at + more) d (omega arith) (omega arith)) in
    let before = rows_passed now ahead earliest_start j x ys d at more all (omega (arith, h)) (λ k e low high. early k e low (omega (arith, high))) in
    let next : at + suc more ≡ (at + more) + 1 = omega arith in
    ap (λ z. needed now ahead (match_join_row j x (partial_match_trees (take z ys)))) next
    ∙ row_more now ahead j x ys (at + more) d here
    ∙ ap (λ z. needed now ahead (match_join_row j x (partial_match_trees (take (at + more) ys))) ++ z) vain
    ∙ append-nil (needed now ahead (match_join_row j x (partial_match_trees (take (at + more) ys))))
    ∙ before

-- ---- what is left of numbers

pub common_of : (test : ℕ → Bool) (numbers : List ℕ) (n : ℕ) → Contains (filter test numbers) n → Contains numbers n
common_of test numbers n there = All-contains (Contains numbers) (filter test numbers) n (All-filter test (Contains numbers) numbers (All-contains_itself numbers)) there

pub common_in : (others numbers : List ℕ) (n : ℕ) → Contains (filter (λ m. list_any (nat_eq m) others) numbers) n → Contains others n
common_in others numbers n there =
    let test = λ (m : ℕ). list_any (nat_eq m) others in
    Contains-from_any (λ a b e. eqb-true a b e) n others (All-contains (λ m. test m ≡ true) (filter test numbers) n (filter_passes test numbers) there)

-- ---- places that are tried

-- what lies between one place and the next isn't among them
pub between : (places : List ℕ) (at done i d : ℕ) → IsNonDecreasing places → at < length places → AllWithin (λ place. place < done) places 0 at →
    done ≤ i → i < slice_index_or places at d → ¬ (Contains places i)
between places at done i d sift_up h before low high there =
    let k = there.0 in
    elim (cases_order k at) [
      | inl e ↦ (let same : slice_index_or places at d ≡ i = get_or_default places at d i h ∙ ap (λ z. slice_index_or places z i) (sym e) ∙ there.2 in omega (arith, same, high))
      | inr z ↦ elim z [
        | inl lt ↦ (let under = before k i (omega arith) lt in omega (arith, under, there.2, low))
        | inr gt ↦ (
            let over : slice_index_or places at i ≤ slice_index_or places k i = sift_up at k i (omega (arith, gt)) there.1 in
            let same = get_or_default places at d i h in
            omega (arith, over, same, there.2, high))
      ]
    ]

-- nor what lies after left all
pub after_left : (places : List ℕ) (at done i : ℕ) → length places ≤ at → AllWithin (λ place. place < done) places 0 at → done ≤ i → ¬ (Contains places i)
after_left places at done i h before low there = let under = before there.0 i (omega arith) (omega (arith, there.1, h)) in omega (arith, under, there.2, low)

rows_between : (now : ℤ) (ahead : List PendingLeftTrees) (earliest_start : Option ℤ) (j : Join) (x : PartialMatchTree) (ys : List PartialMatch) (d : PartialMatch) (at to more : ℕ) → to ≡ at + more →
    ((q : PartialMatchTree) → is_needed now ahead q ≡ true → covers earliest_start q.earliest ≡ true) → to ≤ length ys →
    AllWithin (λ (y : PartialMatch). BeginsEarly earliest_start j x (partial_match_tree y)) ys at to →
    needed now ahead (match_join_row j x (partial_match_trees (take to ys))) ≡ needed now ahead (match_join_row j x (partial_match_trees (take at ys)))
rows_between now ahead earliest_start j x ys d at to more is all h early =
    ap (λ z. needed now ahead (match_join_row j x (partial_match_trees (take z ys)))) is
    ∙ rows_passed now ahead earliest_start j x ys d at more all (subst (λ z. z ≤ length ys) is h) (subst (λ z. AllWithin (λ (y : PartialMatch). BeginsEarly earliest_start j x (partial_match_tree y)) ys at z) is early)

-- all up to the next place is in vain
pub up_to_place : (now : ℤ) (ahead : List PendingLeftTrees) (earliest_start : Option ℤ) (j : Join) (x : PartialMatchTree) (ys : List PartialMatch) (d : PartialMatch) (places : List ℕ) (at done place : ℕ) →
    ((q : PartialMatchTree) → is_needed now ahead q ≡ true → covers earliest_start q.earliest ≡ true) → AreTried earliest_start j x ys places → at < length places → place ≡ slice_index_or places at place →
    AllWithin (λ place. place < done) places 0 at → done ≤ place → place ≤ length ys →
    needed now ahead (match_join_row j x (partial_match_trees (take place ys))) ≡ needed now ahead (match_join_row j x (partial_match_trees (take done ys)))
up_to_place now ahead earliest_start j x ys d places at done place all tried h is before order within =
    rows_between now ahead earliest_start j x ys d done place (place - done) (omega (arith, order)) all within (λ k e low high.
    elim (tried.others k (omega (arith, high, within))) [
      | inl there ↦ absurd (between places at done k place tried.sift_up h before low (subst (λ z. k < z) is high) there)
      | inr early ↦ early e
    ])

-- and all after left the last one
pub up_to_end : (now : ℤ) (ahead : List PendingLeftTrees) (earliest_start : Option ℤ) (j : Join) (x : PartialMatchTree) (ys : List PartialMatch) (d : PartialMatch) (places : List ℕ) (at done : ℕ) →
    ((q : PartialMatchTree) → is_needed now ahead q ≡ true → covers earliest_start q.earliest ≡ true) → AreTried earliest_start j x ys places → length places ≤ at →
    AllWithin (λ place. place < done) places 0 at → done ≤ length ys →
    needed now ahead (match_join_row j x (partial_match_trees (take (length ys) ys))) ≡ needed now ahead (match_join_row j x (partial_match_trees (take done ys)))
up_to_end now ahead earliest_start j x ys d places at done all tried h before order =
    rows_between now ahead earliest_start j x ys d done (length ys) (length ys - done) (omega (arith, order)) all (omega arith) (λ k e low high.
    elim (tried.others k high) [
      | inl there ↦ absurd (after_left places at done k h before low there)
      | inr early ↦ early e
    ])

-- ---- what is told of keys

-- what has what a key tells has what its block does
pub common_over : (block : Block) (key : SortKey) (partial_match : PartialMatchTree) → IsCommonTo block key → HasCommon key.numbers.items key.begin partial_match → HasCommon block.common.items block.begin partial_match
common_over block key partial_match over h = record {
  binds = λ n there. h.binds n (over.numbers n there);
  begins = le_trans partial_match.earliest key.begin block.begin h.begins over.begins;
}

pub vain_told : (j : Join) (time : Option ℤ) (first second : PartialMatchTree) (query : Query) → IsLeftOperandQuery j time first query → CannotJoin query second → BeginsEarly time j first second
vain_told j time first second query h vain =
    let own : IsLeftOperandQuery query.join query.earliest_start.start first query = record { join = refl; earliest_start = refl; binds = h.binds; ends = h.ends } in
    subst (λ (t : Option ℤ). BeginsEarly t j first second) h.earliest_start (subst (λ (k : Join). BeginsEarly query.earliest_start.start k first second) h.join (vain first own))
