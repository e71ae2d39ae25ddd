-- What begins too early isn't needed.
use Rattle.std.proofs.Common.{subst, Less, Greater, ◌≡◌, ℤ, ◌≤ℤ◌, List, [], ◌∷◌, refl, sym, ◌∙◌, ap, inl, inr, arith}
use Rattle.std.specs.Prelude.{Bool, true, false, int_le, int_lt, ◌&&◌, Option, Some, None}
use Rattle.std.specs.Cmp.{int_cmp_is}
use Rattle.std.specs.Int.{int_min}
use Rattle.std.specs.List.{Contains, list_any}
use Rattle.std.specs.Ordering.{is_lt, int_cmp}
use Rattle.std.proofs.lemmas.Bool.{and_parts, or_cases, or_parts}
use Rattle.std.proofs.lemmas.Int.{ints, clamps}
use Rattle.match_bindings.proofs.IsBindingLemmas.{apart_to, lt_true, le_true, true_le}
use Rattle.match_bindings.specs.BindTree.{has}
use Rattle.match_pruning.specs.declared.join.Join.{Join}
use Rattle.match_pruning.specs.declared.join.Join.TheVariants as join
use Rattle.match_pruning.specs.declared.earliest_start.EarliestStart.{EarliestStart}
use Rattle.match_pruning.specs.PartialMatchTree.{PartialMatchTree}
use Rattle.match_pruning.specs.inner.Retains.{is_ahead, retains}
use Rattle.match_pruning.specs.inner.CompletionBounds.{covers, MayBegin, MayEndOperand}
use Rattle.match_pruning.specs.inner.Steps.{joined_matches, may_join, match_join_row}
use Rattle.match_pruning.specs.inner.Needed.{PendingLeftTrees, is_needed, needed}
use Rattle.match_pruning.proofs.RetainsLemmas.{le_trans, le_both, le_false, lt_false}
use Rattle.match_pruning.proofs.CompletionBoundLemmas.{any_item, join_begins}

-- tests of order
pub lt_before : (a b : ℤ) → is_lt (int_cmp a b) ≡ true → a ≤ℤ b
lt_before a b h = by (int_le a b) refl where
  by : (c : Bool) → int_le a b ≡ c → a ≤ℤ b
  by true is = le_true a b is
  by false is = absurd (let e : true ≡ false = sym h ∙ ap is_lt (sym (int_cmp_is a b Greater (le_false a b is))) in cc)

pub not_lt_after : (a b : ℤ) → is_lt (int_cmp a b) ≡ false → b ≤ℤ a
not_lt_after a b h = by (int_lt a b) refl where
  by : (c : Bool) → int_lt a b ≡ c → b ≤ℤ a
  by false is = lt_false a b is
  by true is = absurd (let e : false ≡ true = sym h ∙ ap is_lt (sym (int_cmp_is a b Less (lt_true a b is))) in cc)

-- a later time is earliest start it, too
pub earliest_start_later : (earliest_start : Option ℤ) (a b : ℤ) → a ≤ℤ b → covers earliest_start a ≡ true → covers earliest_start b ≡ true
earliest_start_later None a b h k = refl
earliest_start_later (Some s) a b h k = true_le s b (le_trans s a b (le_true s a k) h)

pub min_left : (a b : ℤ) → int_min a b ≤ℤ a
min_left a b = omega (arith, ints, clamps)

-- one side more ahead
pub earliest_start_more : (now : ℤ) (x : PendingLeftTrees) (ahead : List PendingLeftTrees) (above result : EarliestStart) (p : PartialMatchTree) → (x.window.after_left ≡ false → result.start ≡ None) →
    (x.window.after_left ≡ true → covers result.start now ≡ true) → (x.window.after_left ≡ true → result.start ≡ Some now → result.taken ≡ None) →
    (x.window.after_left ≡ true → (left : PartialMatchTree) → Contains x.left left → MayBegin above left → MayEndOperand result left) →
    ((left : PartialMatchTree) → Contains x.left left → left.earliest ≤ℤ left.latest) →
    ((q : PartialMatchTree) → is_needed now ahead q ≡ true → MayBegin above q) → is_needed now (x ∷ ahead) p ≡ true → MayBegin result p
earliest_start_more now x ahead above result p any at_now free_now held span all wants = by x.window.after_left refl where
  by : (b : Bool) → x.window.after_left ≡ b → MayBegin result p
  by false is = record {
    covered = ap (λ (r : Option ℤ). covers r p.earliest) (any is);
    free = λ n t e. absurd (let f : None ≡ Some p.earliest = sym (any is) ∙ e in cc);
  }
  by true is = elim (or_cases (retains x.window p.earliest now) (list_any (λ (l : PartialMatchTree). may_join join.Then l p && is_needed now ahead (joined_matches join.Then l p)) x.left) wants) [
    | inl retained ↦ (
        let ahead_of_now : is_ahead true p.earliest now ≡ true = ap (λ (b : Bool). is_ahead b p.earliest now) (sym is) ∙ (and_parts _ _ retained).0 in
        let after = le_true now p.earliest ahead_of_now in
        record {
          covered = earliest_start_later result.start now p.earliest after (at_now is);
          free = λ n t e.
              let begins : p.earliest ≤ℤ now = le_true p.earliest now (ap (λ (r : Option ℤ). covers r now) (sym e) ∙ at_now is) in
              let same : p.earliest ≡ now = le_both p.earliest now begins after in
              absurd (let f : None ≡ Some n = sym (free_now is (e ∙ ap Some same)) ∙ t in cc);
        })
    | inr one ↦ (
        let found = any_item _ x.left one in let l = found.0 in let parts = and_parts _ _ found.2 in
        let begins = join_begins p l (span l found.1) parts.0 in
        let joins = all (joined_matches join.Then l p) parts.1 in
        let may : MayBegin above l = record {
          covered = subst (λ (t : ℤ). covers above.start t ≡ true) begins.0 joins.covered;
          free = λ n t e. (or_parts (has n l.tree) (has n p.tree) (joins.free n t (e ∙ ap Some (sym begins.0)))).0;
        } in
        let ends = held is l found.1 may in
        let order = le_true l.latest p.earliest (and_parts _ _ parts.0).0 in
        record {
          covered = earliest_start_later result.start l.latest p.earliest order ends.covered;
          free = λ n t e.
              let first : p.earliest ≤ℤ l.latest = le_true p.earliest l.latest (ap (λ (r : Option ℤ). covers r l.latest) (sym e) ∙ ends.covered) in
              let same : p.earliest ≡ l.latest = le_both p.earliest l.latest first order in
              apart_to l.tree p.tree (and_parts _ _ parts.0).1 n (ends.taken n t (e ∙ ap Some same));
        })
  ]

-- nothing is needed of what is joined_matches with a thing that begins before
pub row_too_early : (now : ℤ) (ahead : List PendingLeftTrees) (earliest_start : Option ℤ) (j : Join) (x : PartialMatchTree) (ys : List PartialMatchTree) →
    ((q : PartialMatchTree) → is_needed now ahead q ≡ true → covers earliest_start q.earliest ≡ true) → covers earliest_start x.earliest ≡ false → needed now ahead (match_join_row j x ys) ≡ []
row_too_early now ahead earliest_start j x [] all early = refl
row_too_early now ahead earliest_start j x (y ∷ ys) all early = by (may_join j x y) refl (row_too_early now ahead earliest_start j x ys all early) where
  not_needed : (b : Bool) → is_needed now ahead (joined_matches j x y) ≡ b → is_needed now ahead (joined_matches j x y) ≡ false
  not_needed false is = is
  not_needed true is = absurd (let e : false ≡ true
      = sym early ∙ earliest_start_later earliest_start (joined_matches j x y).earliest x.earliest (min_left x.earliest y.earliest) (all (joined_matches j x y) is) in cc)

  by : (b : Bool) → may_join j x y ≡ b → needed now ahead (match_join_row j x ys) ≡ [] → needed now ahead (match_join_row j x (y ∷ ys)) ≡ []
  by false is rest = rw is rest
  by true is rest = rw is (let out : is_needed now ahead (joined_matches j x y) ≡ false = not_needed (is_needed now ahead (joined_matches j x y)) refl in rw out rest)
