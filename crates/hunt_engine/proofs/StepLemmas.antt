-- One lazy matcher more takes the row; and the marks taken off again.
use Rattle.std.proofs.Common.{◌≡◌, ℕ, zero, suc, ◌+◌, ◌≤◌, ◌<◌, ℤ, List, [], ◌∷◌, ◌++◌, length, set, refl, sym, ◌∙◌, ap, subst, arith, inl, inr, append-nil}
use Rattle.std.specs.Prelude.{◌⊎◌, Bool, true, false, nat_eq, Option, Some, Contains, map, slice_get}
use Rattle.std.proofs.lemmas.List.{length-set, map-append}
use Rattle.std.proofs.lemmas.Bool.{eq-eqb, ne_eqb}
use Rattle.std.proofs.lemmas.Option.{slice_get_within}
use Rattle.pattern_types.specs.declared.pattern.Pattern.{Pattern}
use Rattle.match_bindings.specs.declared.log_entry.LogEntry.{LogEntry}
use Rattle.match_bindings.specs.declared.bind.Bind.{Bind}
use Rattle.match_bindings.specs.BindTree.{BindTree, tree_of}
use Rattle.hunt_engine.specs.declared.found.Hit.{Hit}
use Rattle.hunt_engine.specs.declared.next_row.NextRow.{NextRow}
use Rattle.hunt_engine.specs.declared.brackets.BracketRange.{BracketRange}
use Rattle.hunt_engine.specs.LazyMatcherState.{LazyMatcherState, Follows}
use Rattle.hunt_engine.specs.EngineAnswer.{binds_at}
use Rattle.hunt_engine.specs.inner.Table.{part_of}
use Rattle.hunt_feed.specs.Indicators.{IsAscending}
use Rattle.hunt_engine.specs.inner.Following.{EndsLogAt}
use Rattle.hunt_engine.specs.inner.Round.{FollowsRow, TookSome, StillFollow, found_of}
use Rattle.hunt_engine.proofs.PositionLemmas.{same_or_other, seam, got, get_one, get_set, get_set_other}
use Rattle.hunt_engine.proofs.EvaluateLemmas.{below_or_at}

-- ---- what is found

binds_append : (position : ℕ) (xs ys : List Hit) → binds_at position (xs ++ ys) ≡ binds_at position xs ++ binds_at position ys
binds_append position [] ys = refl
binds_append position (f ∷ xs) ys = by (nat_eq f.hunted position) refl (binds_append position xs ys) where
  by : (b : Bool) → nat_eq f.hunted position ≡ b → binds_at position (xs ++ ys) ≡ binds_at position xs ++ binds_at position ys → binds_at position (f ∷ xs ++ ys) ≡ binds_at position (f ∷ xs) ++ binds_at position ys
  by true e rest = rw e (ap (λ l. tree_of f.bind ∷ l) rest)
  by false e rest = rw e rest

own_binds : (position : ℕ) (binds : List Bind) → binds_at position (map (found_of position) binds) ≡ map tree_of binds
own_binds position [] = refl
own_binds position (b ∷ binds) = let same : nat_eq position position ≡ true = eq-eqb position position refl in rw same (ap (λ l. tree_of b ∷ l) (own_binds position binds))

other_binds : (position other : ℕ) → (other ≡ position → ⊥) → (binds : List Bind) → binds_at position (map (found_of other) binds) ≡ []
other_binds position other apart [] = refl
other_binds position other apart (b ∷ binds) = let it_isnt : nat_eq other position ≡ false = ne_eqb other position apart in rw it_isnt (other_binds position other apart binds)

-- what is found is of the position
own_position : (position : ℕ) (binds : List Bind) (k n : ℕ) → slice_get (map (λ f. f.hunted) (map (found_of position) binds)) k ≡ Some n → n ≡ position
own_position position [] k n h = absurd (cc)
own_position position (b ∷ binds) zero n h = cc
own_position position (b ∷ binds) (suc k) n h = own_position position binds k n h

module _ (row : NextRow) (retained_limit : ℕ) (bracket_ranges : List BracketRange) (marks : List Bool) (affected : List ℕ) (i : ℕ) (old now : List LazyMatcherState) (found : List Hit)
    (took : TookSome row retained_limit bracket_ranges marks affected i old now found) (ascend : IsAscending affected) (position : ℕ) (position_is : slice_get affected i ≡ Some position)
    (before after : LazyMatcherState) (before_is : slice_get now position ≡ Some before) (inside : position < length now) (bracket_range : BracketRange) (stretch_is : slice_get bracket_ranges position ≡ Some bracket_range)
    (binds : List Bind) (takes : FollowsRow row retained_limit (part_of bracket_range marks) before after (map tree_of binds)) where
  abbrev new_found : List Hit
  new_found = found ++ map (found_of position) binds

  -- the position isn't one of those before
  not_before : (k : ℕ) → k < i → slice_get affected k ≡ Some position → ⊥
  not_before k h is = let less = ascend k i position position h is position_is in omega (arith, less)

  -- at another position nothing is found and nothing changes
  elsewhere : (other : ℕ) → (position ≡ other → ⊥) → (slice_get (set now position after) other ≡ slice_get now other) × (binds_at other new_found ≡ binds_at other found)
  elsewhere other apart = (
    get_set_other now position other after apart,
    binds_append other found (map (found_of position) binds) ∙ ap (λ l. binds_at other found ++ l) (other_binds other position apart binds) ∙ append-nil (binds_at other found),
  )

  here : binds_at position new_found ≡ map tree_of binds
  here = binds_append position found (map (found_of position) binds) ∙ ap (λ l. l ++ binds_at position (map (found_of position) binds)) (took.others position not_before).1 ∙ own_binds position binds

  took_one : (k other : ℕ) (s : BracketRange) (b a : LazyMatcherState) → slice_get affected k ≡ Some other → slice_get bracket_ranges other ≡ Some s → slice_get old other ≡ Some b →
      slice_get (set now position after) other ≡ Some a → (k < i) ⊎ (k ≡ i) → FollowsRow row retained_limit (part_of s marks) b a (binds_at other new_found)
  took_one k other s b a of_k of_s of_b of_a (inl h) =
      let apart = (λ (e : position ≡ other). let less = ascend k i other position h of_k position_is in absurd (omega (arith, less, e))) in
      let there = elsewhere other apart in
      subst (λ (xs : List BindTree). FollowsRow row retained_limit (part_of s marks) b a xs) (sym there.1) (took.took k other s b a h of_k of_s of_b (sym there.0 ∙ of_a))
  took_one k other s b a of_k of_s of_b of_a (inr e) =
      let same : position ≡ other = cc in
      let s_is : bracket_range ≡ s = (let f : slice_get bracket_ranges other ≡ Some bracket_range = ap (slice_get bracket_ranges) (sym same) ∙ stretch_is in cc) in
      let b_is : before ≡ b = (let f : Some before ≡ Some b = sym before_is ∙ (took.others position not_before).0 ∙ ap (slice_get old) same ∙ of_b in cc) in
      let a_is : after ≡ a = (let f : Some after ≡ Some a = sym (get_set now position after inside) ∙ ap (slice_get (set now position after)) same ∙ of_a in cc) in
      let xs_is : map tree_of binds ≡ binds_at other new_found = sym here ∙ ap (λ n. binds_at n new_found) same in
      subst (λ (xs : List BindTree). FollowsRow row retained_limit (part_of s marks) b a xs) xs_is
      (subst (λ (z : LazyMatcherState). FollowsRow row retained_limit (part_of s marks) b z (map tree_of binds)) a_is
      (subst (λ (z : LazyMatcherState). FollowsRow row retained_limit (part_of s marks) z after (map tree_of binds)) b_is
      (subst (λ (z : BracketRange). FollowsRow row retained_limit (part_of z marks) before after (map tree_of binds)) s_is takes)))

  others_then : (other : ℕ) → ((k : ℕ) → k < i + 1 → slice_get affected k ≡ Some other → ⊥) → (slice_get (set now position after) other ≡ slice_get old other) × (binds_at other new_found ≡ [])
  others_then other none =
      let there = elsewhere other (λ e. none i (omega arith) (position_is ∙ ap Some e)) in
      let before = took.others other (λ k h is. none k (omega (arith, h)) is) in
      (there.0 ∙ before.0, there.1 ∙ before.1)

  positions_are : map (λ f. f.hunted) new_found ≡ map (λ f. f.hunted) found ++ map (λ f. f.hunted) (map (found_of position) binds)
  positions_are = map-append (λ f. f.hunted) found (map (found_of position) binds)

  early_then : (k n : ℕ) → ((k < length (map (λ f. f.hunted) found)) × (slice_get (map (λ f. f.hunted) found) k ≡ Some n)) ⊎ ((j : ℕ) × (k ≡ length (map (λ f. f.hunted) found) + j) × (slice_get (map (λ f. f.hunted) (map (found_of position) binds)) j ≡ Some n)) →
      (j : ℕ) × (j < i + 1) × (slice_get affected j ≡ Some n)
  early_then k n (inl h) = let e = took.early k n h.1 in let less = e.1 in (e.0, omega (arith, less), e.2)
  early_then k n (inr (j, e, h)) = (i, omega arith, position_is ∙ ap Some (sym (own_position position binds j n h)))

  ascend_then : (j k m n : ℕ) → j ≤ k →
      ((j < length (map (λ f. f.hunted) found)) × (slice_get (map (λ f. f.hunted) found) j ≡ Some m)) ⊎ ((l : ℕ) × (j ≡ length (map (λ f. f.hunted) found) + l) × (slice_get (map (λ f. f.hunted) (map (found_of position) binds)) l ≡ Some m)) →
      ((k < length (map (λ f. f.hunted) found)) × (slice_get (map (λ f. f.hunted) found) k ≡ Some n)) ⊎ ((l : ℕ) × (k ≡ length (map (λ f. f.hunted) found) + l) × (slice_get (map (λ f. f.hunted) (map (found_of position) binds)) l ≡ Some n)) →
      m ≤ n
  ascend_then j k m n h (inl a) (inl b) = took.ascend j k m n h a.1 b.1
  ascend_then j k m n h (inl a) (inr (l, e, b)) =
      let f = took.early j m a.1 in let less = ascend f.0 i m position f.1 f.2 position_is in let same = own_position position binds l n b in omega (arith, less, same)
  ascend_then j k m n h (inr (l, e, a)) (inl b) = let f = b.0 in absurd (omega (arith, h, e, f))
  ascend_then j k m n h (inr (l, e, a)) (inr (x, f, b)) = let one = own_position position binds l m a in let two = own_position position binds x n b in omega (arith, one, two)

  pub took_more : TookSome row retained_limit bracket_ranges marks affected (i + 1) old (set now position after) (found ++ map (found_of position) binds)
  took_more = record {
    count = length-set now position after ∙ took.count;
    took = λ k other s b a h of_k of_s of_b of_a. took_one k other s b a of_k of_s of_b of_a (below_or_at k i h);
    others = others_then;
    ascend = λ j k m n h a b. ascend_then j k m n h
        (seam (map (λ f. f.hunted) found) (map (λ f. f.hunted) (map (found_of position) binds)) j m (sym (ap (λ l. slice_get l j) positions_are) ∙ a))
        (seam (map (λ f. f.hunted) found) (map (λ f. f.hunted) (map (found_of position) binds)) k n (sym (ap (λ l. slice_get l k) positions_are) ∙ b));
    early = λ k n h. early_then k n (seam (map (λ f. f.hunted) found) (map (λ f. f.hunted) (map (found_of position) binds)) k n (sym (ap (λ l. slice_get l k) positions_are) ∙ h));
  }

-- a position whose turn it is wasn't affected before
pub untouched : (row : NextRow) (retained_limit : ℕ) (bracket_ranges : List BracketRange) (marks : List Bool) (affected : List ℕ) (i : ℕ) (old now : List LazyMatcherState) (found : List Hit) →
    TookSome row retained_limit bracket_ranges marks affected i old now found → IsAscending affected → (position : ℕ) → slice_get affected i ≡ Some position → slice_get now position ≡ slice_get old position
untouched row retained_limit bracket_ranges marks affected i old now found took ascend position at = (took.others position (λ k h is. let less = ascend k i position position h is at in omega (arith, less))).0

-- ---- a lazy matcher caught up

pub still_set : (retained_limit rows : ℕ) (last : Option ℤ) (xs : List LazyMatcherState) (i : ℕ) (old new : LazyMatcherState) → slice_get xs i ≡ Some old →
    ((p : Pattern) (log : List LogEntry) → Follows p retained_limit log old → EndsLogAt log rows last → Follows p retained_limit log new) → StillFollow retained_limit rows last xs (set xs i new)
still_set retained_limit rows last xs i old new at law = record {
  count = length-set xs i new;
  follow = λ position before after p log a b follows ends. by position before after p log a b follows ends (same_or_other i position);
} where
  by : (position : ℕ) (before after : LazyMatcherState) (p : Pattern) (log : List LogEntry) → slice_get xs position ≡ Some before → slice_get (set xs i new) position ≡ Some after → Follows p retained_limit log before → EndsLogAt log rows last →
      (i ≡ position) ⊎ (i ≡ position → ⊥) → Follows p retained_limit log after
  by position before after p log a b follows ends (inl e) =
      let was : before ≡ old = (let f : Some before ≡ Some old = sym a ∙ ap (slice_get xs) (sym e) ∙ at in cc) in
      let is : new ≡ after = (let f : Some new ≡ Some after = sym (get_set xs i new (slice_get_within xs i old at)) ∙ ap (slice_get (set xs i new)) e ∙ b in cc) in
      subst (λ (f : LazyMatcherState). Follows p retained_limit log f) is (law p log (subst (λ (f : LazyMatcherState). Follows p retained_limit log f) was follows) ends)
  by position before after p log a b follows ends (inr apart) =
      subst (λ (f : LazyMatcherState). Follows p retained_limit log f) (let e : Some before ≡ Some after = sym a ∙ sym (get_set_other xs i position new apart) ∙ b in cc) follows

-- ---- the lazy matchers of the empty log

pub one_more : (patterns : List Pattern) (retained_limit : ℕ) (xs : List LazyMatcherState) (f : LazyMatcherState) (q : Pattern) → slice_get patterns (length xs) ≡ Some q → Follows q retained_limit [] f →
    ((position : ℕ) (p : Pattern) (g : LazyMatcherState) → slice_get patterns position ≡ Some p → slice_get xs position ≡ Some g → Follows p retained_limit [] g) →
    (position : ℕ) (p : Pattern) (g : LazyMatcherState) → slice_get patterns position ≡ Some p → slice_get (xs ++ f ∷ []) position ≡ Some g → Follows p retained_limit [] g
one_more patterns retained_limit xs f q of_q follows each position p g of_p of_g = by (seam xs (f ∷ []) position g of_g) where
  by : ((position < length xs) × (slice_get xs position ≡ Some g)) ⊎ ((j : ℕ) × (position ≡ length xs + j) × (slice_get (f ∷ []) j ≡ Some g)) → Follows p retained_limit [] g
  by (inl h) = each position p g of_p h.1
  by (inr (j, e, h)) =
      let one = get_one f g j h in let zero_is = one.0 in
      let at : position ≡ length xs = omega (arith, e, zero_is) in
      let own : q ≡ p = (let k : Some q ≡ Some p = sym of_q ∙ ap (slice_get patterns) (sym at) ∙ of_p in cc) in
      subst (λ (z : Pattern). Follows z retained_limit [] g) own (subst (λ (z : LazyMatcherState). Follows q retained_limit [] z) (sym one.1) follows)

-- ---- the marks off again

-- the first so many are off
pub record ClearSoFar (candidates : List ℕ) (i : ℕ) (old now : List Bool) : Type 0 where
  pub count : length now ≡ length old
  pub marked : (at : ℕ) → slice_get now at ≡ Some true → slice_get old at ≡ Some true
  pub off : (j at : ℕ) → j < i → slice_get candidates j ≡ Some at → slice_get now at ≡ Some true → ⊥

-- one more is
pub clear_next : (candidates : List ℕ) (i : ℕ) (old now : List Bool) → ClearSoFar candidates i old now → (at : ℕ) → slice_get candidates i ≡ Some at → at < length now
    → ClearSoFar candidates (i + 1) old (set now at false)
clear_next candidates i old now far at at_is inside = record {
  count = length-set now at false ∙ far.count;
  marked = λ b mark. far.marked b (was b mark (same_or_other at b));
  off = λ j b h of_j mark. off j b of_j mark (below_or_at j i h);
} where
  gone : slice_get (set now at false) at ≡ Some true → ⊥
  gone mark = let is : Some false ≡ Some true = sym (get_set now at false inside) ∙ mark in cc

  was : (b : ℕ) → slice_get (set now at false) b ≡ Some true → (at ≡ b) ⊎ (at ≡ b → ⊥) → slice_get now b ≡ Some true
  was b mark (inl e) = absurd (gone (ap (slice_get (set now at false)) e ∙ mark))
  was b mark (inr e) = sym (get_set_other now at b false e) ∙ mark

  off : (j b : ℕ) → slice_get candidates j ≡ Some b → slice_get (set now at false) b ≡ Some true → (j < i) ⊎ (j ≡ i) → ⊥
  off j b of_j mark (inl h) = far.off j b h of_j (was b mark (same_or_other at b))
  off j b of_j mark (inr e) = let same : at ≡ b = cc in gone (ap (slice_get (set now at false)) same ∙ mark)

-- all of them are, and no other was marked
pub all_clear : (candidates : List ℕ) (i : ℕ) (old now : List Bool) → ClearSoFar candidates i old now → length candidates ≤ i
    → ((at : ℕ) → slice_get old at ≡ Some true → Contains candidates at) → (at : ℕ) → slice_get now at ≡ Some true → ⊥
all_clear candidates i old now far end there at mark =
    let k = got candidates at (there at (far.marked at mark)) in
    let inside = slice_get_within candidates k.0 at k.1 in
    far.off k.0 at (omega (arith, inside, end)) k.1 mark
