-- One pattern more in the table of brackets.
use Rattle.std.proofs.Common.{◌≡◌, ℕ, ◌+◌, ◌-◌, ◌≤◌, ◌<◌, List, [], ◌∷◌, ◌++◌, length, take, drop, refl, sym, ◌∙◌, ap, subst, arith, inl, inr, length-append}
use Rattle.std.specs.Prelude.{◌⊎◌, Some, slice_get}
use Rattle.std.proofs.lemmas.List.{take-append-le, drop-append-le, length-drop}
use Rattle.pattern_types.specs.PlainLeaf.{PlainLeaf}
use Rattle.pattern_types.specs.PlainPattern.{PlainPattern}
use Rattle.hunt_engine.specs.declared.brackets.BracketRange.{BracketRange}
use Rattle.hunt_engine.specs.Memo.{leaf_list}
use Rattle.hunt_engine.specs.inner.Table.{part_of, repeated, IsTable}
use Rattle.hunt_engine.proofs.PositionLemmas.{seam, get_left, get_right, get_one, get_repeated, repeated_get, length_repeated}

take_all : {A : Type 0} (xs : List A) → take (length xs) xs ≡ xs
take_all [] = refl
take_all (x ∷ xs) = ap (λ l. x ∷ l) (take_all xs)

drop_all : {A : Type 0} (xs ys : List A) → drop (length xs) (xs ++ ys) ≡ ys
drop_all [] ys = refl
drop_all (x ∷ xs) ys = drop_all xs ys

-- an older stretch is what it was
old_part : (bracket_range : BracketRange) (xs ys : List PlainLeaf) → bracket_range.first + bracket_range.count ≤ length xs → part_of bracket_range (xs ++ ys) ≡ part_of bracket_range xs
old_part bracket_range xs ys h =
    ap (take bracket_range.count) (drop-append-le bracket_range.first xs ys (omega arith))
    ∙ take-append-le bracket_range.count (drop bracket_range.first xs) ys (let l = length-drop bracket_range.first xs in omega (arith, l))

module _ (patterns : List PlainPattern) (leaves : List PlainLeaf) (owners : List ℕ) (bracket_ranges : List BracketRange) (table : IsTable patterns leaves owners bracket_ranges) (p : PlainPattern) where
  abbrev bracket_range : BracketRange
  bracket_range = record { first = length leaves; count = length (leaf_list p) }

  abbrev owners_more : List ℕ
  owners_more = owners ++ repeated (length bracket_ranges) (length (leaf_list p))

  brackets_more : (position : ℕ) (q : PlainPattern) (s : BracketRange) →
      ((position < length patterns) × (slice_get patterns position ≡ Some q)) ⊎ ((j : ℕ) × (position ≡ length patterns + j) × (slice_get (p ∷ []) j ≡ Some q)) →
      ((position < length bracket_ranges) × (slice_get bracket_ranges position ≡ Some s)) ⊎ ((j : ℕ) × (position ≡ length bracket_ranges + j) × (slice_get (bracket_range ∷ []) j ≡ Some s)) →
      part_of s (leaves ++ leaf_list p) ≡ leaf_list q
  brackets_more position q s (inl (a, of_q)) (inl (b, of_s)) = old_part s leaves (leaf_list p) (table.inside position s of_s) ∙ table.brackets position q s of_q of_s
  brackets_more position q s (inl (a, of_q)) (inr (j, e, of_s)) = absurd (let told = table.told in omega (arith, a, e, told))
  brackets_more position q s (inr (j, e, of_q)) (inl (b, of_s)) = absurd (let told = table.told in omega (arith, b, e, told))
  brackets_more position q s (inr (j, e, of_q)) (inr (i, f, of_s)) =
      let one_q = get_one p q j of_q in let one_s = get_one bracket_range s i of_s in
      ap (λ z. part_of z (leaves ++ leaf_list p)) one_s.1
      ∙ ap (take (length (leaf_list p))) (drop_all leaves (leaf_list p)) ∙ take_all (leaf_list p) ∙ ap leaf_list (sym one_q.1)

  inside_more : (position : ℕ) (s : BracketRange) →
      ((position < length bracket_ranges) × (slice_get bracket_ranges position ≡ Some s)) ⊎ ((j : ℕ) × (position ≡ length bracket_ranges + j) × (slice_get (bracket_range ∷ []) j ≡ Some s)) →
      s.first + s.count ≤ length (leaves ++ leaf_list p)
  inside_more position s (inl (b, of_s)) = let old = table.inside position s of_s in omega (arith, old, length-append leaves (leaf_list p))
  inside_more position s (inr (i, f, of_s)) =
      let e = (get_one bracket_range s i of_s).1 in
      subst (λ (z : BracketRange). z.first + z.count ≤ length (leaves ++ leaf_list p)) (sym e) (omega (arith, length-append leaves (leaf_list p)))

  owner_more : (position at : ℕ) (s : BracketRange) →
      ((position < length bracket_ranges) × (slice_get bracket_ranges position ≡ Some s)) ⊎ ((j : ℕ) × (position ≡ length bracket_ranges + j) × (slice_get (bracket_range ∷ []) j ≡ Some s)) →
      s.first ≤ at → at < s.first + s.count → slice_get owners_more at ≡ Some position
  owner_more position at s (inl (b, of_s)) low high = get_left owners (repeated (length bracket_ranges) (length (leaf_list p))) at position (table.owner_of position at s of_s low high)
  owner_more position at s (inr (i, f, of_s)) low high =
      let one = get_one bracket_range s i of_s in
      let first : s.first ≡ length leaves = ap (λ (z : BracketRange). z.first) one.1 in
      let count : s.count ≡ length (leaf_list p) = ap (λ (z : BracketRange). z.count) one.1 in
      let owned = table.owned in
      let zero_is = one.0 in
      let at_is : length owners + (at - length owners) ≡ at = omega (arith, first, low, owned) in
      let position_is : length bracket_ranges ≡ position = omega (arith, f, zero_is) in
      sym (ap (slice_get owners_more) at_is)
      ∙ get_right owners (repeated (length bracket_ranges) (length (leaf_list p))) (at - length owners) (length bracket_ranges)
      (repeated_get (length bracket_ranges) (length (leaf_list p)) (at - length owners) (omega (arith, first, count, low, high, owned)))
      ∙ ap Some position_is

  valid_more : (at position : ℕ) →
      ((at < length owners) × (slice_get owners at ≡ Some position)) ⊎ ((j : ℕ) × (at ≡ length owners + j) × (slice_get (repeated (length bracket_ranges) (length (leaf_list p))) j ≡ Some position)) →
      position < length (patterns ++ p ∷ [])
  valid_more at position (inl (b, of_at)) = let old = table.valid at position of_at in omega (arith, old, length-append patterns (p ∷ []))
  valid_more at position (inr (j, f, of_at)) =
      let e = (get_repeated (length bracket_ranges) (length (leaf_list p)) j position of_at).1 in let told = table.told in omega (arith, e, told, length-append patterns (p ∷ []))

  ascend_more : (j k m n : ℕ) → j ≤ k →
      ((j < length owners) × (slice_get owners j ≡ Some m)) ⊎ ((i : ℕ) × (j ≡ length owners + i) × (slice_get (repeated (length bracket_ranges) (length (leaf_list p))) i ≡ Some m)) →
      ((k < length owners) × (slice_get owners k ≡ Some n)) ⊎ ((i : ℕ) × (k ≡ length owners + i) × (slice_get (repeated (length bracket_ranges) (length (leaf_list p))) i ≡ Some n)) →
      m ≤ n
  ascend_more j k m n h (inl (a, of_j)) (inl (b, of_k)) = table.ascend j k m n h of_j of_k
  ascend_more j k m n h (inl (a, of_j)) (inr (i, e, of_k)) =
      let old = table.valid j m of_j in let f = (get_repeated (length bracket_ranges) (length (leaf_list p)) i n of_k).1 in let told = table.told in omega (arith, old, f, told)
  ascend_more j k m n h (inr (i, e, of_j)) (inl (b, of_k)) = absurd (omega (arith, h, e, b))
  ascend_more j k m n h (inr (i, e, of_j)) (inr (l, f, of_k)) =
      let g = (get_repeated (length bracket_ranges) (length (leaf_list p)) i m of_j).1 in let g' = (get_repeated (length bracket_ranges) (length (leaf_list p)) l n of_k).1 in omega (arith, g, g')

  pub table_more : IsTable (patterns ++ p ∷ []) (leaves ++ leaf_list p) (owners ++ repeated (length bracket_ranges) (length (leaf_list p))) (bracket_ranges ++ record { first = length leaves; count = length (leaf_list p) } ∷ [])
  table_more = record {
    owned = let e = table.owned in omega (arith, e, length-append leaves (leaf_list p), length-append owners (repeated (length bracket_ranges) (length (leaf_list p))), length_repeated (length bracket_ranges) (length (leaf_list p)));
    told = let e = table.told in omega (arith, e, length-append bracket_ranges (bracket_range ∷ []), length-append patterns (p ∷ []));
    brackets = λ position q s of_q of_s. brackets_more position q s (seam patterns (p ∷ []) position q of_q) (seam bracket_ranges (bracket_range ∷ []) position s of_s);
    inside = λ position s of_s. inside_more position s (seam bracket_ranges (bracket_range ∷ []) position s of_s);
    owner_of = λ position at s of_s low high. owner_more position at s (seam bracket_ranges (bracket_range ∷ []) position s of_s) low high;
    valid = λ at position of_at. valid_more at position (seam owners (repeated (length bracket_ranges) (length (leaf_list p))) at position of_at);
    ascend = λ j k m n h of_j of_k. ascend_more j k m n h (seam owners (repeated (length bracket_ranges) (length (leaf_list p))) j m of_j) (seam owners (repeated (length bracket_ranges) (length (leaf_list p))) k n of_k);
  }

-- what was added is what is asked
pub add_law : (patterns : List PlainPattern) (leaves leaves' : List PlainLeaf) (owners owners' : List ℕ) (bracket_ranges stretches' : List BracketRange) (p : PlainPattern) (position count : ℕ) (s : BracketRange) →
    IsTable patterns leaves owners bracket_ranges → leaves' ≡ leaves ++ leaf_list p → owners' ≡ owners ++ repeated position count → stretches' ≡ bracket_ranges ++ s ∷ [] →
    (position ≡ length bracket_ranges) × (count ≡ length (leaf_list p)) × (s.first ≡ length leaves) × (s.count ≡ length (leaf_list p)) → IsTable (patterns ++ p ∷ []) leaves' owners' stretches'
add_law patterns leaves leaves' owners owners' bracket_ranges stretches' p position count s table e f g (a, b, d, h) =
    let own : s ≡ record { first = length leaves; count = length (leaf_list p) } = λ i. record { first = d i; count = h i } in
    let one : owners' ≡ owners ++ repeated (length bracket_ranges) (length (leaf_list p)) = f ∙ ap (λ n. owners ++ repeated n count) a ∙ ap (λ n. owners ++ repeated (length bracket_ranges) n) b in
    let two : stretches' ≡ bracket_ranges ++ record { first = length leaves; count = length (leaf_list p) } ∷ [] = g ∙ ap (λ z. bracket_ranges ++ z ∷ []) own in
    subst (λ (l : List PlainLeaf). IsTable (patterns ++ p ∷ []) l owners' stretches') (sym e)
    (subst (λ (l : List ℕ). IsTable (patterns ++ p ∷ []) (leaves ++ leaf_list p) l stretches') (sym one)
    (subst (λ (l : List BracketRange). IsTable (patterns ++ p ∷ []) (leaves ++ leaf_list p) (owners ++ repeated (length bracket_ranges) (length (leaf_list p))) l) (sym two)
    (table_more patterns leaves owners bracket_ranges table p)))
