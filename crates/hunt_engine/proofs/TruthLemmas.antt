-- The marks of all brackets give the truths of each pattern.
use Rattle.std.proofs.Common.{◌≡◌, ℕ, zero, suc, ◌+◌, ◌≤◌, ◌<◌, List, [], ◌∷◌, ◌++◌, length, take, drop, refl, sym, ◌∙◌, ap, subst, arith}
use Rattle.std.specs.Prelude.{Bool, true, false, IsTrue, Option, Some, None, slice_get, unwrap_or, ◌↔◌}
use Rattle.std.specs.List.{AllZip}
use Rattle.serde_json.specs.Data.{Data}
use Rattle.pattern_types.specs.PlainLeaf.{PlainLeaf}
use Rattle.pattern_types.specs.PlainPattern.{PlainPattern, a_leaf, a_both, an_either, a_then, a_limited}
use Rattle.match_comparisons.specs.Tests.{LeafHolds}
use Rattle.match_comparisons.specs.Truths.{AreOfBoth, AreTruths}
use Rattle.hunt_engine.specs.declared.brackets.BracketRange.{BracketRange}
use Rattle.hunt_engine.specs.Memo.{leaf_list}
use Rattle.hunt_engine.specs.inner.Table.{part_of}

-- a mark tells whether its bracket holds
abbrev pub Tells : List Data → List ℕ → PlainLeaf → Bool → Type 0
Tells objects roots leaf mark = IsTrue mark ↔ LeafHolds objects roots leaf

-- ---- zips

zip_from : (objects : List Data) (roots : List ℕ) (leaves : List PlainLeaf) (marks : List Bool) → length marks ≡ length leaves →
    ((at : ℕ) (leaf : PlainLeaf) → slice_get leaves at ≡ Some leaf → (slice_get marks at ≡ Some true) ↔ LeafHolds objects roots leaf) → AllZip (Tells objects roots) leaves marks
zip_from objects roots [] [] e h = tt
zip_from objects roots [] (mark ∷ marks) e h = absurd (omega (arith, e))
zip_from objects roots (leaf ∷ leaves) [] e h = absurd (omega (arith, e))
zip_from objects roots (leaf ∷ leaves) (mark ∷ marks) e h =
    ((λ k. (h 0 leaf refl).0 (ap Some k), λ k. let s = (h 0 leaf refl).1 k in cc), zip_from objects roots leaves marks (omega (arith, e)) (λ at other is. h (suc at) other is))

zip_drop : (objects : List Data) (roots : List ℕ) (n : ℕ) (leaves : List PlainLeaf) (marks : List Bool) → AllZip (Tells objects roots) leaves marks → AllZip (Tells objects roots) (drop n leaves) (drop n marks)
zip_drop objects roots zero leaves marks z = z
zip_drop objects roots (suc n) [] [] z = tt
zip_drop objects roots (suc n) (leaf ∷ leaves) (mark ∷ marks) z = zip_drop objects roots n leaves marks z.1
zip_drop objects roots (suc n) [] (mark ∷ marks) z = absurd z
zip_drop objects roots (suc n) (leaf ∷ leaves) [] z = absurd z

zip_take : (objects : List Data) (roots : List ℕ) (n : ℕ) (leaves : List PlainLeaf) (marks : List Bool) → AllZip (Tells objects roots) leaves marks → AllZip (Tells objects roots) (take n leaves) (take n marks)
zip_take objects roots zero leaves marks z = tt
zip_take objects roots (suc n) [] [] z = tt
zip_take objects roots (suc n) (leaf ∷ leaves) (mark ∷ marks) z = (z.0, zip_take objects roots n leaves marks z.1)
zip_take objects roots (suc n) [] (mark ∷ marks) z = absurd z
zip_take objects roots (suc n) (leaf ∷ leaves) [] z = absurd z

zip_split : (objects : List Data) (roots : List ℕ) (xs ys : List PlainLeaf) (marks : List Bool) → AllZip (Tells objects roots) (xs ++ ys) marks →
    (lefts rights : List Bool) × AllZip (Tells objects roots) xs lefts × AllZip (Tells objects roots) ys rights × (marks ≡ lefts ++ rights)
zip_split objects roots [] ys marks z = ([], marks, tt, z, refl)
zip_split objects roots (x ∷ xs) ys [] z = absurd z
zip_split objects roots (x ∷ xs) ys (mark ∷ marks) z =
    let rest = zip_split objects roots xs ys marks z.1 in (mark ∷ rest.0, rest.1, (z.0, rest.2), rest.3, ap (λ l. mark ∷ l) rest.4)

-- ---- truths

of_both : (objects : List Data) (roots : List ℕ) (p q : PlainPattern) (marks : List Bool) →
    ((own : List Bool) → AllZip (Tells objects roots) (leaf_list p) own → AreTruths objects roots p own) →
    ((own : List Bool) → AllZip (Tells objects roots) (leaf_list q) own → AreTruths objects roots q own) →
    AllZip (Tells objects roots) (leaf_list p ++ leaf_list q) marks → AreOfBoth (AreTruths objects roots p) (AreTruths objects roots q) marks
of_both objects roots p q marks left right z =
    let parts = zip_split objects roots (leaf_list p) (leaf_list q) marks z in
    (parts.0, parts.1, left parts.0 parts.2, right parts.1 parts.3, parts.4)

pub truths_from : (objects : List Data) (roots : List ℕ) (p : PlainPattern) (marks : List Bool) → AllZip (Tells objects roots) (leaf_list p) marks → AreTruths objects roots p marks
truths_from objects roots (a_leaf leaf) [] z = absurd z
truths_from objects roots (a_leaf leaf) (mark ∷ []) z = (mark, refl, z.0)
truths_from objects roots (a_leaf leaf) (mark ∷ more ∷ marks) z = absurd z.1
truths_from objects roots (a_both p q) marks z = of_both objects roots p q marks (λ own k. truths_from objects roots p own k) (λ own k. truths_from objects roots q own k) z
truths_from objects roots (an_either p q) marks z = of_both objects roots p q marks (λ own k. truths_from objects roots p own k) (λ own k. truths_from objects roots q own k) z
truths_from objects roots (a_then p q) marks z = of_both objects roots p q marks (λ own k. truths_from objects roots p own k) (λ own k. truths_from objects roots q own k) z
truths_from objects roots (a_limited p limit) marks z = truths_from objects roots p marks z

-- the marks of a stretch are the truths of the pattern whose brackets stand there
pub part_truths : (objects : List Data) (roots : List ℕ) (leaves : List PlainLeaf) (marks : List Bool) (p : PlainPattern) (bracket_range : BracketRange) → length marks ≡ length leaves →
    ((at : ℕ) (leaf : PlainLeaf) → slice_get leaves at ≡ Some leaf → (slice_get marks at ≡ Some true) ↔ LeafHolds objects roots leaf) →
    part_of bracket_range leaves ≡ leaf_list p → AreTruths objects roots p (part_of bracket_range marks)
part_truths objects roots leaves marks p bracket_range count reports is =
    truths_from objects roots p (part_of bracket_range marks)
    (subst (λ (l : List PlainLeaf). AllZip (Tells objects roots) l (part_of bracket_range marks)) is
    (zip_take objects roots bracket_range.count (drop bracket_range.first leaves) (drop bracket_range.first marks)
    (zip_drop objects roots bracket_range.first leaves marks (zip_from objects roots leaves marks count reports))))

-- ---- a stretch without marks

get_drop : (n : ℕ) (marks : List Bool) (k : ℕ) → slice_get (drop n marks) k ≡ slice_get marks (n + k)
get_drop zero marks k = let e : k ≡ 0 + k = omega arith in ap (slice_get marks) e
get_drop (suc n) [] k = refl
get_drop (suc n) (mark ∷ marks) k = let e : suc n + k ≡ suc (n + k) = omega arith in get_drop n marks k ∙ sym (ap (slice_get (mark ∷ marks)) e)

get_take : (n : ℕ) (marks : List Bool) (k : ℕ) (mark : Bool) → slice_get (take n marks) k ≡ Some mark → (k < n) × (slice_get marks k ≡ Some mark)
get_take zero marks k mark h = absurd (cc)
get_take (suc n) [] k mark h = absurd (cc)
get_take (suc n) (m ∷ marks) zero mark h = (omega arith, h)
get_take (suc n) (m ∷ marks) (suc k) mark h = let rest = get_take n marks k mark h in (omega (arith, rest.0), rest.1)

pub no_truth : (bracket_range : BracketRange) (marks : List Bool) → ((at : ℕ) → bracket_range.first ≤ at → at < bracket_range.first + bracket_range.count → slice_get marks at ≡ Some true → ⊥) →
    (k : ℕ) → unwrap_or (slice_get (part_of bracket_range marks) k) false ≡ false
no_truth bracket_range marks none k = by (slice_get (part_of bracket_range marks) k) refl where
  by : (o : Option Bool) → slice_get (part_of bracket_range marks) k ≡ o → unwrap_or (slice_get (part_of bracket_range marks) k) false ≡ false
  by None e = rw e refl
  by (Some false) e = rw e refl
  by (Some true) e = absurd (
      let inside = get_take bracket_range.count (drop bracket_range.first marks) k true e in let below = inside.0 in
      none (bracket_range.first + k) (omega arith) (omega (arith, below)) (sym (get_drop bracket_range.first marks k) ∙ inside.1))
