-- The parts of AND and of OR as a list.
use Rattle.std.proofs.Common.{◌≡◌, ℕ, List, Result, IfOk, refl, sym, ap, subst, rules}
use Rattle.serde_json.specs.Data.{Data}
use Rattle.pattern_types.specs.declared.leaf.Leaf.{Leaf, Row_of-Leaf, end_of-Leaf, more_of-Leaf, items-the_row-Leaf, the_lemmas}
use Rattle.pattern_types.specs.declared.leaf.Leaf.TheVariants as leaf
use Rattle.pattern_types.specs.PlainLeaf.{PlainLeaf, every, some, more, plain_leaf, plain_leaves, leaves_of_list}
use Rattle.pattern_types.specs.Soundness.{IsSoundLeaf, AreSoundLeaves}
use Rattle.match_comparisons.specs.declared.split.Split.{Split}
use Rattle.match_comparisons.specs.Tests.{HoldsAt, AllHold, SomeHold}
use Rattle.match_comparisons.specs.inner.Splits.{SplitsPositions}

plain_leaves-items : {m : _} (k : Row_of-Leaf m) → plain_leaves k ≡ leaves_of_list (items-the_row-Leaf _ k)
plain_leaves-items end_of-Leaf = refl
plain_leaves-items (more_of-Leaf l r) = ap (more (plain_leaf l)) (plain_leaves-items r)

every_of : (parts : List Leaf) → every (leaves_of_list parts) ≡ plain_leaf (leaf.All parts)
every_of parts = search (rules, the_lemmas, plain_leaves-items)

some_of : (parts : List Leaf) → some (leaves_of_list parts) ≡ plain_leaf (leaf.Any parts)
some_of parts = search (rules, the_lemmas, plain_leaves-items)

-- the parts of a sound leaf are sound
pub sound_all : (parts : List Leaf) → IsSoundLeaf (plain_leaf (leaf.All parts)) → AreSoundLeaves (leaves_of_list parts)
sound_all parts sound = let all = subst IsSoundLeaf (sym (every_of parts)) sound in all.1

pub sound_any : (parts : List Leaf) → IsSoundLeaf (plain_leaf (leaf.Any parts)) → AreSoundLeaves (leaves_of_list parts)
sound_any parts sound = subst IsSoundLeaf (sym (some_of parts)) sound

-- positions are split by the parts as by their leaf
pub ok_all : {E : Type 0} (r : Result Split E) (objects : List Data) (asked : List ℕ) (parts : List Leaf)
    → IfOk r (SplitsPositions (λ (at : ℕ). AllHold objects at (leaves_of_list parts)) asked) → IfOk r (SplitsPositions (λ (at : ℕ). HoldsAt objects at (plain_leaf (leaf.All parts))) asked)
ok_all r objects asked parts h = subst (λ (f : PlainLeaf). IfOk r (SplitsPositions (λ (at : ℕ). HoldsAt objects at f) asked)) (every_of parts) h

pub ok_any : {E : Type 0} (r : Result Split E) (objects : List Data) (asked : List ℕ) (parts : List Leaf)
    → IfOk r (SplitsPositions (λ (at : ℕ). SomeHold objects at (leaves_of_list parts)) asked) → IfOk r (SplitsPositions (λ (at : ℕ). HoldsAt objects at (plain_leaf (leaf.Any parts))) asked)
ok_any r objects asked parts h = subst (λ (f : PlainLeaf). IfOk r (SplitsPositions (λ (at : ℕ). HoldsAt objects at f) asked)) (some_of parts) h
