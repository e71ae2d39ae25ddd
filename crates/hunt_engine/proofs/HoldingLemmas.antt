-- The parts of AND and of OR at one object, part after part.
use Rattle.std.proofs.Common.{◌≡◌, ℕ, List, ◌∷◌, Result, IfOk, inl, inr, refl, sym, ap, subst, rules}
use Rattle.std.specs.Prelude.{◌↔◌, Bool, IsTrue}
use Rattle.serde_json.specs.Data.{Data}
use Rattle.pattern_types.specs.declared.leaf.Leaf.{Leaf, Row_of-Leaf, end_of-Leaf, more_of-Leaf, items-the_row-Leaf, the_lemmas}
use Rattle.pattern_types.specs.declared.leaf.Leaf.TheVariants as leaf
use Rattle.pattern_types.specs.PlainLeaf.{PlainLeaf, every, some, more, plain_leaf, plain_leaves, leaves_of_list}
use Rattle.match_comparisons.specs.Tests.{HoldsAt, AllHold, SomeHold}

plain_leaves-items : {m : _} (k : Row_of-Leaf m) → plain_leaves k ≡ leaves_of_list (items-the_row-Leaf _ k)
plain_leaves-items end_of-Leaf = refl
plain_leaves-items (more_of-Leaf l r) = ap (more (plain_leaf l)) (plain_leaves-items r)

every_of : (parts : List Leaf) → every (leaves_of_list parts) ≡ plain_leaf (leaf.All parts)
every_of parts = search (rules, the_lemmas, plain_leaves-items)

some_of : (parts : List Leaf) → some (leaves_of_list parts) ≡ plain_leaf (leaf.Any parts)
some_of parts = search (rules, the_lemmas, plain_leaves-items)

-- an object meets the parts as their leaf
pub met_all : {E : Type 0} (r : Result Bool E) (objects : List Data) (root : ℕ) (parts : List Leaf)
    → IfOk r (λ met. IsTrue met ↔ AllHold objects root (leaves_of_list parts)) → IfOk r (λ met. IsTrue met ↔ HoldsAt objects root (plain_leaf (leaf.All parts)))
met_all r objects root parts h = subst (λ (f : PlainLeaf). IfOk r (λ met. IsTrue met ↔ HoldsAt objects root f)) (every_of parts) h

pub met_any : {E : Type 0} (r : Result Bool E) (objects : List Data) (root : ℕ) (parts : List Leaf)
    → IfOk r (λ met. IsTrue met ↔ SomeHold objects root (leaves_of_list parts)) → IfOk r (λ met. IsTrue met ↔ HoldsAt objects root (plain_leaf (leaf.Any parts)))
met_any r objects root parts h = subst (λ (f : PlainLeaf). IfOk r (λ met. IsTrue met ↔ HoldsAt objects root f)) (some_of parts) h

module _ (objects : List Data) (root : ℕ) (parts here later : List Leaf) (part : Leaf) (cut : here ≡ part ∷ later) where
  -- a part is met: all are met where the later ones are
  pub all_next : AllHold objects root (leaves_of_list parts) ↔ AllHold objects root (leaves_of_list here) → HoldsAt objects root (plain_leaf part)
      → AllHold objects root (leaves_of_list parts) ↔ AllHold objects root (leaves_of_list later)
  all_next far met = (
    λ all. let rest = subst (λ (ls : List Leaf). AllHold objects root (leaves_of_list ls)) cut (far.0 all) in rest.1,
    λ rest. far.1 (subst (λ (ls : List Leaf). AllHold objects root (leaves_of_list ls)) (sym cut) (met, rest)),
  )

  -- a part isn't: not all are
  pub all_fail : AllHold objects root (leaves_of_list parts) ↔ AllHold objects root (leaves_of_list here) → ¬ HoldsAt objects root (plain_leaf part) → ¬ AllHold objects root (leaves_of_list parts)
  all_fail far fails all = let rest = subst (λ (ls : List Leaf). AllHold objects root (leaves_of_list ls)) cut (far.0 all) in fails rest.0

  -- a part isn't met: some part is where a later one is
  pub some_next : SomeHold objects root (leaves_of_list parts) ↔ SomeHold objects root (leaves_of_list here) → ¬ HoldsAt objects root (plain_leaf part)
      → SomeHold objects root (leaves_of_list parts) ↔ SomeHold objects root (leaves_of_list later)
  some_next far fails = (
    λ one. elim (subst (λ (ls : List Leaf). SomeHold objects root (leaves_of_list ls)) cut (far.0 one)) [
      | inl met ↦ absurd (fails met)
      | inr rest ↦ rest
    ],
    λ rest. far.1 (subst (λ (ls : List Leaf). SomeHold objects root (leaves_of_list ls)) (sym cut) (inr rest)),
  )

  -- a part is: some part is
  pub some_met : SomeHold objects root (leaves_of_list parts) ↔ SomeHold objects root (leaves_of_list here) → HoldsAt objects root (plain_leaf part) → SomeHold objects root (leaves_of_list parts)
  some_met far met = far.1 (subst (λ (ls : List Leaf). SomeHold objects root (leaves_of_list ls)) (sym cut) (inl met))
