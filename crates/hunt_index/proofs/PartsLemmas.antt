-- The index keys of parts that are joined by AND and by OR, one part more.
use Rattle.std.specs.Prelude.{⊤}
use Rattle.std.proofs.Common.{arith, ◌≡◌, ◌⊎◌, inl, inr, ℕ, zero, suc, ◌<◌, length, get_or, List, [], ◌∷◌, ◌++◌, Option, Some, None, MatchOption, Result, Ok, Err, IfOk, refl, sym, ap, subst, rules}
use Rattle.std.specs.Prelude.{◌↔◌, Bool, IsTrue, Contains}
use Rattle.std.proofs.lemmas.List.Elements.{Contains-append_left, Contains-append_right, Contains-append_cases}
use Rattle.serde_json.specs.Data.{Data}
use Rattle.pattern_types.specs.declared.leaf.Leaf.{Leaf, Row_of-Leaf, end_of-Leaf, more_of-Leaf, items-the_row-Leaf, the_lemmas}
use Rattle.pattern_types.specs.declared.leaf.Leaf.TheVariants as leaf
use Rattle.pattern_types.specs.PlainLeaf.{PlainLeaf, every, some, more, plain_leaf, plain_leaves, leaves_of_list}
use Rattle.match_comparisons.specs.Tests.{HoldsAt, AllHold, SomeHold}
use Rattle.hunt_index.specs.declared.index_key.IndexKey.{IndexKey}
use Rattle.hunt_index.specs.Definite.{IsDefinite, AreDefinite}
use Rattle.hunt_index.specs.inner.IndexKeys.{SomeMet, AreIndexKeys, IndexKeys, AreSufficient, Sufficient}

plain_leaves-items : {m : _} (k : Row_of-Leaf m) → plain_leaves k ≡ leaves_of_list (items-the_row-Leaf _ k)
plain_leaves-items end_of-Leaf = refl
plain_leaves-items (more_of-Leaf l r) = ap (more (plain_leaf l)) (plain_leaves-items r)

every_of : (parts : List Leaf) → every (leaves_of_list parts) ≡ plain_leaf (leaf.All parts)
every_of parts = search (rules, the_lemmas, plain_leaves-items)

some_of : (parts : List Leaf) → some (leaves_of_list parts) ≡ plain_leaf (leaf.Any parts)
some_of parts = search (rules, the_lemmas, plain_leaves-items)

-- the index keys of the parts are those of their leaf
pub ok_all : {E : Type 0} (r : Result (Option (List IndexKey)) E) (parts : List Leaf) → IfOk r (IndexKeys (λ objects root. AllHold objects root (leaves_of_list parts)))
    → IfOk r (IndexKeys (λ objects root. HoldsAt objects root (plain_leaf (leaf.All parts))))
ok_all r parts h = subst (λ (f : PlainLeaf). IfOk r (IndexKeys (λ objects root. HoldsAt objects root f))) (every_of parts) h

pub ok_any : {E : Type 0} (r : Result (Option (List IndexKey)) E) (parts : List Leaf) → IfOk r (IndexKeys (λ objects root. SomeHold objects root (leaves_of_list parts)))
    → IfOk r (IndexKeys (λ objects root. HoldsAt objects root (plain_leaf (leaf.Any parts))))
ok_any r parts h = subst (λ (f : PlainLeaf). IfOk r (IndexKeys (λ objects root. HoldsAt objects root f))) (some_of parts) h

-- parts that are joined by OR are definite where their leaf is
pub definite_any : (truth : Bool) (parts : List Leaf) → (IsTrue truth ↔ AreDefinite (leaves_of_list parts)) → IsTrue truth ↔ IsDefinite (plain_leaf (leaf.Any parts))
definite_any truth parts h = subst (λ (f : PlainLeaf). IsTrue truth ↔ IsDefinite f) (some_of parts) h

-- and then each of them is
pub definite_at : (parts : List Leaf) (i : ℕ) (part : Leaf) → i < length parts → part ≡ get_or parts i part → AreDefinite (leaves_of_list parts) → IsDefinite (plain_leaf part)
definite_at [] i part below is all = absurd (omega (arith, below))
definite_at (x ∷ parts) zero part below is all = subst (λ (l : Leaf). IsDefinite (plain_leaf l)) (sym is) all.0
definite_at (x ∷ parts) (suc i) part below is all = definite_at parts i part (omega (arith, below)) is all.1

-- where the leaf is definite, they are sufficient
pub sufficient_any : {E : Type 0} (r : Result (Option (List IndexKey)) E) (parts : List Leaf)
    → IfOk r (λ found. AreDefinite (leaves_of_list parts) → Sufficient (λ objects root. SomeHold objects root (leaves_of_list parts)) found)
    → IfOk r (λ found. IsDefinite (plain_leaf (leaf.Any parts)) → Sufficient (λ objects root. HoldsAt objects root (plain_leaf (leaf.Any parts))) found)
sufficient_any r parts h =
    subst (λ (f : PlainLeaf). IfOk r (λ found. IsDefinite f → Sufficient (λ objects root. HoldsAt objects root f) found)) (some_of parts) h

inexact_ok : {E : Type 0} (r : Result (Option (List IndexKey)) E) (parts : List Leaf)
    → IfOk r (λ found. IsDefinite (every (leaves_of_list parts)) → Sufficient (λ objects root. HoldsAt objects root (every (leaves_of_list parts))) found)
inexact_ok (Ok found) parts = λ definite. absurd definite
inexact_ok (Err error) parts = tt

-- one of parts that are joined by AND isn't definite
pub sufficient_all : {E : Type 0} (r : Result (Option (List IndexKey)) E) (parts : List Leaf)
    → IfOk r (λ found. IsDefinite (plain_leaf (leaf.All parts)) → Sufficient (λ objects root. HoldsAt objects root (plain_leaf (leaf.All parts))) found)
sufficient_all r parts =
    subst (λ (f : PlainLeaf). IfOk r (λ found. IsDefinite f → Sufficient (λ objects root. HoldsAt objects root f) found)) (every_of parts) (inexact_ok r parts)

-- one of the index keys is met, where there are index keys
abbrev pub MetBy : List Data → ℕ → Option (List IndexKey) → Type 0
MetBy objects root found = MatchOption found ⊤ (SomeMet objects root)

-- where all parts hold, those that come hold, and one of the index keys that were taken is met
abbrev pub StillAll : List Leaf → List Leaf → Option (List IndexKey) → Type 0
StillAll parts here taken = (objects : List Data) (root : ℕ) → AllHold objects root (leaves_of_list parts) → MetBy objects root taken × AllHold objects root (leaves_of_list here)

met_by : (objects : List Data) (root : ℕ) (leaf : PlainLeaf) (own : Option (List IndexKey)) → IndexKeys (λ objects root. HoldsAt objects root leaf) own
    → HoldsAt objects root leaf → MetBy objects root own
met_by objects root leaf None index_keys holds = tt
met_by objects root leaf (Some own) index_keys holds = index_keys objects root holds

pub all_next : (parts here later : List Leaf) (part : Leaf) (taken own new : Option (List IndexKey)) → here ≡ part ∷ later → StillAll parts here taken
    → IndexKeys (λ objects root. HoldsAt objects root (plain_leaf part)) own → (new ≡ taken) ⊎ (new ≡ own) → StillAll parts later new
all_next parts here later part taken own new cut still index_keys either objects root hold =
    let before = still objects root hold in
    let holds = subst (λ (ls : List Leaf). AllHold objects root (leaves_of_list ls)) cut before.1 in
    let met : MetBy objects root new = elim either [
      | inl is ↦ subst (MetBy objects root) (sym is) before.0
      | inr is ↦ subst (MetBy objects root) (sym is) (met_by objects root (plain_leaf part) own index_keys holds.0)
    ] in
    (met, holds.1)

pub all_over : (parts : List Leaf) (taken : Option (List IndexKey)) → StillAll parts [] taken → IndexKeys (λ objects root. AllHold objects root (leaves_of_list parts)) taken
all_over parts None still = tt
all_over parts (Some index_keys) still = λ objects root hold. (still objects root hold).0

-- where some part holds, one that comes holds, or one of the index keys that were added is met
abbrev pub StillSome : List Leaf → List Leaf → List IndexKey → Type 0
StillSome parts here added = (objects : List Data) (root : ℕ) → SomeHold objects root (leaves_of_list parts) → SomeMet objects root added ⊎ SomeHold objects root (leaves_of_list here)

either_part : (part : Leaf) (later : List Leaf) (added own new : List IndexKey) → AreIndexKeys (λ objects root. HoldsAt objects root (plain_leaf part)) own → new ≡ added ++ own
    → (objects : List Data) (root : ℕ) → HoldsAt objects root (plain_leaf part) ⊎ SomeHold objects root (leaves_of_list later) → SomeMet objects root new ⊎ SomeHold objects root (leaves_of_list later)
either_part part later added own new index_keys is objects root either = elim either [
  | inl holds ↦
      let met = index_keys objects root holds in
      inl (met.0, subst (λ (gs : List IndexKey). Contains gs met.0) (sym is) (Contains-append_right added own met.0 met.1), met.2)
  | inr rest ↦ inr rest
]

pub some_next : (parts here later : List Leaf) (part : Leaf) (added own new : List IndexKey) → here ≡ part ∷ later → StillSome parts here added
    → AreIndexKeys (λ objects root. HoldsAt objects root (plain_leaf part)) own → new ≡ added ++ own → StillSome parts later new
some_next parts here later part added own new cut still index_keys is objects root hold = elim (still objects root hold) [
  | inl met ↦ inl (met.0, subst (λ (gs : List IndexKey). Contains gs met.0) (sym is) (Contains-append_left added own met.0 met.1), met.2)
  | inr comes ↦ either_part part later added own new index_keys is objects root (subst (λ (ls : List Leaf). SomeHold objects root (leaves_of_list ls)) cut comes)
]

pub some_over : (parts : List Leaf) (added : List IndexKey) → StillSome parts [] added → AreIndexKeys (λ objects root. SomeHold objects root (leaves_of_list parts)) added
some_over parts added still objects root hold = elim (still objects root hold) [
  | inl met ↦ met
  | inr none ↦ absurd none
]

-- where the parts are definite, those that come are, and each index key that was added is sufficient
pub record IsSufficientSoFar (parts here : List Leaf) (added : List IndexKey) : Type 0 where
  pub definite : AreDefinite (leaves_of_list here)
  pub sufficient : AreSufficient (λ objects root. SomeHold objects root (leaves_of_list parts)) added
  pub onward : (objects : List Data) (root : ℕ) → SomeHold objects root (leaves_of_list here) → SomeHold objects root (leaves_of_list parts)

abbrev pub StillSufficient : List Leaf → List Leaf → List IndexKey → Type 0
StillSufficient parts here added = AreDefinite (leaves_of_list parts) → IsSufficientSoFar parts here added

pub sufficient_none : (parts : List Leaf) → StillSufficient parts parts []
sufficient_none parts definite = record { definite = definite; sufficient = λ index_key has. absurd (omega (arith, has.1)); onward = λ objects root holds. holds }

module _ (parts here later : List Leaf) (part : Leaf) (added : List IndexKey) (cut : here ≡ part ∷ later) (still : StillSufficient parts here added) where
  pub sufficient_next : (own new : List IndexKey) → (IsDefinite (plain_leaf part) → AreSufficient (λ objects root. HoldsAt objects root (plain_leaf part)) own) → new ≡ added ++ own
      → StillSufficient parts later new
  sufficient_next own new of_part is all =
      let before = still all in
      let exacts = subst (λ (ls : List Leaf). AreDefinite (leaves_of_list ls)) cut before.definite in
      record {
        definite = exacts.1;
        sufficient = λ index_key has objects root shown. elim (Contains-append_cases added own index_key (subst (λ (gs : List IndexKey). Contains gs index_key) is has)) [
          | inl earlier ↦ before.sufficient index_key earlier objects root shown
          | inr now ↦ before.onward objects root (subst (λ (ls : List Leaf). SomeHold objects root (leaves_of_list ls)) (sym cut) (inl (of_part exacts.0 index_key now objects root shown)))
        ];
        onward = λ objects root holds. before.onward objects root (subst (λ (ls : List Leaf). SomeHold objects root (leaves_of_list ls)) (sym cut) (inr holds));
      }

  -- a part without index keys isn't definite
  pub sufficient_never : (IsDefinite (plain_leaf part) → ⊥) → AreDefinite (leaves_of_list parts) → ⊥
  sufficient_never not all = not (subst (λ (ls : List Leaf). AreDefinite (leaves_of_list ls)) cut (still all).definite).0
