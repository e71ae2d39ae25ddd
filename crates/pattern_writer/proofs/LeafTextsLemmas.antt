-- The texts of a list of leaves.
use Rattle.std.proofs.Common.{◌≡◌, ℕ, List, [], ◌∷◌, refl, ap, subst, rules, Result, OnOk}
use Rattle.std.specs.Prelude.{codes}
use Rattle.pattern_types.specs.declared.leaf.Leaf.{Leaf, Row_of-Leaf, end_of-Leaf, more_of-Leaf, items-the_row-Leaf, the_lemmas}
use Rattle.pattern_types.specs.declared.leaf.Leaf.TheVariants as leaf
use Rattle.std.specs.List.{AllZip}
use Rattle.pattern_types.specs.PlainLeaf.{PlainLeaf, every, some, more, plain_leaf, plain_leaves, leaves_of_list}
use Rattle.pattern_writer.specs.Parts.{IsParenthesizedBelow, AreJoined, AppendsText}
use Rattle.pattern_writer.specs.Leaf.{binds, IsFormulaText, AreTextsOf, AreJoinedOperands}

-- a text of the leaf, that binds no less than this
abbrev pub IsPart : ℕ → Leaf → List ℕ → Type 0
IsPart least l = IsParenthesizedBelow least (binds (plain_leaf l)) (IsFormulaText (plain_leaf l))

texts_of : (least : ℕ) (ls : List Leaf) (texts : List (List ℕ)) → AllZip (IsPart least) ls texts → AreTextsOf (leaves_of_list ls) least texts
texts_of least [] [] h = tt
texts_of least [] (t ∷ ts) h = h
texts_of least (l ∷ ls) [] h = h
texts_of least (l ∷ ls) (t ∷ ts) h = (h.0, texts_of least ls ts h.1)

pub adds_parts : (least : ℕ) (between : List ℕ) (ls : List Leaf) (old new : List ℕ) → AppendsText (AreJoined between (IsPart least) ls) old new → AppendsText (AreJoinedOperands least between (leaves_of_list ls)) old new
adds_parts least between ls old new h = (h.0, (h.1.0, texts_of least ls h.1.0 h.1.1, h.1.2), h.2)

plain_leaves-items : {m : _} (k : Row_of-Leaf m) → plain_leaves k ≡ leaves_of_list (items-the_row-Leaf _ k)
plain_leaves-items end_of-Leaf = refl
plain_leaves-items (more_of-Leaf l r) = ap (more (plain_leaf l)) (plain_leaves-items r)

every_of : (parts : List Leaf) → every (leaves_of_list parts) ≡ plain_leaf (leaf.All parts)
every_of parts = search (rules, the_lemmas, plain_leaves-items)

some_of : (parts : List Leaf) → some (leaves_of_list parts) ≡ plain_leaf (leaf.Any parts)
some_of parts = search (rules, the_lemmas, plain_leaves-items)

-- the parts of AND and of OR are the text of their leaf
pub ok_all : {T E : Type 0} (r : Result T E) (parts : List Leaf) (old new : List ℕ) → OnOk r (AppendsText (AreJoinedOperands 2 (codes " AND ") (leaves_of_list parts)) old new) → OnOk r (AppendsText (IsFormulaText (plain_leaf (leaf.All parts))) old new)
ok_all r parts old new h = subst (λ (f : PlainLeaf). OnOk r (AppendsText (IsFormulaText f) old new)) (every_of parts) h

pub ok_any : {T E : Type 0} (r : Result T E) (parts : List Leaf) (old new : List ℕ) → OnOk r (AppendsText (AreJoinedOperands 1 (codes " OR ") (leaves_of_list parts)) old new) → OnOk r (AppendsText (IsFormulaText (plain_leaf (leaf.Any parts))) old new)
ok_any r parts old new h = subst (λ (f : PlainLeaf). OnOk r (AppendsText (IsFormulaText f) old new)) (some_of parts) h
