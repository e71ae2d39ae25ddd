-- Chains in brackets, part by part.
use Rattle.std.proofs.Common.{◌≡◌, ◌↔◌, ◌⊎◌, inl, inr, ℕ, ◌+◌, ◌≤◌, List, [], ◌∷◌, ◌++◌, map, length, take, Option, Some, None, IfSome, IfNone, Result, Ok, Err, Bool, false, IsTrue, Bor, Box, Global, refl, sym, ap, ◌∙◌, subst, rules}
use Rattle.std.specs.Prelude.{MatchResult, IsSomeAnd}
use Rattle.std.proofs.lemmas.List.{take_all}
use Rattle.pattern_lexer.specs.declared.token.Token.{Token}
use Rattle.pattern_lexer.specs.Spans.{IsCut, At, IsItself}
use Rattle.pattern_grammar.specs.declared.comparison.TestTree.{TestTree}
use Rattle.pattern_grammar.specs.declared.comparison.ComparisonTree.{ComparisonTree, out-ComparisonTree, the_lemmas as comparison_lemmas}
use Rattle.pattern_grammar.specs.declared.comparison.Conjunction.{Conjunction, the_lemmas as conjunction_lemmas}
use Rattle.pattern_grammar.specs.declared.comparison.Operand.{Operand, fold_out-Operand, the_lemmas as operand_lemmas}
use Rattle.pattern_grammar.specs.declared.comparison.Operand.TheOpen.{Operand-F}
use Rattle.pattern_grammar.specs.declared.comparison.Operand.TheVariants as operand_tree
use Rattle.pattern_grammar.specs.Tree.{Comparison, test, group, all, any, left_fold, compared, conjunction, operand, operand_level}
use Rattle.pattern_types.specs.declared.leaf.Leaf.{Leaf, Row_of-Leaf, end_of-Leaf, more_of-Leaf, items-the_row-Leaf, the_lemmas}
use Rattle.pattern_types.specs.declared.leaf.Leaf.TheVariants as leaf
use Rattle.pattern_types.specs.PlainLeaf.{every, some, more, leaves_with, plain_leaf, plain_leaves, leaves_of_list}
use Rattle.pattern_reader.specs.declared.analysis.Analysis.{Analysis}
use Rattle.pattern_reader.specs.declared.value_refusal.ValueRefusal.{ValueRefusal}
use Rattle.pattern_reader.specs.LeafMeaning.{Means, means_group, means_all, means_any, AllParts, all_first, all_more, AnyParts, any_first, any_more, IsNoAll, IsNoAny}
use Rattle.pattern_types.specs.Soundness.{IsSoundLeaf, AreSoundLeaves}
use Rattle.pattern_reader.specs.Refusals.{RefusalOfComparison, HasRoot, IsRootless}
use Rattle.pattern_reader.specs.inner.Analysis.{IsOutcome, IsLeafOf, IsAnalysis}
use Rattle.pattern_reader.specs.inner.Analysis.{IsJoined}
use Rattle.pattern_reader.specs.inner.Analysis.{AreRootedOperands, AreAny}
use Rattle.pattern_reader.proofs.LeafRootLemmas.{put_sound, root_of_all, rooted}
use Rattle.pattern_reader.proofs.OutcomeLemmas.{outcome_same, joined_outcome, mapped_outcome}

-- leaves in a list
pub plain_leaves-items : {m : _} (k : Row_of-Leaf m) → plain_leaves k ≡ leaves_of_list (items-the_row-Leaf _ k)
plain_leaves-items end_of-Leaf = refl
plain_leaves-items (more_of-Leaf l r) = ap (more (plain_leaf l)) (plain_leaves-items r)

listed-push : (ls : List Leaf) (l : Leaf) → leaves_of_list (ls ++ l ∷ []) ≡ leaves_with (leaves_of_list ls) (plain_leaf l)
listed-push [] l = refl
listed-push (x ∷ ls) l = ap (more (plain_leaf x)) (listed-push ls l)

every_of : (parts : List Leaf) → every (leaves_of_list parts) ≡ plain_leaf (leaf.All parts)
every_of parts = search (rules, the_lemmas, plain_leaves-items)

some_of : (parts : List Leaf) → some (leaves_of_list parts) ≡ plain_leaf (leaf.Any parts)
some_of parts = search (rules, the_lemmas, plain_leaves-items)

sound_push : (ls : List Leaf) (l : Leaf) → AreSoundLeaves (leaves_of_list ls) → IsSoundLeaf (plain_leaf l) → AreSoundLeaves (leaves_of_list (ls ++ l ∷ []))
sound_push ls l h k = rw listed-push (put_sound (leaves_of_list ls) (plain_leaf l) h k)

-- the root kinds of a test
pub named_root : (text : List ℕ) (token : Token) (name : Option (Bor (List ℕ))) → IfSome name (λ part. At IsItself text token part.now) → IfNone name (¬ IsCut text token) → (root : List ℕ) → IsSomeAnd name (λ one. root ≡ one.now) ↔ At IsItself text token root
named_root text token (Some part) h g root = (λ e. record { cut = h.cut; is = e ∙ h.is }, λ a. a.is ∙ sym h.is)
named_root text token None h g root = (λ x. absurd x, λ a. absurd (g a.cut))

-- a chain of one part
module _ (text : List ℕ) (c : Comparison) (AreParts : List Leaf → Type 0) where
  pub begun : ((l : Leaf) → IsLeafOf text c l → AreParts (l ∷ [])) → (none : List Leaf) (a : Result Leaf ValueRefusal) (b : Result (List Leaf) ValueRefusal) → none ≡ [] → IsJoined (λ ls l. ls ++ l ∷ []) (Ok none) a b → IsOutcome (IsLeafOf text c) (RefusalOfComparison text c) a → IsOutcome AreParts (RefusalOfComparison text c) b
  begun f none a b e j o = outcome_same AreParts AreParts (λ r. ⊥ ⊎ RefusalOfComparison text c r) (RefusalOfComparison text c) b (λ x h. h) (λ r h. elim h [ inl x ↦ absurd x | inr y ↦ y ]) (λ r h. inr h) (joined_outcome (λ ls l. ls ++ l ∷ []) (λ ls. ls ≡ []) (IsLeafOf text c) AreParts (λ r. ⊥) (RefusalOfComparison text c) (Ok none) a b (λ ls l e h. subst (λ k. AreParts (k ++ l ∷ [])) (sym e) (f l h)) j (record { this = e; earliest = λ r x. x }) o)

pub all_begun : (text : List ℕ) (c : Comparison) → IsNoAll c → (l : Leaf) → IsLeafOf text c l → AreRootedOperands text c (l ∷ [])
all_begun text c n l h = record { means = all_first n h.means; sound = (h.sound, tt); rooted = rooted text c (plain_leaf l) h.means h.sound }

pub any_begun : (text : List ℕ) (c : Comparison) → IsNoAny c → (l : Leaf) → IsLeafOf text c l → AreAny text c (l ∷ [])
any_begun text c n l h = record { means = any_first n h.means; sound = (h.sound, tt) }

-- one part more
pub all_more_outcome : (text : List ℕ) (c d : Comparison) (a : Result (List Leaf) ValueRefusal) (b : Result Leaf ValueRefusal) (m : Result (List Leaf) ValueRefusal) (k : Result Unit ValueRefusal) (n : Result (Unit × List Leaf) ValueRefusal) (o : Result (List Leaf) ValueRefusal) → IsOutcome (AreRootedOperands text c) (RefusalOfComparison text c) a → IsOutcome (IsLeafOf text d) (RefusalOfComparison text d) b → IsJoined (λ ls l. ls ++ l ∷ []) a b m → IsOutcome (λ u. (root : List ℕ) × (HasRoot text c root × HasRoot text d root)) (IsRootless text c d) k → IsJoined (λ u ls. (u, ls)) k m n → MatchResult n (λ p. o ≡ Ok p.1) (λ r. o ≡ Err r) → IsOutcome (AreRootedOperands text (all c d)) (RefusalOfComparison text (all c d)) o
all_more_outcome text c d a b m k n o x y j z i e = mapped_outcome (λ p. p.1) (λ p. AreRootedOperands text (all c d) p.1) (AreRootedOperands text (all c d)) (RefusalOfComparison text (all c d)) n o e (λ p h. h) checked
  where
    IsMore : List Leaf → Type 0
    IsMore ls = AllParts text (all c d) (leaves_of_list ls) × AreSoundLeaves (leaves_of_list ls)

    parts : IsOutcome IsMore (λ r. RefusalOfComparison text c r ⊎ RefusalOfComparison text d r) m
    parts = joined_outcome (λ ls l. ls ++ l ∷ []) (AreRootedOperands text c) (IsLeafOf text d) IsMore (RefusalOfComparison text c) (RefusalOfComparison text d) a b m (λ ls l h g. (subst (AllParts text (all c d)) (sym (listed-push ls l)) (all_more h.means g.means), sound_push ls l h.sound g.sound)) j x y

    checked : IsOutcome (λ p. AreRootedOperands text (all c d) p.1) (RefusalOfComparison text (all c d)) n
    checked = joined_outcome (λ u ls. (u, ls)) (λ u. (root : List ℕ) × (HasRoot text c root × HasRoot text d root)) IsMore (λ p. AreRootedOperands text (all c d) p.1) (IsRootless text c d) (λ r. RefusalOfComparison text c r ⊎ RefusalOfComparison text d r) k m n (λ u ls h g. record { means = g.0; sound = g.1; rooted = h }) i z parts

pub any_more_outcome : (text : List ℕ) (c d : Comparison) (a : Result (List Leaf) ValueRefusal) (b : Result Leaf ValueRefusal) (m : Result (List Leaf) ValueRefusal) → IsOutcome (AreAny text c) (RefusalOfComparison text c) a → IsOutcome (IsLeafOf text d) (RefusalOfComparison text d) b → IsJoined (λ ls l. ls ++ l ∷ []) a b m → IsOutcome (AreAny text (any c d)) (RefusalOfComparison text (any c d)) m
any_more_outcome text c d a b m x y j = joined_outcome (λ ls l. ls ++ l ∷ []) (AreAny text c) (IsLeafOf text d) (AreAny text (any c d)) (RefusalOfComparison text c) (RefusalOfComparison text d) a b m (λ ls l h g. record { means = subst (AnyParts text (any c d)) (sym (listed-push ls l)) (any_more h.means g.means); sound = sound_push ls l h.sound g.sound }) j x y

-- all parts of a chain
pub all_leaf : (text : List ℕ) (c d : Comparison) (parts : List Leaf) → AreRootedOperands text (all c d) parts → IsLeafOf text (all c d) (leaf.All parts)
all_leaf text c d parts h = record {
  means = subst (Means text (all c d)) (every_of parts) (means_all h.means);
  sound = subst IsSoundLeaf (every_of parts) ((h.rooted.0, root_of_all text (all c d) (leaves_of_list parts) h.rooted.0 h.means h.rooted.1), h.sound);
}

pub any_leaf : (text : List ℕ) (c d : Comparison) (parts : List Leaf) → AreAny text (any c d) parts → IsLeafOf text (any c d) (leaf.Any parts)
any_leaf text c d parts h = record {
  means = subst (Means text (any c d)) (some_of parts) (means_any h.means);
  sound = subst IsSoundLeaf (some_of parts) h.sound;
}

-- an operand
pub test_operand : (t : TestTree) → operand (operand_tree.Test t) ≡ test t
test_operand t = search (rules, operand_lemmas)

pub group_operand : (a : Token) (b : Box ComparisonTree Global) → operand (operand_tree.Group a b) ≡ group a (compared b.value)
group_operand a b = search (rules, operand_lemmas)

pub grouped : (text : List ℕ) (a : Token) (c : Comparison) (j : Analysis) → IsAnalysis text c j → IsAnalysis text (group a c) (record j { at = a.from })
grouped text a c j h = record {
  at = refl;
  roots = h.roots;
  leaf = outcome_same (IsLeafOf text c) (IsLeafOf text (group a c)) (RefusalOfComparison text c) (RefusalOfComparison text (group a c)) j.leaf (λ l k. record { means = means_group k.means; sound = k.sound }) (λ r x. x) (λ r x. x) h.leaf;
}

-- an operand is no chain, and a conjunction is none of OR
level_no_chain : (y : Operand-F Comparison Comparison Comparison) → IsNoAll (operand_level y) × IsNoAny (operand_level y)
level_no_chain (Operand-F.Test t) = (tt, tt)
level_no_chain (Operand-F.Group a b) = (tt, tt)

no_chain : (t : Operand) → IsNoAll (operand t) × IsNoAny (operand t)
no_chain t = rw fold_out-Operand (level_no_chain _)

pub no_all : (t : Operand) → IsNoAll (operand t)
no_all t = (no_chain t).0

no_any_joined : (c : Comparison) (ds : List Comparison) → IsNoAny c → IsNoAny (left_fold all c ds)
no_any_joined c [] h = h
no_any_joined c (d ∷ ds) h = no_any_joined (all c d) ds tt

-- a conjunction and a comparison from their parts
conjunction_out : (t : Conjunction) → conjunction t ≡ left_fold all (operand t.first) (map operand t.others)
conjunction_out t = search (rules, conjunction_lemmas)

compared_out : (t : ComparisonTree) → compared t ≡ left_fold any (conjunction (out-ComparisonTree t).first) (map conjunction (out-ComparisonTree t).others)
compared_out t = search (rules, comparison_lemmas)

pub no_any : (t : Conjunction) → IsNoAny (conjunction t)
no_any t = rw (conjunction_out t) (no_any_joined (operand t.first) (map operand t.others) (no_chain t.first).1)

pub joined_more : {A V : Type 0} (join : V → V → V) (f : A → V) (first : V) (xs : List A) (x : A) → left_fold join first (map f (xs ++ x ∷ [])) ≡ join (left_fold join first (map f xs)) (f x)
joined_more join f first [] x = refl
joined_more join f first (y ∷ ys) x = joined_more join f (join first (f y)) ys x

pub part_more : {A : Type 0} (join : Comparison → Comparison → Comparison) (g : A → Comparison) (P : Comparison → Type 0) (c : Comparison) (xs : List A) (i : ℕ) (x : A) → take (i + 1) xs ≡ take i xs ++ x ∷ [] → P (join (left_fold join c (map g (take i xs))) (g x)) → P (left_fold join c (map g (take (i + 1) xs)))
part_more join g P c xs i x e h = subst (λ ys. P (left_fold join c (map g ys))) (sym e) (subst P (sym (joined_more join g c (take i xs) x)) h)

-- what holds of two parts or more
of_two : {A : Type 0} (join : Comparison → Comparison → Comparison) (g : A → Comparison) (P Q : Comparison → Type 0) → ((c d : Comparison) → P (join c d) → Q (join c d)) → (c : Comparison) (xs : List A) → (xs ≡ [] → ⊥) → P (left_fold join c (map g xs)) → Q (left_fold join c (map g xs))
of_two join g P Q f c [] n h = absurd (n refl)
of_two join g P Q f c (x ∷ []) n h = f c (g x) h
of_two join g P Q f c (x ∷ y ∷ ys) n h = of_two join g P Q f (join c (g x)) (y ∷ ys) (λ e. absurd (cc)) h

pub conjunction_whole : (P Q : Comparison → Type 0) (t : Conjunction) (i : ℕ) → ((c d : Comparison) → P (all c d) → Q (all c d)) → (t.others ≡ [] → ⊥) → length t.others ≤ i → P (left_fold all (operand t.first) (map operand (take i t.others))) → Q (conjunction t)
conjunction_whole P Q t i f n e h = let a = take_all i t.others e in rw (conjunction_out t) (of_two all operand P Q f (operand t.first) t.others n (rw a at h))

pub comparison_whole : (P Q : Comparison → Type 0) (t : ComparisonTree) (i : ℕ) → ((c d : Comparison) → P (any c d) → Q (any c d)) → ((out-ComparisonTree t).others ≡ [] → ⊥) → length (out-ComparisonTree t).others ≤ i → P (left_fold any (conjunction (out-ComparisonTree t).first) (map conjunction (take i (out-ComparisonTree t).others))) → Q (compared t)
comparison_whole P Q t i f n e h = let a = take_all i (out-ComparisonTree t).others e in rw (compared_out t) (of_two any conjunction P Q f (conjunction (out-ComparisonTree t).first) (out-ComparisonTree t).others n (rw a at h))

pub conjunction_alone : (text : List ℕ) (t : Conjunction) (j : Analysis) → t.others ≡ [] → IsAnalysis text (operand t.first) j → IsAnalysis text (conjunction t) j
conjunction_alone text t j e h = rw (conjunction_out t, e) h

pub comparison_alone : (text : List ℕ) (t : ComparisonTree) (j : Analysis) → (out-ComparisonTree t).others ≡ [] → IsAnalysis text (conjunction (out-ComparisonTree t).first) j → IsAnalysis text (compared t) j
comparison_alone text t j e h = rw (compared_out t, e) h

pub not_so : {A : Type 0} (r : Bool) → IsTrue r ↔ A → r ≡ false → A → ⊥
not_so r h e a = let g = h.1 a in absurd (cc)
