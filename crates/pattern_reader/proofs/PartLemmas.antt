-- What parts of a pattern mean, joined and limited.
use Rattle.std.proofs.Common.{◌≡◌, ◌⊎◌, inl, inr, ℕ, ◌<◌, ◌≤◌, ◌*◌, List, Option, Some, None, Result, Ok, Err, IfOk, sym, subst, arith}
use Rattle.pattern_grammar.specs.declared.qualifier.Qualifier.{Qualifier}
use Rattle.pattern_grammar.specs.declared.qualifier.Qualifier.TheVariants as qualifier
use Rattle.pattern_grammar.specs.Tree.{Comparison, Tree, leaf, qualified}
use Rattle.pattern_types.specs.declared.leaf.Leaf.{Leaf}
use Rattle.pattern_types.specs.PlainLeaf.{plain_leaf}
use Rattle.pattern_types.specs.declared.limit.Limit.{Limit}
use Rattle.pattern_types.specs.declared.limit.Limit.TheVariants as limit
use Rattle.pattern_types.specs.PlainPattern.{PlainPattern, plain_pattern, a_leaf, a_limited}
use Rattle.pattern_types.specs.Width.{IsTooWide, pattern_width}
use Rattle.pattern_reader.specs.declared.narrow_pattern.Operator.{Operator}
use Rattle.pattern_reader.specs.declared.narrow_pattern.Operator.TheVariants.{Both, Either, Then}
use Rattle.pattern_reader.specs.declared.narrow_pattern.NarrowPattern.{NarrowPattern}
use Rattle.pattern_reader.specs.declared.value_refusal.ValueRefusal.{ValueRefusal}
use Rattle.pattern_reader.specs.PatternMeaning.{means_leaf, means_both, means_either, means_then, means_limited}
use Rattle.pattern_reader.specs.Refusals.{RefusalOfComparison, RefusalOf, Lacks, IsSoundLimitOf, limit_refusal}
use Rattle.pattern_reader.specs.Answer.{IsMeant, IsWidelyMeant}
use Rattle.pattern_reader.specs.inner.Analysis.{IsOutcome, IsLeafOf}
use Rattle.pattern_reader.specs.inner.NarrowPattern.{IsNarrow, UnlessTooWide, IsNarrowPatternOf, IsPartOutcome}
use Rattle.pattern_reader.specs.inner.NarrowPattern.{tree_by, meant_by}
use Rattle.pattern_reader.specs.inner.Analysis.{IsJoined}
use Rattle.flow_values.specs.Answers.{FindsExactly}
use Rattle.std.specs.Option.{ok_or}
use Rattle.pattern_reader.proofs.OutcomeLemmas.{joined_outcome, found_outcome}

-- what holds of an answer, in other words
pub if_ok : {A E : Type 0} (P Q : A → Type 0) (r : Result A E) → ((x : A) → P x → Q x) → IfOk r P → IfOk r Q
if_ok P Q (Ok x) f h = f x h
if_ok P Q (Err e) f h = tt

joined_meant : (text : List ℕ) (o : Operator) (p q : Tree) (m n : PlainPattern) → IsMeant text p m → IsMeant text q n → IsMeant text (tree_by o p q) (meant_by o m n)
joined_meant text Both p q m n x y = record { means = means_both x.means y.means; sound = (x.sound, y.sound) }
joined_meant text Either p q m n x y = record { means = means_either x.means y.means; sound = (x.sound, y.sound) }
joined_meant text Then p q m n x y = record { means = means_then x.means y.means; sound = (x.sound, y.sound) }

wide_left : (o : Operator) (m n : PlainPattern) → IsTooWide m → IsTooWide (meant_by o m n)
wide_left Both m n h = grind arith
wide_left _ m n h = grind arith

wide_right : (o : Operator) (m n : PlainPattern) → IsTooWide n → IsTooWide (meant_by o m n)
wide_right Both m n h = grind arith
wide_right _ m n h = grind arith

meant : (text : List ℕ) (p : Tree) (a : Option NarrowPattern) → IsNarrowPatternOf text p a → (m : PlainPattern) × IsMeant text p m
meant text p (Some a) h = (plain_pattern a.pattern, h.0)
meant text p None h = (h.pattern, h.meant)

-- two parts, of which one is too wide, or none
pub left_wide : (text : List ℕ) (o : Operator) (p q : Tree) (b : Option NarrowPattern) → IsWidelyMeant text p → IsNarrowPatternOf text q b → IsWidelyMeant text (tree_by o p q)
left_wide text o p q b h g = let n = meant text q b g in record { pattern = meant_by o h.pattern n.0; meant = joined_meant text o p q h.pattern n.0 h.meant n.1; wide = wide_left o h.pattern n.0 h.wide }

pub right_wide : (text : List ℕ) (o : Operator) (p q : Tree) (a : NarrowPattern) → IsNarrowPatternOf text p (Some a) → IsWidelyMeant text q → IsWidelyMeant text (tree_by o p q)
right_wide text o p q a g h = record { pattern = meant_by o (plain_pattern a.pattern) h.pattern; meant = joined_meant text o p q (plain_pattern a.pattern) h.pattern g.0 h.meant; wide = wide_right o (plain_pattern a.pattern) h.pattern h.wide }

pub both_narrow : (text : List ℕ) (o : Operator) (p q : Tree) (a b : NarrowPattern) (w : Option NarrowPattern) → UnlessTooWide (meant_by o (plain_pattern a.pattern) (plain_pattern b.pattern)) w → IsNarrowPatternOf text p (Some a) → IsNarrowPatternOf text q (Some b) → IsNarrowPatternOf text (tree_by o p q) w
both_narrow text o p q a b (Some c) h x y = (subst (IsMeant text (tree_by o p q)) (sym h.0) (joined_meant text o p q (plain_pattern a.pattern) (plain_pattern b.pattern) x.0 y.0), h.1)
both_narrow text o p q a b None h x y = record { pattern = meant_by o (plain_pattern a.pattern) (plain_pattern b.pattern); meant = joined_meant text o p q (plain_pattern a.pattern) (plain_pattern b.pattern) x.0 y.0; wide = h }

-- a part, limited
limited_meant : (text : List ℕ) (p : Tree) (q : Qualifier) (m : PlainPattern) (l : Limit) → IsMeant text p m → IsSoundLimitOf text q l → IsMeant text (qualified p q) (a_limited m l)
limited_meant text p q m l x y = record { means = means_limited x.means y.means; sound = (x.sound, y.sound) }

one_at_least : (n w : ℕ) → 1 ≤ n → 64 < w → 64 < n * w
one_at_least n w h g = let e : 1 * w ≤ n * w = search (h, arith) in omega (arith, g, e)

limited_wide : (text : List ℕ) (q : Qualifier) (m : PlainPattern) (l : Limit) → IsSoundLimitOf text q l → IsTooWide m → IsTooWide (a_limited m l)
limited_wide text q m l y (inr h) = inr h
limited_wide text q m (limit.Within n) y (inl h) = inl h
limited_wide text q m (limit.Between i j) y (inl h) = inl h
limited_wide text (qualifier.Repeats number) m (limit.Repeats n) y (inl h) = inl (one_at_least n (pattern_width m) y.means.low h)
limited_wide text _ m (limit.Repeats n) y (inl h) = absurd y.means

pub wide_limited : (text : List ℕ) (p : Tree) (q : Qualifier) (l : Limit) → IsWidelyMeant text p → IsSoundLimitOf text q l → IsWidelyMeant text (qualified p q)
wide_limited text p q l h y = record { pattern = a_limited h.pattern l; meant = limited_meant text p q h.pattern l h.meant y; wide = limited_wide text q h.pattern l y h.wide }

pub narrow_limited : (text : List ℕ) (p : Tree) (q : Qualifier) (l : Limit) (a : NarrowPattern) (w : Option NarrowPattern) → UnlessTooWide (a_limited (plain_pattern a.pattern) l) w → IsNarrowPatternOf text p (Some a) → IsSoundLimitOf text q l → IsNarrowPatternOf text (qualified p q) w
narrow_limited text p q l a (Some c) h x y = (subst (IsMeant text (qualified p q)) (sym h.0) (limited_meant text p q (plain_pattern a.pattern) l x.0 y), h.1)
narrow_limited text p q l a None h x y = record { pattern = a_limited (plain_pattern a.pattern) l; meant = limited_meant text p q (plain_pattern a.pattern) l x.0 y; wide = h }

-- both of two outcomes
pair_outcome : {A B : Type 0} (IsA : A → Type 0) (IsB : B → Type 0) (P Q : ValueRefusal → Type 0) (a : Result A ValueRefusal) (b : Result B ValueRefusal) (c d : Result (A × B) ValueRefusal)
    → c ≡ d → IsJoined (λ x y. (x, y)) a b c → IsOutcome IsA P a → IsOutcome IsB Q b → IsOutcome (λ pair. IsA pair.0 × IsB pair.1) (λ r. P r ⊎ Q r) d
pair_outcome IsA IsB P Q a b c d e j x y = subst (IsOutcome (λ pair. IsA pair.0 × IsB pair.1) (λ r. P r ⊎ Q r)) e (joined_outcome (λ x y. (x, y)) IsA IsB (λ pair. IsA pair.0 × IsB pair.1) P Q a b c (λ x y u v. (u, v)) j x y)

refused_by : (text : List ℕ) (o : Operator) (p q : Tree) (r : ValueRefusal) → RefusalOf text p r ⊎ RefusalOf text q r → RefusalOf text (tree_by o p q) r
refused_by text Both p q r h = h
refused_by text _ p q r h = h

refused_in : (text : List ℕ) (o : Operator) (p q : Tree) (r : ValueRefusal) → RefusalOf text (tree_by o p q) r → RefusalOf text p r ⊎ RefusalOf text q r
refused_in text Both p q r h = h
refused_in text _ p q r h = h

pub joined_ok : (text : List ℕ) (o : Operator) (p q : Tree) (a b : Result (Option NarrowPattern) ValueRefusal) (c : Result (Option NarrowPattern × Option NarrowPattern) ValueRefusal) (l r w : Option NarrowPattern)
    → c ≡ Ok (l, r) → IsJoined (λ x y. (x, y)) a b c → (IsNarrowPatternOf text p l → IsNarrowPatternOf text q r → IsNarrowPatternOf text (tree_by o p q) w) → IsPartOutcome text p a → IsPartOutcome text q b → IsPartOutcome text (tree_by o p q) (Ok w)
joined_ok text o p q a b c l r w e j f x y =
    let k = pair_outcome (IsNarrowPatternOf text p) (IsNarrowPatternOf text q) (RefusalOf text p) (RefusalOf text q) a b c (Ok (l, r)) e j x y in
    record { this = f k.this.0 k.this.1; earliest = λ s h. k.earliest s (refused_in text o p q s h) }

pub joined_err : (text : List ℕ) (o : Operator) (p q : Tree) (a b : Result (Option NarrowPattern) ValueRefusal) (c : Result (Option NarrowPattern × Option NarrowPattern) ValueRefusal) (s : ValueRefusal)
    → c ≡ Err s → IsJoined (λ x y. (x, y)) a b c → IsPartOutcome text p a → IsPartOutcome text q b → IsPartOutcome text (tree_by o p q) (Err s)
joined_err text o p q a b c s e j x y =
    let k = pair_outcome (IsNarrowPatternOf text p) (IsNarrowPatternOf text q) (RefusalOf text p) (RefusalOf text q) a b c (Err s) e j x y in
    record { this = tt; earliest = record { one = refused_by text o p q s k.earliest.one; first = λ r h. k.earliest.first r (refused_in text o p q r h) } }

-- a part and what it is limited by
abbrev IsLimited : List ℕ → Tree → Qualifier → Result (Option NarrowPattern × Limit) ValueRefusal → Type 0
IsLimited text p q c = IsOutcome (λ pair. IsNarrowPatternOf text p pair.0 × IsSoundLimitOf text q pair.1) (RefusalOf text (qualified p q)) c

limited_pair : (text : List ℕ) (p : Tree) (q : Qualifier) (a : Result (Option NarrowPattern) ValueRefusal) (found : Option Limit) (b : Result Limit ValueRefusal) (c d : Result (Option NarrowPattern × Limit) ValueRefusal)
    → b ≡ ok_or found (limit_refusal q) → c ≡ d → IsJoined (λ x y. (x, y)) a b c → FindsExactly (IsSoundLimitOf text q) found → IsPartOutcome text p a → IsLimited text p q d
limited_pair text p q a found b c d g e j h x =
    pair_outcome (IsNarrowPatternOf text p) (IsSoundLimitOf text q) (RefusalOf text p) (Lacks (IsSoundLimitOf text q) (limit_refusal q)) a b c d e j x
    (subst (IsOutcome (IsSoundLimitOf text q) (Lacks (IsSoundLimitOf text q) (limit_refusal q))) (sym g) (found_outcome (IsSoundLimitOf text q) (limit_refusal q) found h))

pub limited_ok : (text : List ℕ) (p : Tree) (q : Qualifier) (a : Result (Option NarrowPattern) ValueRefusal) (found : Option Limit) (b : Result Limit ValueRefusal) (c : Result (Option NarrowPattern × Limit) ValueRefusal) (part : Option NarrowPattern) (l : Limit) (w : Option NarrowPattern)
    → b ≡ ok_or found (limit_refusal q) → c ≡ Ok (part, l) → IsJoined (λ x y. (x, y)) a b c → FindsExactly (IsSoundLimitOf text q) found → (IsNarrowPatternOf text p part → IsSoundLimitOf text q l → IsNarrowPatternOf text (qualified p q) w)
    → IsPartOutcome text p a → IsPartOutcome text (qualified p q) (Ok w)
limited_ok text p q a found b c part l w g e j h f x =
    let k = limited_pair text p q a found b c (Ok (part, l)) g e j h x in record { this = f k.this.0 k.this.1; earliest = k.earliest }

pub limited_err : (text : List ℕ) (p : Tree) (q : Qualifier) (a : Result (Option NarrowPattern) ValueRefusal) (found : Option Limit) (b : Result Limit ValueRefusal) (c : Result (Option NarrowPattern × Limit) ValueRefusal) (s : ValueRefusal)
    → b ≡ ok_or found (limit_refusal q) → c ≡ Err s → IsJoined (λ x y. (x, y)) a b c → FindsExactly (IsSoundLimitOf text q) found → IsPartOutcome text p a → IsPartOutcome text (qualified p q) (Err s)
limited_err text p q a found b c s g e j h x = let k = limited_pair text p q a found b c (Err s) g e j h x in record { this = tt; earliest = k.earliest }

-- what stands in brackets
pub leaf_outcome : (text : List ℕ) (c : Comparison) (l : Leaf) (m : NarrowPattern) (o : Result Leaf ValueRefusal) → o ≡ Ok l → plain_pattern m.pattern ≡ a_leaf (plain_leaf l) → IsNarrow m
    → IsOutcome (IsLeafOf text c) (RefusalOfComparison text c) o → IsPartOutcome text (leaf c) (Ok (Some m))
leaf_outcome text c l m o e g h x =
    let k = subst (IsOutcome (IsLeafOf text c) (RefusalOfComparison text c)) e x in
    record { this = (subst (IsMeant text (leaf c)) (sym g) (record { means = means_leaf k.this.means; sound = k.this.sound }), h); earliest = k.earliest }
