-- A pattern has one canonical text, where an instant has one.
use Rattle.std.proofs.Common.{◌≡◌, inl, inr, ℕ, ℤ, Bool, List, [], ◌∷◌, ◌++◌, refl, sym, ap, ◌∙◌}
use Rattle.std.specs.Prelude.{codes}
use Rattle.stix_times.specs.Writing.{IsCanonicalTextOf}
use Rattle.pattern_lexer.specs.Values.{quoted}
use Rattle.pattern_types.specs.declared.path.Step.{Step}
use Rattle.pattern_types.specs.declared.path.Step.TheVariants as step
use Rattle.pattern_types.specs.declared.path.Path.{Path}
use Rattle.pattern_types.specs.declared.constant.Constant.{Constant}
use Rattle.pattern_types.specs.declared.constant.Constant.TheVariants.{Timestamp}
use Rattle.pattern_types.specs.declared.check.Check.{Check}
use Rattle.pattern_types.specs.declared.check.Check.TheVariants as check
use Rattle.std.specs.List.{AllZip}
use Rattle.pattern_types.specs.PlainLeaf.{PlainLeaf, one, every, some, PlainLeaves, none, more}
use Rattle.pattern_types.specs.PlainPattern.{PlainPattern, a_leaf, a_both, an_either, a_then, a_limited}
use Rattle.pattern_types.specs.declared.limit.Limit.{Limit}
use Rattle.pattern_types.specs.declared.limit.Limit.TheVariants.{Between}
use Rattle.pattern_writer.specs.Parts.{IsAfterText, IsBetween, AreSides, joined_texts, AreJoined, parenthesized, IsParenthesizedBelow}
use Rattle.pattern_writer.specs.Path.{IsNameText, IsStepText, IsFirstText, AreStepsText, IsPathText}
use Rattle.pattern_writer.specs.Constant.{IsTimeText, IsConstantText}
use Rattle.pattern_writer.specs.Check.{IsSetLiteralText, AreWords, IsCheckedText, not_text, operator_text}
use Rattle.pattern_writer.specs.Leaf.{binds, IsFormulaText, AreTextsOf}
use Rattle.pattern_writer.specs.Limit.{IsLimitText}
use Rattle.pattern_writer.specs.Canonical.{precedence_level, IsCanonical}

abbrev pub OneTimestamp : Type 0
OneTimestamp = (a b : List ℕ) (i : ℤ) → IsCanonicalTextOf a i → IsCanonicalTextOf b i → a ≡ b

-- one text at most is such
abbrev One : (List ℕ → Type 0) → Type 0
One IsText = (a b : List ℕ) → IsText a → IsText b → a ≡ b

after : (lead : List ℕ) (IsText : List ℕ → Type 0) → One IsText → One (IsAfterText lead IsText)
after lead IsText u a b h k = h.2 ∙ ap (λ (x : List ℕ). lead ++ x) (u h.0 k.0 h.1 k.1) ∙ sym k.2

between : (opening closing : List ℕ) (IsText : List ℕ → Type 0) → One IsText → One (IsBetween opening closing IsText)
between opening closing IsText u a b h k = h.2 ∙ ap (λ (x : List ℕ). opening ++ x ++ closing) (u h.0 k.0 h.1 k.1) ∙ sym k.2

sides : (IsLeft : List ℕ → Type 0) (mid : List ℕ) (IsRight : List ℕ → Type 0) → One IsLeft → One IsRight → One (AreSides IsLeft mid IsRight)
sides IsLeft mid IsRight u v a b h k = h.4 ∙ ap (λ (x : List ℕ). x ++ mid ++ h.1) (u h.0 k.0 h.2 k.2) ∙ ap (λ (x : List ℕ). k.0 ++ mid ++ x) (v h.1 k.1 h.3 k.3) ∙ sym k.4

within : (least b : ℕ) (IsText : List ℕ → Type 0) → One IsText → One (IsParenthesizedBelow least b IsText)
within least b IsText u x y h k = h.2 ∙ ap (parenthesized least b) (u h.0 k.0 h.1 k.1) ∙ sym k.2

each : {A : Type 0} (R : A → List ℕ → Type 0) → ((x : A) → One (R x)) → (xs : List A) (ts us : List (List ℕ)) → AllZip R xs ts → AllZip R xs us → ts ≡ us
each R u [] [] [] h k = refl
each R u [] [] (y ∷ ys) h k = absurd k
each R u [] (x ∷ xs) us h k = absurd h
each R u (a ∷ as_) [] us h k = absurd h
each R u (a ∷ as_) (x ∷ xs) [] h k = absurd k
each R u (a ∷ as_) (x ∷ xs) (y ∷ ys) h k = let e = u a x y h.0 k.0 in let f = each R u as_ xs ys h.1 k.1 in ap (λ (z : List ℕ). z ∷ xs) e ∙ ap (λ (zs : List (List ℕ)). y ∷ zs) f

joint : {A : Type 0} (mid : List ℕ) (R : A → List ℕ → Type 0) → ((x : A) → One (R x)) → (xs : List A) → One (AreJoined mid R xs)
joint mid R u xs a b h k = h.2 ∙ ap (joined_texts mid) (each R u xs h.0 k.0 h.1 k.1) ∙ sym k.2

name : (n : List ℕ) → One (IsNameText n)
name n a b (inl h) (inl k) = h.1 ∙ sym k.1
name n a b (inl h) (inr k) = absurd (k.0 h.0)
name n a b (inr h) (inl k) = absurd (h.0 k.0)
name n a b (inr h) (inr k) = h.1 ∙ sym k.1

a_step : (s : Step) → One (IsStepText s)
a_step (step.Name n) = after (codes ".") (IsNameText n) (name n)
a_step _ = λ a b h k. h ∙ sym k

first : (s : Step) → One (IsFirstText s)
first (step.Name n) = name n
first s = a_step s

steps : (ss : List Step) → One (AreStepsText ss)
steps [] = λ a b h k. h ∙ sym k
steps (s ∷ ss) = sides (IsFirstText s) [] (AreJoined [] IsStepText ss) (first s) (joint [] IsStepText a_step ss)

path : (p : Path) → One (IsPathText p)
path p = after (p.kind ++ codes ":") (AreStepsText p.steps) (steps p.steps)

time : OneTimestamp → (i : ℤ) → One (IsTimeText i)
time u i a b h k = h.2 ∙ ap (quoted (codes "t")) (u h.0 k.0 i h.1 k.1) ∙ sym k.2

constant : OneTimestamp → (c : Constant) → One (IsConstantText c)
constant u (Timestamp i) = time u i
constant u _ = λ a b h k. h ∙ sym k

words : (w : List ℕ) → One (AreWords w)
words w a b h k = h ∙ sym k

checked : OneTimestamp → (p : Path) (negated : Bool) (c : Check) → One (IsCheckedText p negated c)
checked u p negated (check.Equal v) = sides (IsPathText p) (operator_text negated (codes "=")) (IsConstantText v) (path p) (constant u v)
checked u p negated (check.Differ v) = sides (IsPathText p) (operator_text negated (codes "!=")) (IsConstantText v) (path p) (constant u v)
checked u p negated (check.Less v) = sides (IsPathText p) (operator_text negated (codes "<")) (IsConstantText v) (path p) (constant u v)
checked u p negated (check.LessEqual v) = sides (IsPathText p) (operator_text negated (codes "<=")) (IsConstantText v) (path p) (constant u v)
checked u p negated (check.Greater v) = sides (IsPathText p) (operator_text negated (codes ">")) (IsConstantText v) (path p) (constant u v)
checked u p negated (check.GreaterEqual v) = sides (IsPathText p) (operator_text negated (codes ">=")) (IsConstantText v) (path p) (constant u v)
checked u p negated (check.Among vs) = sides (IsPathText p) (operator_text negated (codes "IN")) (IsSetLiteralText vs) (path p) (between (codes "(") (codes ")") (AreJoined (codes ", ") IsConstantText vs) (joint (codes ", ") IsConstantText (constant u) vs))
checked u p negated (check.Like w) = sides (IsPathText p) (operator_text negated (codes "LIKE")) (AreWords w) (path p) (words w)
checked u p negated (check.Subset w) = sides (IsPathText p) (operator_text negated (codes "ISSUBSET")) (AreWords w.text) (path p) (words w.text)
checked u p negated (check.Superset w) = sides (IsPathText p) (operator_text negated (codes "ISSUPERSET")) (AreWords w.text) (path p) (words w.text)
checked u p negated check.Exists = after (not_text negated ++ codes "EXISTS ") (IsPathText p) (path p)

mutual
  plain_leaf : OneTimestamp → (f : PlainLeaf) → One (IsFormulaText f)
  plain_leaf u (one t) = checked u t.path t.negated t.check
  plain_leaf u (every fs) = λ a b h k. h.2 ∙ ap (joined_texts (codes " AND ")) (parts u fs 2 h.0 k.0 h.1 k.1) ∙ sym k.2
  plain_leaf u (some fs) = λ a b h k. h.2 ∙ ap (joined_texts (codes " OR ")) (parts u fs 1 h.0 k.0 h.1 k.1) ∙ sym k.2

  parts : OneTimestamp → (fs : PlainLeaves) (least : ℕ) (ts us : List (List ℕ)) → AreTextsOf fs least ts → AreTextsOf fs least us → ts ≡ us
  parts u none least [] [] h k = refl
  parts u (more f fs) least (x ∷ xs) (y ∷ ys) h k =
      let e = within least (binds f) (IsFormulaText f) (plain_leaf u f) x y h.0 k.0 in
      let g = parts u fs least xs ys h.1 k.1 in
      ap (λ (z : List ℕ). z ∷ xs) e ∙ ap (λ (zs : List (List ℕ)). y ∷ zs) g
  parts u none least (x ∷ xs) us h k = absurd h
  parts u (more f fs) least [] us h k = absurd h
  parts u fs least ts us h k = absurd k

limit : OneTimestamp → (l : Limit) → One (IsLimitText l)
limit u (Between i j) = sides (IsAfterText (codes "START ") (IsTimeText i)) (codes " STOP ") (IsTimeText j) (after (codes "START ") (IsTimeText i) (time u i)) (time u j)
limit u _ = λ a b h k. h ∙ sym k

pub canonical_once : OneTimestamp → (m : PlainPattern) → One (IsCanonical m)
canonical_once u (a_leaf f) = between (codes "[") (codes "]") (IsFormulaText f) (plain_leaf u f)
canonical_once u (a_both m n) = sides (IsParenthesizedBelow 2 (precedence_level m) (IsCanonical m)) (codes " AND ") (IsParenthesizedBelow 3 (precedence_level n) (IsCanonical n)) (within 2 (precedence_level m) (IsCanonical m) (canonical_once u m)) (within 3 (precedence_level n) (IsCanonical n) (canonical_once u n))
canonical_once u (an_either m n) = sides (IsParenthesizedBelow 1 (precedence_level m) (IsCanonical m)) (codes " OR ") (IsParenthesizedBelow 2 (precedence_level n) (IsCanonical n)) (within 1 (precedence_level m) (IsCanonical m) (canonical_once u m)) (within 2 (precedence_level n) (IsCanonical n) (canonical_once u n))
canonical_once u (a_then m n) = sides (IsParenthesizedBelow 0 (precedence_level m) (IsCanonical m)) (codes " FOLLOWEDBY ") (IsParenthesizedBelow 1 (precedence_level n) (IsCanonical n)) (within 0 (precedence_level m) (IsCanonical m) (canonical_once u m)) (within 1 (precedence_level n) (IsCanonical n) (canonical_once u n))
canonical_once u (a_limited m l) = sides (IsParenthesizedBelow 3 (precedence_level m) (IsCanonical m)) (codes " ") (IsLimitText l) (within 3 (precedence_level m) (IsCanonical m) (canonical_once u m)) (limit u l)
