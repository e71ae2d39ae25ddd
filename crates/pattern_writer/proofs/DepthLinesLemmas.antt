-- How deep what spells a pattern nests: at least as deep as its canonical text.
use Rattle.std.proofs.Common.{◌≡◌, ℕ, ◌+◌, ◌≤◌, Bool, true, false, List, [], ◌∷◌, ◌++◌, refl, arith, nat_le, max, if◌then◌else◌}
use Rattle.std.proofs.lemmas.Bool.Decides.{nat_tests}
use Rattle.pattern_lexer.specs.declared.token.Token.{Token}
use Rattle.pattern_lexer.specs.declared.token.TokenKind.{TokenKind}
use Rattle.pattern_lexer.specs.declared.token.TokenKind.TheVariants as kind
use Rattle.pattern_grammar.specs.declared.class.TokenClass.{TokenClass}
use Rattle.pattern_grammar.specs.declared.class.TokenClass.TheVariants.{Only, Root, Name, Index, Equality, Order, Textual, Ordered, Constant, Qualifying}
use Rattle.pattern_grammar.specs.declared.path.StepTree.{StepTree}
use Rattle.pattern_grammar.specs.declared.path.PathTree.{PathTree}
use Rattle.pattern_grammar.specs.declared.comparison.CheckTree.{CheckTree}
use Rattle.pattern_grammar.specs.declared.qualifier.Qualifier.{Qualifier}
use Rattle.pattern_grammar.specs.TokenClass.{IsA, is_in}
use Rattle.pattern_grammar.specs.Tree.{Comparison, Tree, test}
use Rattle.pattern_grammar.specs.Grammar.{IsStep, step_name, step_index, IsPath, path_first, path_further, AreConstants, constants_one, constants_more, IsCheck, check_equality, check_order, check_among, check_textual, IsTest, test_group, test_exists, test_not_exists, test_compare, test_not_compare, IsCand, cand_one, cand_more, IsCor, cor_one, cor_more, IsQualifier, qualifier_within, qualifier_repeats, qualifier_between, IsStart, start_leaf, start_group, IsUnit, unit_one, unit_more, IsAnds, ands_one, ands_more, IsOrs, ors_one, ors_more, IsPattern, pattern_one, pattern_more}
use Rattle.pattern_types.specs.PlainLeaf.{PlainLeaf, one, every, some, PlainLeaves, none, more, leaves_with}
use Rattle.pattern_reader.specs.LeafMeaning.{IsNoAll, IsNoAny, Means, means_test, means_group, means_all, means_any, AllParts, all_first, all_more, AnyParts, any_first, any_more}
use Rattle.pattern_types.specs.PlainPattern.{PlainPattern, a_leaf, a_both, an_either, a_then, a_limited}
use Rattle.pattern_reader.specs.PatternMeaning.{MeansPattern, means_leaf, means_both, means_either, means_then, means_limited}
use Rattle.pattern_writer.specs.Leaf.{binds}
use Rattle.pattern_writer.specs.Canonical.{precedence_level}
use Rattle.pattern_writer.proofs.DepthsLemmas.{Measured, measured_is, is_flat, only_flat, Flat, flats, flat_join, first_flat, last_flat, mid_flat, joined, round, among, qualifying}

-- classes of flat kinds
abbrev is_flat_class : TokenClass → Bool
is_flat_class (Only wanted) = false
is_flat_class Qualifying = false
is_flat_class _ = true

class_flat : (class : TokenClass) (k : TokenKind) → is_flat_class class ≡ true → is_in class k ≡ true → is_flat k ≡ true
class_flat (Only wanted) k f e = absurd (cc)
class_flat Qualifying k f e = absurd (cc)
class_flat _ kind.RoundOpen f e = cc
class_flat _ _ f e = cc

-- paths and constants
step_flat : {ts : List Token} {s : StepTree} → IsStep ts s → Flat ts
step_flat (step_name a b h k) = (only_flat kind.Dot a.kind h refl, (class_flat Name b.kind refl k, tt))
step_flat (step_index a b c h k l) = (only_flat kind.SquareOpen a.kind h refl, (class_flat Index b.kind refl k, (only_flat kind.SquareClose c.kind l refl, tt)))

pub path_flat : {ts : List Token} {p : PathTree} → IsPath ts p → Flat ts
path_flat (path_first a b c h k l) = (class_flat Root a.kind refl h, (only_flat kind.Colon b.kind k refl, (class_flat Name c.kind refl l, tt)))
path_flat (path_further {a = a} {b = b} x y) = flat_join a b (path_flat x) (step_flat y)

constants_flat : {ts cs : List Token} → AreConstants ts cs → Flat ts
constants_flat (constants_one a h) = (class_flat Constant a.kind refl h, tt)
constants_flat (constants_more {ts = ts} a b x h k) = flat_join ts (a ∷ b ∷ []) (constants_flat x) (only_flat kind.Comma a.kind h refl, (class_flat Constant b.kind refl k, tt))

pub check_measured : {ts : List Token} {c : CheckTree} → IsCheck ts c → Measured ts 0 0
check_measured (check_equality a b h k) = flats (a ∷ b ∷ []) (class_flat Equality a.kind refl h, (class_flat Constant b.kind refl k, tt))
check_measured (check_order a b h k) = flats (a ∷ b ∷ []) (class_flat Order a.kind refl h, (class_flat Ordered b.kind refl k, tt))
check_measured (check_among a b c {ts = ts} h k x l) = among a b c ts h k l (constants_flat x)
check_measured (check_textual a b h k) = flats (a ∷ b ∷ []) (class_flat Textual a.kind refl h, (only_flat kind.String b.kind k refl, tt))

pub qualifier_measured : {ts : List Token} {q : Qualifier} → IsQualifier ts q → Measured ts 0 1
qualifier_measured (qualifier_within a b c h k l) = qualifying kind.Within a (b ∷ c ∷ []) h refl refl (only_flat kind.Number b.kind k refl, (only_flat kind.Seconds c.kind l refl, tt))
qualifier_measured (qualifier_repeats a b c h k l) = qualifying kind.Repeats a (b ∷ c ∷ []) h refl refl (only_flat kind.Number b.kind k refl, (only_flat kind.Times c.kind l refl, tt))
qualifier_measured (qualifier_between a b c d h k l m) = qualifying kind.Start a (b ∷ c ∷ d ∷ []) h refl refl (only_flat kind.Timestamp b.kind k refl, (only_flat kind.Stop c.kind l refl, (only_flat kind.Timestamp d.kind m refl, tt)))

-- how many parentheses the canonical text opens at once: one more for what binds less tightly than is asked
abbrev pub wrapped : ℕ → ℕ → ℕ → ℕ
wrapped least binds n = if nat_le least binds then n else n + 1

abbrev mutual
  pub formula_need : PlainLeaf → ℕ
  formula_need (one t) = 0
  formula_need (every fs) = parts_need 2 fs
  formula_need (some fs) = parts_need 1 fs

  pub parts_need : ℕ → PlainLeaves → ℕ
  parts_need least none = 0
  parts_need least (more f fs) = max (wrapped least (binds f) (formula_need f)) (parts_need least fs)

abbrev pub need : PlainPattern → ℕ
need (a_leaf f) = formula_need f
need (a_both m n) = max (wrapped 2 (precedence_level m) (need m)) (wrapped 3 (precedence_level n) (need n))
need (an_either m n) = max (wrapped 1 (precedence_level m) (need m)) (wrapped 2 (precedence_level n) (need n))
need (a_then m n) = max (wrapped 0 (precedence_level m) (need m)) (wrapped 1 (precedence_level n) (need n))
need (a_limited m l) = wrapped 3 (precedence_level m) (need m)

abbrev pub qualifiers_in : PlainPattern → ℕ
qualifiers_in (a_leaf f) = 0
qualifiers_in (a_both m n) = qualifiers_in m + qualifiers_in n
qualifiers_in (an_either m n) = qualifiers_in m + qualifiers_in n
qualifiers_in (a_then m n) = qualifiers_in m + qualifiers_in n
qualifiers_in (a_limited m l) = qualifiers_in m + 1

pub wrapped_least : (b n : ℕ) → wrapped 0 b n ≡ n
wrapped_least b n = grind (arith, nat_tests)

wrapped_high : (k b n : ℕ) → wrapped k b n ≤ n + 1
wrapped_high k b n = grind (arith, nat_tests)

wrapped_down : (j k b n : ℕ) → j ≤ k → wrapped j b n ≤ wrapped k b n
wrapped_down j k b n h = grind (arith, nat_tests)

pub put_need : (least : ℕ) (fs : PlainLeaves) (f : PlainLeaf) → parts_need least (leaves_with fs f) ≡ max (parts_need least fs) (wrapped least (binds f) (formula_need f))
put_need least none f = omega arith
put_need least (more g fs) f = let e = put_need least fs f in omega (arith, e)

-- the tokens open at least this many parentheses at once, and have this many qualifiers
pub record Deep (ts : List Token) (q least : ℕ) : Type 0 where
  pub n : ℕ
  pub measured : Measured ts n q
  pub at_least : least ≤ n

deep_less : (ts : List Token) (q k l : ℕ) → k ≤ l → Deep ts q l → Deep ts q k
deep_less ts q k l h d = let g = d.at_least in record { n = d.n; measured = d.measured; at_least = omega (arith, g) }

deep_flat : (ts : List Token) → Measured ts 0 0 → Deep ts 0 0
deep_flat ts m = record { n = 0; measured = m; at_least = omega arith }

deep_mid : (xs : List Token) (t : Token) (ys : List Token) (q r k l : ℕ) → is_flat t.kind ≡ true → Deep xs q k → Deep ys r l → Deep (xs ++ t ∷ ys) (q + r) (max k l)
deep_mid xs t ys q r k l e c d = let g = c.at_least in let h = d.at_least in record { n = max c.n d.n; measured = mid_flat xs t ys c.n q d.n r e c.measured d.measured; at_least = omega (arith, g, h) }

deep_round : (a b : Token) (ts : List Token) (q l : ℕ) → IsA (Only kind.RoundOpen) a → IsA (Only kind.RoundClose) b → Deep ts q l → Deep (a ∷ ts ++ b ∷ []) q (l + 1)
deep_round a b ts q l h k d = let g = d.at_least in record { n = d.n + 1; measured = round a b ts d.n q h k d.measured; at_least = omega (arith, g) }

deep_square : (a b : Token) (ts : List Token) (q l : ℕ) → is_flat a.kind ≡ true → is_flat b.kind ≡ true → Deep ts q l → Deep (a ∷ ts ++ b ∷ []) q l
deep_square a b ts q l h k d = record { n = d.n; measured = first_flat a (ts ++ b ∷ []) d.n q h (last_flat b ts d.n q k d.measured); at_least = d.at_least }

-- tests and chains of AND are no chains of what binds less
pub test_apart : {ts : List Token} {c : Comparison} → IsTest ts c → IsNoAll c × IsNoAny c
test_apart (test_group a b h k l) = (tt, tt)
test_apart _ = (tt, tt)

pub cand_apart : {ts : List Token} {c : Comparison} → IsCand ts c → IsNoAny c
cand_apart (cand_one h) = (test_apart h).1
cand_apart (cand_more o h k l) = tt

-- tests that stand in a comparison
two_measured : (xs ys : List Token) → Flat xs → Measured ys 0 0 → Measured (xs ++ ys) 0 0
two_measured xs ys h m = measured_is (xs ++ ys) (max 0 0) (0 + 0) 0 0 refl refl (joined xs ys 0 0 0 0 (flats xs h) m)

-- a test that stands in no parentheses
abbrev pub IsPlain : Comparison → Type 0
IsPlain (test t) = Unit {0}
IsPlain _ = ⊥

pub plain_measured : {ts : List Token} {c : Comparison} → IsTest ts c → IsPlain c → Measured ts 0 0
plain_measured (test_group a b h x k) p = absurd p
plain_measured (test_exists a {ts = ts} h x) p = flats (a ∷ ts) (only_flat kind.Exists a.kind h refl, path_flat x)
plain_measured (test_not_exists a b {ts = ts} h k x) p = flats (a ∷ b ∷ ts) (only_flat kind.Not a.kind h refl, (only_flat kind.Exists b.kind k refl, path_flat x))
plain_measured (test_compare {a = a} {b = b} x y) p = two_measured a b (path_flat x) (check_measured y)
plain_measured (test_not_compare {a = a} {b = b} o x h y) p = two_measured a (o ∷ b) (path_flat x) (first_flat o b 0 0 (only_flat kind.Not o.kind h refl) (check_measured y))

-- one part more
part_more : (least : ℕ) (xs ys : List Token) (o : Token) (fs : PlainLeaves) (f : PlainLeaf) → is_flat o.kind ≡ true → Deep xs 0 (parts_need least fs) → Deep ys 0 (wrapped least (binds f) (formula_need f)) → Deep (xs ++ o ∷ ys) 0 (parts_need least (leaves_with fs f))
part_more least xs ys o fs f e c d =
    deep_less (xs ++ o ∷ ys) 0 (parts_need least (leaves_with fs f)) (max (parts_need least fs) (wrapped least (binds f) (formula_need f))) (let g = put_need least fs f in omega (arith, g)) (deep_mid xs o ys 0 0 (parts_need least fs) (wrapped least (binds f) (formula_need f)) e c d)

mutual
  test_deep : (text : List ℕ) {ts : List Token} {c : Comparison} {f : PlainLeaf} → IsTest ts c → Means text c f → Deep ts 0 (wrapped 2 (binds f) (formula_need f))
  test_deep text {f = f} (test_group a b {ts = ts} h x k) (means_group m) =
      let d = cor_deep text x m in
      deep_less _ 0 (wrapped 2 (binds f) (formula_need f)) (wrapped 0 (binds f) (formula_need f) + 1) (let e = wrapped_least (binds f) (formula_need f) in let g = wrapped_high 2 (binds f) (formula_need f) in omega (arith, e, g)) (deep_round a b ts 0 (wrapped 0 (binds f) (formula_need f)) h k d)
  test_deep text (test_exists a h x) (means_test m) = deep_flat _ (plain_measured (test_exists a h x) tt)
  test_deep text (test_not_exists a b h k x) (means_test m) = deep_flat _ (plain_measured (test_not_exists a b h k x) tt)
  test_deep text (test_compare x y) (means_test m) = deep_flat _ (plain_measured (test_compare x y) tt)
  test_deep text (test_not_compare o x h y) (means_test m) = deep_flat _ (plain_measured (test_not_compare o x h y) tt)

  all_deep : (text : List ℕ) {ts : List Token} {c : Comparison} {fs : PlainLeaves} → IsCand ts c → AllParts text c fs → Deep ts 0 (parts_need 2 fs)
  all_deep text (cand_one x) (all_first {f = f} n m) = deep_less _ 0 (max (wrapped 2 (binds f) (formula_need f)) 0) (wrapped 2 (binds f) (formula_need f)) (omega arith) (test_deep text x m)
  all_deep text (cand_one x) (all_more h m) = absurd (test_apart x).0
  all_deep text (cand_more o x k y) (all_first n m) = absurd n
  all_deep text (cand_more {a = a} {b = b} o x k y) (all_more {fs = fs} {f = f} h m) = part_more 2 a b o fs f (only_flat kind.And o.kind k refl) (all_deep text x h) (test_deep text y m)

  cand_deep : (text : List ℕ) {ts : List Token} {c : Comparison} {f : PlainLeaf} → IsCand ts c → Means text c f → Deep ts 0 (wrapped 1 (binds f) (formula_need f))
  cand_deep text {f = f} (cand_one x) m = deep_less _ 0 (wrapped 1 (binds f) (formula_need f)) (wrapped 2 (binds f) (formula_need f)) (wrapped_down 1 2 (binds f) (formula_need f) (omega arith)) (test_deep text x m)
  cand_deep text (cand_more o x k y) (means_all (all_first n m)) = absurd n
  cand_deep text (cand_more {a = a} {b = b} o x k y) (means_all (all_more {fs = fs} {f = f} h m)) = part_more 2 a b o fs f (only_flat kind.And o.kind k refl) (all_deep text x h) (test_deep text y m)

  any_deep : (text : List ℕ) {ts : List Token} {c : Comparison} {fs : PlainLeaves} → IsCor ts c → AnyParts text c fs → Deep ts 0 (parts_need 1 fs)
  any_deep text (cor_one x) (any_first {f = f} n m) = deep_less _ 0 (max (wrapped 1 (binds f) (formula_need f)) 0) (wrapped 1 (binds f) (formula_need f)) (omega arith) (cand_deep text x m)
  any_deep text (cor_one x) (any_more h m) = absurd (cand_apart x)
  any_deep text (cor_more o x k y) (any_first n m) = absurd n
  any_deep text (cor_more {a = a} {b = b} o x k y) (any_more {fs = fs} {f = f} h m) = part_more 1 a b o fs f (only_flat kind.Or o.kind k refl) (any_deep text x h) (cand_deep text y m)

  cor_deep : (text : List ℕ) {ts : List Token} {c : Comparison} {f : PlainLeaf} → IsCor ts c → Means text c f → Deep ts 0 (wrapped 0 (binds f) (formula_need f))
  cor_deep text {f = f} (cor_one x) m = deep_less _ 0 (wrapped 0 (binds f) (formula_need f)) (wrapped 1 (binds f) (formula_need f)) (wrapped_down 0 1 (binds f) (formula_need f) (omega arith)) (cand_deep text x m)
  cor_deep text (cor_more o x k y) (means_any (any_first n m)) = absurd n
  cor_deep text (cor_more {a = a} {b = b} o x k y) (means_any (any_more {fs = fs} {f = f} h m)) = part_more 1 a b o fs f (only_flat kind.Or o.kind k refl) (any_deep text x h) (cand_deep text y m)

mutual
  start_deep : (text : List ℕ) {ts : List Token} {p : Tree} {m : PlainPattern} → IsStart ts p → MeansPattern text p m → Deep ts (qualifiers_in m) (wrapped 3 (precedence_level m) (need m))
  start_deep text (start_leaf a b {ts = ts} h x k) (means_leaf {f = f} w) =
      deep_less _ 0 (formula_need f) (wrapped 0 (binds f) (formula_need f)) (let e = wrapped_least (binds f) (formula_need f) in omega (arith, e)) (deep_square a b ts 0 (wrapped 0 (binds f) (formula_need f)) (only_flat kind.SquareOpen a.kind h refl) (only_flat kind.SquareClose b.kind k refl) (cor_deep text x w))
  start_deep text {m = m} (start_group a b {ts = ts} h x k) w =
      deep_less _ (qualifiers_in m) (wrapped 3 (precedence_level m) (need m)) (wrapped 0 (precedence_level m) (need m) + 1) (let e = wrapped_least (precedence_level m) (need m) in let g = wrapped_high 3 (precedence_level m) (need m) in omega (arith, e, g)) (deep_round a b ts (qualifiers_in m) (wrapped 0 (precedence_level m) (need m)) h k (pattern_deep text x w))

  unit_deep : (text : List ℕ) {ts : List Token} {p : Tree} {m : PlainPattern} → IsUnit ts p → MeansPattern text p m → Deep ts (qualifiers_in m) (wrapped 3 (precedence_level m) (need m))
  unit_deep text (unit_one x) w = start_deep text x w
  unit_deep text (unit_more {a = a} {b = b} x y) (means_limited {m = m} w l) =
      let d = unit_deep text x w in
      let g = d.at_least in
      record { n = max d.n 0; measured = joined a b d.n (qualifiers_in m) 0 1 d.measured (qualifier_measured y); at_least = omega (arith, g) }

  ands_deep : (text : List ℕ) {ts : List Token} {p : Tree} {m : PlainPattern} → IsAnds ts p → MeansPattern text p m → Deep ts (qualifiers_in m) (wrapped 2 (precedence_level m) (need m))
  ands_deep text {m = m} (ands_one x) w = deep_less _ (qualifiers_in m) (wrapped 2 (precedence_level m) (need m)) (wrapped 3 (precedence_level m) (need m)) (wrapped_down 2 3 (precedence_level m) (need m) (omega arith)) (unit_deep text x w)
  ands_deep text (ands_more {a = a} {b = b} o x h y) (means_both {m = m} {n = n} v w) =
      deep_mid a o b (qualifiers_in m) (qualifiers_in n) (wrapped 2 (precedence_level m) (need m)) (wrapped 3 (precedence_level n) (need n)) (only_flat kind.And o.kind h refl) (ands_deep text x v) (unit_deep text y w)

  ors_deep : (text : List ℕ) {ts : List Token} {p : Tree} {m : PlainPattern} → IsOrs ts p → MeansPattern text p m → Deep ts (qualifiers_in m) (wrapped 1 (precedence_level m) (need m))
  ors_deep text {m = m} (ors_one x) w = deep_less _ (qualifiers_in m) (wrapped 1 (precedence_level m) (need m)) (wrapped 2 (precedence_level m) (need m)) (wrapped_down 1 2 (precedence_level m) (need m) (omega arith)) (ands_deep text x w)
  ors_deep text (ors_more {a = a} {b = b} o x h y) (means_either {m = m} {n = n} v w) =
      deep_mid a o b (qualifiers_in m) (qualifiers_in n) (wrapped 1 (precedence_level m) (need m)) (wrapped 2 (precedence_level n) (need n)) (only_flat kind.Or o.kind h refl) (ors_deep text x v) (ands_deep text y w)

  pub pattern_deep : (text : List ℕ) {ts : List Token} {p : Tree} {m : PlainPattern} → IsPattern ts p → MeansPattern text p m → Deep ts (qualifiers_in m) (wrapped 0 (precedence_level m) (need m))
  pattern_deep text {m = m} (pattern_one x) w = deep_less _ (qualifiers_in m) (wrapped 0 (precedence_level m) (need m)) (wrapped 1 (precedence_level m) (need m)) (wrapped_down 0 1 (precedence_level m) (need m) (omega arith)) (ors_deep text x w)
  pattern_deep text (pattern_more {a = a} {b = b} o x h y) (means_then {m = m} {n = n} v w) =
      deep_mid a o b (qualifiers_in m) (qualifiers_in n) (wrapped 0 (precedence_level m) (need m)) (wrapped 1 (precedence_level n) (need n)) (only_flat kind.FollowedBy o.kind h refl) (pattern_deep text x v) (ors_deep text y w)
