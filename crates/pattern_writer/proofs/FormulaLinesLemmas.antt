-- What stands in the brackets of a canonical text reads back.
use Rattle.std.proofs.Common.{◌≡◌, ℕ, zero, suc, ◌+◌, ◌≤◌, true, false, Bool, List, [], ◌∷◌, ◌++◌, refl, sym, ap, subst, arith, append_assoc, append-nil, max}
use Rattle.std.specs.Prelude.{codes, flat_map, nat_le, if◌then◌else◌}
use Rattle.std.proofs.lemmas.Bool.Decides.{nat_tests}
use Rattle.pattern_lexer.specs.declared.token.Token.{Token}
use Rattle.pattern_lexer.specs.declared.token.TokenKind.TheVariants as kind
use Rattle.pattern_grammar.specs.declared.class.TokenClass.TheVariants.{Only}
use Rattle.pattern_grammar.specs.Tree.{Comparison, group, all, any}
use Rattle.pattern_grammar.specs.Grammar.{IsTest, test_group, IsCand, cand_one, cand_more, IsCor, cor_one, cor_more}
use Rattle.pattern_types.specs.PlainLeaf.{PlainLeaf, one, every, some, PlainLeaves, none, more, leaves_with}
use Rattle.pattern_reader.specs.LeafMeaning.{Means, means_group, means_all, means_any, AllParts, all_first, all_more, AnyParts, any_first, any_more}
use Rattle.pattern_writer.specs.Parts.{joined_texts, IsParenthesizedBelow}
use Rattle.pattern_writer.specs.Leaf.{binds, IsFormulaText, AreTextsOf}
use Rattle.pattern_writer.proofs.LongestLemmas.{Stops, Ends, ends_stops}
use Rattle.pattern_writer.proofs.WrittenLemmas.{Written, IsOne, is_one, IsPair, is_pair, MeanPair, pair, spaced, as_tree, as_text, before}
use Rattle.pattern_writer.proofs.TokensLemmas.{Anything, literal}
use Rattle.pattern_writer.proofs.PathLinesLemmas.{stop_space, stop_close}
use Rattle.pattern_writer.proofs.TestLinesLemmas.{MeansOne, round, close_round, a_test}
use Rattle.pattern_writer.proofs.DepthsLemmas.{Measured, measured_is, only_flat, max_last, mid_flat}
use Rattle.pattern_writer.proofs.DepthsLemmas as depth
use Rattle.pattern_writer.proofs.DepthLinesLemmas.{test_apart, cand_apart, plain_measured, wrapped, formula_need, parts_need, put_need}
use Rattle.pattern_writer.proofs.FitLemmas.{AreSome, FitFormula, FitFormulas}

-- the line of the grammar for what binds so
abbrev pub IsBound : ℕ → List Token → Comparison → Type 0
IsBound zero = IsCor
IsBound (suc zero) = IsCand
IsBound (suc (suc n)) = IsTest

-- and opens this many parentheses at once
abbrev pub IsDeep : {T : Type 0} → (List Token → T → Type 0) → ℕ → List Token → T → Type 0
IsDeep IsLine n ts x = IsLine ts x × Measured ts n 0

abbrev pub MeansFormula : PlainLeaf → List ℕ → Comparison → Type 0
MeansFormula f whole c = Means whole c f

lower : (a b : ℕ) → a ≤ b → b ≤ 2 → (ts : List Token) (c : Comparison) → IsBound b ts c → IsBound a ts c
lower zero zero h k ts c w = w
lower zero (suc zero) h k ts c w = cor_one w
lower zero (suc (suc b)) h k ts c w = cor_one (cand_one w)
lower (suc zero) (suc zero) h k ts c w = w
lower (suc zero) (suc (suc b)) h k ts c w = cand_one w
lower (suc (suc a)) (suc (suc b)) h k ts c w = w
lower _ _ h k ts c w = absurd (omega arith)

-- a group is a test
grouped : (n : ℕ) (ts : List Token) (x : (Token × Comparison) × Token) → IsPair (IsPair (IsOne (Only kind.RoundOpen)) (IsDeep IsCor n)) (IsOne (Only kind.RoundClose)) ts x → IsDeep IsTest (n + 1) ts (group x.0.0 x.0.1)
grouped n ts x (is_pair (is_pair (is_one a h) k) (is_one b l)) = (test_group a b h k.0 l, depth.round a b _ n 0 h l k.1)

in_round : (f : PlainLeaf) (n : ℕ) (inner : List ℕ) → Written (IsDeep IsCor n) (MeansFormula f) Ends inner → Written (IsDeep IsTest (n + 1)) (MeansFormula f) Ends ((codes "(" ++ inner) ++ codes ")")
in_round f n inner w =
    before Ends ends_stops (as_tree (IsDeep IsTest (n + 1)) (MeansFormula f) (λ whole ts x i m. (group x.0.0 x.0.1, grouped n ts x i, means_group m.0.1))
    (pair (IsPair (IsOne (Only kind.RoundOpen)) (IsDeep IsCor n)) (IsOne (Only kind.RoundClose)) (MeanPair (MeansOne kind.RoundOpen (codes "(")) (MeansFormula f)) (MeansOne kind.RoundClose (codes ")")) Ends Stops (codes "(" ++ inner) (codes ")") (λ after e. (stop_close, λ x. omega arith))
    (pair (IsOne (Only kind.RoundOpen)) (IsDeep IsCor n) (MeansOne kind.RoundOpen (codes "(")) (MeansFormula f) Anything Ends (codes "(") inner (λ after e. tt) round w) close_round))

pub lowered : (a b n : ℕ) (f : PlainLeaf) (text : List ℕ) → a ≤ b → b ≤ 2 → Written (IsDeep (IsBound b) n) (MeansFormula f) Ends text → Written (IsDeep (IsBound a) n) (MeansFormula f) Ends text
lowered a b n f text h k w = as_tree (IsDeep (IsBound a) n) (MeansFormula f) (λ whole ts c i m. (c, (lower a b h k ts c i.0, i.1), m)) w

within_by : (q : Bool) (least b n : ℕ) (f : PlainLeaf) (inner : List ℕ) → (q ≡ true → least ≤ b) → least ≤ 2 → b ≤ 2 → Written (IsDeep (IsBound b) n) (MeansFormula f) Ends inner → Written (IsDeep (IsBound least) (if q then n else n + 1)) (MeansFormula f) Ends (if q then inner else codes "(" ++ inner ++ codes ")")
within_by true least b n f inner h k l w = lowered least b n f inner (h refl) l w
within_by false least b n f inner h k l w = lowered least 2 (n + 1) f (codes "(" ++ inner ++ codes ")") k (omega arith) (in_round f n inner (lowered 0 b n f inner (omega arith) l w))

pub le_from : (a b : ℕ) → nat_le a b ≡ true → a ≤ b
le_from a b e = grind (arith, nat_tests)

pub binds_low : (f : PlainLeaf) → binds f ≤ 2
binds_low (one t) = omega arith
binds_low _ = omega arith

within : (least : ℕ) (f : PlainLeaf) (text : List ℕ) → least ≤ 2 → ((inner : List ℕ) → IsFormulaText f inner → Written (IsDeep (IsBound (binds f)) (formula_need f)) (MeansFormula f) Ends inner) → IsParenthesizedBelow least (binds f) (IsFormulaText f) text → Written (IsDeep (IsBound least) (wrapped least (binds f) (formula_need f))) (MeansFormula f) Ends text
within least f text k w h = as_text (sym h.2) (within_by (nat_le least (binds f)) least (binds f) (formula_need f) f h.0 (le_from least (binds f)) k (binds_low f) (w h.0 h.1))

-- lists of parts
abbrev append : PlainLeaves → PlainLeaves → PlainLeaves
append none gs = gs
append (more f fs) gs = more f (append fs gs)

append-put : (fs : PlainLeaves) (f : PlainLeaf) (gs : PlainLeaves) → append (leaves_with fs f) gs ≡ append fs (more f gs)
append-put none f gs = refl
append-put (more g fs) f gs = ap (more g) (append-put fs f gs)

append-none : (fs : PlainLeaves) → append fs none ≡ fs
append-none none = refl
append-none (more f fs) = ap (more f) (append-none fs)

many_all : (whole : List ℕ) (c : Comparison) (fs : PlainLeaves) → AreSome fs → AllParts whole c fs → Means whole c (every fs)
many_all whole c fs s (all_first n m) = absurd s
many_all whole c fs s (all_more h m) = means_all (all_more h m)

many_any : (whole : List ℕ) (c : Comparison) (fs : PlainLeaves) → AreSome fs → AnyParts whole c fs → Means whole c (some fs)
many_any whole c fs s (any_first n m) = absurd s
many_any whole c fs s (any_more h m) = means_any (any_more h m)

abbrev MeanAll : PlainLeaves → List ℕ → Comparison → Type 0
MeanAll fs whole c = AllParts whole c fs

abbrev MeanAny : PlainLeaves → List ℕ → Comparison → Type 0
MeanAny fs whole c = AnyParts whole c fs

and_more : (n m : ℕ) (ts : List Token) (x : Comparison × (Token × Comparison)) → IsPair (IsDeep IsCand n) (IsPair (IsOne (Only kind.And)) (IsDeep IsTest m)) ts x → IsDeep IsCand (max n m) ts (all x.0 x.1.1)
and_more n m ts x (is_pair h (is_pair (is_one o i) k)) = (cand_more o h.0 i k.0, mid_flat _ o _ n 0 m 0 (only_flat kind.And o.kind i refl) h.1 k.1)

or_more : (n m : ℕ) (ts : List Token) (x : Comparison × (Token × Comparison)) → IsPair (IsDeep IsCor n) (IsPair (IsOne (Only kind.Or)) (IsDeep IsCand m)) ts x → IsDeep IsCor (max n m) ts (any x.0 x.1.1)
or_more n m ts x (is_pair h (is_pair (is_one o i) k)) = (cor_more o h.0 i k.0, mid_flat _ o _ n 0 m 0 (only_flat kind.Or o.kind i refl) h.1 k.1)

-- the parts so far, and one more
put_measured : (least : ℕ) (fs : PlainLeaves) (f : PlainLeaf) (ts : List Token) → Measured ts (max (parts_need least fs) (wrapped least (binds f) (formula_need f))) 0 → Measured ts (parts_need least (leaves_with fs f)) 0
put_measured least fs f ts m = measured_is ts (max (parts_need least fs) (wrapped least (binds f) (formula_need f))) 0 (parts_need least (leaves_with fs f)) 0 (sym (put_need least fs f)) refl m

joint_all : (fs : PlainLeaves) (f : PlainLeaf) (a t : List ℕ) → Written (IsDeep IsCand (parts_need 2 fs)) (MeanAll fs) Ends a → Written (IsDeep IsTest (wrapped 2 (binds f) (formula_need f))) (MeansFormula f) Ends t → Written (IsDeep IsCand (parts_need 2 (leaves_with fs f))) (MeanAll (leaves_with fs f)) Ends (a ++ (codes " AND " ++ t))
joint_all fs f a t w v =
    let n = parts_need 2 fs in
    let k = wrapped 2 (binds f) (formula_need f) in
    as_tree (IsDeep IsCand (parts_need 2 (leaves_with fs f))) (MeanAll (leaves_with fs f)) (λ whole ts x i m. let j = and_more n k ts x i in (all x.0 x.1.1, (j.0, put_measured 2 fs f ts j.1), all_more m.0 m.1.1))
    (pair (IsDeep IsCand n) (IsPair (IsOne (Only kind.And)) (IsDeep IsTest k)) (MeanAll fs) (MeanPair (MeansOne kind.And (codes "AND")) (MeansFormula f)) Ends Ends a (codes " AND " ++ t) (λ after e. (stop_space, λ x. omega arith)) w
    (spaced (pair (IsOne (Only kind.And)) (IsDeep IsTest k) (MeansOne kind.And (codes "AND")) (MeansFormula f) Stops Ends (codes "AND") (32 ∷ t) (λ after e. stop_space) (literal (Only kind.And) kind.And (codes "AND") refl refl tt refl (λ e. cc)) (spaced v))))

joint_any : (fs : PlainLeaves) (f : PlainLeaf) (a t : List ℕ) → Written (IsDeep IsCor (parts_need 1 fs)) (MeanAny fs) Ends a → Written (IsDeep IsCand (wrapped 1 (binds f) (formula_need f))) (MeansFormula f) Ends t → Written (IsDeep IsCor (parts_need 1 (leaves_with fs f))) (MeanAny (leaves_with fs f)) Ends (a ++ (codes " OR " ++ t))
joint_any fs f a t w v =
    let n = parts_need 1 fs in
    let k = wrapped 1 (binds f) (formula_need f) in
    as_tree (IsDeep IsCor (parts_need 1 (leaves_with fs f))) (MeanAny (leaves_with fs f)) (λ whole ts x i m. let j = or_more n k ts x i in (any x.0 x.1.1, (j.0, put_measured 1 fs f ts j.1), any_more m.0 m.1.1))
    (pair (IsDeep IsCor n) (IsPair (IsOne (Only kind.Or)) (IsDeep IsCand k)) (MeanAny fs) (MeanPair (MeansOne kind.Or (codes "OR")) (MeansFormula f)) Ends Ends a (codes " OR " ++ t) (λ after e. (stop_space, λ x. omega arith)) w
    (spaced (pair (IsOne (Only kind.Or)) (IsDeep IsCand k) (MeansOne kind.Or (codes "OR")) (MeansFormula f) Stops Ends (codes "OR") (32 ∷ t) (λ after e. stop_space) (literal (Only kind.Or) kind.Or (codes "OR") refl refl tt refl (λ e. cc)) (spaced v))))

one_measured : (n : ℕ) (ts : List Token) → Measured ts n 0 → Measured ts (max n 0) 0
one_measured n ts m = measured_is ts n 0 (max n 0) 0 (sym (max_last n)) refl m

first_all : (f : PlainLeaf) (t : List ℕ) → Written (IsDeep IsTest (wrapped 2 (binds f) (formula_need f))) (MeansFormula f) Ends t → Written (IsDeep IsCand (parts_need 2 (more f none))) (MeanAll (more f none)) Ends t
first_all f t w = as_tree (IsDeep IsCand (parts_need 2 (more f none))) (MeanAll (more f none)) (λ whole ts c i m. (c, (cand_one i.0, one_measured (wrapped 2 (binds f) (formula_need f)) ts i.1), all_first (test_apart i.0).0 m)) w

first_any : (f : PlainLeaf) (t : List ℕ) → Written (IsDeep IsCand (wrapped 1 (binds f) (formula_need f))) (MeansFormula f) Ends t → Written (IsDeep IsCor (parts_need 1 (more f none))) (MeanAny (more f none)) Ends t
first_any f t w = as_tree (IsDeep IsCor (parts_need 1 (more f none))) (MeanAny (more f none)) (λ whole ts c i m. (c, (cor_one i.0, one_measured (wrapped 1 (binds f) (formula_need f)) ts i.1), any_first (cand_apart i.0) m)) w

mutual
  pub plain_leaf : (f : PlainLeaf) (text : List ℕ) → FitFormula f → IsFormulaText f text → Written (IsDeep (IsBound (binds f)) (formula_need f)) (MeansFormula f) Ends text
  plain_leaf (one t) text fit h = as_tree (IsDeep IsTest 0) (MeansFormula (one t)) (λ whole ts c i m. (c, (i, plain_measured i m.1), m.0)) (a_test t text fit h)
  plain_leaf (every fs) text fit h = as_text (sym h.2) (as_tree (IsDeep IsCand (parts_need 2 fs)) (MeansFormula (every fs)) (λ whole ts c i m. (c, i, many_all whole c fs fit.0 m)) (all_of fs h.0 fit.0 fit.1 h.1))
  plain_leaf (some fs) text fit h = as_text (sym h.2) (as_tree (IsDeep IsCor (parts_need 1 fs)) (MeansFormula (some fs)) (λ whole ts c i m. (c, i, many_any whole c fs fit.0 m)) (any_of fs h.0 fit.0 fit.1 h.1))

  all_of : (fs : PlainLeaves) (texts : List (List ℕ)) → AreSome fs → FitFormulas fs → AreTextsOf fs 2 texts → Written (IsDeep IsCand (parts_need 2 fs)) (MeanAll fs) Ends (joined_texts (codes " AND ") texts)
  all_of none texts s fit h = absurd s
  all_of (more f fs) [] s fit h = absurd h
  all_of (more f fs) (t ∷ ts) s fit h = all_rest fs (more f none) t ts fit.1 h.1 (first_all f t (within 2 f t (omega arith) (λ inner k. plain_leaf f inner fit.0 k) h.0))

  all_rest : (rest sofar : PlainLeaves) (a : List ℕ) (texts : List (List ℕ)) → FitFormulas rest → AreTextsOf rest 2 texts → Written (IsDeep IsCand (parts_need 2 sofar)) (MeanAll sofar) Ends a → Written (IsDeep IsCand (parts_need 2 (append sofar rest))) (MeanAll (append sofar rest)) Ends (a ++ flat_map (λ y. codes " AND " ++ y) texts)
  all_rest none sofar a [] fit h w = as_text (sym (append-nil a)) (subst (λ (x : PlainLeaves). Written (IsDeep IsCand (parts_need 2 x)) (MeanAll x) Ends a) (sym (append-none sofar)) w)
  all_rest none sofar a (t ∷ ts) fit h w = absurd h
  all_rest (more f fs) sofar a [] fit h w = absurd h
  all_rest (more f fs) sofar a (t ∷ ts) fit h w =
      let joint = joint_all sofar f a t w (within 2 f t (omega arith) (λ inner k. plain_leaf f inner fit.0 k) h.0) in
      let all = all_rest fs (leaves_with sofar f) (a ++ (codes " AND " ++ t)) ts fit.1 h.1 joint in
      as_text (append_assoc a (codes " AND " ++ t) (flat_map (λ y. codes " AND " ++ y) ts)) (subst (λ (x : PlainLeaves). Written (IsDeep IsCand (parts_need 2 x)) (MeanAll x) Ends ((a ++ (codes " AND " ++ t)) ++ flat_map (λ y. codes " AND " ++ y) ts)) (append-put sofar f fs) all)

  any_of : (fs : PlainLeaves) (texts : List (List ℕ)) → AreSome fs → FitFormulas fs → AreTextsOf fs 1 texts → Written (IsDeep IsCor (parts_need 1 fs)) (MeanAny fs) Ends (joined_texts (codes " OR ") texts)
  any_of none texts s fit h = absurd s
  any_of (more f fs) [] s fit h = absurd h
  any_of (more f fs) (t ∷ ts) s fit h = any_rest fs (more f none) t ts fit.1 h.1 (first_any f t (within 1 f t (omega arith) (λ inner k. plain_leaf f inner fit.0 k) h.0))

  any_rest : (rest sofar : PlainLeaves) (a : List ℕ) (texts : List (List ℕ)) → FitFormulas rest → AreTextsOf rest 1 texts → Written (IsDeep IsCor (parts_need 1 sofar)) (MeanAny sofar) Ends a → Written (IsDeep IsCor (parts_need 1 (append sofar rest))) (MeanAny (append sofar rest)) Ends (a ++ flat_map (λ y. codes " OR " ++ y) texts)
  any_rest none sofar a [] fit h w = as_text (sym (append-nil a)) (subst (λ (x : PlainLeaves). Written (IsDeep IsCor (parts_need 1 x)) (MeanAny x) Ends a) (sym (append-none sofar)) w)
  any_rest none sofar a (t ∷ ts) fit h w = absurd h
  any_rest (more f fs) sofar a [] fit h w = absurd h
  any_rest (more f fs) sofar a (t ∷ ts) fit h w =
      let joint = joint_any sofar f a t w (within 1 f t (omega arith) (λ inner k. plain_leaf f inner fit.0 k) h.0) in
      let all = any_rest fs (leaves_with sofar f) (a ++ (codes " OR " ++ t)) ts fit.1 h.1 joint in
      as_text (append_assoc a (codes " OR " ++ t) (flat_map (λ y. codes " OR " ++ y) ts)) (subst (λ (x : PlainLeaves). Written (IsDeep IsCor (parts_need 1 x)) (MeanAny x) Ends ((a ++ (codes " OR " ++ t)) ++ flat_map (λ y. codes " OR " ++ y) ts)) (append-put sofar f fs) all)
