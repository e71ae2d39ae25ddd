-- Tests of a canonical text read back.
use Rattle.std.proofs.Common.{◌≡◌, ◌≢◌, inl, ℕ, true, false, Bool, List, [], ◌∷◌, ◌++◌, refl, sym, ap, ◌∙◌, subst, arith, append_assoc, append-nil}
use Rattle.std.specs.Prelude.{codes, flat_map}
use Rattle.pattern_lexer.specs.declared.token.Token.{Token}
use Rattle.pattern_lexer.specs.declared.token.TokenKind.{TokenKind}
use Rattle.pattern_lexer.specs.declared.token.TokenKind.TheVariants as kind
use Rattle.pattern_lexer.specs.Values.{HasValue, IsStringText}
use Rattle.pattern_lexer.specs.Table.{IsToken}
use Rattle.pattern_lexer.specs.Spans.{At}
use Rattle.pattern_grammar.specs.declared.class.TokenClass.{TokenClass}
use Rattle.pattern_grammar.specs.declared.class.TokenClass.TheVariants.{Only, Equality, Order, Textual, Ordered, Constant}
use Rattle.pattern_grammar.specs.TokenClass.{is_in}
use Rattle.pattern_grammar.specs.declared.path.PathTree.{PathTree}
use Rattle.pattern_grammar.specs.declared.comparison.CheckTree.{CheckTree}
use Rattle.pattern_grammar.specs.declared.comparison.CheckTree.TheVariants as check_tree
use Rattle.pattern_grammar.specs.Tree.{Comparison, test}
use Rattle.pattern_grammar.specs.Grammar.{IsPath, AreConstants, constants_one, constants_more, IsCheck, check_equality, check_order, check_among, check_textual, IsTest, test_exists, test_not_exists, test_compare, test_not_compare}
use Rattle.pattern_types.specs.declared.path.Path.{Path}
use Rattle.pattern_types.specs.declared.constant.Constant.{Constant as Value}
use Rattle.pattern_types.specs.declared.constant.Constant.TheVariants.{Boolean}
use Rattle.pattern_types.specs.declared.check.Check.{Check}
use Rattle.pattern_types.specs.declared.check.Check.TheVariants as check
use Rattle.pattern_types.specs.declared.leaf.Test.{Test}
use Rattle.pattern_reader.specs.Meaning.{IsConstantOf, IsCheckOf}
use Rattle.std.specs.List.{AllZip}
use Rattle.pattern_types.specs.PlainLeaf.{one}
use Rattle.pattern_reader.specs.LeafMeaning.{Means, means_test}
use Rattle.pattern_writer.specs.Parts.{joined_texts}
use Rattle.pattern_writer.specs.Constant.{IsConstantText}
use Rattle.pattern_writer.proofs.DepthLinesLemmas.{IsPlain}
use Rattle.pattern_writer.specs.Check.{AreWords, IsSetLiteralText, not_text, operator_text, IsCheckedText, IsTestText}
use Rattle.pattern_writer.proofs.LongestLemmas.{Stops, Ends, ends_stops}
use Rattle.std.proofs.lemmas.Slice.Zip.{all_zipped_more}
use Rattle.pattern_writer.proofs.PiecesLemmas.{Stands}
use Rattle.pattern_writer.proofs.WrittenLemmas.{Written, IsOne, is_one, IsPair, is_pair, MeanPair, pair, spaced, as_tree, as_text, before}
use Rattle.pattern_writer.proofs.TokensLemmas.{Anything, plain_test, literal, mark, words}
use Rattle.pattern_writer.proofs.ValuesLemmas.{at, constant}
use Rattle.pattern_writer.proofs.PathLinesLemmas.{stop_space, stop_comma, stop_close, path, MeansPath}
use Rattle.pattern_writer.proofs.FitLemmas.{FitConstant, FitConstants, FitOrdered, FitList, FitCheck, FitTest, FitPath, kind_of}

abbrev pub MeansOne : TokenKind → List ℕ → List ℕ → Token → Type 0
MeansOne k text whole t = Stands whole t k text

abbrev MeansCheck : Check → List ℕ → CheckTree → Type 0
MeansCheck c whole tree = IsCheckOf whole tree c

-- every constant is one of the class
constant_in : (c : Value) → is_in Constant (kind_of c) ≡ true
constant_in (Boolean true) = refl
constant_in (Boolean false) = refl
constant_in _ = refl

ordered_in : (c : Value) → FitOrdered c → is_in Ordered (kind_of c) ≡ true
ordered_in (Boolean b) h = absurd h
ordered_in _ h = refl

ordered_fit : (c : Value) → FitOrdered c → FitConstant c
ordered_fit (Boolean b) h = absurd h
ordered_fit _ h = h

-- an operator and what follows it
operated : (class other : TokenClass) (k : TokenKind) (operator : List ℕ) (text : List ℕ) (IsT : List ℕ → Token → Type 0) (EndsT : List ℕ → Type 0) → Written (IsOne class) (MeansOne k operator) Stops operator → Written (IsOne other) IsT EndsT text → Written (IsPair (IsOne class) (IsOne other)) (MeanPair (MeansOne k operator) IsT) EndsT (operator ++ 32 ∷ text)
operated class other k operator text IsT EndsT v w = pair (IsOne class) (IsOne other) (MeansOne k operator) IsT Stops EndsT operator (32 ∷ text) (λ after e. stop_space) v (spaced w)

equality : (ts : List Token) (x : Token × Token) → IsPair (IsOne Equality) (IsOne Constant) ts x → IsCheck ts (check_tree.Compare x.0 x.1)
equality ts x (is_pair (is_one a h) (is_one b k)) = check_equality a b h k

order : (ts : List Token) (x : Token × Token) → IsPair (IsOne Order) (IsOne Ordered) ts x → IsCheck ts (check_tree.Compare x.0 x.1)
order ts x (is_pair (is_one a h) (is_one b k)) = check_order a b h k

textual : (ts : List Token) (x : Token × Token) → IsPair (IsOne Textual) (IsOne (Only kind.String)) ts x → IsCheck ts (check_tree.Textual x.0 x.1)
textual ts x (is_pair (is_one a h) (is_one b k)) = check_textual a b h k

equals : (c : Check) (k : TokenKind) (operator : List ℕ) (v : Value) (text : List ℕ) → ((whole : List ℕ) (a b : Token) → a.kind ≡ k → IsConstantOf whole b v → IsCheckOf whole (check_tree.Compare a b) c) → Written (IsOne Equality) (MeansOne k operator) Stops operator → FitConstant v → IsConstantText v text → Written IsCheck (MeansCheck c) Ends (operator ++ 32 ∷ text)
equals c k operator v text f w fit h = as_tree IsCheck (MeansCheck c) (λ whole ts x i m. (check_tree.Compare x.0 x.1, equality ts x i, f whole x.0 x.1 m.0.kind m.1))
    (operated Equality Constant k operator text (λ (whole : List ℕ) (t : Token). IsConstantOf whole t v) Ends w (constant Constant v text (constant_in v) fit h))

orders : (c : Check) (k : TokenKind) (operator : List ℕ) (v : Value) (text : List ℕ) → ((whole : List ℕ) (a b : Token) → a.kind ≡ k → IsConstantOf whole b v → IsCheckOf whole (check_tree.Compare a b) c) → Written (IsOne Order) (MeansOne k operator) Stops operator → FitOrdered v → IsConstantText v text → Written IsCheck (MeansCheck c) Ends (operator ++ 32 ∷ text)
orders c k operator v text f w fit h = as_tree IsCheck (MeansCheck c) (λ whole ts x i m. (check_tree.Compare x.0 x.1, order ts x i, f whole x.0 x.1 m.0.kind m.1))
    (operated Order Ordered k operator text (λ (whole : List ℕ) (t : Token). IsConstantOf whole t v) Ends w (constant Ordered v text (ordered_in v fit) (ordered_fit v fit) h))

fits_words : (c : Check) (k : TokenKind) (operator v text : List ℕ) → ((whole : List ℕ) (a b : Token) → a.kind ≡ k → At IsStringText whole b v → IsCheckOf whole (check_tree.Textual a b) c) → Written (IsOne Textual) (MeansOne k operator) Stops operator → AreWords v text → Written IsCheck (MeansCheck c) Ends (operator ++ 32 ∷ text)
fits_words c k operator v text f w h = as_tree IsCheck (MeansCheck c) (λ whole ts x i m. (check_tree.Textual x.0 x.1, textual ts x i, f whole x.0 x.1 m.0.kind (at IsStringText whole x.1 kind.String text v m.1 h)))
    (operated Textual (Only kind.String) k operator text (MeansOne kind.String text) Ends w (before Ends (λ after e. tt) (subst (λ (x : List ℕ). Written (IsOne (Only kind.String)) (MeansOne kind.String x) Anything x) (sym h) (words (Only kind.String) v refl))))

-- lists of constants
abbrev MeanConstants : List Value → List ℕ → List Token → Type 0
MeanConstants vs whole cs = AllZip (IsConstantOf whole) cs vs

single : (ts : List Token) (t : Token) → IsOne Constant ts t → AreConstants ts (t ∷ [])
single ts t (is_one a h) = constants_one a h

one_more : (ts : List Token) (x : List Token × (Token × Token)) → IsPair AreConstants (IsPair (IsOne (Only kind.Comma)) (IsOne Constant)) ts x → AreConstants ts (x.0 ++ x.1.1 ∷ [])
one_more ts x (is_pair h (is_pair (is_one a i) (is_one b j))) = constants_more a b h i j

comma : Written (IsOne (Only kind.Comma)) (MeansOne kind.Comma (codes ",")) Stops (codes ",")
comma = literal (Only kind.Comma) kind.Comma (codes ",") refl refl tt refl (λ e. cc)

all_constants : (done rest : List Value) (a : List ℕ) (texts : List (List ℕ)) → FitConstants rest → AllZip IsConstantText rest texts → Written AreConstants (MeanConstants done) Ends a → Written AreConstants (MeanConstants (done ++ rest)) Ends (a ++ flat_map (λ y. codes ", " ++ y) texts)
all_constants done [] a [] fit h w = as_text (sym (append-nil a)) (subst (λ (x : List Value). Written AreConstants (MeanConstants x) Ends a) (sym (append-nil done)) w)
all_constants done (v ∷ vs) a (t ∷ ts) fit h w =
    let next = pair (IsOne (Only kind.Comma)) (IsOne Constant) (MeansOne kind.Comma (codes ",")) (λ (whole : List ℕ) (x : Token). IsConstantOf whole x v) Stops Ends (codes ",") (32 ∷ t) (λ after e. stop_space) comma (spaced (constant Constant v t (constant_in v) fit.0 h.0)) in
    let joint = as_tree AreConstants (MeanConstants (done ++ v ∷ [])) (λ whole ts x i m. (x.0 ++ x.1.1 ∷ [], one_more ts x i, all_zipped_more (IsConstantOf whole) x.0 done x.1.1 v m.0 m.1.1))
    (pair AreConstants (IsPair (IsOne (Only kind.Comma)) (IsOne Constant)) (MeanConstants done) (MeanPair (MeansOne kind.Comma (codes ",")) (λ (whole : List ℕ) (x : Token). IsConstantOf whole x v)) Ends Ends a (codes ", " ++ t) (λ after e. (stop_comma, λ x. omega arith)) w next) in
    let all = all_constants (done ++ v ∷ []) vs (a ++ (codes ", " ++ t)) ts fit.1 h.1 joint in
    as_text (append_assoc a (codes ", " ++ t) (flat_map (λ y. codes ", " ++ y) ts)) (subst (λ (x : List Value). Written AreConstants (MeanConstants x) Ends ((a ++ (codes ", " ++ t)) ++ flat_map (λ y. codes ", " ++ y) ts)) (append_assoc done (v ∷ []) vs) all)
all_constants done _ a _ fit h w = absurd h

constants : (vs : List Value) (texts : List (List ℕ)) → FitList vs → AllZip IsConstantText vs texts → Written AreConstants (MeanConstants vs) Ends (joined_texts (codes ", ") texts)
constants [] texts fit h = absurd fit
constants (v ∷ vs) [] fit h = absurd h
constants (v ∷ vs) (t ∷ ts) fit h =
    all_constants (v ∷ []) vs t ts fit.1 h.1 (as_tree AreConstants (MeanConstants (v ∷ [])) (λ whole us x i m. (x ∷ [], single us x i, (m, tt))) (constant Constant v t (constant_in v) fit.0 h.0))

-- parentheses
pub round : Written (IsOne (Only kind.RoundOpen)) (MeansOne kind.RoundOpen (codes "(")) Anything (codes "(")
round = mark (Only kind.RoundOpen) kind.RoundOpen 40 refl refl tt (inl refl) (record { number = λ e. cc; equal = λ e. cc; less = λ e. cc }) (inl (omega arith))

pub close_round : Written (IsOne (Only kind.RoundClose)) (MeansOne kind.RoundClose (codes ")")) Stops (codes ")")
close_round = literal (Only kind.RoundClose) kind.RoundClose (codes ")") refl refl tt refl (λ e. cc)

among : (ts : List Token) (x : Token × ((Token × List Token) × Token)) → IsPair (IsOne (Only kind.Among)) (IsPair (IsPair (IsOne (Only kind.RoundOpen)) AreConstants) (IsOne (Only kind.RoundClose))) ts x → IsCheck ts (check_tree.Among x.1.0.1)
among ts x (is_pair (is_one a h) (is_pair (is_pair (is_one b i) l) (is_one c j))) = check_among a b c h i l j

is_among : (vs : List Value) (text : List ℕ) → FitList vs → IsSetLiteralText vs text → Written IsCheck (MeansCheck (check.Among vs)) Ends (codes "IN" ++ 32 ∷ text)
is_among vs text fit h =
    let inner = h.0 in
    let inside : Written AreConstants (MeanConstants vs) Ends inner = as_text (sym h.1.2) (constants vs h.1.0 fit h.1.1) in
    let opened = pair (IsOne (Only kind.RoundOpen)) AreConstants (MeansOne kind.RoundOpen (codes "(")) (MeanConstants vs) Anything Ends (codes "(") inner (λ after e. tt) round inside in
    let parenthesized = pair (IsPair (IsOne (Only kind.RoundOpen)) AreConstants) (IsOne (Only kind.RoundClose)) (MeanPair (MeansOne kind.RoundOpen (codes "(")) (MeanConstants vs)) (MeansOne kind.RoundClose (codes ")")) Ends Stops (codes "(" ++ inner) (codes ")") (λ after e. (stop_close, λ x. omega arith)) opened close_round in
    let list = before Ends ends_stops (as_text (sym h.2) parenthesized) in
    as_tree IsCheck (MeansCheck (check.Among vs)) (λ whole ts x i m. (check_tree.Among x.1.0.1, among ts x i, m.1.0.1))
    (pair (IsOne (Only kind.Among)) (IsPair (IsPair (IsOne (Only kind.RoundOpen)) AreConstants) (IsOne (Only kind.RoundClose))) (MeansOne kind.Among (codes "IN")) (MeanPair (MeanPair (MeansOne kind.RoundOpen (codes "(")) (MeanConstants vs)) (MeansOne kind.RoundClose (codes ")"))) Stops Ends (codes "IN") (32 ∷ text)
    (λ after e. stop_space) (literal (Only kind.Among) kind.Among (codes "IN") refl refl tt refl (λ e. cc)) (spaced list))

-- tests
abbrev pub MeansTest : Test → List ℕ → Comparison → Type 0
MeansTest t whole c = Means whole c (one t) × IsPlain c

regroup : (p lead operator v : List ℕ) → p ++ (lead ++ (operator ++ 32 ∷ v)) ≡ (p ++ (lead ++ (operator ++ 32 ∷ []))) ++ v
regroup p lead operator v = sym (append_assoc p (lead ++ (operator ++ 32 ∷ [])) v ∙ ap (λ (x : List ℕ). p ++ x) (append_assoc lead (operator ++ 32 ∷ []) v ∙ ap (λ (x : List ℕ). lead ++ x) (append_assoc operator (32 ∷ []) v)))

compared : (ts : List Token) (x : PathTree × CheckTree) → IsPair IsPath IsCheck ts x → IsTest ts (test (record { first = x.0.root; path = x.0; negated = false; check = x.1 }))
compared ts x (is_pair h k) = test_compare h k

not_compared : (ts : List Token) (x : PathTree × (Token × CheckTree)) → IsPair IsPath (IsPair (IsOne (Only kind.Not)) IsCheck) ts x → IsTest ts (test (record { first = x.0.root; path = x.0; negated = true; check = x.1.1 }))
not_compared ts x (is_pair h (is_pair (is_one o i) k)) = test_not_compare o h i k

no : Written (IsOne (Only kind.Not)) (MeansOne kind.Not (codes "NOT")) Stops (codes "NOT")
no = literal (Only kind.Not) kind.Not (codes "NOT") refl refl tt refl (λ e. cc)

asked : (p : Path) (negated : Bool) (c : Check) (ptext operator v : List ℕ) → Written IsPath (MeansPath p) Stops ptext → Written IsCheck (MeansCheck c) Ends (operator ++ 32 ∷ v) → Written IsTest (MeansTest (record { path = p; negated = negated; check = c })) Ends (ptext ++ operator_text negated operator ++ v)
asked p false c ptext operator v w k =
    as_text (regroup ptext (32 ∷ []) operator v) (as_tree IsTest (MeansTest (record { path = p; negated = false; check = c })) (λ whole ts x i m. (test (record { first = x.0.root; path = x.0; negated = false; check = x.1 }), compared ts x i, (means_test (record { path = m.0; negated = refl; asks = m.1 }), tt)))
    (pair IsPath IsCheck (MeansPath p) (MeansCheck c) Stops Ends ptext (32 ∷ (operator ++ 32 ∷ v)) (λ after e. stop_space) w (spaced k)))
asked p true c ptext operator v w k =
    as_text (regroup ptext (codes " NOT ") operator v) (as_tree IsTest (MeansTest (record { path = p; negated = true; check = c })) (λ whole ts x i m. (test (record { first = x.0.root; path = x.0; negated = true; check = x.1.1 }), not_compared ts x i, (means_test (record { path = m.0; negated = refl; asks = m.1.1 }), tt)))
    (pair IsPath (IsPair (IsOne (Only kind.Not)) IsCheck) (MeansPath p) (MeanPair (MeansOne kind.Not (codes "NOT")) (MeansCheck c)) Stops Ends ptext (32 ∷ (codes "NOT" ++ 32 ∷ (operator ++ 32 ∷ v))) (λ after e. stop_space) w
    (spaced (pair (IsOne (Only kind.Not)) IsCheck (MeansOne kind.Not (codes "NOT")) (MeansCheck c) Stops Ends (codes "NOT") (32 ∷ (operator ++ 32 ∷ v)) (λ after e. stop_space) no (spaced k)))))

exists : (ts : List Token) (x : Token × PathTree) → IsPair (IsOne (Only kind.Exists)) IsPath ts x → IsTest ts (test (record { first = x.0; path = x.1; negated = false; check = check_tree.Exists }))
exists ts x (is_pair (is_one a h) k) = test_exists a h k

not_exists : (ts : List Token) (x : Token × (Token × PathTree)) → IsPair (IsOne (Only kind.Not)) (IsPair (IsOne (Only kind.Exists)) IsPath) ts x → IsTest ts (test (record { first = x.0; path = x.1.1; negated = true; check = check_tree.Exists }))
not_exists ts x (is_pair (is_one a h) (is_pair (is_one b i) k)) = test_not_exists a b h i k

there : (p : Path) (ptext : List ℕ) → Written IsPath (MeansPath p) Stops ptext → Written (IsPair (IsOne (Only kind.Exists)) IsPath) (MeanPair (MeansOne kind.Exists (codes "EXISTS")) (MeansPath p)) Stops (codes "EXISTS" ++ 32 ∷ ptext)
there p ptext w = pair (IsOne (Only kind.Exists)) IsPath (MeansOne kind.Exists (codes "EXISTS")) (MeansPath p) Stops Stops (codes "EXISTS") (32 ∷ ptext) (λ after e. stop_space) (literal (Only kind.Exists) kind.Exists (codes "EXISTS") refl refl tt refl (λ e. cc)) (spaced w)

existence : (p : Path) (negated : Bool) (ptext : List ℕ) → Written IsPath (MeansPath p) Stops ptext → Written IsTest (MeansTest (record { path = p; negated = negated; check = check.Exists })) Ends ((not_text negated ++ codes "EXISTS ") ++ ptext)
existence p false ptext w = before Ends ends_stops (as_tree IsTest (MeansTest (record { path = p; negated = false; check = check.Exists })) (λ whole ts x i m. (test (record { first = x.0; path = x.1; negated = false; check = check_tree.Exists }), exists ts x i, (means_test (record { path = m.1; negated = refl; asks = tt }), tt))) (there p ptext w))
existence p true ptext w = before Ends ends_stops (as_tree IsTest (MeansTest (record { path = p; negated = true; check = check.Exists })) (λ whole ts x i m. (test (record { first = x.0; path = x.1.1; negated = true; check = check_tree.Exists }), not_exists ts x i, (means_test (record { path = m.1.1; negated = refl; asks = tt }), tt)))
    (pair (IsOne (Only kind.Not)) (IsPair (IsOne (Only kind.Exists)) IsPath) (MeansOne kind.Not (codes "NOT")) (MeanPair (MeansOne kind.Exists (codes "EXISTS")) (MeansPath p)) Stops Stops (codes "NOT") (32 ∷ (codes "EXISTS" ++ 32 ∷ ptext)) (λ after e. stop_space) no (spaced (there p ptext w))))

pub sign : (class : TokenClass) (k : TokenKind) (operator : List ℕ) → is_in class k ≡ true → IsToken k operator → HasValue k operator → plain_test operator ≡ true → k ≢ kind.Number → Written (IsOne class) (MeansOne k operator) Stops operator
sign class k operator among is value p n = literal class k operator among is value p n

checked : (p : Path) (negated : Bool) (c : Check) (text : List ℕ) → FitPath p → FitCheck c → IsCheckedText p negated c text → Written IsTest (MeansTest (record { path = p; negated = negated; check = c })) Ends text
checked p negated (check.Equal v) text fit f h = as_text (sym h.4) (asked p negated (check.Equal v) h.0 (codes "=") h.1 (path p h.0 fit h.2) (equals (check.Equal v) kind.Equal (codes "=") v h.1 (λ whole a b i m. (i, m)) (sign Equality kind.Equal (codes "=") refl refl tt refl (λ e. cc)) f h.3))
checked p negated (check.Differ v) text fit f h = as_text (sym h.4) (asked p negated (check.Differ v) h.0 (codes "!=") h.1 (path p h.0 fit h.2) (equals (check.Differ v) kind.Differ (codes "!=") v h.1 (λ whole a b i m. (i, m)) (sign Equality kind.Differ (codes "!=") refl refl tt refl (λ e. cc)) f h.3))
checked p negated (check.Less v) text fit f h = as_text (sym h.4) (asked p negated (check.Less v) h.0 (codes "<") h.1 (path p h.0 fit h.2) (orders (check.Less v) kind.Less (codes "<") v h.1 (λ whole a b i m. (i, m)) (sign Order kind.Less (codes "<") refl refl tt refl (λ e. cc)) f h.3))
checked p negated (check.LessEqual v) text fit f h = as_text (sym h.4) (asked p negated (check.LessEqual v) h.0 (codes "<=") h.1 (path p h.0 fit h.2) (orders (check.LessEqual v) kind.LessEqual (codes "<=") v h.1 (λ whole a b i m. (i, m)) (sign Order kind.LessEqual (codes "<=") refl refl tt refl (λ e. cc)) f h.3))
checked p negated (check.Greater v) text fit f h = as_text (sym h.4) (asked p negated (check.Greater v) h.0 (codes ">") h.1 (path p h.0 fit h.2) (orders (check.Greater v) kind.Greater (codes ">") v h.1 (λ whole a b i m. (i, m)) (sign Order kind.Greater (codes ">") refl refl tt refl (λ e. cc)) f h.3))
checked p negated (check.GreaterEqual v) text fit f h = as_text (sym h.4) (asked p negated (check.GreaterEqual v) h.0 (codes ">=") h.1 (path p h.0 fit h.2) (orders (check.GreaterEqual v) kind.GreaterEqual (codes ">=") v h.1 (λ whole a b i m. (i, m)) (sign Order kind.GreaterEqual (codes ">=") refl refl tt refl (λ e. cc)) f h.3))
checked p negated (check.Among vs) text fit f h = as_text (sym h.4) (asked p negated (check.Among vs) h.0 (codes "IN") h.1 (path p h.0 fit h.2) (is_among vs h.1 f h.3))
checked p negated (check.Like w) text fit f h = as_text (sym h.4) (asked p negated (check.Like w) h.0 (codes "LIKE") h.1 (path p h.0 fit h.2) (fits_words (check.Like w) kind.Like (codes "LIKE") w h.1 (λ whole a b i m. (i, m)) (sign Textual kind.Like (codes "LIKE") refl refl tt refl (λ e. cc)) h.3))
checked p negated (check.Subset w) text fit f h = as_text (sym h.4) (asked p negated (check.Subset w) h.0 (codes "ISSUBSET") h.1 (path p h.0 fit h.2) (fits_words (check.Subset w) kind.Subset (codes "ISSUBSET") w.text h.1 (λ whole a b i m. (i, record { string = m; named = f })) (sign Textual kind.Subset (codes "ISSUBSET") refl refl tt refl (λ e. cc)) h.3))
checked p negated (check.Superset w) text fit f h = as_text (sym h.4) (asked p negated (check.Superset w) h.0 (codes "ISSUPERSET") h.1 (path p h.0 fit h.2) (fits_words (check.Superset w) kind.Superset (codes "ISSUPERSET") w.text h.1 (λ whole a b i m. (i, record { string = m; named = f })) (sign Textual kind.Superset (codes "ISSUPERSET") refl refl tt refl (λ e. cc)) h.3))
checked p negated check.Exists text fit f h = as_text (sym h.2) (existence p negated h.0 (path p h.0 fit h.1))

pub a_test : (t : Test) (text : List ℕ) → FitTest t → IsTestText t text → Written IsTest (MeansTest t) Ends text
a_test t text fit h = checked t.path t.negated t.check text fit.path fit.asks h
