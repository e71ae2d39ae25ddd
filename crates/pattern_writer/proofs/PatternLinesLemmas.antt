-- A canonical text reads back: the tokens of its pieces spell a pattern that means what was written.
use Rattle.std.proofs.Common.{◌≡◌, ℕ, zero, suc, ◌+◌, ◌≤◌, pos, true, false, Bool, List, [], ◌∷◌, ◌++◌, refl, sym, ap, ◌∙◌, arith, append_assoc, max}
use Rattle.std.specs.Prelude.{codes, decimal, nat_le, if◌then◌else◌}
use Rattle.pattern_lexer.specs.declared.token.Token.{Token}
use Rattle.pattern_lexer.specs.declared.token.TokenKind.{TokenKind}
use Rattle.pattern_lexer.specs.declared.token.TokenKind.TheVariants as kind
use Rattle.pattern_lexer.specs.Spans.{IsCount}
use Rattle.pattern_lexer.specs.Values.{IsIntegerText, IsTimestampText}
use Rattle.pattern_lexer.specs.Spans.{At}
use Rattle.pattern_grammar.specs.declared.class.TokenClass.TheVariants.{Only}
use Rattle.pattern_grammar.specs.declared.qualifier.Qualifier.{Qualifier}
use Rattle.pattern_grammar.specs.declared.qualifier.Qualifier.TheVariants as qualifier
use Rattle.pattern_grammar.specs.Tree.{Tree, leaf, both, either, followed, qualified, Comparison}
use Rattle.pattern_grammar.specs.Grammar.{IsCor, IsQualifier, qualifier_within, qualifier_repeats, qualifier_between, start_leaf, start_group, IsUnit, unit_one, unit_more, IsAnds, ands_one, ands_more, IsOrs, ors_one, ors_more, IsPattern, pattern_one, pattern_more}
use Rattle.pattern_types.specs.declared.limit.Limit.{Limit}
use Rattle.pattern_types.specs.declared.limit.Limit.TheVariants.{Within, Repeats, Between}
use Rattle.pattern_types.specs.PlainLeaf.{PlainLeaf}
use Rattle.pattern_types.specs.PlainPattern.{PlainPattern, a_leaf, a_both, an_either, a_then, a_limited}
use Rattle.pattern_reader.specs.PatternMeaning.{IsLimitOf, MeansPattern, means_leaf, means_both, means_either, means_then, means_limited}
use Rattle.pattern_writer.specs.Parts.{IsParenthesizedBelow}
use Rattle.pattern_writer.specs.Leaf.{binds}
use Rattle.pattern_writer.specs.Limit.{IsLimitText}
use Rattle.pattern_writer.specs.Canonical.{precedence_level, IsCanonical}
use Rattle.pattern_writer.proofs.LongestLemmas.{Stops, Ends, ends_stops}
use Rattle.pattern_writer.proofs.PiecesLemmas.{Stands}
use Rattle.pattern_writer.proofs.WrittenLemmas.{Written, IsOne, is_one, IsPair, is_pair, MeanPair, pair, spaced, as_tree, as_text, before}
use Rattle.pattern_writer.proofs.TokensLemmas.{Anything, number}
use Rattle.pattern_writer.proofs.NumeralsLemmas.{count_text, count_shape}
use Rattle.pattern_writer.proofs.ValuesLemmas.{at, time}
use Rattle.pattern_writer.proofs.PathLinesLemmas.{stop_space, stop_close, stop_square, square, close_square}
use Rattle.pattern_writer.proofs.TestLinesLemmas.{MeansOne, sign, round, close_round}
use Rattle.pattern_writer.proofs.FormulaLinesLemmas.{IsDeep, MeansFormula, plain_leaf, lowered, binds_low, le_from}
use Rattle.pattern_writer.proofs.DepthsLemmas.{Measured, measured_is, only_flat, max_last, joined, first_flat, last_flat, mid_flat}
use Rattle.pattern_writer.proofs.DepthsLemmas as depth
use Rattle.pattern_writer.proofs.DepthLinesLemmas.{qualifier_measured, wrapped, formula_need, need, qualifiers_in}
use Rattle.pattern_writer.proofs.FitLemmas.{FitLimit, FitMeant}

-- the line of the grammar for what binds so
abbrev pub IsLevel : ℕ → List Token → Tree → Type 0
IsLevel zero = IsPattern
IsLevel (suc zero) = IsOrs
IsLevel (suc (suc zero)) = IsAnds
IsLevel (suc (suc (suc n))) = IsUnit

-- and opens this many parentheses at once, with this many qualifiers
abbrev pub IsDeepLine : {T : Type 0} → (List Token → T → Type 0) → ℕ → ℕ → List Token → T → Type 0
IsDeepLine IsLine n q ts x = IsLine ts x × Measured ts n q

abbrev pub MeansTree : PlainPattern → List ℕ → Tree → Type 0
MeansTree m whole p = MeansPattern whole p m

down : (a b : ℕ) → a ≤ b → b ≤ 3 → (ts : List Token) (p : Tree) → IsLevel b ts p → IsLevel a ts p
down zero zero h k ts p w = w
down zero (suc zero) h k ts p w = pattern_one w
down zero (suc (suc zero)) h k ts p w = pattern_one (ors_one w)
down zero (suc (suc (suc b))) h k ts p w = pattern_one (ors_one (ands_one w))
down (suc zero) (suc zero) h k ts p w = w
down (suc zero) (suc (suc zero)) h k ts p w = ors_one w
down (suc zero) (suc (suc (suc b))) h k ts p w = ors_one (ands_one w)
down (suc (suc zero)) (suc (suc zero)) h k ts p w = w
down (suc (suc zero)) (suc (suc (suc b))) h k ts p w = ands_one w
down (suc (suc (suc a))) (suc (suc (suc b))) h k ts p w = w
down _ _ h k ts p w = absurd (omega arith)

downed : (a b n q : ℕ) (m : PlainPattern) (text : List ℕ) → a ≤ b → b ≤ 3 → Written (IsDeepLine (IsLevel b) n q) (MeansTree m) Ends text → Written (IsDeepLine (IsLevel a) n q) (MeansTree m) Ends text
downed a b n q m text h k w = as_tree (IsDeepLine (IsLevel a) n q) (MeansTree m) (λ whole ts p i x. (p, (down a b h k ts p i.0, i.1), x)) w

grouped : (n q : ℕ) (ts : List Token) (x : (Token × Tree) × Token) → IsPair (IsPair (IsOne (Only kind.RoundOpen)) (IsDeepLine IsPattern n q)) (IsOne (Only kind.RoundClose)) ts x → IsDeepLine IsUnit (n + 1) q ts x.0.1
grouped n q ts x (is_pair (is_pair (is_one a h) k) (is_one b l)) = (unit_one (start_group a b h k.0 l), depth.round a b _ n q h l k.1)

in_round : (m : PlainPattern) (n q : ℕ) (inner : List ℕ) → Written (IsDeepLine IsPattern n q) (MeansTree m) Ends inner → Written (IsDeepLine IsUnit (n + 1) q) (MeansTree m) Ends ((codes "(" ++ inner) ++ codes ")")
in_round m n q inner w =
    before Ends ends_stops (as_tree (IsDeepLine IsUnit (n + 1) q) (MeansTree m) (λ whole ts x i y. (x.0.1, grouped n q ts x i, y.0.1))
    (pair (IsPair (IsOne (Only kind.RoundOpen)) (IsDeepLine IsPattern n q)) (IsOne (Only kind.RoundClose)) (MeanPair (MeansOne kind.RoundOpen (codes "(")) (MeansTree m)) (MeansOne kind.RoundClose (codes ")")) Ends Stops (codes "(" ++ inner) (codes ")") (λ after e. (stop_close, λ x. omega arith))
    (pair (IsOne (Only kind.RoundOpen)) (IsDeepLine IsPattern n q) (MeansOne kind.RoundOpen (codes "(")) (MeansTree m) Anything Ends (codes "(") inner (λ after e. tt) round w) close_round))

within_by : (t : Bool) (least b n q : ℕ) (m : PlainPattern) (inner : List ℕ) → (t ≡ true → least ≤ b) → least ≤ 3 → b ≤ 3 → Written (IsDeepLine (IsLevel b) n q) (MeansTree m) Ends inner → Written (IsDeepLine (IsLevel least) (if t then n else n + 1) q) (MeansTree m) Ends (if t then inner else codes "(" ++ inner ++ codes ")")
within_by true least b n q m inner h k l w = downed least b n q m inner (h refl) l w
within_by false least b n q m inner h k l w = downed least 3 (n + 1) q m (codes "(" ++ inner ++ codes ")") k (omega arith) (in_round m n q inner (downed 0 b n q m inner (omega arith) l w))

level_low : (m : PlainPattern) → precedence_level m ≤ 3
level_low (a_leaf f) = omega arith
level_low _ = omega arith

abbrev IsNeeded : ℕ → PlainPattern → List Token → Tree → Type 0
IsNeeded least m = IsDeepLine (IsLevel least) (wrapped least (precedence_level m) (need m)) (qualifiers_in m)

within : (least : ℕ) (m : PlainPattern) (text : List ℕ) → least ≤ 3 → ((inner : List ℕ) → IsCanonical m inner → Written (IsDeepLine (IsLevel (precedence_level m)) (need m) (qualifiers_in m)) (MeansTree m) Ends inner) → IsParenthesizedBelow least (precedence_level m) (IsCanonical m) text → Written (IsNeeded least m) (MeansTree m) Ends text
within least m text k w h = as_text (sym h.2) (within_by (nat_le least (precedence_level m)) least (precedence_level m) (need m) (qualifiers_in m) m h.0 (le_from least (precedence_level m)) k (level_low m) (w h.0 h.1))

-- qualifiers
abbrev MeansLimit : Limit → List ℕ → Qualifier → Type 0
MeansLimit l whole q = IsLimitOf whole q l

three_within : (ts : List Token) (x : Token × (Token × Token)) → IsPair (IsOne (Only kind.Within)) (IsPair (IsOne (Only kind.Number)) (IsOne (Only kind.Seconds))) ts x → IsQualifier ts (qualifier.Within x.1.0)
three_within ts x (is_pair (is_one a h) (is_pair (is_one b k) (is_one c l))) = qualifier_within a b c h k l

three_repeats : (ts : List Token) (x : Token × (Token × Token)) → IsPair (IsOne (Only kind.Repeats)) (IsPair (IsOne (Only kind.Number)) (IsOne (Only kind.Times))) ts x → IsQualifier ts (qualifier.Repeats x.1.0)
three_repeats ts x (is_pair (is_one a h) (is_pair (is_one b k) (is_one c l))) = qualifier_repeats a b c h k l

four_between : (ts : List Token) (x : (Token × Token) × (Token × Token)) → IsPair (IsPair (IsOne (Only kind.Start)) (IsOne (Only kind.Timestamp))) (IsPair (IsOne (Only kind.Stop)) (IsOne (Only kind.Timestamp))) ts x → IsQualifier ts (qualifier.Between x.0.0 x.0.1 x.1.1)
four_between ts x (is_pair (is_pair (is_one a h) (is_one b k)) (is_pair (is_one c l) (is_one d m))) = qualifier_between a b c d h k l m

counted : (n : ℕ) (whole : List ℕ) (t : Token) → (1 ≤ n) × (n ≤ 4_294_967_295) → Stands whole t kind.Number (decimal n) → IsCount whole t n
counted n whole t fit s = record { whole = at IsIntegerText whole t kind.Number (decimal n) (pos n) s (count_text n fit.1); low = fit.0; high = fit.1 }

count : (n : ℕ) → n ≤ 4_294_967_295 → Written (IsOne (Only kind.Number)) (MeansOne kind.Number (decimal n)) Ends (decimal n)
count n h = number (Only kind.Number) (pos n) (decimal n) refl (count_text n h) (count_shape n (omega arith))

unit_text : (a n b : List ℕ) → a ++ 32 ∷ (n ++ 32 ∷ b) ≡ ((a ++ 32 ∷ []) ++ n) ++ 32 ∷ b
unit_text a n b = sym (append_assoc (a ++ 32 ∷ []) n (32 ∷ b) ∙ append_assoc a (32 ∷ []) (n ++ 32 ∷ b))

limit : (l : Limit) (text : List ℕ) → FitLimit l → IsLimitText l text → Written IsQualifier (MeansLimit l) Ends text
limit (Within n) text fit h =
    before Ends ends_stops (as_text (unit_text (codes "WITHIN") (decimal n) (codes "SECONDS") ∙ sym h) (as_tree IsQualifier (MeansLimit (Within n)) (λ whole ts x i m. (qualifier.Within x.1.0, three_within ts x i, counted n whole x.1.0 fit m.1.0))
    (pair (IsOne (Only kind.Within)) (IsPair (IsOne (Only kind.Number)) (IsOne (Only kind.Seconds))) (MeansOne kind.Within (codes "WITHIN")) (MeanPair (MeansOne kind.Number (decimal n)) (MeansOne kind.Seconds (codes "SECONDS"))) Stops Stops (codes "WITHIN") (32 ∷ (decimal n ++ 32 ∷ codes "SECONDS")) (λ after e. stop_space)
    (sign (Only kind.Within) kind.Within (codes "WITHIN") refl refl tt refl (λ e. cc))
    (spaced (pair (IsOne (Only kind.Number)) (IsOne (Only kind.Seconds)) (MeansOne kind.Number (decimal n)) (MeansOne kind.Seconds (codes "SECONDS")) Ends Stops (decimal n) (32 ∷ codes "SECONDS") (λ after e. (stop_space, λ x. omega arith)) (count n fit.1)
    (spaced (sign (Only kind.Seconds) kind.Seconds (codes "SECONDS") refl refl tt refl (λ e. cc))))))))
limit (Repeats n) text fit h =
    before Ends ends_stops (as_text (unit_text (codes "REPEATS") (decimal n) (codes "TIMES") ∙ sym h) (as_tree IsQualifier (MeansLimit (Repeats n)) (λ whole ts x i m. (qualifier.Repeats x.1.0, three_repeats ts x i, counted n whole x.1.0 fit m.1.0))
    (pair (IsOne (Only kind.Repeats)) (IsPair (IsOne (Only kind.Number)) (IsOne (Only kind.Times))) (MeansOne kind.Repeats (codes "REPEATS")) (MeanPair (MeansOne kind.Number (decimal n)) (MeansOne kind.Times (codes "TIMES"))) Stops Stops (codes "REPEATS") (32 ∷ (decimal n ++ 32 ∷ codes "TIMES")) (λ after e. stop_space)
    (sign (Only kind.Repeats) kind.Repeats (codes "REPEATS") refl refl tt refl (λ e. cc))
    (spaced (pair (IsOne (Only kind.Number)) (IsOne (Only kind.Times)) (MeansOne kind.Number (decimal n)) (MeansOne kind.Times (codes "TIMES")) Ends Stops (decimal n) (32 ∷ codes "TIMES") (λ after e. (stop_space, λ x. omega arith)) (count n fit.1)
    (spaced (sign (Only kind.Times) kind.Times (codes "TIMES") refl refl tt refl (λ e. cc))))))))
limit (Between i j) text fit h =
    let start = pair (IsOne (Only kind.Start)) (IsOne (Only kind.Timestamp)) (MeansOne kind.Start (codes "START")) (λ (whole : List ℕ) (t : Token). (t.kind ≡ kind.Timestamp) × At IsTimestampText whole t i) Stops Anything (codes "START") (32 ∷ h.2.0) (λ after e. stop_space) (sign (Only kind.Start) kind.Start (codes "START") refl refl tt refl (λ e. cc)) (spaced (time (Only kind.Timestamp) i h.2.0 refl h.2.1)) in
    let stop = pair (IsOne (Only kind.Stop)) (IsOne (Only kind.Timestamp)) (MeansOne kind.Stop (codes "STOP")) (λ (whole : List ℕ) (t : Token). (t.kind ≡ kind.Timestamp) × At IsTimestampText whole t j) Stops Anything (codes "STOP") (32 ∷ h.1) (λ after e. stop_space) (sign (Only kind.Stop) kind.Stop (codes "STOP") refl refl tt refl (λ e. cc)) (spaced (time (Only kind.Timestamp) j h.1 refl h.3)) in
    let text_is : (codes "START " ++ h.2.0) ++ codes " STOP " ++ h.1 ≡ text = ap (λ (x : List ℕ). x ++ codes " STOP " ++ h.1) (sym h.2.2) ∙ sym h.4 in
    before Ends (λ after e. tt) (as_text (sym (append_assoc (codes "START " ++ h.2.0) (codes " STOP ") h.1) ∙ text_is) (as_tree IsQualifier (MeansLimit (Between i j)) (λ whole ts x o m. (qualifier.Between x.0.0 x.0.1 x.1.1, four_between ts x o, (m.0.1.1, m.1.1.1)))
    (pair (IsPair (IsOne (Only kind.Start)) (IsOne (Only kind.Timestamp))) (IsPair (IsOne (Only kind.Stop)) (IsOne (Only kind.Timestamp))) (MeanPair (MeansOne kind.Start (codes "START")) (λ (whole : List ℕ) (t : Token). (t.kind ≡ kind.Timestamp) × At IsTimestampText whole t i)) (MeanPair (MeansOne kind.Stop (codes "STOP")) (λ (whole : List ℕ) (t : Token). (t.kind ≡ kind.Timestamp) × At IsTimestampText whole t j)) Anything Anything (codes "START " ++ h.2.0) (32 ∷ (codes "STOP" ++ 32 ∷ h.1)) (λ after e. tt) start (spaced stop))))

-- patterns
bracketed : (n : ℕ) (ts : List Token) (x : (Token × Comparison) × Token) → IsPair (IsPair (IsOne (Only kind.SquareOpen)) (IsDeep IsCor n)) (IsOne (Only kind.SquareClose)) ts x → IsDeepLine IsUnit n 0 ts (leaf x.0.1)
bracketed n ts x (is_pair (is_pair (is_one a h) k) (is_one b l)) = (unit_one (start_leaf a b h k.0 l), first_flat a _ n 0 (only_flat kind.SquareOpen a.kind h refl) (last_flat b _ n 0 (only_flat kind.SquareClose b.kind l refl) k.1))

in_square : (f : PlainLeaf) (n : ℕ) (inner : List ℕ) → Written (IsDeep IsCor n) (MeansFormula f) Ends inner → Written (IsDeepLine IsUnit n 0) (MeansTree (a_leaf f)) Ends ((codes "[" ++ inner) ++ codes "]")
in_square f n inner w =
    before Ends ends_stops (as_tree (IsDeepLine IsUnit n 0) (MeansTree (a_leaf f)) (λ whole ts x i y. (leaf x.0.1, bracketed n ts x i, means_leaf y.0.1))
    (pair (IsPair (IsOne (Only kind.SquareOpen)) (IsDeep IsCor n)) (IsOne (Only kind.SquareClose)) (MeanPair (MeansOne kind.SquareOpen (codes "[")) (MeansFormula f)) (MeansOne kind.SquareClose (codes "]")) Ends Stops (codes "[" ++ inner) (codes "]") (λ after e. (stop_square, λ x. omega arith))
    (pair (IsOne (Only kind.SquareOpen)) (IsDeep IsCor n) (MeansOne kind.SquareOpen (codes "[")) (MeansFormula f) Anything Ends (codes "[") inner (λ after e. tt) square w) close_square))

-- an operator between two sides
operated : (k : TokenKind) (operator : List ℕ) (a b : ℕ) (m n : PlainPattern) (left right : List ℕ) → Written (IsOne (Only k)) (MeansOne k operator) Stops operator → Written (IsNeeded a m) (MeansTree m) Ends left → Written (IsNeeded b n) (MeansTree n) Ends right
    → Written (IsPair (IsNeeded a m) (IsPair (IsOne (Only k)) (IsNeeded b n))) (MeanPair (MeansTree m) (MeanPair (MeansOne k operator) (MeansTree n))) Ends (left ++ 32 ∷ (operator ++ 32 ∷ right))
operated k operator a b m n left right o v w =
    pair (IsNeeded a m) (IsPair (IsOne (Only k)) (IsNeeded b n)) (MeansTree m) (MeanPair (MeansOne k operator) (MeansTree n)) Ends Ends left (32 ∷ (operator ++ 32 ∷ right)) (λ after e. (stop_space, λ x. omega arith)) v
    (spaced (pair (IsOne (Only k)) (IsNeeded b n) (MeansOne k operator) (MeansTree n) Stops Ends operator (32 ∷ right) (λ after e. stop_space) o (spaced w)))

sides_text : (left operator right : List ℕ) → left ++ 32 ∷ (operator ++ 32 ∷ right) ≡ (left ++ (32 ∷ (operator ++ 32 ∷ []))) ++ right
sides_text left operator right = sym (append_assoc left (32 ∷ (operator ++ 32 ∷ [])) right ∙ ap (λ (x : List ℕ). left ++ 32 ∷ x) (append_assoc operator (32 ∷ []) right))

and_sides : (m n : PlainPattern) (ts : List Token) (x : Tree × (Token × Tree)) → IsPair (IsNeeded 2 m) (IsPair (IsOne (Only kind.And)) (IsNeeded 3 n)) ts x → IsDeepLine IsAnds (need (a_both m n)) (qualifiers_in (a_both m n)) ts (both x.0 x.1.1)
and_sides m n ts x (is_pair h (is_pair (is_one o i) k)) = (ands_more o h.0 i k.0, mid_flat _ o _ _ _ _ _ (only_flat kind.And o.kind i refl) h.1 k.1)

or_sides : (m n : PlainPattern) (ts : List Token) (x : Tree × (Token × Tree)) → IsPair (IsNeeded 1 m) (IsPair (IsOne (Only kind.Or)) (IsNeeded 2 n)) ts x → IsDeepLine IsOrs (need (an_either m n)) (qualifiers_in (an_either m n)) ts (either x.0 x.1.1)
or_sides m n ts x (is_pair h (is_pair (is_one o i) k)) = (ors_more o h.0 i k.0, mid_flat _ o _ _ _ _ _ (only_flat kind.Or o.kind i refl) h.1 k.1)

then_sides : (m n : PlainPattern) (ts : List Token) (x : Tree × (Token × Tree)) → IsPair (IsNeeded 0 m) (IsPair (IsOne (Only kind.FollowedBy)) (IsNeeded 1 n)) ts x → IsDeepLine IsPattern (need (a_then m n)) (qualifiers_in (a_then m n)) ts (followed x.0 x.1.1)
then_sides m n ts x (is_pair h (is_pair (is_one o i) k)) = (pattern_more o h.0 i k.0, mid_flat _ o _ _ _ _ _ (only_flat kind.FollowedBy o.kind i refl) h.1 k.1)

limited : (m : PlainPattern) (l : Limit) (ts : List Token) (x : Tree × Qualifier) → IsPair (IsNeeded 3 m) IsQualifier ts x → IsDeepLine IsUnit (need (a_limited m l)) (qualifiers_in (a_limited m l)) ts (qualified x.0 x.1)
limited m l ts x (is_pair h k) = (unit_more h.0 k, measured_is _ (max (need (a_limited m l)) 0) (qualifiers_in m + 1) (need (a_limited m l)) (qualifiers_in m + 1) (max_last (need (a_limited m l))) refl (joined _ _ (need (a_limited m l)) (qualifiers_in m) 0 1 h.1 (qualifier_measured k)))

pub canonical : (m : PlainPattern) (text : List ℕ) → FitMeant m → IsCanonical m text → Written (IsDeepLine (IsLevel (precedence_level m)) (need m) (qualifiers_in m)) (MeansTree m) Ends text
canonical (a_leaf f) text fit h = as_text (sym h.2) (in_square f (formula_need f) h.0 (lowered 0 (binds f) (formula_need f) f h.0 (omega arith) (binds_low f) (plain_leaf f h.0 fit h.1)))
canonical (a_both m n) text fit h =
    as_text (sides_text h.0 (codes "AND") h.1 ∙ sym h.4) (as_tree (IsDeepLine IsAnds (need (a_both m n)) (qualifiers_in (a_both m n))) (MeansTree (a_both m n)) (λ whole ts x i y. (both x.0 x.1.1, and_sides m n ts x i, means_both y.0 y.1.1))
    (operated kind.And (codes "AND") 2 3 m n h.0 h.1 (sign (Only kind.And) kind.And (codes "AND") refl refl tt refl (λ e. cc)) (within 2 m h.0 (omega arith) (λ inner k. canonical m inner fit.0 k) h.2) (within 3 n h.1 (omega arith) (λ inner k. canonical n inner fit.1 k) h.3)))
canonical (an_either m n) text fit h =
    as_text (sides_text h.0 (codes "OR") h.1 ∙ sym h.4) (as_tree (IsDeepLine IsOrs (need (an_either m n)) (qualifiers_in (an_either m n))) (MeansTree (an_either m n)) (λ whole ts x i y. (either x.0 x.1.1, or_sides m n ts x i, means_either y.0 y.1.1))
    (operated kind.Or (codes "OR") 1 2 m n h.0 h.1 (sign (Only kind.Or) kind.Or (codes "OR") refl refl tt refl (λ e. cc)) (within 1 m h.0 (omega arith) (λ inner k. canonical m inner fit.0 k) h.2) (within 2 n h.1 (omega arith) (λ inner k. canonical n inner fit.1 k) h.3)))
canonical (a_then m n) text fit h =
    as_text (sides_text h.0 (codes "FOLLOWEDBY") h.1 ∙ sym h.4) (as_tree (IsDeepLine IsPattern (need (a_then m n)) (qualifiers_in (a_then m n))) (MeansTree (a_then m n)) (λ whole ts x i y. (followed x.0 x.1.1, then_sides m n ts x i, means_then y.0 y.1.1))
    (operated kind.FollowedBy (codes "FOLLOWEDBY") 0 1 m n h.0 h.1 (sign (Only kind.FollowedBy) kind.FollowedBy (codes "FOLLOWEDBY") refl refl tt refl (λ e. cc)) (within 0 m h.0 (omega arith) (λ inner k. canonical m inner fit.0 k) h.2) (within 1 n h.1 (omega arith) (λ inner k. canonical n inner fit.1 k) h.3)))
canonical (a_limited m l) text fit h =
    as_text (sym (append_assoc h.0 (codes " ") h.1) ∙ sym h.4) (as_tree (IsDeepLine IsUnit (need (a_limited m l)) (qualifiers_in (a_limited m l))) (MeansTree (a_limited m l)) (λ whole ts x i y. (qualified x.0 x.1, limited m l ts x i, means_limited y.0 y.1))
    (pair (IsNeeded 3 m) IsQualifier (MeansTree m) (MeansLimit l) Ends Ends h.0 (32 ∷ h.1) (λ after e. (stop_space, λ x. omega arith)) (within 3 m h.0 (omega arith) (λ inner k. canonical m inner fit.0 k) h.2) (spaced (limit l h.1 fit.1 h.3))))

-- as a whole pattern
pub whole_pattern : (m : PlainPattern) (text : List ℕ) → FitMeant m → IsCanonical m text → Written (IsDeepLine IsPattern (need m) (qualifiers_in m)) (MeansTree m) Ends text
whole_pattern m text fit h = downed 0 (precedence_level m) (need m) (qualifiers_in m) m text (omega arith) (level_low m) (canonical m text fit h)
