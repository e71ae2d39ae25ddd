-- The grammar of patterns (STIX 2.1, section 9) as relations from tokens to syntax trees: one
-- relation for each nonterminal, one constructor for each alternative.
use Rattle.std.specs.Prelude.{List, [], ◌∷◌, ◌++◌, true, false}
use Rattle.pattern_lexer.specs.declared.token.Token.{Token}
use Rattle.pattern_lexer.specs.declared.token.TokenKind.TheVariants as kind
use Rattle.pattern_grammar.specs.declared.class.TokenClass.TheVariants.{Only, Root, Name, Index, Equality, Order, Textual, Ordered, Constant}
use Rattle.pattern_grammar.specs.declared.{path.StepTree.StepTree, path.PathTree.PathTree, comparison.CheckTree.CheckTree}
use Rattle.pattern_grammar.specs.declared.path.StepTree.TheVariants as step
use Rattle.pattern_grammar.specs.declared.comparison.CheckTree.TheVariants as check
use Rattle.pattern_grammar.specs.{declared.qualifier.Qualifier.Qualifier, TokenClass.IsA}
use Rattle.pattern_grammar.specs.declared.qualifier.Qualifier.TheVariants as qualifier
use Rattle.pattern_grammar.specs.Tree.{Comparison, test, group, all, any, Tree, leaf, both, either, followed, qualified}

-- step = "." name | "[" ( Number | "*" ) "]"
pub data IsStep : List Token → StepTree → Type 0 where
  step_name : (a b : Token) → IsA (Only kind.Dot) a → IsA Name b → IsStep (a ∷ b ∷ []) (step.Name b)
  step_index : (a b c : Token) → IsA (Only kind.SquareOpen) a → IsA Index b → IsA (Only kind.SquareClose) c → IsStep (a ∷ b ∷ c ∷ []) (step.Index b)

-- the path with one more step
abbrev pub further : PathTree → StepTree → PathTree
further path next = record { root = path.root; steps = path.steps ++ next ∷ [] }

-- path = (Word | HyphenWord) ":" name { step }
pub data IsPath : List Token → PathTree → Type 0 where
  path_first : (a b c : Token) → IsA Root a → IsA (Only kind.Colon) b → IsA Name c → IsPath (a ∷ b ∷ c ∷ []) (record { root = a; steps = step.Name c ∷ [] })
  path_further : {a b : List Token} {path : PathTree} {next : StepTree} → IsPath a path → IsStep b next → IsPath (a ++ b) (further path next)

-- constant { "," constant }
pub data AreConstants : List Token → List Token → Type 0 where
  constants_one : (a : Token) → IsA Constant a → AreConstants (a ∷ []) (a ∷ [])
  constants_more : {ts cs : List Token} (a b : Token) → AreConstants ts cs → IsA (Only kind.Comma) a → IsA Constant b → AreConstants (ts ++ a ∷ b ∷ []) (cs ++ b ∷ [])

-- compare = ("=" | "!=") constant | ("<" | "<=" | ">" | ">=") ordered
--         | IN "(" constant { "," constant } ")"
--         | LIKE String | ISSUBSET String | ISSUPERSET String
pub data IsCheck : List Token → CheckTree → Type 0 where
  check_equality : (a b : Token) → IsA Equality a → IsA Constant b → IsCheck (a ∷ b ∷ []) (check.Compare a b)
  check_order : (a b : Token) → IsA Order a → IsA Ordered b → IsCheck (a ∷ b ∷ []) (check.Compare a b)
  check_among : (a b c : Token) {ts cs : List Token} → IsA (Only kind.Among) a → IsA (Only kind.RoundOpen) b → AreConstants ts cs → IsA (Only kind.RoundClose) c → IsCheck (a ∷ b ∷ ts ++ c ∷ []) (check.Among cs)
  check_textual : (a b : Token) → IsA Textual a → IsA (Only kind.String) b → IsCheck (a ∷ b ∷ []) (check.Textual a b)

mutual
  -- test = "(" cor ")" | [NOT] EXISTS path | path [NOT] compare
  pub data IsTest : List Token → Comparison → Type 0 where
    test_group : (a b : Token) {ts : List Token} {c : Comparison} → IsA (Only kind.RoundOpen) a → IsCor ts c → IsA (Only kind.RoundClose) b → IsTest (a ∷ ts ++ b ∷ []) (group a c)
    test_exists : (a : Token) {ts : List Token} {p : PathTree} → IsA (Only kind.Exists) a → IsPath ts p → IsTest (a ∷ ts) (test (record { first = a; path = p; negated = false; check = check.Exists }))
    test_not_exists : (a b : Token) {ts : List Token} {p : PathTree} → IsA (Only kind.Not) a → IsA (Only kind.Exists) b → IsPath ts p → IsTest (a ∷ b ∷ ts) (test (record { first = a; path = p; negated = true; check = check.Exists }))
    test_compare : {a b : List Token} {p : PathTree} {c : CheckTree} → IsPath a p → IsCheck b c → IsTest (a ++ b) (test (record { first = p.root; path = p; negated = false; check = c }))
    test_not_compare : {a b : List Token} (o : Token) {p : PathTree} {c : CheckTree} → IsPath a p → IsA (Only kind.Not) o → IsCheck b c → IsTest (a ++ o ∷ b) (test (record { first = p.root; path = p; negated = true; check = c }))

  -- cand = test { AND test }
  pub data IsCand : List Token → Comparison → Type 0 where
    cand_one : {ts : List Token} {c : Comparison} → IsTest ts c → IsCand ts c
    cand_more : {a b : List Token} (o : Token) {c d : Comparison} → IsCand a c → IsA (Only kind.And) o → IsTest b d → IsCand (a ++ o ∷ b) (all c d)

  -- cor = cand { OR cand }
  pub data IsCor : List Token → Comparison → Type 0 where
    cor_one : {ts : List Token} {c : Comparison} → IsCand ts c → IsCor ts c
    cor_more : {a b : List Token} (o : Token) {c d : Comparison} → IsCor a c → IsA (Only kind.Or) o → IsCand b d → IsCor (a ++ o ∷ b) (any c d)

-- qualifier = WITHIN Number SECONDS | REPEATS Number TIMES | START Timestamp STOP Timestamp
pub data IsQualifier : List Token → Qualifier → Type 0 where
  qualifier_within : (a b c : Token) → IsA (Only kind.Within) a → IsA (Only kind.Number) b → IsA (Only kind.Seconds) c → IsQualifier (a ∷ b ∷ c ∷ []) (qualifier.Within b)
  qualifier_repeats : (a b c : Token) → IsA (Only kind.Repeats) a → IsA (Only kind.Number) b → IsA (Only kind.Times) c → IsQualifier (a ∷ b ∷ c ∷ []) (qualifier.Repeats b)
  qualifier_between : (a b c d : Token) → IsA (Only kind.Start) a → IsA (Only kind.Timestamp) b → IsA (Only kind.Stop) c → IsA (Only kind.Timestamp) d → IsQualifier (a ∷ b ∷ c ∷ d ∷ []) (qualifier.Between a b d)

mutual
  -- start = "[" cor "]" | "(" pattern ")"
  pub data IsStart : List Token → Tree → Type 0 where
    start_leaf : (a b : Token) {ts : List Token} {c : Comparison} → IsA (Only kind.SquareOpen) a → IsCor ts c → IsA (Only kind.SquareClose) b → IsStart (a ∷ ts ++ b ∷ []) (leaf c)
    start_group : (a b : Token) {ts : List Token} {p : Tree} → IsA (Only kind.RoundOpen) a → IsPattern ts p → IsA (Only kind.RoundClose) b → IsStart (a ∷ ts ++ b ∷ []) p

  -- unit = start { qualifier }
  pub data IsUnit : List Token → Tree → Type 0 where
    unit_one : {ts : List Token} {p : Tree} → IsStart ts p → IsUnit ts p
    unit_more : {a b : List Token} {p : Tree} {q : Qualifier} → IsUnit a p → IsQualifier b q → IsUnit (a ++ b) (qualified p q)

  -- ands = unit { AND unit }
  pub data IsAnds : List Token → Tree → Type 0 where
    ands_one : {ts : List Token} {p : Tree} → IsUnit ts p → IsAnds ts p
    ands_more : {a b : List Token} (o : Token) {p q : Tree} → IsAnds a p → IsA (Only kind.And) o → IsUnit b q → IsAnds (a ++ o ∷ b) (both p q)

  -- ors = ands { OR ands }
  pub data IsOrs : List Token → Tree → Type 0 where
    ors_one : {ts : List Token} {p : Tree} → IsAnds ts p → IsOrs ts p
    ors_more : {a b : List Token} (o : Token) {p q : Tree} → IsOrs a p → IsA (Only kind.Or) o → IsAnds b q → IsOrs (a ++ o ∷ b) (either p q)

  -- pattern = ors { FOLLOWEDBY ors }
  pub data IsPattern : List Token → Tree → Type 0 where
    pattern_one : {ts : List Token} {p : Tree} → IsOrs ts p → IsPattern ts p
    pattern_more : {a b : List Token} (o : Token) {p q : Tree} → IsPattern a p → IsA (Only kind.FollowedBy) o → IsOrs b q → IsPattern (a ++ o ∷ b) (followed p q)
