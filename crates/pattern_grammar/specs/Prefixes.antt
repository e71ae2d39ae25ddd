-- The grammar (STIX 2.1, section 9) as production rules, the derivable token lists, and their
-- prefixes.
use Rattle.std.specs.Prelude.{List, [], ◌∷◌, ◌++◌}
use Rattle.pattern_lexer.specs.declared.token.{Token.Token, TokenKind.TokenKind}
use Rattle.pattern_lexer.specs.declared.token.TokenKind.TheVariants.{SquareOpen, SquareClose, RoundOpen, RoundClose, Dot, Colon, Comma, And, Or, Not, FollowedBy, Within, Seconds, Repeats, Times, Start, Stop, Among, Exists, Number, String, Timestamp}
use Rattle.pattern_grammar.specs.{declared.class.TokenClass.TokenClass, TokenClass.IsA}
use Rattle.pattern_grammar.specs.declared.class.TokenClass.TheVariants.{Only, Root, Name, Index, Equality, Order, Textual, Ordered, Constant}

-- the nonterminals
pub data Nonterminal : Type 0 where
  pattern ors ands unit qualifier cor cand test compare path : Nonterminal

infixr 20 ◌then◌
infixr 10 ◌or◌
-- the right side of a production: a token of a class, a nonterminal, a sequence, a choice, a
-- repeated part, an optional part
pub data ProductionPart : Type 0 where
  one : TokenClass → ProductionPart
  line : Nonterminal → ProductionPart
  ◌then◌ ◌or◌ : ProductionPart → ProductionPart → ProductionPart
  many maybe : ProductionPart → ProductionPart

-- a token of this kind
abbrev pub token : TokenKind → ProductionPart
token kind = one (Only kind)

abbrev pub rule : Nonterminal → ProductionPart
rule pattern = line ors then many (token FollowedBy then line ors)
rule ors = line ands then many (token Or then line ands)
rule ands = line unit then many (token And then line unit)
rule unit = ((token SquareOpen then line cor then token SquareClose) or (token RoundOpen then line pattern then token RoundClose)) then many (line qualifier)
rule qualifier =
    (token Within then token Number then token Seconds)
    or (token Repeats then token Number then token Times)
    or (token Start then token Timestamp then token Stop then token Timestamp)
rule cor = line cand then many (token Or then line cand)
rule cand = line test then many (token And then line test)
rule test =
    (token RoundOpen then line cor then token RoundClose)
    or (maybe (token Not) then token Exists then line path)
    or (line path then maybe (token Not) then line compare)
rule compare =
    (one Equality then one Constant)
    or (one Order then one Ordered)
    or (token Among then token RoundOpen then one Constant then many (token Comma then one Constant) then token RoundClose)
    or (one Textual then token String)
rule path = one Root then token Colon then one Name then many ((token Dot then one Name) or (token SquareOpen then one Index then token SquareClose))

-- the tokens are derived from the part
pub data Derives : ProductionPart → List Token → Type 0 where
  is_one : {class : TokenClass} (t : Token) → IsA class t → Derives (one class) (t ∷ [])
  is_line : {l : Nonterminal} {ts : List Token} → Derives (rule l) ts → Derives (line l) ts
  is_both : {a b : ProductionPart} {ts us : List Token} → Derives a ts → Derives b us → Derives (a then b) (ts ++ us)
  is_left : {a b : ProductionPart} {ts : List Token} → Derives a ts → Derives (a or b) ts
  is_right : {a b : ProductionPart} {ts : List Token} → Derives b ts → Derives (a or b) ts
  no_more : {a : ProductionPart} → Derives (many a) []
  one_more : {a : ProductionPart} {ts us : List Token} → Derives a ts → Derives (many a) us → Derives (many a) (ts ++ us)
  absent : {a : ProductionPart} → Derives (maybe a) []
  present : {a : ProductionPart} {ts : List Token} → Derives a ts → Derives (maybe a) ts

-- the tokens are a prefix of some list derived from the part
pub data PrefixOf : ProductionPart → List Token → Type 0 where
  -- of a token: nothing, or the token
  before_one : {class : TokenClass} → PrefixOf (one class) []
  after_one : {class : TokenClass} (t : Token) → IsA class t → PrefixOf (one class) (t ∷ [])
  of_line : {l : Nonterminal} {ts : List Token} → PrefixOf (rule l) ts → PrefixOf (line l) ts
  -- of a sequence: a prefix of the first part, or the first part and a prefix of the second
  in_first : {a b : ProductionPart} {ts : List Token} → PrefixOf a ts → PrefixOf (a then b) ts
  in_second : {a b : ProductionPart} {ts us : List Token} → Derives a ts → PrefixOf b us → PrefixOf (a then b) (ts ++ us)
  -- of a choice: a prefix of one side
  of_left : {a b : ProductionPart} {ts : List Token} → PrefixOf a ts → PrefixOf (a or b) ts
  of_right : {a b : ProductionPart} {ts : List Token} → PrefixOf b ts → PrefixOf (a or b) ts
  -- of a repeated part: nothing, a prefix of it, or the part and a prefix of more
  before_many : {a : ProductionPart} → PrefixOf (many a) []
  in_many : {a : ProductionPart} {ts : List Token} → PrefixOf a ts → PrefixOf (many a) ts
  in_more : {a : ProductionPart} {ts us : List Token} → Derives a ts → PrefixOf (many a) us → PrefixOf (many a) (ts ++ us)
  -- of an optional part: nothing, or a prefix of it
  before_maybe : {a : ProductionPart} → PrefixOf (maybe a) []
  in_maybe : {a : ProductionPart} {ts : List Token} → PrefixOf a ts → PrefixOf (maybe a) ts
