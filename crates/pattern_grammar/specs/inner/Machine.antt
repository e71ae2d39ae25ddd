-- For private clauses: a pushdown automaton for the grammar. Its state is the stack of expected
-- symbols, the next one first.
use Rattle.std.specs.Prelude.{Bool, true, false, List, [], ◌∷◌, Option, Some, None, option_and_then, if◌then◌else◌, ◌≡◌, ◌++◌, ◌↔◌, IsTrue, ℕ, length}
use Rattle.pattern_lexer.specs.declared.token.{Token.Token, TokenKind.TokenKind, TokenKind.TheVariants.RoundOpen, TokenKind.TheVariants.RoundClose}
use Rattle.pattern_lexer.specs.declared.token.TokenKind.TheVariants as kind
use Rattle.pattern_grammar.specs.{declared.class.TokenClass.TokenClass, TokenClass.is_in, declared.stop.Stop.Stop, TokenClass.IsA}
use Rattle.pattern_grammar.specs.declared.class.TokenClass.TheVariants.{Only, Root, Name, Index, Equality, Order, Textual, Ordered, Constant, Qualifying, Stepping}
use Rattle.pattern_grammar.specs.declared.{depth.Counts.Counts, stop.Stop.TheVariants.Memory, stop.Stop.TheVariants.Syntax}
use Rattle.pattern_grammar.specs.Depth.{class_count, EndsWithIn, FirstTooMany}

-- a nonterminal whose first token decides the alternative
pub data ExpectedLine : Type 0 where
  start qualifier test turn check step : ExpectedLine

-- a part that may be repeated
pub data Tail : Type 0 where
  qualifiers ands ors thens cands cors steps commas : Tail

pub data Expected : Type 0 where
  one : TokenClass → Expected
  line : ExpectedLine → Expected
  tail : Tail → Expected

-- the expansion of nonterminals with only one alternative
abbrev pub expects_path : List Expected → List Expected
expects_path k = one Root ∷ one (Only kind.Colon) ∷ one Name ∷ tail steps ∷ k

abbrev pub expects_cor : List Expected → List Expected
expects_cor k = line test ∷ tail cands ∷ tail cors ∷ k

abbrev pub expects_pattern : List Expected → List Expected
expects_pattern k = line start ∷ tail qualifiers ∷ tail ands ∷ tail ors ∷ tail thens ∷ k

-- the alternative chosen by the first token
abbrev pub choose : TokenKind → TokenClass → List Expected → Option (List Expected) → Option (List Expected)
choose k class s other = if is_in class k then Some s else other

-- the stack after the first token of a nonterminal
abbrev pub begin_check : TokenKind → List Expected → Option (List Expected)
begin_check k s =
    choose k Equality (one Constant ∷ s)
    (choose k Order (one Ordered ∷ s)
    (choose k Textual (one (Only kind.String) ∷ s)
    (choose k (Only kind.Among) (one (Only kind.RoundOpen) ∷ one Constant ∷ tail commas ∷ one (Only kind.RoundClose) ∷ s) None)))

abbrev pub begin : ExpectedLine → TokenKind → List Expected → Option (List Expected)
begin start k s =
    choose k (Only kind.RoundOpen) (expects_pattern (one (Only kind.RoundClose) ∷ s))
    (choose k (Only kind.SquareOpen) (expects_cor (one (Only kind.SquareClose) ∷ s)) None)
begin qualifier k s =
    choose k (Only kind.Within) (one (Only kind.Number) ∷ one (Only kind.Seconds) ∷ s)
    (choose k (Only kind.Repeats) (one (Only kind.Number) ∷ one (Only kind.Times) ∷ s)
    (choose k (Only kind.Start) (one (Only kind.Timestamp) ∷ one (Only kind.Stop) ∷ one (Only kind.Timestamp) ∷ s) None))
begin test k s =
    choose k (Only kind.RoundOpen) (expects_cor (one (Only kind.RoundClose) ∷ s))
    (choose k (Only kind.Exists) (expects_path s)
    (choose k (Only kind.Not) (one (Only kind.Exists) ∷ expects_path s)
    (choose k Root (one (Only kind.Colon) ∷ one Name ∷ tail steps ∷ line turn ∷ s) None)))
begin turn k s = choose k (Only kind.Not) (line check ∷ s) (begin_check k s)
begin check k s = begin_check k s
begin step k s =
    choose k (Only kind.Dot) (one Name ∷ s)
    (choose k (Only kind.SquareOpen) (one Index ∷ one (Only kind.SquareClose) ∷ s) None)

-- the first token of another repetition
abbrev pub opening : Tail → TokenClass
opening qualifiers = Qualifying
opening ands = Only kind.And
opening ors = Only kind.Or
opening thens = Only kind.FollowedBy
opening cands = Only kind.And
opening cors = Only kind.Or
opening steps = Stepping
opening commas = Only kind.Comma

-- the stack after the first token of another repetition
abbrev pub again : Tail → TokenKind → List Expected → Option (List Expected)
again qualifiers k s = begin qualifier k s
again ands k s = Some (line start ∷ tail qualifiers ∷ s)
again ors k s = Some (line start ∷ tail qualifiers ∷ tail ands ∷ s)
again thens k s = Some (line start ∷ tail qualifiers ∷ tail ands ∷ tail ors ∷ s)
again cands k s = Some (line test ∷ s)
again cors k s = Some (line test ∷ tail cands ∷ s)
again steps k s = begin step k s
again commas k s = Some (one Constant ∷ s)

-- the stack after one more token
abbrev pub next : List Expected → TokenKind → Option (List Expected)
next [] k = None
next (one class ∷ s) k = if is_in class k then Some s else None
next (line l ∷ s) k = begin l k s
next (tail t ∷ s) k = if is_in (opening t) k then again t k (tail t ∷ s) else next s k

-- the stack accepts the end
abbrev pub ended : List Expected → Bool
ended [] = true
ended (tail t ∷ s) = ended s
ended _ = false

-- the stack after the tokens
abbrev pub state_after : Option (List Expected) → List Token → Option (List Expected)
state_after s [] = s
state_after s (t ∷ ts) = state_after (option_and_then (λ w. next w t.kind) s) ts

-- the stack after the first of the rest, or after the end
abbrev pub go : Option (List Expected) → List Token → Option (List Expected)
go None rest = None
go (Some w) [] = if ended w then Some [] else None
go (Some w) (t ∷ ts) = next w t.kind

-- the stack before each nonterminal, where k is expected after it
abbrev pub expects_step : List Expected → List Expected
expects_step k = line step ∷ k

abbrev pub expects_constants : List Expected → List Expected
expects_constants k = one Constant ∷ tail commas ∷ k

abbrev pub expects_check : List Expected → List Expected
expects_check k = line check ∷ k

abbrev pub expects_test : List Expected → List Expected
expects_test k = line test ∷ k

abbrev pub expects_cand : List Expected → List Expected
expects_cand k = line test ∷ tail cands ∷ k

abbrev pub expects_qualifier : List Expected → List Expected
expects_qualifier k = line qualifier ∷ k

abbrev pub expects_start : List Expected → List Expected
expects_start k = line start ∷ k

abbrev pub expects_unit : List Expected → List Expected
expects_unit k = line start ∷ tail qualifiers ∷ k

abbrev pub expects_ands : List Expected → List Expected
expects_ands k = line start ∷ tail qualifiers ∷ tail ands ∷ k

abbrev pub expects_ors : List Expected → List Expected
expects_ors k = line start ∷ tail qualifiers ∷ tail ands ∷ tail ors ∷ k

-- the first token is of the class, and the rest follows it
pub record BeginsLine (class : TokenClass) (token : Token) (ts rest : List Token) : Type 0 where
  pub of_class : IsA class token
  pub all_are : ts ≡ token ∷ rest

-- the first token isn't of the class
abbrev pub LacksTokenClass : TokenClass → List Token → Type 0
LacksTokenClass class [] = Unit {0}
LacksTokenClass class (t ∷ ts) = is_in class t.kind ≡ false

-- the first token is no operator but IN
pub record LacksOperator (ts : List Token) : Type 0 where
  pub equality : LacksTokenClass Equality ts
  pub order : LacksTokenClass Order ts
  pub textual : LacksTokenClass Textual ts

-- the first token is neither `(` nor EXISTS nor NOT
pub record LacksTestWord (ts : List Token) : Type 0 where
  pub round : LacksTokenClass (Only kind.RoundOpen) ts
  pub exists : LacksTokenClass (Only kind.Exists) ts
  pub not : LacksTokenClass (Only kind.Not) ts

-- the tokens lead from the stack before them to the stack after them, if these follow
pub record Leads (before after : List Expected → List Expected) (read rest : List Token) : Type 0 where
  pub proceed : (k : List Expected) → go (state_after (Some (before k)) read) rest ≡ go (Some (after k)) rest

-- the tokens lead to a state where the first of these, or the end, is not allowed
pub record Halts (before : List Expected → List Expected) (read rest : List Token) : Type 0 where
  pub stop : (k : List Expected) → go (state_after (Some (before k)) read) rest ≡ None

-- nothing else is expected
abbrev pub done : List Expected → List Expected
done k = k

-- another repetition may follow
abbrev pub open_for : Tail → List Expected → List Expected
open_for t k = tail t ∷ k

-- the tokens are a prefix of a derivation of the nonterminal
pub record Prefix {V : Type 0} (Spells : List Token → V → Type 0) (ts : List Token) : Type 0 where
  pub more : List Token
  pub value : V
  pub spells : Spells (ts ++ more) value

-- the longest derivation at the start of the tokens was parsed
pub record Found {V : Type 0} (Spells : List Token → V → Type 0) (before after : List Expected → List Expected) (ts : List Token) (value : V) (rest : List Token) : Type 0 where
  pub read : List Token
  pub all_are : ts ≡ read ++ rest
  pub spells : Spells read value
  pub leads : Leads before after read rest

-- the tokens before the rest were parsed, and the first of the rest doesn't fit
pub record Stuck {V : Type 0} (Spells : List Token → V → Type 0) (before : List Expected → List Expected) (ts rest : List Token) : Type 0 where
  pub read : List Token
  pub all_are : ts ≡ read ++ rest
  pub prefix : Prefix Spells read
  pub halts : Halts before read rest

abbrev pub Refused : {V : Type 0} → (List Token → V → Type 0) → (List Expected → List Expected) → List Token → Stop → Type 0
Refused Spells before ts Memory = Unit {0}
Refused Spells before ts (Syntax rest) = Stuck Spells before ts rest.now

-- the counts are those of the tokens
pub record CountsOf (ts : List Token) (counts : Counts) : Type 0 where
  pub opened : counts.opened ≡ class_count (Only RoundOpen) ts
  pub closed : counts.closed ≡ class_count (Only RoundClose) ts
  pub qualifiers : counts.qualifiers ≡ class_count Qualifying ts
  pub after_in : IsTrue counts.after_in ↔ EndsWithIn ts

-- the number of tokens before the first that exceeds a limit
abbrev pub IsFirstAt : List Token → ℕ → Type 0
IsFirstAt ts count = (first : FirstTooMany ts) × (count ≡ length first.before)
