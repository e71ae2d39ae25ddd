-- Tokens with which a line may go on.
use Rattle.std.proofs.Common.{List, [], ◌∷◌, ◌++◌, refl, append_assoc, append-nil}
use Rattle.pattern_lexer.specs.declared.token.Token.{Token}
use Rattle.pattern_lexer.specs.declared.token.TokenKind.{TokenKind}
use Rattle.pattern_lexer.specs.declared.token.TokenKind.TheVariants.{Word, Colon, Equal, Number, SquareOpen, SquareClose}
use Rattle.pattern_grammar.specs.Grammar.{IsPath, path_first, IsCheck, check_equality, AreConstants, constants_one, IsTest, test_compare, cand_one, cor_one, IsStart, start_leaf}
use Rattle.pattern_grammar.specs.inner.Machine.{Prefix}

-- a token of the kind
abbrev pub some : TokenKind → Token
some k = record { kind = k; from = 0; to = 0 }

pub prefix_path : Prefix IsPath []
prefix_path = record { more = some Word ∷ some Colon ∷ some Word ∷ []; value = _; spells = path_first (some Word) (some Colon) (some Word) refl refl refl }

pub prefix_check : Prefix IsCheck []
prefix_check = record { more = some Equal ∷ some Number ∷ []; value = _; spells = check_equality (some Equal) (some Number) refl refl }

pub prefix_constants : Prefix AreConstants []
prefix_constants = record { more = some Number ∷ []; value = _; spells = constants_one (some Number) refl }

pub prefix_test : Prefix IsTest []
prefix_test = record { more = prefix_path.more ++ prefix_check.more; value = _; spells = test_compare prefix_path.spells prefix_check.spells }

pub prefix_start : Prefix IsStart []
prefix_start = record { more = some SquareOpen ∷ prefix_test.more ++ some SquareClose ∷ []; value = _; spells = start_leaf (some SquareOpen) (some SquareClose) refl (cor_one (cand_one prefix_test.spells)) refl }

-- the tokens are a line, and so begin one
pub prefix_whole : {V : Type 0} {Spells : List Token → V → Type 0} {ts : List Token} (v : V) → Spells ts v → Prefix Spells ts
prefix_whole v x = record { more = []; value = v; spells = rw append-nil x }

-- a line after another
pub prefix_behind : {V W : Type 0} {A : List Token → V → Type 0} {B : List Token → W → Type 0} (a b : List Token) (f : V → W) → ((us : List Token) (v : V) → A us v → B (a ++ us) (f v)) → Prefix A b → Prefix B (a ++ b)
prefix_behind a b f join x = record { more = x.more; value = f x.value; spells = rw (append_assoc a b x.more) (join (b ++ x.more) x.value x.spells) }

-- a line before some tokens
pub prefix_before : {V W : Type 0} {A : List Token → V → Type 0} {B : List Token → W → Type 0} (a : Token) (b end : List Token) (f : V → W) → ((us : List Token) (v : V) → A us v → B (a ∷ us ++ end) (f v)) → Prefix A b → Prefix B (a ∷ b)
prefix_before a b end f join x = record { more = x.more ++ end; value = f x.value; spells = rw (← append_assoc b x.more end) (join (b ++ x.more) x.value x.spells) }
