-- A token of one kind is of no other.
use Rattle.std.proofs.Common.{◌≡◌, ◌⊎◌, inl, inr, Bool, true, false, refl, sym, rules}
use denote.Enum.Bare.{same_true}
use Rattle.pattern_lexer.specs.contracts.token.TokenKind.{the_type}
use Rattle.pattern_lexer.specs.declared.token.Token.{Token}
use Rattle.pattern_lexer.specs.declared.token.TokenKind.{TokenKind}
use Rattle.pattern_lexer.specs.declared.token.TokenKind.TheVariants.{SquareOpen, Dot, Equal, Differ, Less, LessEqual, Greater, GreaterEqual, Not}
use Rattle.pattern_grammar.specs.declared.class.TokenClass.TheVariants.{Only, Equality, Order, Textual, Root, Stepping}
use Rattle.pattern_grammar.specs.TokenClass.{is_same_kind, is_in, IsA}

pub same_is : (a b : TokenKind) → is_same_kind a b ≡ true → b ≡ a
same_is a b h = sym (same_true the_type (search rules) a b h)

-- the token is of the kind
pub only : (w : TokenKind) (t : Token) → IsA (Only w) t → t.kind ≡ w
only w t h = same_is w t.kind h

-- what is of one class and not of another
pub order_apart : (k : TokenKind) → is_in Order k ≡ true → is_in Equality k ≡ false
order_apart Equal h = sym h
order_apart Differ h = sym h
order_apart _ h = refl

pub textual_apart : (k : TokenKind) → is_in Textual k ≡ true → is_in Equality k ≡ false
textual_apart Equal h = sym h
textual_apart Differ h = sym h
textual_apart _ h = refl

pub textual_apart_order : (k : TokenKind) → is_in Textual k ≡ true → is_in Order k ≡ false
textual_apart_order Less h = sym h
textual_apart_order LessEqual h = sym h
textual_apart_order Greater h = sym h
textual_apart_order GreaterEqual h = sym h
textual_apart_order _ h = refl

-- a type of object is no word of the grammar
pub root_apart : (k w : TokenKind) → is_in Root k ≡ true → is_in Root w ≡ false → is_same_kind w k ≡ false
root_apart k w h e = elim_same (is_same_kind w k) refl
  where
    elim_same : (b : Bool) → is_same_kind w k ≡ b → is_same_kind w k ≡ false
    elim_same false g = g
    elim_same true g = let f : k ≡ w = same_is w k g in let d : is_in Root w ≡ true = rw f at h in absurd (cc)

-- a comparison operator is neither NOT nor the beginning of a step
pub check_apart : (k : TokenKind) → (is_in Equality k ≡ true) ⊎ ((is_in Order k ≡ true) ⊎ (is_in Textual k ≡ true)) → (is_same_kind Not k ≡ false) × (is_in Stepping k ≡ false)
check_apart Not (inl h) = absurd (cc)
check_apart Not (inr (inl h)) = absurd (cc)
check_apart Not (inr (inr h)) = absurd (cc)
check_apart Dot (inl h) = absurd (cc)
check_apart Dot (inr (inl h)) = absurd (cc)
check_apart Dot (inr (inr h)) = absurd (cc)
check_apart SquareOpen (inl h) = absurd (cc)
check_apart SquareOpen (inr (inl h)) = absurd (cc)
check_apart SquareOpen (inr (inr h)) = absurd (cc)
check_apart _ h = (refl, refl)
