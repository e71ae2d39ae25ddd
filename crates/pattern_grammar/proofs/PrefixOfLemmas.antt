-- What is a prefix extends to something derived, and what begins something derived is a prefix.
use Rattle.std.proofs.Common.{◌≡◌, true, List, [], ◌∷◌, ◌++◌, inl, inr, refl, append_assoc}
use denote.Enum.Bare.{true_same}
use Rattle.pattern_lexer.specs.contracts.token.TokenKind.{the_type}
use Rattle.pattern_lexer.specs.declared.token.Token.{Token}
use Rattle.pattern_lexer.specs.declared.token.TokenKind.{TokenKind}
use Rattle.pattern_lexer.specs.declared.token.TokenKind.TheVariants.{Word, Number, Equal, Less, Like, Within, Dot, Colon, Seconds, SquareOpen, SquareClose}
use Rattle.pattern_grammar.specs.declared.class.TokenClass.{TokenClass}
use Rattle.pattern_grammar.specs.declared.class.TokenClass.TheVariants.{Only, Root, Name, Index, Equality, Order, Textual, Ordered, Constant, Qualifying, Stepping}
use Rattle.pattern_grammar.specs.TokenClass.{is_in}
use Rattle.pattern_grammar.specs.Prefixes.{Nonterminal, pattern, ors, ands, unit, qualifier, cor, cand, test, compare, path, ProductionPart, one, line, ◌then◌, ◌or◌, many, maybe, rule, Derives, is_one, is_line, is_both, is_left, is_right, no_more, one_more, absent, present, PrefixOf, before_one, after_one, of_line, in_first, in_second, of_left, of_right, before_many, in_many, in_more, before_maybe, in_maybe}
use Rattle.pattern_grammar.proofs.CompletionLemmas.{some}
use Rattle.pattern_grammar.proofs.CutLemmas.{cut}

-- some kind of each class
abbrev kind_in : TokenClass → TokenKind
kind_in (Only kind) = kind
kind_in Root = Word
kind_in Name = Word
kind_in Index = Number
kind_in Equality = Equal
kind_in Order = Less
kind_in Textual = Like
kind_in Ordered = Number
kind_in Constant = Number
kind_in Qualifying = Within
kind_in Stepping = Dot

kind_in-is : (class : TokenClass) → is_in class (kind_in class) ≡ true
kind_in-is (Only kind) = true_same the_type kind kind refl
kind_in-is Root = refl
kind_in-is Name = refl
kind_in-is Index = refl
kind_in-is Equality = refl
kind_in-is Order = refl
kind_in-is Textual = refl
kind_in-is Ordered = refl
kind_in-is Constant = refl
kind_in-is Qualifying = refl
kind_in-is Stepping = refl

-- tokens that are derived from the part
record Some (a : ProductionPart) : Type 0 where
  tokens : List Token
  derived : Derives a tokens

some_one : (class : TokenClass) → Some (one class)
some_one class = record { tokens = some (kind_in class) ∷ []; derived = is_one (some (kind_in class)) (kind_in-is class) }

some_both : {a b : ProductionPart} → Some a → Some b → Some (a then b)
some_both x y = record { tokens = x.tokens ++ y.tokens; derived = is_both x.derived y.derived }

some_left : {a b : ProductionPart} → Some a → Some (a or b)
some_left x = record { tokens = x.tokens; derived = is_left x.derived }

some_right : {a b : ProductionPart} → Some b → Some (a or b)
some_right x = record { tokens = x.tokens; derived = is_right x.derived }

some_many : {a : ProductionPart} → Some (many a)
some_many = record { tokens = []; derived = no_more }

some_maybe : {a : ProductionPart} → Some (maybe a)
some_maybe = record { tokens = []; derived = absent }

some_line : {l : Nonterminal} → Some (rule l) → Some (line l)
some_line x = record { tokens = x.tokens; derived = is_line x.derived }

-- each line, from the bottom up
some_path : Some (line path)
some_path = some_line (some_both (some_one Root) (some_both (some_one (Only Colon)) (some_both (some_one Name) some_many)))

some_compare : Some (line compare)
some_compare = some_line (some_left (some_both (some_one Equality) (some_one Constant)))

some_test : Some (line test)
some_test = some_line (some_right (some_right (some_both some_path (some_both some_maybe some_compare))))

some_cand : Some (line cand)
some_cand = some_line (some_both some_test some_many)

some_cor : Some (line cor)
some_cor = some_line (some_both some_cand some_many)

some_qualifier : Some (line qualifier)
some_qualifier = some_line (some_left (some_both (some_one (Only Within)) (some_both (some_one (Only Number)) (some_one (Only Seconds)))))

some_unit : Some (line unit)
some_unit = some_line (some_both (some_left (some_both (some_one (Only SquareOpen)) (some_both some_cor (some_one (Only SquareClose))))) some_many)

some_ands : Some (line ands)
some_ands = some_line (some_both some_unit some_many)

some_ors : Some (line ors)
some_ors = some_line (some_both some_ands some_many)

some_pattern : Some (line pattern)
some_pattern = some_line (some_both some_ors some_many)

some_part : (a : ProductionPart) → Some a
some_part (one class) = some_one class
some_part (line pattern) = some_pattern
some_part (line ors) = some_ors
some_part (line ands) = some_ands
some_part (line unit) = some_unit
some_part (line qualifier) = some_qualifier
some_part (line cor) = some_cor
some_part (line cand) = some_cand
some_part (line test) = some_test
some_part (line compare) = some_compare
some_part (line path) = some_path
some_part (a then b) = some_both (some_part a) (some_part b)
some_part (a or b) = some_left (some_part a)
some_part (many a) = some_many
some_part (maybe a) = some_maybe

-- a prefix extends to something derived
pub record Completion (a : ProductionPart) (ts : List Token) : Type 0 where
  pub more : List Token
  pub derived : Derives a (ts ++ more)

pub complete : {a : ProductionPart} {ts : List Token} → PrefixOf a ts → Completion a ts
complete (before_one {class}) = let x = some_one class in record { more = x.tokens; derived = x.derived }
complete (after_one t h) = record { more = []; derived = is_one t h }
complete (of_line x) = let h = complete x in record { more = h.more; derived = is_line h.derived }
complete (in_first {a} {b} {ts} x) = let h = complete x in let y = some_part b in record { more = h.more ++ y.tokens; derived = rw (← append_assoc ts h.more y.tokens) (is_both h.derived y.derived) }
complete (in_second {a} {b} {ts} {us} x y) = let h = complete y in record { more = h.more; derived = rw (append_assoc ts us h.more) (is_both x h.derived) }
complete (of_left x) = let h = complete x in record { more = h.more; derived = is_left h.derived }
complete (of_right x) = let h = complete x in record { more = h.more; derived = is_right h.derived }
complete before_many = record { more = []; derived = no_more }
complete (in_many {a} {ts} x) = let h = complete x in record { more = h.more ++ []; derived = rw (← append_assoc ts h.more []) (one_more h.derived no_more) }
complete (in_more {a} {ts} {us} x y) = let h = complete y in record { more = h.more; derived = rw (append_assoc ts us h.more) (one_more x h.derived) }
complete before_maybe = record { more = []; derived = absent }
complete (in_maybe x) = let h = complete x in record { more = h.more; derived = present h.derived }

-- what begins something derived is a prefix
pub prefix : {a : ProductionPart} {ws : List Token} → Derives a ws → (ts more : List Token) → ws ≡ ts ++ more → PrefixOf a ts
prefix (is_one t h) [] more e = before_one
prefix (is_one t h) (u ∷ []) more e = let g : t ≡ u = cc in after_one u (rw (← g) h)
prefix (is_one t h) (u ∷ v ∷ ts) more e = absurd (cc)
prefix (is_line x) ts more e = of_line (prefix x ts more e)
prefix (is_both {ts = x} {us = y} p q) ts more e =
    elim (cut x y ts more e) [ inl i ↦ in_first (prefix p ts i.between i.longer) | inr b ↦ rw b.longer (in_second p (prefix q b.between more b.left)) ]
prefix (is_left x) ts more e = of_left (prefix x ts more e)
prefix (is_right x) ts more e = of_right (prefix x ts more e)
prefix no_more [] more e = before_many
prefix no_more (t ∷ ts) more e = absurd (cc)
prefix (one_more {ts = x} {us = y} p q) ts more e =
    elim (cut x y ts more e) [ inl i ↦ in_many (prefix p ts i.between i.longer) | inr b ↦ rw b.longer (in_more p (prefix q b.between more b.left)) ]
prefix absent [] more e = before_maybe
prefix absent (t ∷ ts) more e = absurd (cc)
prefix (present x) ts more e = in_maybe (prefix x ts more e)
