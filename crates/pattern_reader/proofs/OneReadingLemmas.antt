-- A text is read as one pattern, or has one refusal.
use Rattle.std.proofs.Common.{◌≡◌, ℕ, ◌<◌, ◌≤◌, List, length, Result, Ok, Err, refl, sym, ap, subst, arith}
use Rattle.pattern_lexer.specs.declared.token.Token.{Token}
use Rattle.pattern_lexer.specs.declared.refusal.TokenRefusal.{TokenRefusal}
use Rattle.pattern_lexer.specs.Reading.{TokensOf, HasRefusal, ReadsTokens}
use Rattle.pattern_grammar.specs.declared.refusal.SyntaxRefusal.{SyntaxRefusal}
use Rattle.pattern_grammar.specs.Tree.{Tree}
use Rattle.pattern_grammar.specs.Grammar.{IsPattern}
use Rattle.pattern_grammar.specs.Answer.{IsTreeOf, IsMisread}
use Rattle.pattern_types.specs.declared.pattern.Pattern.{Pattern}
use Rattle.pattern_types.specs.PlainPattern.{PlainPattern, plain_pattern}
use Rattle.pattern_types.specs.Width.{IsTooWide}
use Rattle.pattern_reader.specs.declared.value_refusal.ValueRefusal.{ValueRefusal}
use Rattle.pattern_reader.specs.PatternMeaning.{MeansPattern}
use Rattle.pattern_types.specs.Soundness.{IsSoundPattern}
use Rattle.pattern_reader.specs.ValueRefusal.{IsEarliest}
use Rattle.pattern_reader.specs.Refusals.{RefusalOf}
use Rattle.pattern_reader.specs.Answer.{IsMeant}
use Rattle.pattern_reader.specs.declared.read.TheConstants.{MAX_TEXT}
use Rattle.pattern_reader.specs.declared.pattern_refusal.PatternRefusal.{PatternRefusal}
use Rattle.pattern_reader.specs.declared.pattern_refusal.PatternRefusal.TheVariants as refused
use Rattle.pattern_reader.specs.Read.{IsSpelled, IsReadAs, IsUnspelled, IsRefusedAs}

-- the laws of the layers below
abbrev pub OneReading : Type 0
OneReading = (text : List ℕ) (a b : Result (List Token) TokenRefusal) → ReadsTokens text a → ReadsTokens text b → a ≡ b

abbrev pub OneTree : Type 0
OneTree = (ts : List Token) (p q : Tree) → IsPattern ts p → IsPattern ts q → p ≡ q

abbrev pub NoneMisread : Type 0
NoneMisread = (ts : List Token) (end : ℕ) (p : Tree) (r : SyntaxRefusal) → IsTreeOf ts p → ¬ IsMisread ts end r

abbrev pub OneMisread : Type 0
OneMisread = (ts : List Token) (end : ℕ) (r s : SyntaxRefusal) → IsMisread ts end r → IsMisread ts end s → r ≡ s

abbrev pub OneMeaning : Type 0
OneMeaning = (text : List ℕ) (t : Tree) (m n : PlainPattern) → MeansPattern text t m → MeansPattern text t n → m ≡ n

abbrev pub NoneFaulty : Type 0
NoneFaulty = (text : List ℕ) (t : Tree) (m : PlainPattern) (r : ValueRefusal) → MeansPattern text t m → IsSoundPattern m → ¬ RefusalOf text t r

abbrev pub OneFault : Type 0
OneFault = (text : List ℕ) (t : Tree) (r s : ValueRefusal) → IsEarliest (RefusalOf text t) r → IsEarliest (RefusalOf text t) s → r ≡ s

-- tokens
same_ok : (a b : List Token) → ◌≡◌ {A = Result (List Token) TokenRefusal} (Ok a) (Ok b) → a ≡ b
same_ok a b e = cc

same_err : (a b : TokenRefusal) → ◌≡◌ {A = Result (List Token) TokenRefusal} (Err a) (Err b) → a ≡ b
same_err a b e = cc

one_tokens : OneReading → (text : List ℕ) (a b : List Token) → TokensOf text a → TokensOf text b → a ≡ b
one_tokens reading text a b x y = same_ok a b (reading text (Ok a) (Ok b) x y)

no_fault : OneReading → (text : List ℕ) (a : List Token) (r : TokenRefusal) → TokensOf text a → HasRefusal text r → ⊥
no_fault reading text a r x y = let e = reading text (Ok a) (Err r) x y in cc

-- trees
one_spelled : OneReading → OneTree → (text : List ℕ) (p q : Tree) → IsSpelled text p → IsSpelled text q → p ≡ q
one_spelled reading tree text p q x y = tree y.tokens p q (subst (λ (ts : List Token). IsPattern ts p) (one_tokens reading text x.tokens y.tokens x.of_text y.of_text) x.of_tokens.spells) y.of_tokens.spells

not_unspelled : OneReading → NoneMisread → (text : List ℕ) (p : Tree) (r : SyntaxRefusal) → IsSpelled text p → IsUnspelled text r → ⊥
not_unspelled reading misread text p r x y = misread y.tokens (length text) p r (subst (λ (ts : List Token). IsTreeOf ts p) (one_tokens reading text x.tokens y.tokens x.of_text y.of_text) x.of_tokens) y.misread

one_unspelled : OneReading → OneMisread → (text : List ℕ) (r s : SyntaxRefusal) → IsUnspelled text r → IsUnspelled text s → r ≡ s
one_unspelled reading misread text r s x y = misread y.tokens (length text) r s (subst (λ (ts : List Token). IsMisread ts (length text) r) (one_tokens reading text x.tokens y.tokens x.of_text y.of_text) x.misread) y.misread

-- meanings
not_faulty : NoneFaulty → (text : List ℕ) (p q : Tree) (m : PlainPattern) (r : ValueRefusal) → p ≡ q → IsMeant text p m → IsEarliest (RefusalOf text q) r → ⊥
not_faulty faulty text p q m r e x y = faulty text p m r x.means x.sound (subst (λ (t : Tree). RefusalOf text t r) (sym e) y.one)

pub one_read : OneReading → OneTree → OneMeaning → (text : List ℕ) (p q : Pattern) → IsReadAs text p → IsReadAs text q → plain_pattern p ≡ plain_pattern q
one_read reading tree meaning text p q x y =
    let same = one_spelled reading tree text x.tree y.tree x.spelled y.spelled in
    meaning text y.tree (plain_pattern p) (plain_pattern q) (subst (λ (t : Tree). MeansPattern text t (plain_pattern p)) same x.meant.meant.means) y.meant.meant.means

pub not_refused : OneReading → OneTree → NoneMisread → OneMeaning → NoneFaulty → (text : List ℕ) (p : Pattern) (r : PatternRefusal) → IsReadAs text p → IsRefusedAs text r → ⊥
not_refused reading tree misread meaning faulty text p refused.TooLong x y = let h = x.short in omega (arith, h, y)
not_refused reading tree misread meaning faulty text p (refused.Token r) x y = no_fault reading text x.spelled.tokens r x.spelled.of_text y.1
not_refused reading tree misread meaning faulty text p (refused.Syntax r) x y = not_unspelled reading misread text x.tree r x.spelled y.1
not_refused reading tree misread meaning faulty text p (refused.Value r) x y = not_faulty faulty text x.tree y.1.tree (plain_pattern p) r (one_spelled reading tree text x.tree y.1.tree x.spelled y.1.spelled) x.meant.meant y.1.earliest
not_refused reading tree misread meaning faulty text p refused.TooWide x y =
    let same = one_spelled reading tree text y.1.tree x.tree y.1.spelled x.spelled in
    let e = meaning text x.tree y.1.wide.pattern (plain_pattern p) (subst (λ (t : Tree). MeansPattern text t y.1.wide.pattern) same y.1.wide.meant.means) x.meant.meant.means in
    x.meant.narrow (subst IsTooWide e y.1.wide.wide)
not_refused reading tree misread meaning faulty text p refused.NoMemory x y = y

-- of two refusals of one text, none is reported earlier than the other
too_long : (text : List ℕ) → MAX_TEXT < length text → length text ≤ MAX_TEXT → ⊥
too_long text h k = omega (arith, h, k)

module _ (reading : OneReading) (tree : OneTree) (misread : NoneMisread) (one : OneMisread) (faulty : NoneFaulty) (fault : OneFault) where
  pub one_refused : (text : List ℕ) (r s : PatternRefusal) → IsRefusedAs text r → IsRefusedAs text s → r ≡ s
  one_refused text r refused.NoMemory x y = absurd y
  one_refused text refused.NoMemory s x y = absurd x
  one_refused text refused.TooLong refused.TooLong x y = refl
  one_refused text refused.TooLong s x y = absurd (too_long text x y.0)
  one_refused text r refused.TooLong x y = absurd (too_long text y x.0)
  one_refused text (refused.Token r) (refused.Token s) x y = ap refused.Token (same_err r s (reading text (Err r) (Err s) x.1 y.1))
  one_refused text (refused.Token r) (refused.Syntax s) x y = absurd (no_fault reading text y.1.tokens r y.1.of_text x.1)
  one_refused text (refused.Token r) s x y = absurd (no_fault reading text y.1.spelled.tokens r y.1.spelled.of_text x.1)
  one_refused text (refused.Syntax r) (refused.Token s) x y = absurd (no_fault reading text x.1.tokens s x.1.of_text y.1)
  one_refused text r (refused.Token s) x y = absurd (no_fault reading text x.1.spelled.tokens s x.1.spelled.of_text y.1)
  one_refused text (refused.Syntax r) (refused.Syntax s) x y = ap refused.Syntax (one_unspelled reading one text r s x.1 y.1)
  one_refused text (refused.Syntax r) s x y = absurd (not_unspelled reading misread text y.1.tree r y.1.spelled x.1)
  one_refused text r (refused.Syntax s) x y = absurd (not_unspelled reading misread text x.1.tree s x.1.spelled y.1)
  one_refused text (refused.Value r) (refused.Value s) x y =
      let same = one_spelled reading tree text x.1.tree y.1.tree x.1.spelled y.1.spelled in
      ap refused.Value (fault text y.1.tree r s (subst (λ (t : Tree). IsEarliest (RefusalOf text t) r) same x.1.earliest) y.1.earliest)
  one_refused text (refused.Value r) refused.TooWide x y = absurd (not_faulty faulty text y.1.tree x.1.tree y.1.wide.pattern r (one_spelled reading tree text y.1.tree x.1.tree y.1.spelled x.1.spelled) y.1.wide.meant x.1.earliest)
  one_refused text refused.TooWide (refused.Value s) x y = absurd (not_faulty faulty text x.1.tree y.1.tree x.1.wide.pattern s (one_spelled reading tree text x.1.tree y.1.tree x.1.spelled y.1.spelled) x.1.wide.meant y.1.earliest)
  one_refused text refused.TooWide refused.TooWide x y = refl
