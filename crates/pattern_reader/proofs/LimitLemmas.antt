-- What doesn't limit: two times of which one has no value, or of which the first isn't earlier.
use Rattle.std.proofs.Common.{◌≡◌, ◌↔◌, ℤ, ℕ, List, Bool, true, false, subst}
use Rattle.std.specs.Prelude.{◌<ℤ◌}
use Rattle.pattern_lexer.specs.declared.token.Token.{Token}
use Rattle.pattern_lexer.specs.Values.{IsTimestampText}
use Rattle.pattern_lexer.specs.Spans.{token_text_at, At}
use Rattle.pattern_grammar.specs.declared.qualifier.Qualifier.TheVariants as qualifier
use Rattle.pattern_types.specs.declared.limit.Limit.{Limit}
use Rattle.pattern_types.specs.declared.limit.Limit.TheVariants as limit
use Rattle.pattern_reader.specs.Refusals.{IsSoundLimitOf}

pub no_start : (text : List ℕ) (start from to : Token) → ((i : ℤ) → ¬ At IsTimestampText text from i) → (other : Limit) → ¬ IsSoundLimitOf text (qualifier.Between start from to) other
no_start text start from to h (limit.Between i j) x = h i x.means.0
no_start text start from to h _ x = x.means

pub no_stop : (text : List ℕ) (start from to : Token) → ((i : ℤ) → ¬ At IsTimestampText text to i) → (other : Limit) → ¬ IsSoundLimitOf text (qualifier.Between start from to) other
no_stop text start from to h (limit.Between i j) x = h j x.means.1
no_stop text start from to h _ x = x.means

pub no_span : (text : List ℕ) (start from to : Token) (b e : ℤ) (r : Bool) → ((t : List ℕ) (i j : ℤ) → IsTimestampText t i → IsTimestampText t j → i ≡ j) → At IsTimestampText text from b → At IsTimestampText text to e
    → (r ≡ true) ↔ (b <ℤ e) → r ≡ false → (other : Limit) → ¬ IsSoundLimitOf text (qualifier.Between start from to) other
no_span text start from to b e r one x y h f (limit.Between i j) z =
    let begins = one (token_text_at text from) i b z.means.0.is x.is in
    let ends = one (token_text_at text to) j e z.means.1.is y.is in
    let yes = h.1 (subst (λ (k : ℤ). k <ℤ e) begins (subst (λ (k : ℤ). i <ℤ k) ends z.sound)) in absurd (cc)
no_span text start from to b e r one x y h f _ z = z.means
