-- What is asked of a value.
use Rattle.std.proofs.Common.{◌≡◌, ◌≤◌, ◌⊎◌, inl, inr, ℕ, List, length, Option, Result, refl, sym, ◌∙◌}
use Rattle.std.specs.Option.{ok_or}
use Rattle.pattern_types.specs.declared.block.Block.{Block}
use Rattle.pattern_types.specs.Block.{IsValidBlock}
use Rattle.pattern_types.specs.BlockText.{IsBlockText}
use Rattle.flow_values.specs.Answers.{FindsExactly}
use Rattle.pattern_lexer.specs.declared.token.Token.{Token}
use Rattle.pattern_lexer.specs.declared.token.TokenKind.TheVariants as kind
use Rattle.pattern_lexer.specs.Values.{IsStringText}
use Rattle.pattern_lexer.specs.Spans.{token_text_at, At}
use Rattle.pattern_grammar.specs.declared.comparison.CheckTree.{CheckTree}
use Rattle.pattern_grammar.specs.declared.comparison.CheckTree.TheVariants as check_tree
use Rattle.pattern_grammar.specs.declared.comparison.TestTree.{TestTree}
use Rattle.pattern_types.specs.declared.path.Path.{Path}
use Rattle.pattern_types.specs.declared.path.TheConstants.{MAX_STEPS}
use Rattle.pattern_types.specs.declared.address_block.AddressBlock.{AddressBlock}
use Rattle.pattern_types.specs.declared.check.Check.{Check}
use Rattle.pattern_types.specs.declared.check.Check.TheVariants as check
use Rattle.pattern_reader.specs.declared.value_refusal.ValueRefusal.{ValueRefusal}
use Rattle.pattern_reader.specs.Meaning.{IsPathOf, IsCheckOf, IsTestOf}
use Rattle.pattern_types.specs.Soundness.{IsSoundCheck, IsSoundTest}
use Rattle.pattern_reader.specs.Refusals.{Lacks, check_refusal, RefusalOfPath, RefusalOfTest}
use Rattle.pattern_reader.specs.inner.Analysis.{IsOutcome}
use Rattle.pattern_reader.specs.inner.Analysis.{IsJoined}
use Rattle.pattern_reader.proofs.OutcomeLemmas.{found_outcome, joined_outcome}

-- words that name no block are no address
pub no_address : (text : List ℕ) (operator token : Token) (words : List ℕ) → ((t a b : List ℕ) → IsStringText t a → IsStringText t b → a ≡ b) → (operator.kind ≡ kind.Subset) ⊎ (operator.kind ≡ kind.Superset) → At IsStringText text token words
    → ((address : AddressBlock) → ¬ ((address.text ≡ words) × IsBlockText address.text address.block)) → (other : Check) → ¬ IsCheckOf text (check_tree.Textual operator token) other
no_address text operator token words one e at none (check.Like v) h = elim e [ inl x ↦ let g = sym x ∙ h.0 in absurd (cc) | inr x ↦ let g = sym x ∙ h.0 in absurd (cc) ]
no_address text operator token words one e at none (check.Subset v) h = none v (one (token_text_at text token) v.text words h.1.string.is at.is, h.1.named)
no_address text operator token words one e at none (check.Superset v) h = none v (one (token_text_at text token) v.text words h.1.string.is at.is, h.1.named)
no_address text operator token words one e at none _ h = absurd h

-- what is asked for is sound, since each block that a text names is valid
sound_check : ((text : List ℕ) (block : Block) → IsBlockText text block → IsValidBlock block) → (text : List ℕ) (tree : CheckTree) (c : Check) → IsCheckOf text tree c → IsSoundCheck c
sound_check valid text (check_tree.Textual operator token) (check.Subset a) h = record { named = h.1.named; valid = valid a.text a.block h.1.named }
sound_check valid text (check_tree.Textual operator token) (check.Superset a) h = record { named = h.1.named; valid = valid a.text a.block h.1.named }
sound_check valid text tree (check.Subset a) h = absurd h
sound_check valid text tree (check.Superset a) h = absurd h
sound_check valid text tree _ h = tt

-- the whole test
pub test_outcome : ((text : List ℕ) (block : Block) → IsBlockText text block → IsValidBlock block) → (text : List ℕ) (tree : TestTree) (a : Result Path ValueRefusal) (found : Option Check) (c : Result (Path × Check) ValueRefusal)
    → IsOutcome (λ path. IsPathOf text tree.path path × (length path.steps ≤ MAX_STEPS)) (RefusalOfPath text tree.path) a → FindsExactly (IsCheckOf text tree.check) found → IsJoined (λ x y. (x, y)) a (ok_or found (check_refusal tree.check)) c
    → IsOutcome (λ p. IsTestOf text tree (record { path = p.0; negated = tree.negated; check = p.1 }) × IsSoundTest (record { path = p.0; negated = tree.negated; check = p.1 })) (RefusalOfTest text tree) c
test_outcome valid text tree a found c o f j =
    joined_outcome (λ x y. (x, y)) (λ path. IsPathOf text tree.path path × (length path.steps ≤ MAX_STEPS)) (IsCheckOf text tree.check)
    (λ p. IsTestOf text tree (record { path = p.0; negated = tree.negated; check = p.1 }) × IsSoundTest (record { path = p.0; negated = tree.negated; check = p.1 }))
    (RefusalOfPath text tree.path) (Lacks (IsCheckOf text tree.check) (check_refusal tree.check)) a (ok_or found (check_refusal tree.check)) c
    (λ x y h k. (record { path = h.0; negated = refl; asks = k }, record { short = h.1; check = sound_check valid text tree.check y k })) j o
    (found_outcome (IsCheckOf text tree.check) (check_refusal tree.check) found f)
