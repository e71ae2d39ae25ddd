-- Which of two refusals stands first, and the first refusal of two kinds.
use Rattle.std.proofs.Common.{◌≡◌, ℕ, zero, suc, ◌⊎◌, inl, inr, refl, sym, ap, ◌∙◌, arith}
use Rattle.pattern_reader.specs.declared.value_refusal.ValueRefusal.{ValueRefusal}
use Rattle.pattern_reader.specs.declared.value_refusal.ValueRefusal.TheVariants.{BadCount, LongPath, BadAddress, EmptySpan, NoCommonRoot, NoValue}
use Rattle.pattern_reader.specs.ValueRefusal.{value_refusal_offset, rank_of, Precedes, IsEarliest}

pub precedes_itself : (a : ValueRefusal) → Precedes a a
precedes_itself a = inr (refl, omega arith)

precedes_over : (a b c : ValueRefusal) → Precedes a b → Precedes b c → Precedes a c
precedes_over a b c h g = grind arith

-- the first of the first ones of two kinds
pub first_stays : (P Q : ValueRefusal → Type 0) (a b : ValueRefusal) → Precedes a b → IsEarliest P a → IsEarliest Q b → IsEarliest (λ r. P r ⊎ Q r) a
first_stays P Q a b h x y = record { one = inl x.one; first = λ r z. elim z [ inl u ↦ x.first r u | inr v ↦ precedes_over a b r h (y.first r v) ] }

pub second_stays : (P Q : ValueRefusal → Type 0) (a b : ValueRefusal) → Precedes b a → IsEarliest P a → IsEarliest Q b → IsEarliest (λ r. P r ⊎ Q r) b
second_stays P Q a b h x y = record { one = inr y.one; first = λ r z. elim z [ inl u ↦ precedes_over b a r h (x.first r u) | inr v ↦ y.first r v ] }

-- a refusal from its rank and its place
abbrev of_rank : ℕ → ℕ → ValueRefusal
of_rank zero at = LongPath at
of_rank (suc zero) at = NoCommonRoot at
of_rank (suc (suc zero)) at = EmptySpan at
of_rank (suc (suc (suc zero))) at = BadCount at
of_rank (suc (suc (suc (suc zero)))) at = BadAddress at
of_rank (suc (suc (suc (suc (suc rank))))) at = NoValue at

of_own_rank : (a : ValueRefusal) → of_rank (rank_of a) (value_refusal_offset a) ≡ a
of_own_rank (BadCount at) = refl
of_own_rank _ = refl

same_both : (a b : ValueRefusal) → rank_of a ≡ rank_of b → value_refusal_offset a ≡ value_refusal_offset b → a ≡ b
same_both a b r p = sym (of_own_rank a) ∙ ap (λ k. of_rank k (value_refusal_offset a)) r ∙ ap (of_rank (rank_of b)) p ∙ of_own_rank b

precedes_back : (a b : ValueRefusal) → Precedes a b → Precedes b a → a ≡ b
precedes_back a b (inl h) (inl g) = absurd (omega arith)
precedes_back a b (inl h) (inr g) = absurd (omega (arith, g.0))
precedes_back a b (inr h) (inl g) = absurd (omega (arith, h.0))
precedes_back a b (inr h) (inr g) = same_both a b (omega (arith, h.1, g.1)) h.0

pub one_earliest : (P : ValueRefusal → Type 0) (a b : ValueRefusal) → IsEarliest P a → IsEarliest P b → a ≡ b
one_earliest P a b x y = precedes_back a b (x.first b y.one) (y.first a x.one)
