-- The first end of some partial matches, one by one.
use Rattle.std.proofs.Common.{◌≡◌, ℕ, ℤ, ◌≤ℤ◌, ◌<ℤ◌, sym, ◌∙◌, subst, arith}
use Rattle.std.specs.Prelude.{true, Some}
use Rattle.std.proofs.lemmas.Int.{ints}
use Rattle.match_bindings.specs.BindTree.{has}
use Rattle.match_pruning.specs.declared.earliest_start.End.{End}
use Rattle.match_pruning.specs.PartialMatchTree.{PartialMatchTree}
use Rattle.match_pruning.proofs.RetainsLemmas.{le_trans, le_both}

-- the end is no later than that of a partial match, which has its number where they are equal
pub record IsNoLaterEnd (end : End) (left : PartialMatchTree) : Type 0 where
  pub time : end.time ≤ℤ left.latest
  pub number : (n : ℕ) → end.number ≡ Some n → end.time ≡ left.latest → has n left.tree ≡ true

-- an end before the begin of a partial match
pub ends_before : (end : End) (left : PartialMatchTree) → end.time <ℤ left.earliest → left.earliest ≤ℤ left.latest → IsNoLaterEnd end left
ends_before end left before span = record {
  time = order end.time left.earliest left.latest before span;
  number = λ n is same. absurd (apart end.time left.earliest left.latest before span same);
} where
  order : (a b c : ℤ) → a <ℤ b → b ≤ℤ c → a ≤ℤ c
  order a b c h k = omega (arith, ints)

  apart : (a b c : ℤ) → a <ℤ b → b ≤ℤ c → a ≡ c → ⊥
  apart a b c h k e = omega (arith, ints)

-- an end that is no later, and keeps its number where it is the same
pub ends_sooner : (old new : End) (left : PartialMatchTree) → new.time ≤ℤ old.time → ((n : ℕ) → new.number ≡ Some n → new.time ≡ old.time → old.number ≡ Some n) → IsNoLaterEnd old left → IsNoLaterEnd new left
ends_sooner old new left before kept is = record {
  time = le_trans new.time old.time left.latest before is.time;
  number = λ n number ends.
      let same : new.time ≡ old.time = le_both new.time old.time before (subst (λ (t : ℤ). old.time ≤ℤ t) (sym ends) is.time) in
      is.number n (kept n number same) (sym same ∙ ends);
}
