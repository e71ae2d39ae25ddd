-- Steps that were done in turn, and one more.
use Rattle.std.proofs.Common.{◌≡◌, ℕ, suc, ◌+◌, ◌<◌, List, [], ◌∷◌, ◌++◌, length, take, get_or, sym, ap, subst, ◌∙◌, refl, arith}
use Rattle.std.proofs.Math.Seq.{take-suc}
use Rattle.taxii_sqlite.specs.Statements.{InTurn}

module _ {X H : Type 0} (step : X → H → H → Type 0) where
  then_one : (xs : List X) (x : X) (before between after : H) → InTurn step xs before between → step x between after → InTurn step (xs ++ x ∷ []) before after
  then_one [] x before between after same last = (after, subst (λ (h : H). step x h after) same last, refl)
  then_one (y ∷ more) x before between after (mid, first, rest) last = (mid, first, then_one more x mid between after rest last)

  pub one_more : (xs : List X) (i : ℕ) (default x : X) (before between after : H) → i < length xs → x ≡ get_or xs i default
      → InTurn step (take i xs) before between → step x between after → InTurn step (take (i + 1) xs) before after
  one_more xs i default x before between after within its done last =
      let next : suc i ≡ i + 1 = omega arith in
      let more : take (i + 1) xs ≡ take i xs ++ x ∷ [] =
      ap (λ (n : ℕ). take n xs) (sym next) ∙ take-suc xs i default within ∙ ap (λ (y : X). take i xs ++ y ∷ []) (sym its) in
      subst (λ (ys : List X). InTurn step ys before after) (sym more) (then_one (take i xs) x before between after done last)
