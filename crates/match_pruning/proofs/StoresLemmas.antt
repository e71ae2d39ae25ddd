-- The windows of stores.
use Rattle.std.proofs.Common.{◌≡◌, ℕ, zero, suc, ◌+◌, ◌≤◌, List, [], ◌∷◌, ◌++◌, sym, ap, ◌∙◌, arith, append_assoc, Bool, false, max}
use Rattle.std.proofs.lemmas.List.{map-append}
use Rattle.match_bindings.specs.declared.bounds.Bounds.{Bounds}
use Rattle.match_bindings.specs.NumberedPattern.{NumberedPattern}
use Rattle.match_pruning.specs.declared.window.Window.{Window}
use Rattle.match_pruning.specs.Stores.{Store, window_of, side, store_level, levels, stores_under, windows_in}

-- one store_level more
pub next_level : (above : Bounds) (part : NumberedPattern) (n : ℕ) → 1 ≤ n
    → windows_in (levels above part (n + 1)) ≡ windows_in (levels above part n) ++ window_of above false ∷ []
next_level above part zero h = absurd (omega arith)
next_level above part (suc n) h =
    let next : suc n + 1 ≡ suc (suc n) = omega arith in
    ap (λ k. windows_in (levels above part k)) next
    ∙ map-append (λ (store : Store). store.window) (levels above part (suc n)) (store_level above part (suc n) ∷ [])

-- where the last store_level is reached
pub last_level : (above : Bounds) (part : NumberedPattern) (count n : ℕ) → n ≡ max 1 count
    → levels above part n ≡ levels above part count
last_level above part zero n last = ap (levels above part) last
last_level above part (suc count) n last = let same : n ≡ suc count = omega (arith, last) in ap (levels above part) same

-- the windows of both sides, and then those of the parts in them
pub two_sides : (above : Bounds) (after_left : Bool) (p q : NumberedPattern) (old : List Window)
    → ((old ++ window_of above false ∷ window_of above after_left ∷ []) ++ windows_in (stores_under above p)) ++ windows_in (stores_under above q)
    ≡ old ++ windows_in (side above false p ∷ side above after_left q ∷ (stores_under above p ++ stores_under above q))
two_sides above after_left p q old =
    let own = window_of above false ∷ window_of above after_left ∷ [] in
    append_assoc (old ++ own) (windows_in (stores_under above p)) (windows_in (stores_under above q))
    ∙ append_assoc old own (windows_in (stores_under above p) ++ windows_in (stores_under above q))
    ∙ ap (λ (ws : List Window). old ++ (own ++ ws)) (sym (map-append (λ (store : Store). store.window) (stores_under above p) (stores_under above q)))
