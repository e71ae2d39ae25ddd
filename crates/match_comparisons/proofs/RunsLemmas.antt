-- Where the first `%` of a pattern stands among its bytes.
use Rattle.std.proofs.Common.{◌≡◌, ℕ, suc, ◌+◌, ◌<◌, ◌≤◌, min, inl, inr, List, ◌∷◌, ◌++◌, length, take, drop, get_or, sym, ap, ◌∙◌, arith, length-append, length-take, get_or-take, eq-eqb, eqb-true, drop-cons, take-append-drop, add-one}
use Rattle.std.proofs.Math.Seq.{get_or-append_seam}
use Rattle.std.proofs.lemmas.Bool.{cases_lt}
use Rattle.memchr.specs.Find.{Passes, Nowhere, is_byte}
use Rattle.match_comparisons.specs.Like.{any_run}
use Rattle.match_comparisons.specs.inner.Segments.{LacksCharacter, OccursAfter}

-- the byte at which a list is split
byte_at : (bytes front back : List ℕ) (byte : ℕ) → bytes ≡ front ++ byte ∷ back → get_or bytes (length front) 0 ≡ byte
byte_at bytes front back byte split = rw split (get_or-append_seam front byte back 0)

-- the search among the first n bytes, which are all that so many may stand before
module _ (bytes near : List ℕ) (n : ℕ) (near_is : near ≡ take n bytes) where
  near_length : length near ≡ min n (length bytes)
  near_length = ap length near_is ∙ length-take n bytes

  near_reads : (k : ℕ) → k < n → get_or near k 0 ≡ get_or bytes k 0
  near_reads k within = rw near_is (get_or-take n bytes k 0 within)

  pub run_behind : (most : ℕ) → ((k : ℕ) → k < length bytes → k ≤ most → k < n) → Nowhere (Passes (is_byte any_run) near) 0 (length near) → OccursAfter bytes any_run most
  run_behind most compares_or_equals nowhere front back split = elim (cases_lt most (length front)) [
    | inl behind ↦ behind
    | inr within ↦
        let inside : length front < length bytes = omega (arith, ap length split, length-append front (any_run ∷ back)) in
        let reached = compares_or_equals (length front) inside within in
        let read = near_reads (length front) reached ∙ byte_at bytes front back any_run split in
        absurd (nowhere (length front) (omega arith) (omega (arith, near_length, inside, reached)) (eq-eqb _ _ read))
  ]

  module _ (at : ℕ) (within : at < length near) where
    reached : (k : ℕ) → k ≤ at → k < n
    reached k le = omega (arith, near_length, within)

    pub run_inside : at < length bytes
    run_inside = omega (arith, near_length, within)

    pub run_read : Passes (is_byte any_run) near at → get_or bytes at 0 ≡ any_run
    run_read passes =
        sym (near_reads at (reached at (omega arith))) ∙ eqb-true (get_or near at 0) any_run passes

    pub run_splits_bytes : Passes (is_byte any_run) near at → bytes ≡ take at bytes ++ any_run ∷ drop (at + 1) bytes
    run_splits_bytes passes =
        let end : drop at bytes ≡ any_run ∷ drop (at + 1) bytes = rw add-one (drop-cons bytes at 0 run_inside ∙ ap (λ first. first ∷ drop (suc at) bytes) (run_read passes)) in
        sym (take-append-drop at bytes) ∙ ap (λ rest. take at bytes ++ rest) end

    pub no_run_before : Nowhere (Passes (is_byte any_run) near) 0 at → LacksCharacter (take at bytes) any_run
    no_run_before nowhere front back split =
        let taken = ap length split ∙ length-append front (any_run ∷ back) in
        let before : length front < at = omega (arith, taken, length-take at bytes) in
        let read = near_reads (length front) (reached (length front) (omega (arith, before))) ∙ sym (get_or-take at bytes (length front) 0 before) ∙ byte_at (take at bytes) front back any_run split in
        nowhere (length front) (omega arith) before (eq-eqb _ _ read)
