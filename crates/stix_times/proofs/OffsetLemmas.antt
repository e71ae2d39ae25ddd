-- The bytes that fit their offsets, over lists: how far they reach, and what is before or after.
use Rattle.std.proofs.Common.{◌≡◌, ℕ, zero, suc, ◌+◌, ◌≤◌, true, false, cond, List, [], ◌∷◌, ◌++◌, length, take, refl, subst, arith, add-zero}
use Rattle.std.proofs.lemmas.Bool.{false≢true}
use Rattle.stix_times.specs.Offsets.{fits, bounds_at, fitting_end, end_from}

-- each byte fits its offset
abbrev pub AllFit : ℕ → ℕ → List ℕ → Type 0
AllFit at before [] = Unit {0}
AllFit at before (byte ∷ bytes) = (fits at before byte ≡ true) × AllFit (at + 1) byte bytes

pub fitting_end-ge : (at before : ℕ) (s : List ℕ) → at ≤ fitting_end at before s
fitting_end-ge at before [] = omega arith
fitting_end-ge at before (b ∷ bs) =
    elim (fits at before b) as (λ v. at ≤ cond v (fitting_end (at + 1) b bs) at) [ true ↦ omega (arith, fitting_end-ge (at + 1) b bs) | false ↦ omega arith ]

pub fitting_end-le : (at before : ℕ) (s : List ℕ) → fitting_end at before s ≤ at + length s
fitting_end-le at before [] = omega arith
fitting_end-le at before (b ∷ bs) =
    elim (fits at before b) as (λ v. cond v (fitting_end (at + 1) b bs) at ≤ at + suc (length bs)) [ true ↦ omega (arith, fitting_end-le (at + 1) b bs) | false ↦ omega arith ]

-- the bytes up to the end fit
pub AllFit-take : (at before : ℕ) (s : List ℕ) (n : ℕ) → at + n ≡ fitting_end at before s → AllFit at before (take n s)
AllFit-take at before s zero e = tt
AllFit-take at before [] (suc n) e = tt
AllFit-take at before (b ∷ bs) (suc n) e =
    (elim (fits at before b) as (λ v. at + suc n ≡ cond v (fitting_end (at + 1) b bs) at → (v ≡ true) × AllFit (at + 1) b (take n bs)) [ true ↦ λ q. (refl, AllFit-take (at + 1) b bs n (omega arith)) | false ↦ λ q. absurd (omega arith) ]) e

-- and no more do
pub fitting_end-longest : (at before : ℕ) (s : List ℕ) (n : ℕ) → n ≤ length s → AllFit at before (take n s) → at + n ≤ fitting_end at before s
fitting_end-longest at before s zero l f = omega (arith, fitting_end-ge at before s)
fitting_end-longest at before [] (suc n) l f = absurd (omega arith)
fitting_end-longest at before (b ∷ bs) (suc n) l f =
    let later : (at + 1) + n ≤ fitting_end (at + 1) b bs = fitting_end-longest (at + 1) b bs n (omega arith) f.1 in
    (elim (fits at before b) as (λ v. v ≡ true → at + suc n ≤ cond v (fitting_end (at + 1) b bs) at) [ true ↦ λ q. omega arith | false ↦ λ q. absurd (false≢true q) ]) f.0

pub AllFit-front : (at before : ℕ) (p q : List ℕ) → AllFit at before (p ++ q) → AllFit at before p
AllFit-front at before [] q f = tt
AllFit-front at before (b ∷ bs) q f = (f.0, AllFit-front (at + 1) b bs q f.1)

-- the last byte of a list, or the one before it
abbrev pub last_or : ℕ → List ℕ → ℕ
last_or before [] = before
last_or before (b ∷ bs) = last_or b bs

pub AllFit-append : (at before : ℕ) (p q : List ℕ) → AllFit at before p → AllFit (at + length p) (last_or before p) q → AllFit at before (p ++ q)
AllFit-append at before [] q f g = let P : ℕ → Type 0 = λ n. AllFit n before q in subst P (add-zero at) g
AllFit-append at before (b ∷ bs) q f g =
    let P : ℕ → Type 0 = λ n. AllFit n (last_or b bs) q in
    (f.0, AllFit-append (at + 1) b bs q f.1 (subst P (let e : at + suc (length bs) ≡ (at + 1) + length bs = omega arith in e) g))

-- no byte stands before the first
pub end_from_start : (s : List ℕ) → end_from s 0 ≡ fitting_end 0 0 s
unfolding fits bounds_at
end_from_start [] = refl
end_from_start (b ∷ bs) = refl
