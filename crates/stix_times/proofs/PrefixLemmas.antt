-- The prefixes that begin a text of the shape are those whose bytes fit their offsets: any such prefix
-- extends to a whole text. So where the bytes stop fitting is where a refusal points.
use Rattle.std.proofs.Common.{◌≡◌, ℕ, ◌+◌, ◌<◌, ◌≤◌, ⊎_elim, List, [], ◌∷◌, ◌++◌, length, take, drop, refl, sym, ◌∙◌, subst, arith, below_more, below_none, length-append, length-drop}
use Rattle.std.proofs.lemmas.Bool.Decides.{nat_tests}
use Rattle.std.proofs.lemmas.Bool.{cases_lt, cases_eq}
use Rattle.std.proofs.lemmas.List.{take_all}
use Rattle.stix_times.specs.Timestamp.{Spells, HasShape, BeginsShape}
use Rattle.stix_times.specs.Offsets.{fits, bounds_at, fits_fraction, fitting_end, parts_at}
use Rattle.stix_times.specs.Reading.{IsLongestShapePrefix}
use Rattle.stix_times.proofs.OffsetLemmas.{AllFit, AllFit-front, AllFit-append, AllFit-take, fitting_end-longest, fitting_end-le, last_or}
use Rattle.stix_times.proofs.ShapeLemmas.{Spells-ends, Spells-parts_at}

-- a whole text, whose bytes from each offset on fit after any byte that may stand before them
abbrev sample : List ℕ
sample = 48 ∷ 48 ∷ 48 ∷ 48 ∷ 45 ∷ 48 ∷ 49 ∷ 45 ∷ 48 ∷ 49 ∷ 84 ∷ 48 ∷ 48 ∷ 58 ∷ 48 ∷ 48 ∷ 58 ∷ 48 ∷ 48 ∷ 90 ∷ []

record Continues (n : ℕ) : Type 0 where
  fit : (b : ℕ) → AllFit n b (drop n sample)
  last : (b : ℕ) → last_or b (drop n sample) ≡ 90

continues_19 : Continues 19
unfolding fits bounds_at
continues_19 = record { fit = λ b. (refl, tt); last = λ b. refl }

continues_18 : Continues 18
unfolding fits bounds_at
continues_18 = record { fit = λ b. (refl, continues_19.fit 48); last = λ b. refl }

continues_17 : Continues 17
unfolding fits bounds_at
continues_17 = record { fit = λ b. (refl, continues_18.fit 48); last = λ b. refl }

continues_16 : Continues 16
unfolding fits bounds_at
continues_16 = record { fit = λ b. (refl, continues_17.fit 58); last = λ b. refl }

continues_15 : Continues 15
unfolding fits bounds_at
continues_15 = record { fit = λ b. (refl, continues_16.fit 48); last = λ b. refl }

continues_14 : Continues 14
unfolding fits bounds_at
continues_14 = record { fit = λ b. (refl, continues_15.fit 48); last = λ b. refl }

continues_13 : Continues 13
unfolding fits bounds_at
continues_13 = record { fit = λ b. (refl, continues_14.fit 58); last = λ b. refl }

continues_12 : Continues 12
unfolding fits bounds_at
continues_12 = record { fit = λ b. (grind (arith, nat_tests), continues_13.fit 48); last = λ b. refl }

continues_11 : Continues 11
unfolding fits bounds_at
continues_11 = record { fit = λ b. (refl, continues_12.fit 48); last = λ b. refl }

continues_10 : Continues 10
unfolding fits bounds_at
continues_10 = record { fit = λ b. (refl, continues_11.fit 84); last = λ b. refl }

continues_9 : Continues 9
unfolding fits bounds_at
continues_9 = record { fit = λ b. (grind (arith, nat_tests), continues_10.fit 49); last = λ b. refl }

continues_8 : Continues 8
unfolding fits bounds_at
continues_8 = record { fit = λ b. (refl, continues_9.fit 48); last = λ b. refl }

continues_7 : Continues 7
unfolding fits bounds_at
continues_7 = record { fit = λ b. (refl, continues_8.fit 45); last = λ b. refl }

continues_6 : Continues 6
unfolding fits bounds_at
continues_6 = record { fit = λ b. (grind (arith, nat_tests), continues_7.fit 49); last = λ b. refl }

continues_5 : Continues 5
unfolding fits bounds_at
continues_5 = record { fit = λ b. (refl, continues_6.fit 48); last = λ b. refl }

continues_4 : Continues 4
unfolding fits bounds_at
continues_4 = record { fit = λ b. (refl, continues_5.fit 45); last = λ b. refl }

continues_3 : Continues 3
unfolding fits bounds_at
continues_3 = record { fit = λ b. (refl, continues_4.fit 48); last = λ b. refl }

continues_2 : Continues 2
unfolding fits bounds_at
continues_2 = record { fit = λ b. (refl, continues_3.fit 48); last = λ b. refl }

continues_1 : Continues 1
unfolding fits bounds_at
continues_1 = record { fit = λ b. (refl, continues_2.fit 48); last = λ b. refl }

continues_0 : Continues 0
unfolding fits bounds_at
continues_0 = record { fit = λ b. (refl, continues_1.fit 48); last = λ b. refl }

continues : (n : ℕ) → n < 20 → Continues n
continues = below_more Continues 19 (below_more Continues 18 (below_more Continues 17 (below_more Continues 16 (below_more Continues 15 (below_more Continues 14 (below_more Continues 13 (below_more Continues 12 (below_more Continues 11 (below_more Continues 10 (below_more Continues 9 (below_more Continues 8 (below_more Continues 7 (below_more Continues 6 (below_more Continues 5 (below_more Continues 4 (below_more Continues 3 (below_more Continues 2 (below_more Continues 1 (below_more Continues 0 (below_none Continues) continues_0) continues_1) continues_2) continues_3) continues_4) continues_5) continues_6) continues_7) continues_8) continues_9) continues_10) continues_11) continues_12) continues_13) continues_14) continues_15) continues_16) continues_17) continues_18) continues_19

last_or-append_list : (before : ℕ) (p q : List ℕ) → last_or before (p ++ q) ≡ last_or (last_or before p) q
last_or-append_list before [] q = refl
last_or-append_list before (x ∷ xs) q = last_or-append_list x xs q

-- how a text whose bytes fit continues
record IsEndOf (p rest : List ℕ) : Type 0 where
  fit : AllFit (length p) (last_or 0 p) rest
  long : 20 ≤ length p + length rest
  last : last_or (last_or 0 p) rest ≡ 90

BeginsShape-end : (p rest : List ℕ) → AllFit 0 0 p → IsEndOf p rest → BeginsShape p
BeginsShape-end p rest f e =
    let all : AllFit 0 0 (p ++ rest) = AllFit-append 0 0 p rest f (let P : ℕ → Type 0 = λ n. AllFit n (last_or 0 p) rest in subst P (let z : length p ≡ 0 + length p = omega arith in z) e.fit) in
    (rest, (parts_at (p ++ rest), Spells-parts_at (p ++ rest) all (omega (arith, length-append p rest, e.long)) (last_or-append_list 0 p rest ∙ e.last)))

-- before the fraction, with the rest of the sample
short_end : (p : List ℕ) → length p < 20 → IsEndOf p (drop (length p) sample)
short_end p l =
    let g = continues (length p) l in
    record { fit = g.fit (last_or 0 p); long = omega (arith, length-drop (length p) sample); last = g.last (last_or 0 p) }

-- after it, with a digit after a dot, and with a `Z` after a digit
end_after : (at b : ℕ) → 19 < at → (rest : List ℕ) × AllFit at b rest × (last_or b rest ≡ 90)
unfolding fits fits_fraction
end_after at b late = ⊎_elim
    (λ e. ([], tt, e))
    (λ n. ⊎_elim
    (λ e. (48 ∷ 90 ∷ [], (grind (arith, nat_tests), (grind (arith, nat_tests), tt)), refl))
    (λ m. (90 ∷ [], (grind (arith, nat_tests), tt), refl))
    (cases_eq b 46))
    (cases_eq b 90)

pub BeginsShape-from_fit : (p : List ℕ) → AllFit 0 0 p → BeginsShape p
BeginsShape-from_fit p f = ⊎_elim
    (λ l. BeginsShape-end p (drop (length p) sample) f (short_end p l))
    (λ l. let e = end_after (length p) (last_or 0 p) (omega arith) in
    BeginsShape-end p e.0 f (record { fit = e.1; long = omega arith; last = e.2 }))
    (cases_lt (length p) 20)

pub fit_from_BeginsShape : (p : List ℕ) → BeginsShape p → AllFit 0 0 p
fit_from_BeginsShape p h = AllFit-front 0 0 p h.0 (Spells-ends h.1.0 (p ++ h.0) h.1.1).0

-- where the bytes stop fitting is the longest prefix that begins the shape
pub longest_prefix : (s : List ℕ) (n : ℕ) → n ≡ fitting_end 0 0 s → IsLongestShapePrefix s n
longest_prefix s n e = record {
  within = omega (arith, fitting_end-le 0 0 s);
  begins = BeginsShape-from_fit (take n s) (AllFit-take 0 0 s n (omega arith));
  longest = λ m l b. omega (arith, fitting_end-longest 0 0 s m l (fit_from_BeginsShape (take m s) b));
}

-- the text is of the shape where all its bytes fit and the last is `Z`
pub shape_from_end : (s : List ℕ) (n : ℕ) → n ≡ fitting_end 0 0 s → length s ≤ n → 20 ≤ length s → last_or 0 s ≡ 90 → Spells (parts_at s) s
shape_from_end s n e all long z =
    let fit = AllFit-take 0 0 s (length s) (omega (arith, fitting_end-le 0 0 s)) in
    Spells-parts_at s (let P : List ℕ → Type 0 = λ v. AllFit 0 0 v in subst P (take_all (length s) s (omega arith)) fit) long z

-- and only there
pub ends_from_shape : (s : List ℕ) (n : ℕ) → n ≡ fitting_end 0 0 s → HasShape s → (length s ≤ n) × (20 ≤ length s) × (last_or 0 s ≡ 90)
ends_from_shape s n e h =
    let ends = Spells-ends h.0 s h.1 in
    let fit : AllFit 0 0 (take (length s) s) = (let P : List ℕ → Type 0 = λ v. AllFit 0 0 v in subst P (sym (take_all (length s) s (omega arith))) ends.0) in
    (omega (arith, fitting_end-longest 0 0 s (length s) (omega arith) fit), ends.1, ends.2)
