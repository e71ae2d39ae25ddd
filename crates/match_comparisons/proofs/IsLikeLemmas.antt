-- Laws of `IsLike`: how it is for a character, for `%`, and for a pattern that is cut in two. Stated over lists of
-- characters; nothing here knows of the code.
use Rattle.std.proofs.Common.{◌≡◌, ◌≢◌, ℕ, inl, inr, List, [], ◌∷◌, ◌++◌, refl, sym, ap, ◌∙◌, arith, append_assoc}
use Rattle.std.specs.List.{concat}
use Rattle.std.proofs.lemmas.Bool.Decides.{eqb_tells}
use Rattle.match_comparisons.specs.Like.{any_run, any_one, FitsCharacter, AllFit, IsLike}
use Rattle.match_comparisons.specs.inner.Segments.{LeavesAfterPrefix}

-- the character is no `%`, and it is `_` or x itself
pub record Meets (character x : ℕ) : Type 0 where
  pub no_run : character ≢ any_run
  pub itself : character ≢ any_one → character ≡ x

-- a segment at a character other than `%` is one character, which meets it
single_of : (segment : List ℕ) (character : ℕ) → character ≢ any_run → FitsCharacter segment character → (x : ℕ) × (segment ≡ x ∷ []) × Meets character x
single_of [] character no_run fits =
    absurd (elim (eqb_tells character any_one) [
      | inl is ↦ omega (arith, fits.one is.1)
      | inr is ↦ cc (fits.itself no_run is.1)
    ])
single_of (x ∷ []) character no_run fits =
    (x, refl, record { no_run = no_run; itself = λ not_one. cc (fits.itself no_run not_one) })
single_of (x ∷ y ∷ segment) character no_run fits =
    absurd (elim (eqb_tells character any_one) [
      | inl is ↦ omega (arith, fits.one is.1)
      | inr is ↦ cc (fits.itself no_run is.1)
    ])

fits_single : (character x : ℕ) → Meets character x → FitsCharacter (x ∷ []) character
fits_single character x meets = record {
  one = λ _. refl;
  itself = λ _ not_one. cc (meets.itself not_one);
}

fits_run : (segment : List ℕ) → FitsCharacter segment any_run
fits_run segment = record { one = λ is. absurd (omega arith); itself = λ no_run. absurd (no_run refl) }

-- the empty pattern is for the empty text alone
pub empty_pattern : IsLike [] []
unfolding IsLike
empty_pattern = record { segments = []; whole = refl; fit = tt }

nothing_left : (segments : List (List ℕ)) (text : List ℕ) → text ≡ concat segments → AllFit segments [] → text ≡ []
nothing_left [] text whole fit = whole
nothing_left (segment ∷ segments) text whole fit = absurd fit

pub empty_pattern_only : (text : List ℕ) → IsLike text [] → text ≡ []
unfolding IsLike
empty_pattern_only text like = nothing_left like.segments text like.whole like.fit

-- a character that meets the pattern's first goes before
pub like_step : (x character : ℕ) (text pattern : List ℕ) → Meets character x → IsLike text pattern → IsLike (x ∷ text) (character ∷ pattern)
unfolding IsLike
like_step x character text pattern meets like = record {
  segments = (x ∷ []) ∷ like.segments;
  whole = ap (λ rest. x ∷ rest) like.whole;
  fit = (fits_single character x meets, like.fit);
}

-- and comes off again
first_of : (segments : List (List ℕ)) (character : ℕ) (text pattern : List ℕ) → character ≢ any_run → text ≡ concat segments → AllFit segments (character ∷ pattern) → (x : ℕ) × (rest : List ℕ) × (text ≡ x ∷ rest) × Meets character x × IsLike rest pattern
unfolding IsLike
first_of [] character text pattern no_run whole fit = absurd fit
first_of (segment ∷ segments) character text pattern no_run whole fit =
    let single = single_of segment character no_run fit.0 in (
      single.0,
      concat segments,
      whole ∙ ap (λ front. front ++ concat segments) single.1,
      single.2,
      record { segments = segments; whole = refl; fit = fit.1 },
    )

pub like_first : (character : ℕ) (text pattern : List ℕ) → character ≢ any_run → IsLike text (character ∷ pattern) → (x : ℕ) × (rest : List ℕ) × (text ≡ x ∷ rest) × Meets character x × IsLike rest pattern
unfolding IsLike
like_first character text pattern no_run like = first_of like.segments character text pattern no_run like.whole like.fit

-- a `%` takes any run before what the rest of the pattern fits
pub run_takes : (before text pattern : List ℕ) → IsLike text pattern → IsLike (before ++ text) (any_run ∷ pattern)
unfolding IsLike
run_takes before text pattern like = record {
  segments = before ∷ like.segments;
  whole = ap (λ rest. before ++ rest) like.whole;
  fit = (fits_run before, like.fit);
}

-- and nothing else
run_of : (segments : List (List ℕ)) (text pattern : List ℕ) → text ≡ concat segments → AllFit segments (any_run ∷ pattern) → (before rest : List ℕ) × (text ≡ before ++ rest) × IsLike rest pattern
unfolding IsLike
run_of [] text pattern whole fit = absurd fit
run_of (segment ∷ segments) text pattern whole fit =
    (segment, concat segments, whole, record { segments = segments; whole = refl; fit = fit.1 })

pub run_splits : (text pattern : List ℕ) → IsLike text (any_run ∷ pattern) → (before rest : List ℕ) × (text ≡ before ++ rest) × IsLike rest pattern
unfolding IsLike
run_splits text pattern like = run_of like.segments text pattern like.whole like.fit

-- so it takes more where there is more
pub run_takes_more : (before text pattern : List ℕ) → IsLike text (any_run ∷ pattern) → IsLike (before ++ text) (any_run ∷ pattern)
run_takes_more before text pattern like =
    let cut = run_splits text pattern like in
    rw (cut.2, ← append_assoc) (run_takes (before ++ cut.0) cut.1 pattern cut.3)

-- a pattern of two parts is for a text of two parts
concat-append : (left right : List (List ℕ)) → concat (left ++ right) ≡ concat left ++ concat right
concat-append [] right = refl
concat-append (segment ∷ left) right =
    ap (λ rest. segment ++ rest) (concat-append left right) ∙ sym (append_assoc segment (concat left) (concat right))

fit_joined : (left right : List (List ℕ)) (front back : List ℕ) → AllFit left front → AllFit right back → AllFit (left ++ right) (front ++ back)
fit_joined [] right [] back fit_front fit_back = fit_back
fit_joined [] right (character ∷ front) back fit_front fit_back = absurd fit_front
fit_joined (segment ∷ left) right [] back fit_front fit_back = absurd fit_front
fit_joined (segment ∷ left) right (character ∷ front) back fit_front fit_back =
    (fit_front.0, fit_joined left right front back fit_front.1 fit_back)

pub like_joined : (text left pattern back : List ℕ) → LeavesAfterPrefix text pattern left → IsLike left back → IsLike text (pattern ++ back)
unfolding IsLike
like_joined text left pattern back leaves like = record {
  segments = leaves.2.segments ++ like.segments;
  whole = rw (concat-append, ← leaves.2.whole, ← like.whole) leaves.1;
  fit = fit_joined leaves.2.segments like.segments pattern back leaves.2.fit like.fit;
}

cut_of : (segments : List (List ℕ)) (pattern back : List ℕ) → AllFit segments (pattern ++ back) → (left : List ℕ) × LeavesAfterPrefix (concat segments) pattern left × IsLike left back
unfolding IsLike
cut_of segments [] back fit =
    (concat segments, ([], refl, empty_pattern), record { segments = segments; whole = refl; fit = fit })
cut_of [] (character ∷ pattern) back fit = absurd fit
cut_of (segment ∷ segments) (character ∷ pattern) back fit =
    let cut = cut_of segments pattern back fit.1 in
    let leaves = cut.1 in (
      cut.0,
      (
        segment ++ leaves.0,
        ap (λ rest. segment ++ rest) leaves.1 ∙ sym (append_assoc segment leaves.0 cut.0),
        record {
          segments = segment ∷ leaves.2.segments;
          whole = ap (λ rest. segment ++ rest) leaves.2.whole;
          fit = (fit.0, leaves.2.fit);
        },
      ),
      cut.2,
    )

pub like_splits : (text pattern back : List ℕ) → IsLike text (pattern ++ back) → (left : List ℕ) × LeavesAfterPrefix text pattern left × IsLike left back
unfolding IsLike
like_splits text pattern back like =
    let cut = cut_of like.segments pattern back like.fit in
    (cut.0, rw like.whole cut.1, cut.2)
