-- What a walk of `matchit` over rows finds, where each parameter is a whole segment before a slash and
-- nothing catches all: a row whose pattern the path fits, if there is one.
use Rattle.std.proofs.Common.{◌≡◌, ◌≢◌, ℕ, zero, suc, ◌-◌, ◌<◌, ◌≤◌, List, [], ◌∷◌, ◌++◌, length, Option, Some, None, Bool, true, false, cond, refl, sym, ap, subst, ◌∙◌, arith, ◌==◌, ltb, ◌⊎◌, inl, inr, append-nil, length-append}
use Rattle.std.proofs.lemmas.Bool.{eq-eqb, ne_eqb, eqb-true, cond-true, cond-false}
use Rattle.matchit.specs.Rows.{RowsOf, param_token, catch_all_token}
use Rattle.matchit.specs.Seek.{segment, has_slash, cuts, own, step, or_else, longest_from, longest_suffix, with_suffix, param_step, seek}
use Rattle.matchit.specs.Level.{IsText}
use Rattle.taxii_routes.specs.Route.{IsSegment}
use Rattle.taxii_routes.proofs.SegmentLemmas.{NoSlash, IsCutAtSlash, cut, segment-at, segment-none, has_slash-none, cuts-at, cuts-none}

-- the pattern goes on with a slash
abbrev pub BeginsSlash : List ℕ → Type 0
BeginsSlash [] = ⊥
BeginsSlash (t ∷ ts) = t ≡ 47

-- the pattern is of bytes, and of parameters that each stand before a slash
abbrev pub IsPlain : List ℕ → Type 0
IsPlain [] = Unit {0}
IsPlain (t ∷ ts) = ((t < 256) ⊎ ((t ≡ 256) × BeginsSlash ts)) × IsPlain ts

-- the path fits the pattern: bytes stand for themselves, and a parameter for a segment
abbrev pub Fits : List ℕ → List ℕ → Type 0
Fits [] path = path ≡ []
Fits (t ∷ ts) path =
    ((rest : List ℕ) × (t < 256) × (path ≡ t ∷ rest) × Fits ts rest)
    ⊎ ((part rest : List ℕ) × (t ≡ 256) × IsSegment part × (path ≡ part ++ rest) × Fits ts rest)

-- the row is one of these
abbrev pub Has : {K : Type 0} → List ℕ → K → RowsOf K → Type 0
Has t k [] = ⊥
Has t k ((u, l) ∷ rows) = ((t ≡ u) × (k ≡ l)) ⊎ Has t k rows

abbrev pub ArePlain : {K : Type 0} → RowsOf K → Type 0
ArePlain [] = Unit {0}
ArePlain ((t, k) ∷ rows) = IsPlain t × ArePlain rows

abbrev pub BeginSlash : {K : Type 0} → RowsOf K → Type 0
BeginSlash [] = Unit {0}
BeginSlash ((t, k) ∷ rows) = BeginsSlash t × BeginSlash rows

-- ---- rows after a token

pub has_from_step : {K : Type 0} (b : ℕ) (rows : RowsOf K) (t : List ℕ) (k : K) → Has t k (step b rows) → Has (b ∷ t) k rows
has_from_step b [] t k has = absurd has
has_from_step b (([], l) ∷ rows) t k has = inr (has_from_step b rows t k has)
has_from_step {K = K} b ((x ∷ u, l) ∷ rows) t k has = go (x == b) refl has (has_from_step b rows t k)
  where
    go : (v : Bool) → (x == b) ≡ v → Has t k (cond v ((u, l) ∷ step b rows) (step b rows)) → (Has t k (step b rows) → Has (b ∷ t) k rows) → Has (b ∷ t) k ((x ∷ u, l) ∷ rows)
    go true e (inl same) more = inl (ap (λ z. z ∷ t) (sym (eqb-true x b e)) ∙ ap (λ z. x ∷ z) same.0, same.1)
    go true e (inr later) more = inr (more later)
    go false e later more = inr (more later)

head_of : (a b : ℕ) (s t : List ℕ) → a ∷ s ≡ b ∷ t → a ≡ b
head_of a b s t e = cc

tail_of : (a b : ℕ) (s t : List ℕ) → a ∷ s ≡ b ∷ t → s ≡ t
tail_of a b s t e = cc

no_cons : (a : ℕ) (s : List ℕ) → a ∷ s ≡ [] → ⊥
no_cons a s e = cc

pub step_from_has : {K : Type 0} (b : ℕ) (rows : RowsOf K) (t : List ℕ) (k : K) → Has (b ∷ t) k rows → Has t k (step b rows)
step_from_has b [] t k has = absurd has
step_from_has b (([], l) ∷ rows) t k (inl same) = absurd (no_cons b t same.0)
step_from_has b (([], l) ∷ rows) t k (inr later) = step_from_has b rows t k later
step_from_has {K = K} b ((x ∷ u, l) ∷ rows) t k (inl same) =
    let hit : (x == b) ≡ true = eq-eqb x b (sym (head_of b x t u same.0)) in
    subst (λ v. Has t k (cond v ((u, l) ∷ step b rows) (step b rows))) (sym hit) (inl (tail_of b x t u same.0, same.1))
step_from_has {K = K} b ((x ∷ u, l) ∷ rows) t k (inr later) = go (x == b) (step_from_has b rows t k later)
  where
    go : (v : Bool) → Has t k (step b rows) → Has t k (cond v ((u, l) ∷ step b rows) (step b rows))
    go true more = inr more
    go false more = more

pub plain_step : {K : Type 0} (b : ℕ) (rows : RowsOf K) → ArePlain rows → ArePlain (step b rows)
plain_step b [] plain = tt
plain_step b (([], l) ∷ rows) plain = plain_step b rows plain.1
plain_step {K = K} b ((x ∷ u, l) ∷ rows) plain = go (x == b) (plain_step b rows plain.1)
  where
    go : (v : Bool) → ArePlain (step b rows) → ArePlain (cond v ((u, l) ∷ step b rows) (step b rows))
    go true more = (plain.0.1, more)
    go false more = more

-- no row catches all
pub step_catch_all : {K : Type 0} (rows : RowsOf K) → ArePlain rows → step catch_all_token rows ≡ []
step_catch_all [] plain = refl
step_catch_all (([], l) ∷ rows) plain = step_catch_all rows plain.1
step_catch_all ((x ∷ u, l) ∷ rows) plain =
    cond-false _ _ _ (ne_eqb x 257 (other plain.0.0)) ∙ step_catch_all rows plain.1
  where
    other : (x < 256) ⊎ ((x ≡ 256) × BeginsSlash u) → x ≢ 257
    other (inl small) e = omega arith
    other (inr param) e = let is = param.0 in omega arith

-- after a parameter a slash comes
pub slash_step : {K : Type 0} (rows : RowsOf K) → ArePlain rows → BeginSlash (step param_token rows)
slash_step [] plain = tt
slash_step (([], l) ∷ rows) plain = slash_step rows plain.1
slash_step {K = K} ((x ∷ u, l) ∷ rows) plain = go (x == 256) refl (slash_step rows plain.1)
  where
    begins : x ≡ 256 → (x < 256) ⊎ ((x ≡ 256) × BeginsSlash u) → BeginsSlash u
    begins is (inl small) = absurd (omega arith)
    begins is (inr param) = param.1

    go : (v : Bool) → (x == 256) ≡ v → BeginSlash (step param_token rows) → BeginSlash (cond v ((u, l) ∷ step param_token rows) (step param_token rows))
    go true e more = (begins (eqb-true x 256 e) plain.0.0, more)
    go false e more = more

-- ---- the route that ends here

pub own_has : {K : Type 0} (rows : RowsOf K) (k : K) → own rows ≡ Some k → Has [] k rows
own_has [] k is = absurd cc
own_has (([], l) ∷ rows) k is = inl (refl, cc)
own_has ((x ∷ u, l) ∷ rows) k is = inr (own_has rows k is)

pub own_none : {K : Type 0} (rows : RowsOf K) (k : K) → own rows ≡ None → ¬ Has [] k rows
own_none [] k is has = has
own_none (([], l) ∷ rows) k is has = absurd cc
own_none ((x ∷ u, l) ∷ rows) k is (inl same) = no_cons x u (sym same.0)
own_none ((x ∷ u, l) ∷ rows) k is (inr later) = own_none rows k is later

own_slash : {K : Type 0} (rows : RowsOf K) → BeginSlash rows → own rows ≡ None
own_slash [] begin = refl
own_slash (([], l) ∷ rows) begin = absurd begin.0
own_slash ((x ∷ u, l) ∷ rows) begin = own_slash rows begin.1

-- ---- what a parameter takes

segment-slash : (t : List ℕ) → BeginsSlash t → segment t ≡ 47 ∷ []
segment-slash [] begins = absurd begins
segment-slash (x ∷ t) begins = rw begins refl

with_slash : {K : Type 0} (rows : RowsOf K) → BeginSlash rows → with_suffix (47 ∷ []) rows ≡ rows
with_slash [] begin = refl
with_slash {K = K} ((t, k) ∷ rows) begin = rw (segment-slash t begin.0) (ap (λ (more : RowsOf K). (t, k) ∷ more) (with_slash rows begin.1))

longest_kept : {K : Type 0} (seg : List ℕ) (rows : RowsOf K) → BeginSlash rows → longest_from seg (47 ∷ []) rows ≡ 47 ∷ []
longest_kept seg [] begin = refl
longest_kept seg ((t, k) ∷ rows) begin = rw (segment-slash t begin.0) (longest_kept seg rows begin.1)

longest_none : {K : Type 0} (seg : List ℕ) (rows : RowsOf K) → BeginSlash rows → cuts seg (47 ∷ []) ≡ false → longest_suffix seg rows ≡ []
longest_none seg [] begin uncut = refl
longest_none seg ((t, k) ∷ rows) begin uncut = rw (segment-slash t begin.0, uncut) (longest_none seg rows begin.1 uncut)

longest_found : {K : Type 0} (seg : List ℕ) (t : List ℕ) (k : K) (rows : RowsOf K) → BeginSlash ((t, k) ∷ rows) → cuts seg (47 ∷ []) ≡ true
    → longest_suffix seg ((t, k) ∷ rows) ≡ 47 ∷ []
longest_found seg t k rows begin cut_off = rw (segment-slash t begin.0, cut_off) (longest_kept seg rows begin.1)

param_step-none : {K : Type 0} (path : List ℕ) → (param_step {K = K} [] path).1 ≡ []
unfolding param_step
param_step-none {K = K} path = go (has_slash path)
  where
    go : (v : Bool) → (cond {A = ℕ × RowsOf K} v (0, []) (length path, [])).1 ≡ []
    go true = refl
    go false = refl

pub seek-none : {K : Type 0} (skip : ℕ) (path : List ℕ) → seek {K = K} skip [] path ≡ None
unfolding seek
seek-none skip [] = refl
seek-none (suc skip) (b ∷ p) = seek-none skip p
seek-none {K = K} zero (b ∷ p) =
    simp (seek-none {K = K} 0 p, param_step-none {K = K} (b ∷ p), seek-none {K = K} ((param_step {K = K} [] (b ∷ p)).0 - 1) p)

seek-skip : {K : Type 0} (front rest : List ℕ) (rows : RowsOf K) → seek (length front) rows (front ++ rest) ≡ seek 0 rows rest
unfolding seek
seek-skip [] rest rows = refl
seek-skip (x ∷ front) rest rows = seek-skip front rest rows

seek-end : {K : Type 0} (rows : RowsOf K) → seek 0 rows [] ≡ own rows
unfolding seek
seek-end rows = refl

no_some : {K : Type 0} (k : K) → ◌≡◌ {A = Option K} (Some k) None → ⊥
no_some k e = cc

-- what a walk finds by a parameter at the start of a path
abbrev pub by_param : {K : Type 0} → RowsOf K → ℕ → List ℕ → Option K
by_param rows b p = seek ((param_step rows (b ∷ p)).0 - 1) (param_step rows (b ∷ p)).1 p

none_at_all : {K : Type 0} (b : ℕ) (p : List ℕ) → by_param {K = K} [] b p ≡ None
none_at_all {K = K} b p =
    ap (λ (rows : RowsOf K). seek ((param_step {K = K} [] (b ∷ p)).0 - 1) rows p) (param_step-none {K = K} (b ∷ p)) ∙ seek-none {K = K} ((param_step {K = K} [] (b ∷ p)).0 - 1) p

-- nothing stands before the first slash
none_before_slash : {K : Type 0} (rows : RowsOf K) (p : List ℕ) → BeginSlash rows → by_param rows 47 p ≡ None
unfolding param_step
none_before_slash {K = K} rows p begin =
    let none : longest_suffix (segment (47 ∷ p)) rows ≡ [] = longest_none (47 ∷ []) rows begin refl in
    rw none (seek-none {K = K} (0 - 1) p)

-- no slash stands there
none_without_slash : {K : Type 0} (rows : RowsOf K) (b : ℕ) (p : List ℕ) → BeginSlash rows → NoSlash (b ∷ p) → by_param rows b p ≡ None
unfolding param_step
none_without_slash {K = K} rows b p begin plain =
    let whole = segment-none (b ∷ p) plain in
    let none : longest_suffix (segment (b ∷ p)) rows ≡ [] = longest_none (segment (b ∷ p)) rows begin (ap (λ s. cuts s (47 ∷ [])) whole ∙ cuts-none (b ∷ p) plain) in
    let bare : has_slash (b ∷ p) ≡ false = has_slash-none (b ∷ p) plain in
    let less : length (b ∷ p) - 1 ≡ length p = omega arith in
    let past : seek (length p) rows p ≡ None = ap (λ q. seek (length p) rows q) (sym (append-nil p)) ∙ seek-skip p [] rows ∙ seek-end rows ∙ own_slash rows begin in
    rw (none, bare, less) past

param_step-some : {K : Type 0} (rows : RowsOf K) (path : List ℕ) → ltb 0 (length (longest_suffix (segment path) rows)) ≡ true
    → param_step rows path ≡ (length (segment path) - length (longest_suffix (segment path) rows), with_suffix (longest_suffix (segment path) rows) rows)
unfolding param_step
param_step-some rows path some = cond-true _ _ _ some

-- the first slash ends what the parameter takes
at_slash : {K : Type 0} (rows : RowsOf K) (b : ℕ) (front back : List ℕ) → BeginSlash rows → NoSlash (b ∷ front)
    → by_param rows b (front ++ 47 ∷ back) ≡ seek 0 rows (47 ∷ back)
at_slash {K = K} [] b front back begin plain = none_at_all {K = K} b (front ++ 47 ∷ back) ∙ sym (seek-none {K = K} 0 (47 ∷ back))
at_slash {K = K} ((t, k) ∷ rows) b front back begin plain =
    let all : RowsOf K = (t, k) ∷ rows in
    let path = b ∷ (front ++ 47 ∷ back) in
    let seg : segment path ≡ b ∷ (front ++ 47 ∷ []) = segment-at (b ∷ front) back plain in
    let cut_off : cuts (segment path) (47 ∷ []) ≡ true = ap (λ s. cuts s (47 ∷ [])) seg ∙ cuts-at b front in
    let suffix : longest_suffix (segment path) all ≡ 47 ∷ [] = longest_found (segment path) t k rows begin cut_off in
    let taken : param_step all path ≡ (length (segment path) - 1, all) =
    param_step-some all path (ap (λ (l : List ℕ). ltb 0 (length l)) suffix) ∙ ap (λ (l : List ℕ). (length (segment path) - length l, with_suffix l all)) suffix
    ∙ ap (λ (more : RowsOf K). (length (segment path) - 1, more)) (with_slash all begin) in
    let last : length (b ∷ (front ++ 47 ∷ [])) - 1 - 1 ≡ length front = omega (arith, length-append front (47 ∷ [])) in
    let count : length (segment path) - 1 - 1 ≡ length front = ap (λ (text : List ℕ). length text - 1 - 1) seg ∙ last in
    ap (λ (s : ℕ × RowsOf K). seek (s.0 - 1) s.1 (front ++ 47 ∷ back)) taken ∙ ap (λ n. seek n all (front ++ 47 ∷ back)) count ∙ seek-skip front (47 ∷ back) all

-- ---- what a walk finds

some_cases : {K : Type 0} (x y : Option K) (k : K) → or_else x y ≡ Some k → (x ≡ Some k) ⊎ (y ≡ Some k)
some_cases None y k is = inr is
some_cases (Some l) y k is = inl is

none_cases : {K : Type 0} (x y : Option K) → or_else x y ≡ None → (x ≡ None) × (y ≡ None)
none_cases None y is = (refl, is)
none_cases (Some l) y is = absurd cc

text_after : (front back : List ℕ) → IsText (front ++ back) → IsText back
text_after [] back text = text
text_after (x ∷ front) back text = text_after front back text.1

-- the path fits the pattern of a row
abbrev pub FitsRow : {K : Type 0} → RowsOf K → K → List ℕ → Type 0
FitsRow rows k path = (t : List ℕ) × Has t k rows × Fits t path

-- a walk by a parameter that found something stopped at a slash
abbrev Parted : {K : Type 0} → RowsOf K → K → ℕ → List ℕ → Type 0
Parted rows k b p = (front back : List ℕ) × (p ≡ front ++ 47 ∷ back) × NoSlash (b ∷ front) × (seek 0 rows (47 ∷ back) ≡ Some k)

parted : {K : Type 0} (rows : RowsOf K) (k : K) (b : ℕ) (p : List ℕ) → BeginSlash rows → by_param rows b p ≡ Some k → Parted rows k b p
parted {K = K} rows k b p begin is = go (cut (b ∷ p))
  where
    at : (front back : List ℕ) → IsCutAtSlash (b ∷ p) front back → Parted rows k b p
    at [] back is_cut =
        let same : b ≡ 47 = head_of b 47 p back is_cut.0 in
        absurd (no_some k (sym is ∙ ap (λ x. by_param rows x p) same ∙ none_before_slash rows p begin))
    at (x ∷ front) back is_cut =
        let same : b ≡ x = head_of b x p (front ++ 47 ∷ back) is_cut.0 in
        let rest : p ≡ front ++ 47 ∷ back = tail_of b x p (front ++ 47 ∷ back) is_cut.0 in
        let plain = subst (λ y. NoSlash (y ∷ front)) (sym same) is_cut.1 in
        (front, back, rest, plain, sym (at_slash rows b front back begin plain) ∙ ap (λ q. by_param rows b q) (sym rest) ∙ is)

    go : ((front back : List ℕ) × IsCutAtSlash (b ∷ p) front back) ⊎ NoSlash (b ∷ p) → Parted rows k b p
    go (inl (front, back, is_cut)) = at front back is_cut
    go (inr plain) = absurd (no_some k (sym is ∙ none_without_slash rows b p begin plain))

-- what a walk finds at a byte and what it finds by a parameter are found among the rows
found_first : {K : Type 0} (rows : RowsOf K) (b : ℕ) (p : List ℕ) (k : K) → ArePlain rows → b < 256
    → (seek 0 (step b rows) p ≡ Some k → FitsRow (step b rows) k p)
    → ((front back : List ℕ) → p ≡ front ++ 47 ∷ back → seek 0 (step param_token rows) (47 ∷ back) ≡ Some k → FitsRow (step param_token rows) k (47 ∷ back))
    → seek 0 rows (b ∷ p) ≡ Some k → FitsRow rows k (b ∷ p)
unfolding seek
found_first {K = K} rows b p k plain small at_byte at_param is =
    go (some_cases (seek 0 (step b rows) p) (or_else (by_param (step param_token rows) b p) (own (step catch_all_token rows))) k is)
  where
    by_byte : FitsRow (step b rows) k p → FitsRow rows k (b ∷ p)
    by_byte (t, has, fits) = (b ∷ t, has_from_step b rows t k has, inl (p, small, refl, fits))

    by_segment : (front back : List ℕ) → p ≡ front ++ 47 ∷ back → NoSlash (b ∷ front) → FitsRow (step param_token rows) k (47 ∷ back) → FitsRow rows k (b ∷ p)
    by_segment front back is_rest no_slash (t, has, fits) = (
      param_token ∷ t,
      has_from_step param_token rows t k has,
      inr (b ∷ front, 47 ∷ back, refl, record { some = no_cons b front; bytes = no_slash }, ap (λ q. b ∷ q) is_rest, fits),
    )

    by_parted : Parted (step param_token rows) k b p → FitsRow rows k (b ∷ p)
    by_parted (front, back, is_rest, no_slash, found) = by_segment front back is_rest no_slash (at_param front back is_rest found)

    rest : (by_param (step param_token rows) b p ≡ Some k) ⊎ (own (step catch_all_token rows) ≡ Some k) → FitsRow rows k (b ∷ p)
    rest (inl e) = by_parted (parted (step param_token rows) k b p (slash_step rows plain) e)
    rest (inr e) = absurd (no_some k (sym e ∙ ap own (step_catch_all rows plain)))

    go : (seek 0 (step b rows) p ≡ Some k) ⊎ (or_else (by_param (step param_token rows) b p) (own (step catch_all_token rows)) ≡ Some k) → FitsRow rows k (b ∷ p)
    go (inl e) = by_byte (at_byte e)
    go (inr e) = rest (some_cases (by_param (step param_token rows) b p) (own (step catch_all_token rows)) k e)

shorter : (b : ℕ) (p front back : List ℕ) (most : ℕ) → p ≡ front ++ 47 ∷ back → length (b ∷ p) ≤ suc most → length (47 ∷ back) ≤ most
shorter b p front back most is short = let long = ap length is in omega (arith, length-append front (47 ∷ back))

-- what is found is a row that the path fits; `most` is at least the length of the path
pub found_fits : {K : Type 0} (most : ℕ) (rows : RowsOf K) (path : List ℕ) (k : K) → length path ≤ most → ArePlain rows → IsText path
    → seek 0 rows path ≡ Some k → FitsRow rows k path
found_fits most rows [] k short plain text is = ([], own_has rows k (sym (seek-end rows) ∙ is), refl)
found_fits zero rows (b ∷ p) k short plain text is = absurd (omega arith)
found_fits (suc most) rows (b ∷ p) k short plain text is =
    found_first rows b p k plain text.0
    (λ e. found_fits most (step b rows) p k (omega arith) (plain_step b rows plain) text.1 e)
    (λ front back same e. found_fits most (step param_token rows) (47 ∷ back) k (shorter b p front back most same short) (plain_step param_token rows plain)
    (text_after front (47 ∷ back) (subst IsText same text.1)) e)
    is

no_nil : (part rest : List ℕ) → IsSegment part → [] ≡ part ++ rest → ⊥
no_nil [] rest is e = is.some refl
no_nil (x ∷ part) rest is e = no_cons x (part ++ rest) (sym e)

-- a path that fits a pattern which goes on with a slash goes on with one
slash_first : (t path : List ℕ) → BeginsSlash t → Fits t path → (back : List ℕ) × (path ≡ 47 ∷ back)
slash_first [] path begins fits = absurd begins
slash_first (x ∷ t) path begins (inl (rest, small, is, fits)) = (rest, is ∙ ap (λ y. y ∷ rest) begins)
slash_first (x ∷ t) path begins (inr (part, rest, is_param, is_part, is, fits)) = absurd (omega arith)

slash_of : {K : Type 0} (rows : RowsOf K) (t : List ℕ) (k : K) → BeginSlash rows → Has t k rows → BeginsSlash t
slash_of [] t k begin has = absurd has
slash_of ((u, l) ∷ rows) t k begin (inl same) = subst BeginsSlash (sym same.0) begin.0
slash_of ((u, l) ∷ rows) t k begin (inr later) = slash_of rows t k begin.1 later

-- where nothing is found the path fits no row
pub none_fits : {K : Type 0} (most : ℕ) (rows : RowsOf K) (path : List ℕ) → length path ≤ most → ArePlain rows → seek 0 rows path ≡ None
    → (k : K) → ¬ FitsRow rows k path
unfolding seek
none_fits most rows [] short plain is k ([], has, fits) = own_none rows k is has
none_fits most rows [] short plain is k (x ∷ t, has, inl (rest, small, e, fits)) = no_cons x rest (sym e)
none_fits most rows [] short plain is k (x ∷ t, has, inr (part, rest, is_param, is_segment, e, fits)) = no_nil part rest is_segment e
none_fits zero rows (b ∷ p) short plain is k fits = absurd (omega arith)
none_fits (suc most) rows (b ∷ p) short plain is k ([], has, fits) = no_cons b p fits
none_fits {K = K} (suc most) rows (b ∷ p) short plain is k (x ∷ t, has, inl (rest, small, e, fits)) =
    let both = none_cases (seek 0 (step b rows) p) (or_else (by_param (step param_token rows) b p) (own (step catch_all_token rows))) is in
    let byte : b ≡ x = head_of b x p rest e in
    let later : p ≡ rest = tail_of b x p rest e in
    none_fits most (step b rows) p (omega arith) (plain_step b rows plain) both.0 k
    (t, step_from_has b rows t k (subst (λ y. Has (y ∷ t) k rows) (sym byte) has), subst (Fits t) (sym later) fits)
none_fits {K = K} (suc most) rows (b ∷ p) short plain is k (x ∷ t, has, inr ([], rest, is_param, is_segment, e, fits)) = absurd (is_segment.some refl)
none_fits {K = K} (suc most) rows (b ∷ p) short plain is k (x ∷ t, has, inr (y ∷ front, rest, is_param, is_segment, e, fits)) =
    let params = step param_token rows in
    let begin = slash_step rows plain in
    let both = none_cases (seek 0 (step b rows) p) (or_else (by_param params b p) (own (step catch_all_token rows))) is in
    let none = (none_cases (by_param params b p) (own (step catch_all_token rows)) both.1).0 in
    let byte : b ≡ y = head_of b y p (front ++ rest) e in
    let later : p ≡ front ++ rest = tail_of b y p (front ++ rest) e in
    let there : Has t k params = step_from_has param_token rows t k (subst (λ z. Has (z ∷ t) k rows) is_param has) in
    let (back, is_back) = slash_first t rest (slash_of params t k begin there) fits in
    let whole : p ≡ front ++ 47 ∷ back = later ∙ ap (λ q. front ++ q) is_back in
    let no_slash : NoSlash (b ∷ front) = subst (λ z. NoSlash (z ∷ front)) (sym byte) is_segment.bytes in
    let gone : seek 0 params (47 ∷ back) ≡ None = sym (at_slash params b front back begin no_slash) ∙ ap (λ q. by_param params b q) (sym whole) ∙ none in
    none_fits most params (47 ∷ back) (shorter b p front back most whole short) (plain_step param_token rows plain) gone k (t, there, subst (Fits t) is_back fits)
