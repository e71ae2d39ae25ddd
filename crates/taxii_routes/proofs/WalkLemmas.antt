-- What the parameters of a route took from a path, in the words of `matchit`.
use Rattle.std.proofs.Common.{◌≡◌, ℕ, suc, ◌+◌, ◌-◌, ◌≤◌, List, [], ◌∷◌, ◌++◌, length, drop, get_or, true, refl, sym, ap, ◌∙◌, arith, ◌==◌, ltb, leb, length-append, append_assoc}
use Rattle.std.proofs.lemmas.Bool.{eq-eqb, lt-ltb, le-leb}
use Rattle.std.proofs.lemmas.List.{take-append-le, take_all}
use Rattle.std.proofs.lemmas.List.Prefix.{front_rest}
use Rattle.std.proofs.Math.Seq.{get_or-append_seam}
use Rattle.matchit.specs.Params.{wild_from, wild_stop, part_of, after_token, walk}
use Rattle.matchit.specs.Level.{IsText}
use Rattle.matchit.specs.Seek.{segment}
use Rattle.taxii_routes.proofs.SegmentLemmas.{NoSlash, segment-at}

same_pair : (a b c d : ℕ) → a ≡ c → b ≡ d → ◌≡◌ {A = ℕ × ℕ} (a, b) (c, d)
same_pair a b c d p q = λ i. (p i, q i)

-- bytes of a pattern take as many of the path
from_bytes : (w t : List ℕ) (len token at : ℕ) → IsText w → at + length w ≤ len → wild_from (w ++ 256 ∷ t) len token at ≡ (token + length w, at + length w)
from_bytes [] t len token at text fits = same_pair token at (token + 0) (at + 0) (omega arith) (omega arith)
from_bytes (x ∷ w) t len token at text fits =
    let small : ltb x 256 ≡ true = lt-ltb x 256 text.0 in
    let inside : ltb at len ≡ true = lt-ltb at len (omega arith) in
    let later = from_bytes w t len (token + 1) (at + 1) text.1 (omega arith) in
    rw (small, inside) (later ∙ same_pair (token + 1 + length w) (at + 1 + length w) (token + length (x ∷ w)) (at + length (x ∷ w)) (omega arith) (omega arith))

-- a parameter between bytes of the pattern and a slash takes what stands in the path between them
pub record TakesSegment (pattern path before w after gone segment rest : List ℕ) : Type 0 where
  pub pattern_is : pattern ≡ before ++ (w ++ 256 ∷ 47 ∷ after)
  pub path_is : path ≡ gone ++ (w ++ (segment ++ 47 ∷ rest))
  pub text : IsText w
  pub plain : NoSlash segment

pub walk_param : (pattern text path : List ℕ) (name : ℕ × ℕ) (names : List (ℕ × ℕ)) (token at : ℕ) (before w after gone taken rest : List ℕ)
    → TakesSegment pattern path before w after gone taken rest → token ≡ length before → at ≡ length gone
    → walk pattern text path (name ∷ names) token at
    ≡ (part_of text name.0 name.1, taken) ∷ walk pattern text path names (after_token (token + length w)) (at + length w + length taken)
walk_param pattern text path name names token at before w after gone taken rest is here there =
    let from : wild_from (drop token pattern) (length path) token at ≡ (token + length w, at + length w) =
    ap (λ (t : List ℕ). wild_from t (length path) token at) left ∙ from_bytes w (47 ∷ after) (length path) token at is.text inside in
    let stop : wild_stop pattern (token + length w) path (at + length w) ≡ at + length w + length taken = stops in
    let part : part_of path (at + length w) (at + length w + length taken) ≡ taken = parts in
    rw (from, stop, part) refl
  where
    left : drop token pattern ≡ w ++ 256 ∷ 47 ∷ after
    left = ap (λ n. drop n pattern) here ∙ front_rest pattern before (w ++ 256 ∷ 47 ∷ after) is.pattern_is

    long : length path ≡ length gone + (length w + (length taken + suc (length rest)))
    long = ap length is.path_is ∙ simp length-append

    inside : at + length w ≤ length path
    inside = omega (arith, long)

    wide : length pattern ≡ length before + (length w + suc (suc (length after)))
    wide = ap length is.pattern_is ∙ simp length-append

    token_is : get_or pattern (token + length w) 0 ≡ 256
    token_is =
        let whole : pattern ≡ (before ++ w) ++ 256 ∷ 47 ∷ after = is.pattern_is ∙ sym (append_assoc before w (256 ∷ 47 ∷ after)) in
        let count : token + length w ≡ length (before ++ w) = omega (arith, length-append before w) in
        ap (λ n. get_or pattern n 0) count ∙ ap (λ (p : List ℕ). get_or p (length (before ++ w)) 0) whole ∙ get_or-append_seam (before ++ w) 256 (47 ∷ after) 0

    after_is : drop (token + length w + 1) pattern ≡ 47 ∷ after
    after_is =
        let front = before ++ (w ++ 256 ∷ []) in
        let whole : pattern ≡ front ++ 47 ∷ after = is.pattern_is ∙ sym (append_assoc before (w ++ 256 ∷ []) (47 ∷ after) ∙ ap (λ (q : List ℕ). before ++ q) (append_assoc w (256 ∷ []) (47 ∷ after))) in
        let count : token + length w + 1 ≡ length front = simp length-append (omega arith) in
        ap (λ n. drop n pattern) count ∙ front_rest pattern front (47 ∷ after) whole

    rest_is : drop (at + length w) path ≡ taken ++ 47 ∷ rest
    rest_is =
        let front = gone ++ w in
        let whole : path ≡ front ++ (taken ++ 47 ∷ rest) = is.path_is ∙ sym (append_assoc gone w (taken ++ 47 ∷ rest)) in
        let count : at + length w ≡ length front = simp length-append (omega arith) in
        ap (λ n. drop n path) count ∙ front_rest path front (taken ++ 47 ∷ rest) whole

    stops : wild_stop pattern (token + length w) path (at + length w) ≡ at + length w + length taken
    stops =
        let first : ltb (token + length w) (length pattern) ≡ true = lt-ltb (token + length w) (length pattern) (omega (arith, wide)) in
        let wild : (get_or pattern (token + length w) 0 == 256) ≡ true = eq-eqb (get_or pattern (token + length w) 0) 256 token_is in
        let next : ltb (token + length w + 1) (length pattern) ≡ true = lt-ltb (token + length w + 1) (length pattern) (omega (arith, wide)) in
        let seg : length (segment (drop (at + length w) path)) ≡ length taken + 1 = ap (λ (q : List ℕ). length (segment q)) rest_is ∙ ap length (segment-at taken rest is.plain) ∙ length-append taken (47 ∷ []) in
        let suffix : length (segment (drop (token + length w + 1) pattern)) ≡ 1 = ap (λ (q : List ℕ). length (segment q)) after_is in
        rw (first, wild, next, seg, suffix) (omega arith)

    parts : part_of path (at + length w) (at + length w + length taken) ≡ taken
    parts =
        let low : leb (at + length w) (at + length w + length taken) ≡ true = le-leb (at + length w) (at + length w + length taken) (omega arith) in
        let high : leb (at + length w + length taken) (length path) ≡ true = le-leb (at + length w + length taken) (length path) (omega (arith, long)) in
        let count : at + length w + length taken - (at + length w) ≡ length taken = omega arith in
        rw (low, high, count, rest_is) (take-append-le (length taken) taken (47 ∷ rest) (omega arith) ∙ take_all (length taken) taken (omega arith))
