-- All bindings of a pattern over a log, and that they can be sorted: there is a listing.
use Rattle.std.proofs.Common.{◌≡◌, ◌+◌, List, [], ◌∷◌, length, refl, sym, ◌∙◌, ap, subst, arith}
use Rattle.std.specs.Prelude.{Bool, true, false, ◌&&◌, map, cond}
use Rattle.match_bindings.specs.declared.log_entry.LogEntry.{LogEntry}
use Rattle.match_bindings.specs.NumberedPattern.{NumberedPattern}
use Rattle.match_bindings.specs.BindTree.{BindTree}
use Rattle.match_bindings.specs.Log.{Observed, observed_in}
use Rattle.match_bindings.specs.Bounds.{no_bounds}
use Rattle.match_bindings.specs.Test.{is_binding}
use Rattle.match_bindings.specs.Once.{bit, is_same_tree, count, Exactly}
use Rattle.match_bindings.specs.Flat.{comes_before}
use Rattle.match_bindings.specs.Listing.{IsListing}
use Rattle.match_bindings.specs.inner.Candidates.{spanned_binding, trees_of, span_of, span_fits, candidates}
use Rattle.match_bindings.proofs.CandidatesLemmas.{exactly_same, all_found}
use Rattle.match_bindings.proofs.LongerLogLemmas.{rows_of}
use Rattle.match_bindings.proofs.FlatLemmas.{before_trans, never_before_itself, Sorted, once_each, ascends_from, exactly_listed}

trees_held : (o : Observed) (xs : List BindTree) → trees_of (map (spanned_binding o) xs) ≡ xs
trees_held o [] = refl
trees_held o (x ∷ xs) = ap (λ ys. x ∷ ys) (trees_held o xs)

and_yes : (b : Bool) → (b && true) ≡ b
and_yes true = refl
and_yes false = refl

-- the trees of what is candidates without qualifiers are the bindings, each once
pub all_bindings : (log : List LogEntry) (p : NumberedPattern) → Exactly (is_binding (observed_in log) p) (trees_of (candidates (observed_in log) (length log) no_bounds p))
all_bindings log p =
    let o = observed_in log in
    let all = all_found o (length log) (rows_of log) no_bounds p in
    subst (λ (xs : List BindTree). Exactly (is_binding o p) xs) (sym (ap trees_of all.1 ∙ trees_held o all.0))
    (exactly_same (λ x. is_binding o p x && span_fits no_bounds (span_of o x)) (is_binding o p) all.0 (λ x. and_yes (is_binding o p x)) all.2)

-- ---- sorting

-- a tree put in its place
abbrev put : BindTree → List BindTree → List BindTree
put x [] = x ∷ []
put x (y ∷ ys) = cond (comes_before y x) (y ∷ put x ys) (x ∷ y ∷ ys)

abbrev sorted : List BindTree → List BindTree
sorted [] = []
sorted (x ∷ xs) = put x (sorted xs)

put_count : (z x : BindTree) (ys : List BindTree) → count z (put x ys) ≡ bit (is_same_tree z x) + count z ys
put_count z x [] = refl
put_count z x (y ∷ ys) = by (comes_before y x) (put_count z x ys) where
  by : (b : Bool) → count z (put x ys) ≡ bit (is_same_tree z x) + count z ys →
      count z (cond b (y ∷ put x ys) (x ∷ y ∷ ys)) ≡ bit (is_same_tree z x) + (bit (is_same_tree z y) + count z ys)
  by true ih = omega (arith, ih)
  by false ih = refl

sorted_count : (z : BindTree) (xs : List BindTree) → count z (sorted xs) ≡ count z xs
sorted_count z [] = refl
sorted_count z (x ∷ xs) = put_count z x (sorted xs) ∙ ap (λ n. bit (is_same_tree z x) + n) (sorted_count z xs)

one_way : (x y : BindTree) → comes_before y x ≡ true → comes_before x y ≡ false
one_way x y h = by (comes_before x y) refl where
  by : (b : Bool) → comes_before x y ≡ b → comes_before x y ≡ false
  by false e = e
  by true e = absurd (let twice : comes_before x x ≡ true = before_trans x y x e h in let never = never_before_itself x in cc)

-- after y, which it doesn't come before
put_behind : (x y : BindTree) (ys : List BindTree) → comes_before x y ≡ false → Sorted (y ∷ ys) → Sorted (put x ys) → Sorted (y ∷ put x ys)
put_behind x y [] h up put_up = (h, tt)
put_behind x y (z ∷ zs) h up put_up = by (comes_before z x) put_up where
  by : (b : Bool) → Sorted (cond b (z ∷ put x zs) (x ∷ z ∷ zs)) → Sorted (y ∷ cond b (z ∷ put x zs) (x ∷ z ∷ zs))
  by true k = (up.0, k)
  by false k = (h, k)

tail_sorted : (y : BindTree) (ys : List BindTree) → Sorted (y ∷ ys) → Sorted ys
tail_sorted y [] up = tt
tail_sorted y (z ∷ zs) up = up.1

put_sorted : (x : BindTree) (ys : List BindTree) → Sorted ys → Sorted (put x ys)
put_sorted x [] up = tt
put_sorted x (y ∷ ys) up = by (comes_before y x) refl (put_sorted x ys (tail_sorted y ys up)) where
  by : (b : Bool) → comes_before y x ≡ b → Sorted (put x ys) → Sorted (cond b (y ∷ put x ys) (x ∷ y ∷ ys))
  by true e ih = put_behind x y ys (one_way x y e) up ih
  by false e ih = (e, up)

all_sorted : (xs : List BindTree) → Sorted (sorted xs)
all_sorted [] = tt
all_sorted (x ∷ xs) = put_sorted x (sorted xs) (all_sorted xs)

pub listing_exists : (log : List LogEntry) (p : NumberedPattern) → (xs : List BindTree) × IsListing (observed_in log) p xs
listing_exists log p =
    let o = observed_in log in
    let found = trees_of (candidates o (length log) no_bounds p) in
    let each : Exactly (is_binding o p) (sorted found) = λ x. sorted_count x found ∙ all_bindings log p x in (
      sorted found,
      exactly_listed o p (sorted found) each (ascends_from o p (sorted found) (once_each (is_binding o p) (sorted found) (λ x. let e = each x in omega (arith, e))) (all_sorted found)),
    )
