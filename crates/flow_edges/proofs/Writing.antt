-- Bytes that are written piece by piece: what is done, and what is left to do.
use Rattle.std.proofs.Common.{◌≡◌, ℕ, ◌<◌, ◌≤◌, List, [], ◌∷◌, ◌++◌, Option, Some, None, length, take, drop, refl, sym, ap, ◌∙◌, arith, append_assoc, length-append, length-drop, ◌-◌, ◌+◌, get_or, add-one, Bor}
use Rattle.std.proofs.lemmas.List.{append-nil, take-append-drop, take-append-le}
use Rattle.std.proofs.lemmas.Grind.{flat_map-append}
use Rattle.std.proofs.Math.Seq.{take-append_seam, take-length, take-append-add, take-suc}
use Rattle.std.specs.Prelude.{Result, Ok, Err, IsErr, OnErr}
use Rattle.flow_edges.specs.Flow.{written_with, WritesPrefix, WritesPart, WritesWhole, joined_slices}

pub written_with-written_with : (a b : List ℕ) (w : Option (List ℕ)) → written_with b (written_with a w) ≡ written_with (a ++ b) w
written_with-written_with a b None = refl
written_with-written_with a b (Some bytes) = ap Some (append_assoc bytes a b)

-- `&s[n..]` as a list
pub tail_slice : (n : ℕ) (s : List ℕ) → take (length s - n) (drop n s) ≡ drop n s
tail_slice n s = ap (λ k. take k (drop n s)) (sym (length-drop n s)) ∙ take-length (drop n s)

-- of all bytes the first ones are written, and the rest is not
pub record IsPartWay (all rest : List ℕ) (before now : Option (List ℕ)) : Type 0 where
  pub done : List ℕ
  pub cut : all ≡ done ++ rest
  pub written : now ≡ written_with done before

pub part_way-step : (all rest : List ℕ) (before now later : Option (List ℕ)) (n : ℕ) → IsPartWay all rest before now → later ≡ written_with (take n rest) now → IsPartWay all (drop n rest) before later
part_way-step all rest before now later n way more = record {
  done = way.done ++ take n rest;
  cut = way.cut ∙ ap (λ tail. way.done ++ tail) (sym (take-append-drop n rest)) ∙ sym (append_assoc way.done (take n rest) (drop n rest));
  written = more ∙ ap (λ w. written_with (take n rest) w) way.written ∙ written_with-written_with way.done (take n rest) before;
}

-- a code's `&rest[n..]`
pub part_way-slice : (all rest : List ℕ) (before now later : Option (List ℕ)) (n : ℕ) → IsPartWay all rest before now → later ≡ written_with (take n rest) now → IsPartWay all (take (length rest - n) (drop n rest)) before later
part_way-slice all rest before now later n way more =
    rw (tail_slice n rest) (part_way-step all rest before now later n way more)

pub part_way-prefix : (all rest : List ℕ) (before now later : Option (List ℕ)) → IsPartWay all rest before now → later ≡ now → WritesPrefix all before later
part_way-prefix all rest before now later way same = (
  length way.done,
  omega (arith, ap length way.cut, length-append way.done rest),
  same ∙ way.written ∙ ap (λ done. written_with done before) (sym (ap (take (length way.done)) way.cut ∙ take-append_seam way.done rest)),
)

pub part_way-part : (all rest : List ℕ) (before now later : Option (List ℕ)) → 0 < length rest → IsPartWay all rest before now → later ≡ now → WritesPart all before later
part_way-part all rest before now later some way same = (
  length way.done,
  omega (arith, ap length way.cut, length-append way.done rest, some),
  same ∙ way.written ∙ ap (λ done. written_with done before) (sym (ap (take (length way.done)) way.cut ∙ take-append_seam way.done rest)),
)

-- ---- several pieces

pub joined-step : (pieces : List (Bor (List ℕ))) (i : ℕ) (d : Bor (List ℕ)) → i < length pieces → joined_slices (take (i + 1) pieces) ≡ joined_slices (take i pieces) ++ (get_or pieces i d).now
joined-step pieces i d within =
    ap (λ k. joined_slices (take k pieces)) (add-one i) ∙ ap joined_slices (take-suc pieces i d within)
    ∙ flat_map-append (λ (p : Bor (List ℕ)). p.now) (take i pieces) (get_or pieces i d ∷ [])
    ∙ ap (λ last. joined_slices (take i pieces) ++ last) (append-nil (get_or pieces i d).now)

pub joined-split : (pieces : List (Bor (List ℕ))) (i : ℕ) → joined_slices pieces ≡ joined_slices (take i pieces) ++ joined_slices (drop i pieces)
joined-split pieces i = ap joined_slices (sym (take-append-drop i pieces)) ∙ flat_map-append (λ (p : Bor (List ℕ)). p.now) (take i pieces) (drop i pieces)

-- the first bytes of a piece after the pieces before it are the first bytes of all
pub first-joined : (pieces : List (Bor (List ℕ))) (i : ℕ) (d : Bor (List ℕ)) (before mid now : Option (List ℕ)) (n : ℕ) → i < length pieces
    → mid ≡ written_with (joined_slices (take i pieces)) before → n ≤ length (get_or pieces i d).now → now ≡ written_with (take n (get_or pieces i d).now) mid
    → now ≡ written_with (take (length (joined_slices (take i pieces)) + n) (joined_slices pieces)) before
first-joined pieces i d before mid now n within done short more =
    let piece = (get_or pieces i d).now in
    let front = joined_slices (take i pieces) in
    let back = joined_slices (drop (i + 1) pieces) in
    let split : joined_slices pieces ≡ front ++ (piece ++ back) =
    joined-split pieces (i + 1) ∙ ap (λ some. some ++ back) (joined-step pieces i d within) ∙ append_assoc front piece back in
    let cut : take (length front + n) (joined_slices pieces) ≡ front ++ take n piece =
    ap (take (length front + n)) split ∙ take-append-add front (piece ++ back) n ∙ ap (λ some. front ++ some) (take-append-le n piece back short) in
    more ∙ ap (λ w. written_with (take n piece) w) done ∙ written_with-written_with front (take n piece) before ∙ ap (λ some. written_with some before) (sym cut)

-- the pieces together are as long as the parts of them
pub length-joined : (pieces : List (Bor (List ℕ))) (i : ℕ) (d : Bor (List ℕ)) → i < length pieces
    → length (joined_slices pieces) ≡ length (joined_slices (take i pieces)) + (length (get_or pieces i d).now + length (joined_slices (drop (i + 1) pieces)))
length-joined pieces i d within =
    let piece = (get_or pieces i d).now in
    let front = joined_slices (take i pieces) in
    let back = joined_slices (drop (i + 1) pieces) in
    omega (
      arith,
      ap length (joined-split pieces (i + 1) ∙ ap (λ some. some ++ back) (joined-step pieces i d within) ∙ append_assoc front piece back),
      length-append front (piece ++ back),
      length-append piece back,
    )

-- a prefix of a piece after the pieces before it is a prefix of all
pub prefix-joined : (pieces : List (Bor (List ℕ))) (i : ℕ) (d : Bor (List ℕ)) (before mid now : Option (List ℕ)) → i < length pieces
    → mid ≡ written_with (joined_slices (take i pieces)) before → WritesPrefix (get_or pieces i d).now mid now → WritesPrefix (joined_slices pieces) before now
prefix-joined pieces i d before mid now within done prefix = (
  length (joined_slices (take i pieces)) + prefix.0,
  omega (arith, length-joined pieces i d within, prefix.1),
  first-joined pieces i d before mid now prefix.0 within done prefix.1 prefix.2,
)

-- less than a piece after the pieces before it is less than all
pub part-joined : (pieces : List (Bor (List ℕ))) (i : ℕ) (d : Bor (List ℕ)) (before mid now : Option (List ℕ)) → i < length pieces
    → mid ≡ written_with (joined_slices (take i pieces)) before → WritesPart (get_or pieces i d).now mid now → WritesPart (joined_slices pieces) before now
part-joined pieces i d before mid now within done part = (
  length (joined_slices (take i pieces)) + part.0,
  omega (arith, length-joined pieces i d within, part.1),
  first-joined pieces i d before mid now part.0 within done (omega (arith, part.1)) part.2,
)

-- a call that hands a fault on has written a part
pub when_err : {T E : Type 0} (P : Type 0) (answer : Result T E) → P → OnErr answer P
when_err P (Ok done) holds = tt
when_err P (Err fault) holds = holds

-- a call that hands a fault on has written a prefix
pub writes_whole-err : {T E : Type 0} (bytes : List ℕ) (before now : Option (List ℕ)) (answer : Result T E) → IsErr answer → WritesPrefix bytes before now
    → WritesWhole bytes before now answer
writes_whole-err bytes before now (Ok done) failed part = absurd (cc failed)
writes_whole-err bytes before now (Err fault) failed part = part
