-- What is written of a text in parts.
use Rattle.std.proofs.Common.{◌≡◌, ℕ, ◌+◌, List, ◌++◌, length, take, Option, Some, None, append_assoc, sym, ap, ◌∙◌, arith}
use Rattle.std.proofs.Math.Seq.{take-append-add}
use Rattle.std.proofs.lemmas.List.{take-append-le, length-append}
use Rattle.std.specs.Prelude.{Result, Ok, Err, IsErr}
use Rattle.flow_edges.specs.Flow.{written_with, WritesPrefix, WritesWhole}

-- one text after another
pub after_whole : (a b : List ℕ) (before mid now : Option (List ℕ)) → mid ≡ written_with a before → now ≡ written_with b mid → now ≡ written_with (a ++ b) before
after_whole a b None mid now first second = second ∙ ap (λ (m : Option (List ℕ)). written_with b m) first
after_whole a b (Some l) mid now first second = second ∙ ap (λ (m : Option (List ℕ)). written_with b m) first ∙ ap Some (append_assoc l a b)

-- a prefix of the first of two
pub front_part : (a b : List ℕ) (before now : Option (List ℕ)) → WritesPrefix a before now → WritesPrefix (a ++ b) before now
front_part a b before now (n, within, is) =
    (n, (let e : length (a ++ b) ≡ length a + length b = length-append a b in omega (arith, e)), is ∙ ap (λ (t : List ℕ). written_with t before) (sym (take-append-le n a b within)))

-- the first of two whole, and a prefix of the second
pub after_part : (a b : List ℕ) (before mid now : Option (List ℕ)) → mid ≡ written_with a before → WritesPrefix b mid now → WritesPrefix (a ++ b) before now
after_part a b before mid now first (n, within, is) =
    (length a + n, (let e : length (a ++ b) ≡ length a + length b = length-append a b in omega (arith, e)), after_whole a (take n b) before mid now first is ∙ ap (λ (t : List ℕ). written_with t before) (sym (take-append-add a b n)))

-- a call that hands a fault on has written a prefix
pub writes_whole-err : {T E : Type 0} (bytes : List ℕ) (before now : Option (List ℕ)) (answer : Result T E) → IsErr answer → WritesPrefix bytes before now
    → WritesWhole bytes before now answer
writes_whole-err bytes before now (Ok done) failed part = absurd (cc failed)
writes_whole-err bytes before now (Err fault) failed part = part
