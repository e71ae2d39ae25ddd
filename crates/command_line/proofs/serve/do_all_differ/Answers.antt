use Rattle.std.proofs.Common.{◌≡◌, ◌+◌, ◌-◌, ◌∷◌, ◌<◌, ◌≤◌, [], ℕ, List, false, true, drop, take, get_or, length, refl, sym, ap, ◌∙◌, subst, arith, add-one, drop-cons, length-drop}
use Rattle.std.proofs.lemmas.Bool.{false≢true}
use Rattle.std.proofs.lemmas.List.{take_all}
use Rattle.std.specs.Prelude.{nat_eq}
use Rattle.std.specs.List.{IsDistinct}
use Rattle.command_line.specs.declared.request.CollectionRequest.{CollectionRequest}
use Rattle.command_line.proofs.DistinctLemmas.{among, first_again, first_differs, ids, none_left}
use Rattle.command_line.proofs.serve.do_all_differ.Goals as goal

abbrev nothing : CollectionRequest
nothing = record { id = 0; can_read = false; can_write = false; title = record { ref_ptr = (0, 0); now = [] } }

behind : (collections : List CollectionRequest) (place : ℕ) → take (length collections - (place + 1)) (drop (place + 1) collections) ≡ drop (place + 1) collections
behind collections place = take_all (length collections - (place + 1)) (drop (place + 1) collections) (omega (arith, length-drop (place + 1) collections))

from_here : (collections : List CollectionRequest) (place : ℕ) → place < length collections → drop place collections ≡ get_or collections place nothing ∷ drop (place + 1) collections
from_here collections place inside = rw add-one (drop-cons collections place nothing inside)

pub returns-then-has_id : goal.returns-then-has_id
returns-then-has_id c =
    let all = c.args.collections.now in
    let place = c.loop-place.place in
    let here = get_or all place nothing in
    let told : c.has_id.result ≡ among here.id (take (length all - (place + 1)) (drop (place + 1) all)) = c.has_id.ensures in
    let again : among here.id (drop (place + 1) all) ≡ true = ap (among here.id) (sym (behind all place)) ∙ sym told ∙ c.if-has_id.true in (
      λ e. absurd (false≢true e),
      λ differ. absurd (first_again here (drop (place + 1) all) again
          (subst (λ (xs : List CollectionRequest). IsDistinct nat_eq (ids xs)) (from_here all place c.loop-place-test.true) (c.loop-place.invariant.0 differ))),
    )

pub loop-place-preserved : goal.loop-place-preserved
loop-place-preserved c =
    let all = c.args.collections.now in
    let place = c.loop-place.place in
    let here = get_or all place nothing in
    let told : c.has_id.result ≡ among here.id (take (length all - (place + 1)) (drop (place + 1) all)) = c.has_id.ensures in
    let other : among here.id (drop (place + 1) all) ≡ false = ap (among here.id) (sym (behind all place)) ∙ sym told ∙ c.if-has_id.false in
    let both = first_differs here (drop (place + 1) all) other in
    let now = from_here all place c.loop-place-test.true in (
      λ differ. both.0 (subst (λ (xs : List CollectionRequest). IsDistinct nat_eq (ids xs)) now (c.loop-place.invariant.0 differ)),
      λ differ. c.loop-place.invariant.1 (subst (λ (xs : List CollectionRequest). IsDistinct nat_eq (ids xs)) (sym now) (both.1 differ)),
    )

none_behind : (collections : List CollectionRequest) (place : ℕ) → length collections ≤ place → IsDistinct nat_eq (ids (drop place collections))
none_behind collections place end = go (drop place collections) (omega (arith, length-drop place collections))
  where
    go : (xs : List CollectionRequest) → length xs ≡ 0 → IsDistinct nat_eq (ids xs)
    go [] e = none_left
    go (x ∷ xs) e = absurd (omega arith)

pub returns : goal.returns
returns c =
    let end = none_behind c.args.collections.now c.loop-place.place c.loop-place-test.false in
    (λ e. c.loop-place.invariant.1 end, λ e. refl)
