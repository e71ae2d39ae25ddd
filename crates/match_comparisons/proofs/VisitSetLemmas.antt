-- One more place.
use Rattle.std.proofs.Common.{◌≡◌, ◌↔◌, ◌⊎◌, inl, inr, ℕ, Bool, true, false, cond, sym, ap, subst, ◌∙◌, refl, Ordering}
use Rattle.std.proofs.lemmas.Map.Lookups.{exact_pairs, exact_unsigned}
use Rattle.std.proofs.lemmas.Map.Views.{tells_apart}
use Rattle.std.specs.BTreeSet.{contains}
use Rattle.std.specs.BTreeMap.{is_at}
use Rattle.std.specs.Ordering.{nat_cmp, ordering_then}
use Rattle.match_comparisons.specs.declared.visit_set.VisitSet.{VisitSet}
use Rattle.match_comparisons.specs.inner.VisitSet.{HasVisit}

-- the order of pairs
abbrev pub pair_cmp : ℕ × ℕ → ℕ × ℕ → Ordering
pair_cmp x y = ordering_then (nat_cmp x.0 y.0) (nat_cmp x.1 y.1)

either : (new here before : Bool) → new ≡ cond here true before → new ≡ true → (before ≡ true) ⊎ (here ≡ true)
either new true before is has = inr refl
either new false before is has = inl (sym is ∙ has)

kept : (new here before : Bool) → new ≡ cond here true before → before ≡ true → new ≡ true
kept new true before is has = is
kept new false before is has = is ∙ has

pub one_more : (left at : ℕ) (old new : VisitSet)
    → ((q : ℕ × ℕ) → contains pair_cmp new.pairs q ≡ cond (is_at (pair_cmp (left, at)) q) true (contains pair_cmp old.pairs q)) → HasVisit new left at
    → (count place : ℕ) → HasVisit new count place ↔ (HasVisit old count place ⊎ ((count ≡ left) × (place ≡ at)))
one_more left at old new each itself count place =
    let now = contains pair_cmp new.pairs (count, place) in
    let before = contains pair_cmp old.pairs (count, place) in
    let here = is_at (pair_cmp (left, at)) (count, place) in
    let is : now ≡ cond here true before = each (count, place) in (
      λ has. elim (either now here before is has) [
        | inl had ↦ inl had
        | inr same ↦
            let pair : (left, at) ≡ (count, place) = tells_apart (exact_pairs nat_cmp nat_cmp exact_unsigned exact_unsigned) (left, at) (count, place) same in
            inr (sym (ap (λ (p : ℕ × ℕ). p.0) pair), sym (ap (λ (p : ℕ × ℕ). p.1) pair))
      ],
      λ some. elim some [
        | inl had ↦ kept now here before is had
        | inr same ↦ subst (λ (n : ℕ). HasVisit new n place) (sym same.0) (subst (HasVisit new left) (sym same.1) itself)
      ],
    )
