-- What is known of the roots of a bundle, once there is room for more, once more are known, and once positions were added.
use Rattle.std.proofs.Common.{◌≡◌, ℕ, arith, ◌+◌, ◌<◌, ◌≤◌, List, [], ◌∷◌, ◌++◌, length, take, get_or, set, sym, subst, ◌∙◌, ap, inl, inr}
use Rattle.std.specs.Prelude.{◌⊎◌, ◌↔◌, Contains, Option, None, Some, slice_get}
use Rattle.hunt_engine.specs.inner.Memos.{IsMemoized, AddsRoot, InsertsEmpty, AddsPositions}
use Rattle.std.proofs.lemmas.Option.{slice_get_within}
use Rattle.std.proofs.lemmas.List.{take_more, set-set}
use Rattle.match_comparisons.proofs.ContainsLemmas.{none_in, in_more}
use Rattle.hunt_engine.proofs.PositionLemmas.{seam, get_left, get_one, same_or_other, get_set, get_set_other, get_read}

none_there : (memo : List (Option (List ℕ))) (root : ℕ) (positions : List ℕ) → slice_get (memo ++ None ∷ []) root ≡ Some (Some positions) → slice_get memo root ≡ Some (Some positions)
none_there memo root positions at = by (seam memo (None ∷ []) root (Some positions) at) where
  by : ((root < length memo) × (slice_get memo root ≡ Some (Some positions))) ⊎ ((j : ℕ) × (root ≡ length memo + j) × (slice_get (None ∷ []) j ≡ Some (Some positions))) → slice_get memo root ≡ Some (Some positions)
  by (inl h) = h.1
  by (inr (j, e, h)) = let own = get_one None (Some positions) j h in let is = own.1 in absurd (cc)

pub none_more : (memo : List (Option (List ℕ))) (root : ℕ) (positions : List ℕ) → slice_get (memo ++ None ∷ []) root ≡ Some (Some positions) ↔ slice_get memo root ≡ Some (Some positions)
none_more memo root positions = (λ at. none_there memo root positions at, λ at. get_left memo (None ∷ []) root (Some positions) at)

-- a root is written where there is room for it, among what was known
pub adds_root : (root : ℕ) (positions : List ℕ) (old room : List (Option (List ℕ))) → root < length room
    → ((other : ℕ) (kept : List ℕ) → slice_get room other ≡ Some (Some kept) ↔ slice_get old other ≡ Some (Some kept)) → AddsRoot root positions old (set room root (Some positions))
adds_root root positions old room inside kept = record {
  added = get_set room root (Some positions) inside;
  stays = λ other memo. stays other memo (same_or_other root other);
  no_other = λ other own at. by other own at (same_or_other root other);
} where
  stays : (other : ℕ) → IsMemoized old other → (root ≡ other) ⊎ (root ≡ other → ⊥) → IsMemoized (set room root (Some positions)) other
  stays other memo (inl e) = (positions, ap (slice_get (set room root (Some positions))) (sym e) ∙ get_set room root (Some positions) inside)
  stays other memo (inr e) = (memo.0, get_set_other room root other (Some positions) e ∙ (kept other memo.0).1 memo.1)

  by : (other : ℕ) (own : List ℕ) → slice_get (set room root (Some positions)) other ≡ Some (Some own) → (root ≡ other) ⊎ (root ≡ other → ⊥) → (slice_get old other ≡ Some (Some own)) ⊎ ((other ≡ root) × (own ≡ positions))
  by other own at (inl e) =
      let is : Some (Some positions) ≡ Some (Some own) = sym (get_set room root (Some positions) inside) ∙ ap (slice_get (set room root (Some positions))) e ∙ at in
      inr (sym e, cc)
  by other own at (inr e) = inl ((kept other own).0 (sym (get_set_other room root other (Some positions) e) ∙ at))

-- ---- roots with no positions yet

pub opens_none : (memo : List (Option (List ℕ))) → InsertsEmpty [] memo memo
opens_none memo = record {
  there = λ root has. absurd (none_in root has);
  no_other = λ root positions at. inl at;
}

-- one more
pub opens_more : (roots : List ℕ) (root : ℕ) (old mid new : List (Option (List ℕ))) → InsertsEmpty roots old mid → AddsRoot root [] mid new → InsertsEmpty (roots ++ root ∷ []) old new
opens_more roots root old mid new far adds = record {
  there = λ other has. there other ((in_more roots root other).0 has);
  no_other = λ other positions at. no_other other positions (adds.no_other other positions at);
} where
  there : (other : ℕ) → Contains roots other ⊎ (other ≡ root) → IsMemoized new other
  there other (inl has) = adds.stays other (far.there other has)
  there other (inr e) = ([], ap (slice_get new) e ∙ adds.added)

  no_other : (other : ℕ) (positions : List ℕ) → (slice_get mid other ≡ Some (Some positions)) ⊎ ((other ≡ root) × (positions ≡ []))
      → (slice_get old other ≡ Some (Some positions)) ⊎ (Contains (roots ++ root ∷ []) other × (positions ≡ []))
  no_other other positions (inl at) = elim (far.no_other other positions at) [
    | inl before ↦ inl before
    | inr (has, none) ↦ inr ((in_more roots root other).1 (inl has), none)
  ]
  no_other other positions (inr (e, none)) = inr ((in_more roots root other).1 (inr e), none)

-- ---- positions that are added

-- nothing is
pub adds_none : (IsAdded : ℕ → ℕ → Type 0) (memo : List (Option (List ℕ))) → ((root position : ℕ) → ¬ IsAdded root position) → AddsPositions IsAdded memo memo
adds_none IsAdded memo none = record {
  stays = λ root it. it;
  positions = λ root after at. (after, at, λ position. (λ has. inl has, λ some. elim some [ inl has ↦ has | inr added ↦ absurd (none root position added) ]));
}

-- some are, and then others
pub adds_both : (IsFirst IsSecond IsEither : ℕ → ℕ → Type 0) (old mid new : List (Option (List ℕ))) → AddsPositions IsFirst old mid → AddsPositions IsSecond mid new
    → ((root position : ℕ) → IsEither root position ↔ (IsFirst root position ⊎ IsSecond root position)) → AddsPositions IsEither old new
adds_both IsFirst IsSecond IsEither old mid new first second either = record {
  stays = λ root it. second.stays root (first.stays root it);
  positions = λ root after at.
      let late = second.positions root after at in
      let early = first.positions root late.0 late.1 in (
        early.0,
        early.1,
        λ position. (
          λ has. elim ((late.2 position).0 has) [
            | inl between ↦ elim ((early.2 position).0 between) [
              | inl before ↦ inl before
              | inr is ↦ inr ((either root position).1 (inl is))
            ]
            | inr is ↦ inr ((either root position).1 (inr is))
          ],
          λ some. elim some [
            | inl before ↦ (late.2 position).1 (inl ((early.2 position).1 (inl before)))
            | inr is ↦ elim ((either root position).0 is) [
              | inl is ↦ (late.2 position).1 (inl ((early.2 position).1 (inr is)))
              | inr is ↦ (late.2 position).1 (inr is)
            ]
          ],
        ),
      );
}

-- the same, in other words
pub adds_same : (IsOne IsOther : ℕ → ℕ → Type 0) (old new : List (Option (List ℕ))) → ((root position : ℕ) → IsOne root position ↔ IsOther root position) → AddsPositions IsOne old new → AddsPositions IsOther old new
adds_same IsOne IsOther old new same adds = record {
  stays = adds.stays;
  positions = λ root after at.
      let it = adds.positions root after at in (
        it.0,
        it.1,
        λ position. (
          λ has. elim ((it.2 position).0 has) [ inl before ↦ inl before | inr is ↦ inr ((same root position).0 is) ],
          λ some. elim some [ inl before ↦ (it.2 position).1 (inl before) | inr is ↦ (it.2 position).1 (inr ((same root position).1 is)) ],
        ),
      );
}

-- one is, to those of one root
pub adds_one : (root position : ℕ) (own : List ℕ) (memo : List (Option (List ℕ))) → slice_get memo root ≡ Some (Some own)
    → AddsPositions (λ (other added : ℕ). (other ≡ root) × (added ≡ position)) memo (set memo root (Some (own ++ position ∷ [])))
adds_one root position own memo is = record {
  stays = λ other it. stays other it (same_or_other root other);
  positions = λ other after at. positions other after at (same_or_other root other);
} where
  inside : root < length memo
  inside = slice_get_within memo root (Some own) is

  stays : (other : ℕ) → IsMemoized memo other → (root ≡ other) ⊎ (root ≡ other → ⊥) → IsMemoized (set memo root (Some (own ++ position ∷ []))) other
  stays other it (inl e) = (own ++ position ∷ [], ap (slice_get (set memo root (Some (own ++ position ∷ [])))) (sym e) ∙ get_set memo root (Some (own ++ position ∷ [])) inside)
  stays other it (inr e) = (it.0, get_set_other memo root other (Some (own ++ position ∷ [])) e ∙ it.1)

  positions : (other : ℕ) (after : List ℕ) → slice_get (set memo root (Some (own ++ position ∷ []))) other ≡ Some (Some after) → (root ≡ other) ⊎ (root ≡ other → ⊥)
      → (before : List ℕ) × (slice_get memo other ≡ Some (Some before)) × ((added : ℕ) → Contains after added ↔ (Contains before added ⊎ ((other ≡ root) × (added ≡ position))))
  positions other after at (inl e) =
      let here : Some (Some (own ++ position ∷ [])) ≡ Some (Some after) = sym (get_set memo root (Some (own ++ position ∷ [])) inside) ∙ ap (slice_get (set memo root (Some (own ++ position ∷ [])))) e ∙ at in
      let same : own ++ position ∷ [] ≡ after = cc in (
        own,
        ap (slice_get memo) (sym e) ∙ is,
        λ added. (
          λ has. elim ((in_more own position added).0 (subst (λ (l : List ℕ). Contains l added) (sym same) has)) [
            | inl before ↦ inl before
            | inr now ↦ inr (sym e, now)
          ],
          λ some. subst (λ (l : List ℕ). Contains l added) same (elim some [
            | inl before ↦ (in_more own position added).1 (inl before)
            | inr now ↦ (in_more own position added).1 (inr now.1)
          ]),
        ),
      )
  positions other after at (inr e) = (
    after,
    sym (get_set_other memo root other (Some (own ++ position ∷ [])) e) ∙ at,
    λ added. (
      λ has. inl has,
      λ some. elim some [
        | inl has ↦ has
        | inr now ↦ absurd (e (sym now.0))
      ],
    ),
  )

-- one of some roots more has the position
pub adds_next : (roots : List ℕ) (i position : ℕ) (old mid new : List (Option (List ℕ))) → i < length roots → AddsPositions (λ (root added : ℕ). (added ≡ position) × Contains (take i roots) root) old mid
    → AddsPositions (λ (root added : ℕ). (root ≡ get_or roots i 0) × (added ≡ position)) mid new → AddsPositions (λ (root added : ℕ). (added ≡ position) × Contains (take (i + 1) roots) root) old new
adds_next roots i position old mid new below far adds =
    subst (λ (l : List ℕ). AddsPositions (λ (root added : ℕ). (added ≡ position) × Contains l root) old new) (sym (take_more roots i 0 below))
    (adds_both (λ (root added : ℕ). (added ≡ position) × Contains (take i roots) root) (λ (root added : ℕ). (root ≡ get_or roots i 0) × (added ≡ position))
    (λ (root added : ℕ). (added ≡ position) × Contains (take i roots ++ get_or roots i 0 ∷ []) root) old mid new far adds (λ root added. (
      λ it. elim ((in_more (take i roots) (get_or roots i 0) root).0 it.1) [ inl before ↦ inl (it.0, before) | inr now ↦ inr (now, it.0) ],
      λ some. elim some [
        | inl before ↦ (before.0, (in_more (take i roots) (get_or roots i 0) root).1 (inl before.1))
        | inr now ↦ (now.1, (in_more (take i roots) (get_or roots i 0) root).1 (inr now.0))
      ],
    )))

-- of a root that isn't known nothing is
pub adds_outside : (root position : ℕ) (memo : List (Option (List ℕ))) → length memo ≤ root → AddsPositions (λ (other added : ℕ). (other ≡ root) × (added ≡ position)) memo memo
adds_outside root position memo outside = record {
  stays = λ other it. it;
  positions = λ other after at. (
    after,
    at,
    λ added. (
      λ has. inl has,
      λ some. elim some [
        | inl has ↦ has
        | inr now ↦ let inside = slice_get_within memo other (Some after) at in let same = now.0 in absurd (omega (arith, inside, same, outside))
      ],
    ),
  );
}

pub adds_unknown : (root position : ℕ) (memo : List (Option (List ℕ))) → slice_get memo root ≡ Some None → AddsPositions (λ (other added : ℕ). (other ≡ root) × (added ≡ position)) memo (set memo root None)
adds_unknown root position memo is = record {
  stays = λ other it. (it.0, get_set_other memo root other None (other_than other it) ∙ it.1);
  positions = λ other after at. (
    after,
    sym (get_set_other memo root other None (other_after other after at)) ∙ at,
    λ added. (
      λ has. inl has,
      λ some. elim some [
        | inl has ↦ has
        | inr now ↦ absurd (other_after other after at (sym now.0))
      ],
    ),
  );
} where
  other_than : (other : ℕ) → IsMemoized memo other → root ≡ other → ⊥
  other_than other (positions, at) e = let here : Some None ≡ Some (Some positions) = sym is ∙ ap (slice_get memo) e ∙ at in cc

  other_after : (other : ℕ) (after : List ℕ) → slice_get (set memo root None) other ≡ Some (Some after) → root ≡ other → ⊥
  other_after other after at e = let here : Some None ≡ Some (Some after) = sym (get_set memo root None (slice_get_within memo root None is)) ∙ ap (slice_get (set memo root None)) e ∙ at in cc

-- the positions of a root, taken out, grown by one and put back
pub adds_back : (root position : ℕ) (memo : List (Option (List ℕ))) (lent taken : Option (List ℕ)) (own more : List ℕ) (new : List (Option (List ℕ))) → root < length memo → lent ≡ get_or memo root lent → Some own ≡ lent
    → more ≡ own ++ position ∷ [] → new ≡ set (set memo root taken) root (Some more) → AddsPositions (λ (other added : ℕ). (other ≡ root) × (added ≡ position)) memo new
adds_back root position memo lent taken own more new below is some grown written =
    subst (AddsPositions (λ (other added : ℕ). (other ≡ root) × (added ≡ position)) memo)
    (sym (written ∙ set-set memo root taken (Some more) ∙ ap (λ (l : List ℕ). set memo root (Some l)) grown))
    (adds_one root position own memo (get_read memo root lent below is ∙ ap Some (sym some)))

-- there are none to take out
pub adds_empty : (root position : ℕ) (memo : List (Option (List ℕ))) (lent taken : Option (List ℕ)) → root < length memo → lent ≡ get_or memo root lent → None ≡ lent → taken ≡ None
    → AddsPositions (λ (other added : ℕ). (other ≡ root) × (added ≡ position)) memo (set memo root taken)
adds_empty root position memo lent taken below is none left =
    subst (λ (o : Option (List ℕ)). AddsPositions (λ (other added : ℕ). (other ≡ root) × (added ≡ position)) memo (set memo root o)) (sym left)
    (adds_unknown root position memo (get_read memo root lent below is ∙ ap Some (sym none)))
