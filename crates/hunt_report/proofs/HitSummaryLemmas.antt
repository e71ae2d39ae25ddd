-- What is kept of each indicator: over more rows, with more hits, and in order of time.
use Rattle.std.proofs.Common.{◌≡◌, inl, inr, ℕ, zero, suc, ◌<◌, ℤ, ◌≤ℤ◌, true, false, Option, Some, None, List, [], ◌∷◌, ◌++◌, length, set, get_or, refl, sym, ap, subst, ◌∙◌, append_assoc, length-append, arith}
use Rattle.std.specs.Prelude.{◌⊎◌, nat_eq, replicate, slice_get}
use Rattle.std.proofs.lemmas.Bool.{eq-eqb, ne_eqb}
use Rattle.std.proofs.lemmas.Int.{ints}
use Rattle.std.proofs.lemmas.List.{append-nil, length-set}
use Rattle.std.proofs.lemmas.Option.{slice_get-get_or}
use Rattle.match_bindings.specs.BindTree.{BindTree, tree_of}
use Rattle.hunt_engine.specs.declared.found.Hit.{Hit}
use Rattle.hunt_engine.specs.EngineLog.{ObservationRow}
use Rattle.hunt_engine.specs.EngineAnswer.{binds_at}
use Rattle.hunt_report.proofs.PlaceLemmas.{same_or_other, get_left, get_set, get_set_other}
use Rattle.hunt_report.specs.declared.hit_summary.HitSummary.{HitSummary}
use Rattle.hunt_report.specs.HitSummaries.{EndsWhen, IsHitSummaryOf, IsHitSummary}
use Rattle.hunt_report.specs.inner.Noting.{hit_summary_after, noted, all_noted, AreBefore, AreSummariesInOrder}
use Rattle.hunt_report.proofs.HitsLemmas.{binds_append}

-- ---- over more rows

ends-more : (rows more : List ObservationRow) (tree : BindTree) (time : ℤ) → EndsWhen rows tree time → EndsWhen (rows ++ more) tree time
ends-more rows more tree time ends = record {
  before = ends.before;
  number = ends.number;
  row = ends.row;
  there = get_left rows more ends.before ends.row ends.there;
  time_is = ends.time_is;
}

pub hit_summary-rows : (rows more : List ObservationRow) (trees : List BindTree) (hit_summary : Option HitSummary) → IsHitSummary rows trees hit_summary → IsHitSummary (rows ++ more) trees hit_summary
hit_summary-rows rows more trees None is = is
hit_summary-rows rows more trees (Some hit_summary) is = record {
  count = is.count;
  one = is.one;
  behind_it = is.behind_it;
  begins = is.begins;
  first = ends-more rows more is.one hit_summary.first is.first;
  other = is.other;
  ahead_of_it = is.ahead_of_it;
  ends = is.ends;
  last = ends-more rows more is.other hit_summary.last is.last;
}

-- ---- with one binding more

hit_summary-tree : (rows : List ObservationRow) (trees : List BindTree) (tree : BindTree) (last : ℤ) (hit_summary : Option HitSummary) → IsHitSummary rows trees hit_summary
    → EndsWhen rows tree last → IsHitSummaryOf rows (trees ++ tree ∷ []) (hit_summary_after last hit_summary)
hit_summary-tree rows trees tree last None is ends =
    let alone : trees ++ tree ∷ [] ≡ tree ∷ [] = ap (λ (l : List BindTree). l ++ tree ∷ []) is in record {
      count = omega (arith, ap length alone);
      one = tree;
      behind_it = [];
      begins = alone;
      first = ends;
      other = tree;
      ahead_of_it = [];
      ends = alone;
      last = ends;
    }
hit_summary-tree rows trees tree last (Some hit_summary) is ends = record {
  count = omega (arith, is.count, length-append trees (tree ∷ []));
  one = is.one;
  behind_it = is.behind_it ++ tree ∷ [];
  begins = ap (λ (l : List BindTree). l ++ tree ∷ []) is.begins;
  first = is.first;
  other = tree;
  ahead_of_it = trees;
  ends = refl;
  last = ends;
}

-- ---- with one hit more

-- what is kept at each place is what was seen there
abbrev pub AreHitSummaries : List ObservationRow → List Hit → List (Option HitSummary) → Type 0
AreHitSummaries rows hits hit_summaries = (place : ℕ) (hit_summary : Option HitSummary) → slice_get hit_summaries place ≡ Some hit_summary → IsHitSummary rows (binds_at place hits) hit_summary

own_bind : (hit : Hit) → binds_at hit.hunted (hit ∷ []) ≡ tree_of hit.bind ∷ []
own_bind hit = let yes : nat_eq hit.hunted hit.hunted ≡ true = eq-eqb hit.hunted hit.hunted refl in rw yes refl

other_bind : (hit : Hit) (place : ℕ) → (hit.hunted ≡ place → ⊥) → binds_at place (hit ∷ []) ≡ []
other_bind hit place apart = let no : nat_eq hit.hunted place ≡ false = ne_eqb hit.hunted place apart in rw no refl

hit_summaries-hit : (rows : List ObservationRow) (hits : List Hit) (hit_summaries : List (Option HitSummary)) (last : ℤ) (hit : Hit) → hit.hunted < length hit_summaries
    → EndsWhen rows (tree_of hit.bind) last → AreHitSummaries rows hits hit_summaries → AreHitSummaries rows (hits ++ hit ∷ []) (noted last hit hit_summaries)
hit_summaries-hit rows hits hit_summaries last hit inside ends are place hit_summary at = by (same_or_other hit.hunted place)
  where
    by : (hit.hunted ≡ place) ⊎ (hit.hunted ≡ place → ⊥) → IsHitSummary rows (binds_at place (hits ++ hit ∷ [])) hit_summary
    by (inl here) =
        let now : Option HitSummary = Some (hit_summary_after last (get_or hit_summaries hit.hunted None)) in
        let own : slice_get (set hit_summaries hit.hunted now) hit.hunted ≡ Some hit_summary = ap (slice_get (set hit_summaries hit.hunted now)) here ∙ at in
        let is : now ≡ hit_summary = (let e = get_set hit_summaries hit.hunted now inside in cc) in
        let before = are hit.hunted (get_or hit_summaries hit.hunted None) (slice_get-get_or hit_summaries hit.hunted None inside) in
        let binds : binds_at place (hits ++ hit ∷ []) ≡ binds_at hit.hunted hits ++ tree_of hit.bind ∷ [] =
        ap (λ (n : ℕ). binds_at n (hits ++ hit ∷ [])) (sym here) ∙ binds_append hit.hunted hits (hit ∷ [])
        ∙ ap (λ (l : List BindTree). binds_at hit.hunted hits ++ l) (own_bind hit) in
        subst (λ (s : Option HitSummary). IsHitSummary rows (binds_at place (hits ++ hit ∷ [])) s) is
        (subst (λ (l : List BindTree). IsHitSummaryOf rows l (hit_summary_after last (get_or hit_summaries hit.hunted None))) (sym binds)
        (hit_summary-tree rows (binds_at hit.hunted hits) (tree_of hit.bind) last (get_or hit_summaries hit.hunted None) before ends))
    by (inr apart) =
        let now : Option HitSummary = Some (hit_summary_after last (get_or hit_summaries hit.hunted None)) in
        let binds : binds_at place (hits ++ hit ∷ []) ≡ binds_at place hits =
        binds_append place hits (hit ∷ []) ∙ ap (λ (l : List BindTree). binds_at place hits ++ l) (other_bind hit place apart) ∙ append-nil (binds_at place hits) in
        subst (λ (l : List BindTree). IsHitSummary rows l hit_summary) (sym binds)
        (are place hit_summary (sym (get_set_other hit_summaries hit.hunted place now apart) ∙ at))

-- ---- with all that end at a row

-- a hit ends then, and its indicator has a place
abbrev pub IsNotable : List ObservationRow → ℤ → ℕ → Hit → Type 0
IsNotable rows last places hit = (hit.hunted < places) × EndsWhen rows (tree_of hit.bind) last

pub hit_summaries-hits : (rows : List ObservationRow) (hits : List Hit) (hit_summaries : List (Option HitSummary)) (last : ℤ) (own : List Hit)
    → ((k : ℕ) (hit : Hit) → slice_get own k ≡ Some hit → IsNotable rows last (length hit_summaries) hit)
    → AreHitSummaries rows hits hit_summaries → AreHitSummaries rows (hits ++ own) (all_noted last own hit_summaries)
hit_summaries-hits rows hits hit_summaries last [] each are = subst (λ (l : List Hit). AreHitSummaries rows l hit_summaries) (sym (append-nil hits)) are
hit_summaries-hits rows hits hit_summaries last (hit ∷ own) each are =
    let first = each 0 hit refl in
    let long : length (noted last hit hit_summaries) ≡ length hit_summaries = length-set hit_summaries hit.hunted (Some (hit_summary_after last (get_or hit_summaries hit.hunted None))) in
    subst (λ (l : List Hit). AreHitSummaries rows l (all_noted last own (noted last hit hit_summaries))) (append_assoc hits (hit ∷ []) own)
    (hit_summaries-hits rows (hits ++ hit ∷ []) (noted last hit hit_summaries) last own
    (λ k h at. subst (λ (n : ℕ). IsNotable rows last n h) (sym long) (each (suc k) h at))
    (hit_summaries-hit rows hits hit_summaries last hit first.0 first.1 are))

pub length-all_noted : (last : ℤ) (hits : List Hit) (hit_summaries : List (Option HitSummary)) → length (all_noted last hits hit_summaries) ≡ length hit_summaries
length-all_noted last [] hit_summaries = refl
length-all_noted last (hit ∷ hits) hit_summaries =
    length-all_noted last hits (noted last hit hit_summaries) ∙ length-set hit_summaries hit.hunted (Some (hit_summary_after last (get_or hit_summaries hit.hunted None)))

-- ---- in order of time

-- where a hit summary stands once a hit is noted: it is the new one, or was there before
noted_at : (last : ℤ) (hit : Hit) (hit_summaries : List (Option HitSummary)) (place : ℕ) (hit_summary : Option HitSummary) → hit.hunted < length hit_summaries
    → slice_get (noted last hit hit_summaries) place ≡ Some hit_summary
    → (hit_summary ≡ Some (hit_summary_after last (get_or hit_summaries hit.hunted None))) ⊎ (slice_get hit_summaries place ≡ Some hit_summary)
noted_at last hit hit_summaries place hit_summary inside at = by (same_or_other hit.hunted place)
  where
    by : (hit.hunted ≡ place) ⊎ (hit.hunted ≡ place → ⊥)
        → (hit_summary ≡ Some (hit_summary_after last (get_or hit_summaries hit.hunted None))) ⊎ (slice_get hit_summaries place ≡ Some hit_summary)
    by (inl here) =
        let now : Option HitSummary = Some (hit_summary_after last (get_or hit_summaries hit.hunted None)) in
        let own : slice_get (set hit_summaries hit.hunted now) hit.hunted ≡ Some hit_summary = ap (slice_get (set hit_summaries hit.hunted now)) here ∙ at in
        let e = get_set hit_summaries hit.hunted now inside in inl (cc)
    by (inr apart) =
        let now : Option HitSummary = Some (hit_summary_after last (get_or hit_summaries hit.hunted None)) in
        inr (sym (get_set_other hit_summaries hit.hunted place now apart) ∙ at)

same_time : (time : ℤ) → time ≤ℤ time
same_time time = omega (arith, ints)

after_first : (last : ℤ) (was : Option HitSummary) → ((hit_summary : HitSummary) → was ≡ Some hit_summary → hit_summary.first ≤ℤ last) → (hit_summary_after last was).first ≤ℤ last
after_first last None before = same_time last
after_first last (Some hit_summary) before = before hit_summary refl

-- a hit summary that was there, or the new one
module _ (last : ℤ) (hit : Hit) (hit_summaries : List (Option HitSummary)) (inside : hit.hunted < length hit_summaries) (before : AreBefore last hit_summaries) where
  new_first : (hit_summary_after last (get_or hit_summaries hit.hunted None)).first ≤ℤ last
  new_first = after_first last (get_or hit_summaries hit.hunted None) (λ hit_summary is. before hit.hunted hit_summary (slice_get-get_or hit_summaries hit.hunted None inside ∙ ap Some is))

  pub noted_before : AreBefore last (noted last hit hit_summaries)
  noted_before place hit_summary at = elim (noted_at last hit hit_summaries place (Some hit_summary) inside at) [
    | inl new ↦ let is : hit_summary ≡ hit_summary_after last (get_or hit_summaries hit.hunted None) = cc in subst (λ (s : HitSummary). s.first ≤ℤ last) (sym is) new_first
    | inr old ↦ before place hit_summary old
  ]

-- ---- before anything was seen

nothing_in : (n place : ℕ) (hit_summary : Option HitSummary) → slice_get (replicate n None) place ≡ Some hit_summary → hit_summary ≡ None
nothing_in zero place hit_summary at = absurd (cc)
nothing_in (suc n) zero hit_summary at = cc
nothing_in (suc n) (suc place) hit_summary at = nothing_in n place hit_summary at

pub nothing_seen : (n : ℕ) (hit_summaries : List (Option HitSummary)) → hit_summaries ≡ replicate n None → (place : ℕ) (hit_summary : Option HitSummary)
    → slice_get hit_summaries place ≡ Some hit_summary → hit_summary ≡ None
nothing_seen n hit_summaries is place hit_summary at = nothing_in n place hit_summary (ap (λ (l : List (Option HitSummary)). slice_get l place) (sym is) ∙ at)

pub nothing_in_order : (n : ℕ) (hit_summaries : List (Option HitSummary)) → hit_summaries ≡ replicate n None → AreSummariesInOrder hit_summaries
nothing_in_order n hit_summaries is place hit_summary at = let none = nothing_seen n hit_summaries is place (Some hit_summary) at in absurd (cc)
