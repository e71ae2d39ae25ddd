-- The report: what is told of the indicators, one at a time.
use Rattle.std.proofs.Common.{◌≡◌, inl, inr, ℕ, suc, ◌+◌, ◌<◌, ℤ, Bool, true, Option, Some, None, List, [], ◌∷◌, ◌++◌, length, get_or, take, drop, refl, sym, ap, subst, ◌∙◌, append_assoc, take-append-drop, arith}
use Rattle.std.specs.Prelude.{codes, slice_get}
use Rattle.std.proofs.lemmas.List.{append-nil, take_more}
use Rattle.flow_edges.specs.Flow.{WritesPrefix}
use Rattle.match_run.specs.Buffered.{IsBuffered}
use Rattle.match_bindings.specs.BindTree.{BindTree}
use Rattle.hunt_feed.specs.declared.hunted.Hunted.{Hunted}
use Rattle.hunt_engine.specs.declared.found.Hit.{Hit}
use Rattle.hunt_engine.specs.EngineLog.{ObservationRow}
use Rattle.hunt_engine.specs.EngineAnswer.{binds_at}
use Rattle.hunt_report.proofs.PlaceLemmas.{get_left}
use Rattle.hunt_report.specs.Envelope.{opened}
use Rattle.hunt_report.specs.declared.hit_summary.HitSummary.{HitSummary}
use Rattle.hunt_report.specs.HitSummaries.{IsHitSummaryOf, IsHitSummary, IsSighting, AreSightings, report_of, IsReport, begun_by, IsReportText}
use Rattle.hunt_report.specs.Hunting.{HunterState, HuntsOver}
use Rattle.hunt_report.specs.inner.Reporting.{IsTextOfSighting, ReportsHitSummary, ReportsHitSummaries, is_begun, mark_of, report_end, ReportsSoFar, ReportsPart, AddsHitSummary, BreaksAtHitSummary}

-- ---- one indicator more

pub reports-more : (moment : ℤ) (hunted : List Hunted) (hit_summaries : List (Option HitSummary)) (texts : List (List ℕ)) (indicator : Hunted) (hit_summary : Option HitSummary)
    (more : List (List ℕ)) → ReportsHitSummaries moment hunted hit_summaries texts → ReportsHitSummary moment indicator hit_summary more
    → ReportsHitSummaries moment (hunted ++ indicator ∷ []) (hit_summaries ++ hit_summary ∷ []) (texts ++ more)
reports-more moment [] [] texts indicator hit_summary more reports own =
    (more, [], own, refl, ap (λ (l : List (List ℕ)). l ++ more) reports ∙ sym (append-nil more))
reports-more moment (h ∷ hunted) (s ∷ hit_summaries) texts indicator hit_summary more (mine, later, told, rest, is) own = (
  mine,
  later ++ more,
  told,
  reports-more moment hunted hit_summaries later indicator hit_summary more rest own,
  ap (λ (l : List (List ℕ)). l ++ more) is ∙ append_assoc mine later more,
)
reports-more moment [] (s ∷ hit_summaries) texts indicator hit_summary more reports own = absurd reports
reports-more moment (h ∷ hunted) [] texts indicator hit_summary more reports own = absurd reports

-- up to a place
pub reports-here : (moment : ℤ) (hunted : List Hunted) (hit_summaries : List (Option HitSummary)) (at : ℕ) (texts : List (List ℕ)) (indicator : Hunted) (hit_summary : Option HitSummary)
    (more : List (List ℕ)) → at < length hunted → indicator ≡ get_or hunted at indicator → at < length hit_summaries → hit_summary ≡ get_or hit_summaries at hit_summary
    → ReportsHitSummaries moment (take at hunted) (take at hit_summaries) texts → ReportsHitSummary moment indicator hit_summary more
    → ReportsHitSummaries moment (take (at + 1) hunted) (take (at + 1) hit_summaries) (texts ++ more)
reports-here moment hunted hit_summaries at texts indicator hit_summary more within is inside same reports own =
    subst (λ (l : List Hunted). ReportsHitSummaries moment l (take (at + 1) hit_summaries) (texts ++ more))
    (sym (take_more hunted at indicator within ∙ ap (λ (h : Hunted). take at hunted ++ h ∷ []) (sym is)))
    (subst (λ (l : List (Option HitSummary)). ReportsHitSummaries moment (take at hunted ++ indicator ∷ []) l (texts ++ more))
    (sym (take_more hit_summaries at hit_summary inside ∙ ap (λ (s : Option HitSummary). take at hit_summaries ++ s ∷ []) (sym same)))
    (reports-more moment (take at hunted) (take at hit_summaries) texts indicator hit_summary more reports own))

-- ---- the text of an envelope, and one text more

-- the laws on envelopes
abbrev pub FirstText : Type 0
FirstText = (text : List ℕ) → opened (text ∷ []) ≡ opened [] ++ text

abbrev pub OtherText : Type 0
OtherText = (before text : List ℕ) (texts : List (List ℕ)) → opened (before ∷ texts ++ text ∷ []) ≡ opened (before ∷ texts) ++ (codes "," ++ text)

pub begun-more : FirstText → OtherText → (texts : List (List ℕ)) (text : List ℕ)
    → begun_by texts ++ (mark_of (is_begun texts) ++ text) ≡ begun_by (texts ++ text ∷ [])
begun-more first other [] text = ap (λ (t : List ℕ). t ++ text) (sym (append-nil (codes "{\"objects\":["))) ∙ sym (first text)
begun-more first other (before ∷ texts) text = sym (other before text texts)

pub begun_is-more : (texts : List (List ℕ)) (text : List ℕ) → is_begun (texts ++ text ∷ []) ≡ true
begun_is-more [] text = refl
begun_is-more (before ∷ texts) text = refl

-- the end of the line
pub report-whole : (texts : List (List ℕ)) → begun_by texts ++ report_end (is_begun texts) ≡ report_of texts
report-whole [] = refl
report-whole (text ∷ texts) = sym (append_assoc (opened (text ∷ texts)) (codes "]}") (codes "\n"))

-- ---- what is kept is what was seen

sighting_of : (moment : ℤ) (rows : List ObservationRow) (indicator : Hunted) (trees : List BindTree) (hit_summary : HitSummary) (text : List ℕ) → IsHitSummaryOf rows trees hit_summary
    → IsTextOfSighting moment indicator hit_summary text → IsSighting moment rows indicator trees text
sighting_of moment rows indicator trees hit_summary text is of = record {
  seen = of.seen;
  seen_is = record {
    indicator_is = of.indicator_is;
    created_is = of.created_is;
    hit_summary = subst (IsHitSummaryOf rows trees) (same of.count_is of.first_is of.last_is) is;
  };
  text_is = of.text_is;
}
  where
    same : of.seen.count ≡ hit_summary.count → of.seen.first ≡ hit_summary.first → of.seen.last ≡ hit_summary.last
        → hit_summary ≡ record { count = of.seen.count; first = of.seen.first; last = of.seen.last }
    same a b c = λ i. record { count = sym a i; first = sym b i; last = sym c i }

pub are-sightings : (moment : ℤ) (rows : List ObservationRow) (hits : List Hit) (place : ℕ) (hunted : List Hunted) (hit_summaries : List (Option HitSummary)) (texts : List (List ℕ))
    → ((k : ℕ) (hit_summary : Option HitSummary) → slice_get hit_summaries k ≡ Some hit_summary → IsHitSummary rows (binds_at (place + k) hits) hit_summary)
    → ReportsHitSummaries moment hunted hit_summaries texts → AreSightings moment rows hits place hunted texts
are-sightings moment rows hits place [] [] texts are reports = reports
are-sightings moment rows hits place [] (s ∷ hit_summaries) texts are reports = absurd reports
are-sightings moment rows hits place (h ∷ hunted) [] texts are reports = absurd reports
are-sightings moment rows hits place (h ∷ hunted) (hit_summary ∷ hit_summaries) texts are (own, later, told, rest, is) =
    by hit_summary (are 0 hit_summary refl) told
    (are-sightings moment rows hits (place + 1) hunted hit_summaries later
    (λ k s at. let next : place + suc k ≡ (place + 1) + k = omega arith in subst (λ (n : ℕ). IsHitSummary rows (binds_at n hits) s) next (are (suc k) s at)) rest)
  where
    here : place + 0 ≡ place
    here = omega arith

    by : (s : Option HitSummary) → IsHitSummary rows (binds_at (place + 0) hits) s → ReportsHitSummary moment h s own → AreSightings moment rows hits (place + 1) hunted later
        → AreSightings moment rows hits place (h ∷ hunted) texts
    by None seen none more =
        let whole : texts ≡ later = is ∙ ap (λ (l : List (List ℕ)). l ++ later) none in
        inl (sym (ap (λ (n : ℕ). binds_at n hits) here) ∙ seen, subst (AreSightings moment rows hits (place + 1) hunted) (sym whole) more)
    by (Some s) seen (text, of, one) more = inr (
      text,
      later,
      sighting_of moment rows h (binds_at place hits) s text (subst (λ (n : ℕ). IsHitSummaryOf rows (binds_at n hits) s) here seen) of,
      more,
      is ∙ ap (λ (l : List (List ℕ)). l ++ later) one,
    )

-- ---- the line, or its beginning

module _ (moment : ℤ) (rows : List ObservationRow) (hits : List Hit) (hunter : HunterState) (hunts : HuntsOver hunter rows hits) where
  -- of the first indicators
  first_sightings : (front : List Hunted) (seen unseen : List (Option HitSummary)) (texts : List (List ℕ)) → hunter.hit_summaries ≡ seen ++ unseen
      → ReportsHitSummaries moment front seen texts → AreSightings moment rows hits 0 front texts
  first_sightings front seen unseen texts are reports =
      are-sightings moment rows hits 0 front seen texts
      (λ k hit_summary at. let none : 0 + k ≡ k = omega arith in
      subst (λ (n : ℕ). IsHitSummary rows (binds_at n hits) hit_summary) (sym none)
      (hunts.hit_summaries k hit_summary (ap (λ (l : List (Option HitSummary)). slice_get l k) are ∙ get_left seen unseen k hit_summary at))) reports

  pub all_sightings : (texts : List (List ℕ)) → ReportsHitSummaries moment hunter.hunted hunter.hit_summaries texts → AreSightings moment rows hits 0 hunter.hunted texts
  all_sightings texts reports = first_sightings hunter.hunted hunter.hit_summaries [] texts (sym (append-nil hunter.hit_summaries)) reports

  pub report : (texts : List (List ℕ)) → ReportsHitSummaries moment hunter.hunted hunter.hit_summaries texts → IsReport moment rows hits hunter.hunted (report_of texts)
  report texts reports = record { texts = texts; sightings = all_sightings texts reports; text_is = refl }

  -- a part of what is told is a beginning of the line
  pub part_of_report : (first now : Option (List ℕ)) → ReportsPart moment hunter.hunted hunter.hit_summaries first now
      → (text : List ℕ) × IsReportText moment rows hits hunter.hunted text × WritesPrefix text first now
  part_of_report first now part = (
    begun_by part.texts,
    inr (record {
      front = part.front;
      later = part.later;
      hunted_are = part.hunted_are;
      texts = part.texts;
      sightings = first_sightings part.front part.seen part.unseen part.texts part.hit_summaries_are part.reports;
      text_is = refl;
    }),
    part.prefix,
  )

-- ---- the indicators up to a place

module _ (moment : ℤ) (hunted : List Hunted) (hit_summaries : List (Option HitSummary)) (at : ℕ) (indicator : Hunted) (hit_summary : Option HitSummary) (within : at < length hunted)
    (is : indicator ≡ get_or hunted at indicator) (inside : at < length hit_summaries) (same : hit_summary ≡ get_or hit_summaries at hit_summary) (first : Option (List ℕ)) where
  -- one more is on its way
  pub goes-on : (now : Option (List ℕ)) (begun : Bool) (pending : List ℕ) (texts : List (List ℕ)) → ReportsHitSummaries moment (take at hunted) (take at hit_summaries) texts
      → AddsHitSummary moment indicator hit_summary texts begun pending first now → ReportsSoFar moment (take (at + 1) hunted) (take (at + 1) hit_summaries) begun pending first now
  goes-on now begun pending texts reports adds = record {
    texts = texts ++ adds.more;
    reports = reports-here moment hunted hit_summaries at texts indicator hit_summary adds.more within is inside same reports adds.reports;
    begun_is = adds.begun_is;
    way = adds.way;
  }

  -- or was cut
  pub breaks-off : (now : Option (List ℕ)) (texts : List (List ℕ)) → ReportsHitSummaries moment (take at hunted) (take at hit_summaries) texts
      → BreaksAtHitSummary moment indicator hit_summary texts first now → ReportsPart moment hunted hit_summaries first now
  breaks-off now texts reports (inl prefix) = record {
    front = take at hunted;
    later = drop at hunted;
    hunted_are = sym (take-append-drop at hunted);
    seen = take at hit_summaries;
    unseen = drop at hit_summaries;
    hit_summaries_are = sym (take-append-drop at hit_summaries);
    texts = texts;
    reports = reports;
    prefix = prefix;
  }
  breaks-off now texts reports (inr cut) = record {
    front = take (at + 1) hunted;
    later = drop (at + 1) hunted;
    hunted_are = sym (take-append-drop (at + 1) hunted);
    seen = take (at + 1) hit_summaries;
    unseen = drop (at + 1) hit_summaries;
    hit_summaries_are = sym (take-append-drop (at + 1) hit_summaries);
    texts = texts ++ cut.more;
    reports = reports-here moment hunted hit_summaries at texts indicator hit_summary cut.more within is inside same reports cut.reports;
    prefix = cut.prefix;
  }

-- ---- one sighting

module _ (first_text : FirstText) (other_text : OtherText) (moment : ℤ) (indicator : Hunted) (hit_summary : HitSummary) (texts : List (List ℕ)) (text : List ℕ)
    (of : IsTextOfSighting moment indicator hit_summary text) (first now : Option (List ℕ)) where
  pub adds-one : (begun : Bool) (pending : List ℕ) → begun ≡ is_begun texts → IsBuffered (begun_by texts ++ (mark_of begun ++ text)) pending first now
      → AddsHitSummary moment indicator (Some hit_summary) texts true pending first now
  adds-one begun pending same way = record {
    more = text ∷ [];
    reports = (text, of, refl);
    begun_is = sym (begun_is-more texts text);
    way = subst (λ (t : List ℕ). IsBuffered t pending first now) (begun-more first_text other_text texts text)
        (subst (λ (b : Bool). IsBuffered (begun_by texts ++ (mark_of b ++ text)) pending first now) same way);
  }

  pub cuts-one : (begun : Bool) → begun ≡ is_begun texts → WritesPrefix (begun_by texts ++ (mark_of begun ++ text)) first now
      → BreaksAtHitSummary moment indicator (Some hit_summary) texts first now
  cuts-one begun same prefix = inr (record {
    more = text ∷ [];
    reports = (text, of, refl);
    prefix = subst (λ (t : List ℕ). WritesPrefix t first now) (begun-more first_text other_text texts text)
        (subst (λ (b : Bool). WritesPrefix (begun_by texts ++ (mark_of b ++ text)) first now) same prefix);
  })
