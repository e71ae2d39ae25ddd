use Rattle.std.proofs.Common.{ℕ, List, ◌≤◌, ap, subst, sym}
use Rattle.taxii_rows.specs.declared.stored_row.TheConstants.{LAST_DATE}
use Rattle.taxii_rows.specs.StoreState.{StoreState}
use Rattle.taxii_store.specs.declared.add_outcome.AddOutcome.{AddOutcome}
use Rattle.taxii_store.specs.declared.draft.Draft.{Draft}
use Rattle.taxii_store.specs.inner.Moving.{IsDraft}
use Rattle.taxii_store.specs.Addition.{date_in}
use Rattle.taxii_store.proofs.DraftLemmas.{outcome_pushed}
use Rattle.taxii_store.proofs.draft.Draft.place.Goals.{in-Some, in-None+in_ok-outcome-in-None}
use Rattle.taxii_store.proofs.draft.Draft.place.Goals as goal

abbrev of_draft : ℕ → Draft → Type 0
of_draft watermark draft = IsDraft watermark draft.outcomes draft.added

pub returns-clause-draft : goal.returns-clause-draft
returns-clause-draft c =
    let Goal = λ (outcomes : List AddOutcome). IsDraft c.args.library.now.watermark outcomes c.match-date_of_duplicate.self.added in
    let watermark = ap (λ (state : StoreState). state.watermark) c.library.view_is in
    subst Goal (sym c.in_ok-push.ensures.ok) (elim c.match-date_of_duplicate.branch [
      | in-Some w ↦
          let draft = subst (of_draft c.args.library.now.watermark) (sym w.self-is) c.requires.draft in
          outcome_pushed c.args.library.now.watermark c.match-date_of_duplicate.self.outcomes c.match-date_of_duplicate.self.added c.match-date_of_duplicate.outcome draft
          (subst (λ (one : AddOutcome). date_in one ≤ LAST_DATE) (sym w.outcome-is) w.in-Some.ensures.known)
      | in-None+in_ok-outcome-in-None w ↦
          let there = subst (λ (m : ℕ). IsDraft m w.add.new.self.outcomes w.add.new.self.added) watermark w.in_ok-outcome-in-None.ensures.draft in
          let draft = subst (of_draft c.args.library.now.watermark) (sym w.self-is) there in
          outcome_pushed c.args.library.now.watermark c.match-date_of_duplicate.self.outcomes c.match-date_of_duplicate.self.added c.match-date_of_duplicate.outcome draft
          (subst (λ (one : AddOutcome). date_in one ≤ LAST_DATE) (sym w.outcome-is) w.in_ok-outcome-in-None.ensures.known)
    ])
