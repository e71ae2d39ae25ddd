use Rattle.std.proofs.Common.{◌≡◌, ℕ, List, ap, sym, subst, ◌∙◌}
use Rattle.taxii_rows.specs.declared.stored_row.StoredRow.{StoredRow}
use Rattle.taxii_rows.specs.SoundRow.{IsSoundState}
use Rattle.taxii_rows.specs.StoreState.{StoreState}
use Rattle.taxii_rows.specs.Keeper.{CanAppend, Kept, with_rows}
use Rattle.taxii_store.specs.Agreement.{Agrees}
use Rattle.taxii_store.specs.Planned.{PlannedState}
use Rattle.taxii_store.specs.inner.Moving.{planned_of}
use Rattle.taxii_store.proofs.CommitLemmas.{can_commit, sound_committed, rows_after, first_within, rows_before, if_same}
use Rattle.taxii_store.proofs.library.Library.commit_add.Goals as goal

pub append-requires : goal.append-requires
append-requires g c =
    let state : StoreState = record { rows = c.self.inside.rows; watermark = c.self.inside.watermark } in
    let planned : PlannedState = planned_of c.planned.inside.watermark c.planned.inside.outcomes.items c.planned.inside.rows.items in
    let same = ap (λ (p : PlannedState). p.watermark) c.planned.view_is ∙ c.requires.watermark ∙ sym (ap (λ (s : StoreState). s.watermark) c.self.view_is) in
    record { later = (can_commit c.later_rows.ensures state planned c.self.invariant c.planned.invariant.0 same).ascend }

pub append-requires-2-clause-later : goal.append-requires-2-clause-later
append-requires-2-clause-later g c =
    let state : StoreState = record { rows = c.self.inside.rows; watermark = c.self.inside.watermark } in
    let planned : PlannedState = planned_of c.planned.inside.watermark c.planned.inside.outcomes.items c.planned.inside.rows.items in
    let same = ap (λ (p : PlannedState). p.watermark) c.planned.view_is ∙ c.requires.watermark ∙ sym (ap (λ (s : StoreState). s.watermark) c.self.view_is) in
    let can = can_commit c.later_rows.ensures state planned c.self.invariant c.planned.invariant.0 same in
    let behind = rows_after c.self.inside.rows c.planned.inside.rows.items c.as_slice-length.result.now c.as_slice.result.now
    c.as_slice-length.ensures.rows (c.as_slice.ensures.rows ∙ c.in_ok-append.ensures.ok) in
    let last = subst (λ (watermark : ℕ). CanAppend c.planned.inside.rows.items watermark state) (sym c.planned.invariant.1) can in
    if_same (g.K.Keeper.kept c.args.keeper.now).observable _ c.args.self.now c.requires.agrees.told_is
    (subst (CanAppend _ c.planned.inside.last) c.self.view_is
    (subst (λ (rows : List StoredRow). CanAppend rows c.planned.inside.last state) (sym behind) last))

pub invariant_of-self-in-Ok : goal.invariant_of-self-in-Ok
invariant_of-self-in-Ok g c =
    let state : StoreState = record { rows = c.self.inside.rows; watermark = c.self.inside.watermark } in
    let planned : PlannedState = planned_of c.planned.inside.watermark c.planned.inside.outcomes.items c.planned.inside.rows.items in
    let same = ap (λ (p : PlannedState). p.watermark) c.planned.view_is ∙ c.requires.watermark ∙ sym (ap (λ (s : StoreState). s.watermark) c.self.view_is) in
    let sound = sound_committed c.later_rows.ensures c.sound_states.ensures.added state planned c.self.invariant c.planned.invariant.0 same in
    subst (λ (rows : List StoredRow). IsSoundState (record { rows = rows; watermark = c.planned.inside.last })) (sym c.in_ok-append.ensures.ok)
    (subst (λ (watermark : ℕ). IsSoundState (with_rows c.planned.inside.rows.items watermark state)) (sym c.planned.invariant.1) sound)

pub slice_bounds-append-start : goal.slice_bounds-append-start
slice_bounds-append-start g c =
    first_within c.self.inside.rows c.planned.inside.rows.items c.as_slice-length.result.now c.as_slice.result.now
    c.as_slice-length.ensures.rows (c.as_slice.ensures.rows ∙ c.in_ok-append.ensures.ok)

pub slice_bounds-append-count : goal.slice_bounds-append-count
slice_bounds-append-count g c =
    first_within c.self.inside.rows c.planned.inside.rows.items c.as_slice-length.result.now c.as_slice.result.now
    c.as_slice-length.ensures.rows (c.as_slice.ensures.rows ∙ c.in_ok-append.ensures.ok)

pub invariant_of-self-in-Err : goal.invariant_of-self-in-Err
invariant_of-self-in-Err g c =
    let back = rows_before c.self.inside.rows c.planned.inside.rows.items c.as_slice-length.result.now c.append.new.self c.truncate.new.self
    c.as_slice-length.ensures.rows c.in_ok-append.ensures.ok c.truncate.ensures in
    subst (λ (rows : List StoredRow). IsSoundState (record { rows = rows; watermark = c.self.inside.watermark })) (sym back) c.self.invariant

pub returns-clause-err : goal.returns-clause-err
returns-clause-err g c =
    let back = rows_before c.self.inside.rows c.planned.inside.rows.items c.as_slice-length.result.now c.append.new.self c.truncate.new.self
    c.as_slice-length.ensures.rows c.in_ok-append.ensures.ok c.truncate.ensures in
    ap (λ (rows : List StoredRow). record { rows = rows; watermark = c.self.inside.watermark }) back ∙ c.self.view_is

pub returns-clause-agrees : goal.returns-clause-agrees
returns-clause-agrees g c =
    let back = rows_before c.self.inside.rows c.planned.inside.rows.items c.as_slice-length.result.now c.append.new.self c.truncate.new.self
    c.as_slice-length.ensures.rows c.in_ok-append.ensures.ok c.truncate.ensures in
    let state : StoreState = record { rows = c.truncate.new.self; watermark = c.self.inside.watermark } in
    let same : state ≡ c.args.self.now = ap (λ (rows : List StoredRow). record { rows = rows; watermark = c.self.inside.watermark }) back ∙ c.self.view_is in
    subst (λ (kept : Kept). Agrees kept state) (sym c.in-Err.ensures.err) (subst (Agrees (g.K.Keeper.kept c.args.keeper.now)) (sym same) c.requires.agrees)
