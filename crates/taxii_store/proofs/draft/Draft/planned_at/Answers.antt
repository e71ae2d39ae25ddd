use Rattle.std.proofs.Common.{◌≡◌, ℕ, List, ◌+◌, ◌-◌, ◌≤◌, length, map, All, ap, sym, subst, ◌∙◌}
use Rattle.taxii_rows.specs.declared.stored_row.StoredRow.{StoredRow}
use Rattle.taxii_rows.specs.declared.stored_row.TheConstants.{LAST_DATE}
use Rattle.taxii_rows.specs.SoundRow.{IsSoundRow}
use Rattle.taxii_rows.specs.StoreState.{dates_of, AscendFrom}
use Rattle.taxii_store.specs.Addition.{first_date, watermark_after}
use Rattle.taxii_store.specs.inner.Moving.{shift_at, shifted}
use Rattle.taxii_store.proofs.DraftLemmas.{rows_movable, plan_sound}
use Rattle.taxii_store.proofs.draft.Draft.planned_at.Goals as goal

pub shift_rows-requires : goal.shift_rows-requires
shift_rows-requires c =
    let shift : c.first_date.result - (c.args.watermark + 1) ≡ shift_at c.args.watermark c.args.moment c.args.self.added =
    ap (λ (n : ℕ). n - (c.args.watermark + 1)) (c.first_date.ensures ∙ ap (λ (rows : List StoredRow). first_date c.args.watermark c.args.moment (length rows)) c.as_slice.ensures.rows) in
    subst (λ (rows : List StoredRow). All (λ row. row.date + (c.first_date.result - (c.args.watermark + 1)) ≤ LAST_DATE) rows) (sym c.into_rows-rows.ensures.rows)
    (subst (λ (n : ℕ). All (λ row. row.date + n ≤ LAST_DATE) c.args.self.added) (sym shift)
    (rows_movable c.args.watermark c.args.moment c.args.self.outcomes c.args.self.added c.requires.draft))

pub invariant_of-result : goal.invariant_of-result
invariant_of-result c =
    let shift : c.first_date.result - (c.args.watermark + 1) ≡ shift_at c.args.watermark c.args.moment c.args.self.added =
    ap (λ (n : ℕ). n - (c.args.watermark + 1)) (c.first_date.ensures ∙ ap (λ (rows : List StoredRow). first_date c.args.watermark c.args.moment (length rows)) c.as_slice.ensures.rows) in
    let rows : c.shift_rows.new.rows.items ≡ map (shifted (shift_at c.args.watermark c.args.moment c.args.self.added)) c.args.self.added =
    c.shift_rows.ensures ∙ ap (map (shifted (c.first_date.result - (c.args.watermark + 1)))) c.into_rows-rows.ensures.rows
    ∙ ap (λ (n : ℕ). map (shifted n) c.args.self.added) shift in
    let plan = plan_sound c.args.watermark c.args.moment c.args.self.outcomes c.args.self.added c.requires.draft in (
      record {
        ascend = subst (λ (rs : List StoredRow). AscendFrom (c.args.watermark + 1) (dates_of rs)) (sym rows) plan.ascend;
        last = subst (λ (rs : List StoredRow). watermark_after c.args.watermark rs ≤ LAST_DATE) (sym rows) plan.last;
        dates = subst (All (λ row. row.date ≤ LAST_DATE)) (sym rows) plan.dates;
        rows = subst (All IsSoundRow) (sym rows) plan.rows;
      },
      c.last_of-last.ensures ∙ ap (watermark_after c.args.watermark) c.deref.ensures.value,
    )
