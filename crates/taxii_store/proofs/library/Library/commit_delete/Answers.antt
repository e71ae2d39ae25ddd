use Rattle.std.proofs.Common.{List, ap, sym, subst, ◌∙◌}
use Rattle.std.proofs.lemmas.Bool.{eqb-true}
use Rattle.std.proofs.lemmas.List.{nil_from_length}
use Rattle.taxii_rows.specs.declared.stored_row.StoredRow.{StoredRow}
use Rattle.taxii_rows.specs.SoundRow.{IsSoundState}
use Rattle.taxii_store.proofs.CommitLemmas.{none_taken}
use Rattle.taxii_store.proofs.library.Library.commit_delete.Goals as goal

pub returns-then-is_empty-clause-ok : goal.returns-then-is_empty-clause-ok
returns-then-is_empty-clause-ok g c =
    let none = nil_from_length c.args.dates.now (eqb-true _ _ (sym c.is_empty.ensures ∙ c.if-is_empty.true)) in
    ap (λ (rows : List StoredRow). record { rows = rows; watermark = c.args.self.now.watermark }) (none_taken c.args.self.now.rows c.args.dates.now none)

pub invariant_of-self : goal.invariant_of-self
invariant_of-self g c =
    subst (λ (rows : List StoredRow). IsSoundState (record { rows = rows; watermark = c.self.inside.watermark })) (sym c.remove-2.ensures)
    (c.sound_states.ensures.removed (record { rows = c.self.inside.rows; watermark = c.self.inside.watermark }) c.args.dates.now c.self.invariant)
