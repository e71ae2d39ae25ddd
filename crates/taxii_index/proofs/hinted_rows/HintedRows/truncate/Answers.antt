use Rattle.std.proofs.Common.{◌≡◌, ◌<◌, List, take, length, get_or, nat_le, sym, ap, ◌∙◌, subst}
use Rattle.std.proofs.lemmas.Bool.{ltb-true}
use Rattle.taxii_rows.specs.declared.stored_row.StoredRow.{StoredRow}
use Rattle.taxii_index.specs.declared.hints.Hint.{Hint}
use Rattle.taxii_index.specs.Hints.{AreTrueOf}
use Rattle.taxii_index.proofs.HintLemmas.{true_of_kept, stays_in_front}
use Rattle.taxii_index.proofs.hinted_rows.HintedRows.truncate.Goals as goal

pub invariant_of-self : goal.invariant_of-self
invariant_of-self c =
    let rows = c.self.inside.rows in
    let at = c.args.length in
    let gone = c.in-Some.row.now.date in
    let kept = take at rows in
    let same : c.as_slice.result.now ≡ rows = c.as_slice.ensures.rows in
    let look = c.in-Some.ensures.lookup in
    let within : at < length rows = subst (λ (all : List StoredRow). at < length all) same (ltb-true at (length c.as_slice.result.now) (sym look.0)) in
    let own : c.in-Some.row.now ≡ get_or rows at c.in-Some.row.now = look.1 ∙ ap (λ (all : List StoredRow). get_or all at c.in-Some.row.now) same in
    let are = true_of_kept (λ other. nat_le gone other) rows kept c.self.inside.hints.hints.items
    (λ row here before. stays_in_front rows at c.in-Some.row.now c.as_slice.ensures.ascend within row here (ap (λ (r : StoredRow). nat_le r.date row.date) (sym own) ∙ before)) c.self.invariant in
    subst (λ (all : List StoredRow). AreTrueOf all c.forget_from.new.self.hints.items) (sym c.truncate.ensures) (subst (λ (hints : List Hint). AreTrueOf kept hints) (sym c.forget_from.ensures) are)
