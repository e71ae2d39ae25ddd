use Rattle.std.proofs.Common.{◌≡◌, sym, ◌∙◌}
use Rattle.std.proofs.lemmas.Bool.{false≢true}
use Rattle.serde_json.specs.Written.{compact_text}
use Rattle.stix_json.specs.DataOf.{data_of}
use Rattle.taxii_rows.proofs.SoundLemmas.{row_of_text, row_of_other_text}
use Rattle.taxii_rows.proofs.sound.is_row_of.Goals.{then-own, else-own}
use Rattle.taxii_rows.proofs.sound.is_row_of.Goals as goal

pub returns : goal.returns
returns c =
    let row = c.args.row.now in
    let object = data_of c.args.object.now in
    let text = c.as_str.result.now in
    let text_is : text ≡ compact_text object = c.as_str.ensures ∙ c.in_ok-text.ensures.text in
    elim c.if-own.branch [
      | then-own w ↦ row_of_text row object text w.has_id_and_version.result c.if-own.result text_is (c.has_body-own.ensures.0 w.if-own.true) w.has_id_and_version.ensures w.result-is
      | else-own w ↦ row_of_other_text row object text c.if-own.result text_is (λ same. false≢true (sym w.if-own.false ∙ c.has_body-own.ensures.1 same)) (w.result-is ∙ w.if-own.false)
    ]
