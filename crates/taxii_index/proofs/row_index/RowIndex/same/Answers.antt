use Rattle.std.proofs.Common.{◌∙◌, sym, refl, ap, arith, rules, pos, FitsSigned}
use Rattle.std.specs.Int.{w64}
use Rattle.std.proofs.lemmas.Int.{to_z-of_z}
use Rattle.std.proofs.lemmas.List.Elements.{All-contains}
use Rattle.taxii_index.specs.Names.{text_name_of}
use Rattle.taxii_rows.specs.declared.stored_row.StoredRow.{StoredRow}
use Rattle.taxii_index.specs.Keys.{IsIn64Bits}
use Rattle.taxii_index.specs.Index.{version_key, text_key}
use Rattle.taxii_index.proofs.LookUpLemmas.{leads_to_same, own_version, own_text}
use Rattle.taxii_index.proofs.row_index.RowIndex.same.Goals as goal

pub returns-in-Some : goal.returns-in-Some
returns-in-Some c = λ rows index.
    let collection = c.args.collection in
    let object = c.args.object.now in
    let leads = leads_to_same (version_key c.args.self.now.secret) collection object rows c.object_name-name.result c.in-Some.version 18446744073709551615 c.args.self.now.by_version.keys
    index.versions c.of_number.ensures.ordered (λ _. refl) (λ row here. let bits = All-contains (λ (r : StoredRow). IsIn64Bits (version_key c.args.self.now.secret r)) rows row index.bits here in omega (arith, bits.date))
    (λ row same. let own = own_version c.args.self.now.secret collection object c.in-Some.version c.in-Some.is row same in (own.0 ∙ sym c.object_name-name.ensures, own.1)) in
    let fits : FitsSigned w64 c.in-Some.version = search rules in
    rw c.of_number.ensures.keys (rw (to_z-of_z w64 c.in-Some.version fits) leads)

pub returns-in-None : goal.returns-in-None
returns-in-None c = λ rows index.
    let collection = c.args.collection in
    let object = c.args.object.now in
    let leads = leads_to_same (text_key c.args.self.now.secret) collection object rows c.text_name-name.result (pos 0) 18446744073709551615 c.args.self.now.by_text.keys
    index.texts c.of_number-in-None.ensures.ordered (λ _. refl) (λ row here. let bits = All-contains (λ (r : StoredRow). IsIn64Bits (version_key c.args.self.now.secret r)) rows row index.bits here in omega (arith, bits.date))
    (λ row same. (own_text c.args.self.now.secret collection object c.in-None.is row same ∙ sym (c.text_name-name.ensures ∙ ap (text_name_of c.args.self.now.secret collection object.id) c.as_str-text.ensures), refl)) in
    rw c.of_number-in-None.ensures.keys leads
