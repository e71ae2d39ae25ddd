use Rattle.std.proofs.Common.{◌≡◌, length, true, false, bytes_eq, refl, sym, ◌∙◌}
use Rattle.std.proofs.lemmas.Option.{slice_get_read}
use Rattle.stix_json.proofs.NamingLemmas.{found_field, passed_field}
use Rattle.stix_json.proofs.lookup.index_of.Goals as goal

pub returns-then-is_named-clause-some : goal.returns-then-is_named-clause-some
returns-then-is_named-clause-some c =
    let fields = c.args.fields.now in
    let field = c.index-fields-at.result in
    let same : bytes_eq field.name c.args.name.now ≡ true = sym c.is_named.ensures ∙ c.if-is_named.true in
    record {
      field = field;
      there = slice_get_read fields (length fields) c.loop-at.at field refl c.loop-at-test.true c.index-fields-at.is;
      found = c.loop-at.invariant ∙ found_field c.args.name.now fields c.loop-at.at field c.loop-at-test.true c.index-fields-at.is same;
    }

pub loop-at-preserved : goal.loop-at-preserved
loop-at-preserved c =
    let other : bytes_eq c.index-fields-at.result.name c.args.name.now ≡ false = sym c.is_named.ensures ∙ c.if-is_named.false in
    c.loop-at.invariant ∙ passed_field c.args.name.now c.args.fields.now c.loop-at.at c.index-fields-at.result c.loop-at-test.true c.index-fields-at.is other
