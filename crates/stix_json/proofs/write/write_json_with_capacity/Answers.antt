use Rattle.std.proofs.Common.{rules, ◌≡◌, sym, ap, ◌∙◌, subst, IsUtf8}
use Rattle.json.specs.Lex.{tokens}
use Rattle.json.specs.Tree.{json_tokens}
use Rattle.json.specs.Print.{print}
use Rattle.serde_json.specs.Written.{outline}
use Rattle.serde_json.proofs.Texts.{print-outline}
use Rattle.stix_json.specs.DataOf.{data_of}
use Rattle.stix_json.proofs.ReadingLemmas.{reads_back}
use Rattle.stix_json.proofs.write.write_json_with_capacity.Goals as goal

pub returns-in-Ok : goal.returns-in-Ok
returns-in-Ok c =
    let d = data_of c.args.value.now in
    let ts = c.write_value.new.out.tokens in
    let sent : ts ≡ json_tokens (outline d) = search rules in
    let bytes : c.from_string.result ≡ print ts = search rules in
    let utf8 : IsUtf8 c.from_string.result = subst IsUtf8 (sym bytes) c.into_inner.ensures.utf8 in
    record {
      text = bytes ∙ ap print sent ∙ print-outline d;
      reads_back = λ good. reads_back c.args.value.now ts c.from_string.result c.requires sent (ap tokens bytes ∙ c.into_inner.ensures.reads_back) utf8 good;
    }
