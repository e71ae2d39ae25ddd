-- The identifier and the instant that are read of the text of a property.
use Rattle.std.proofs.Common.{◌≡◌, ℕ, ℤ, List, Result, Ok, Err, IfOk, IsOkAnd, Option, Some, codes, option_map, unwrap_or, ap, sym, subst, ◌∙◌}
use Rattle.std.specs.Result.{result_ok}
use Rattle.serde_json.specs.Data.{Data}
use Rattle.flow_values.specs.Answers.{FindsExactly}
use Rattle.stix_ids.specs.declared.id.Id.{Id}
use Rattle.stix_ids.specs.declared.parts.IdRef.{IdRef}
use Rattle.stix_ids.specs.declared.refusal.IdRefusal.{IdRefusal}
use Rattle.stix_ids.specs.Identifier.{IsTextOfId}
use Rattle.stix_ids.specs.PartsOf.{id_of}
use Rattle.stix_json.specs.Properties.{property_text}
use Rattle.stix_times.specs.declared.refusal.TimeRefusal.{TimeRefusal}
use Rattle.stix_times.specs.Reading.{IsMillisTextOf, ReadsMillis}
use Rattle.stix_objects.specs.declared.form.Precision.TheVariants.{Millis}
use Rattle.stix_objects.specs.Properties.{IsTimestampAt, HasId}

-- a property has one text
same_text : (found : Option (List ℕ)) (s t : List ℕ) → Some s ≡ found → found ≡ Some t → t ≡ s
same_text found s t one other = ap (λ (o : Option (List ℕ)). unwrap_or o s) (sym other ∙ sym one)

-- the identifier that is read of the text of `id`, if it is one
pub id_read : (d : Data) (s : List ℕ) → Some s ≡ property_text (codes "id") d → (read : Result IdRef IdRefusal) → IfOk read (λ parts. IsTextOfId s (id_of parts))
    → ((id : Id) → IsTextOfId s id → IsOkAnd read (λ parts. id_of parts ≡ id)) → FindsExactly (HasId d) (option_map id_of (result_ok read))
id_read d s there (Ok parts) ok named = record { text = s; there = sym there; reads = ok }
id_read d s there (Err refusal) ok named = λ id has.
    absurd (named id (subst (λ (t : List ℕ). IsTextOfId t id) (same_text (property_text (codes "id") d) s has.text there has.there) has.reads))

-- the instant that is read of the text of a property, if it is one to the millisecond
pub millis_read : (d : Data) (name s : List ℕ) → Some s ≡ property_text name d → (read : Result ℤ TimeRefusal) → IfOk read (IsMillisTextOf s)
    → ((other : Result ℤ TimeRefusal) → ReadsMillis s other → other ≡ read) → FindsExactly (IsTimestampAt Millis name d) (result_ok read)
millis_read d name s there (Ok instant) ok only = record { text = s; there = sym there; names = ok }
millis_read d name s there (Err refusal) ok only = λ instant has.
    let text = same_text (property_text name d) s has.text there has.there in
    let same : Ok instant ≡ Err refusal = only (Ok instant) (subst (λ (t : List ℕ). IsMillisTextOf t instant) text has.names) in
    absurd (cc)
