-- Rows and the objects that make them: of one body there is one object, and of one object a row's version is told once.
use Rattle.std.proofs.Common.{◌≡◌, ◌↔◌, ℕ, ℤ, pos, inr, List, Option, Some, None, Result, Ok, Err, IfOk, Bool, true, false, IsTrue, MatchBool, nat_eq, is_some, unwrap_or, refl, sym, ap, ◌∙◌, subst}
use Rattle.std.proofs.lemmas.Bool.{false≢true, eqb-true, eq-eqb, MatchBool-at_true, MatchBool-at_false}
use Rattle.std.proofs.lemmas.Int.{to_z-of_z}
use mir.Syntax.{Width, w64, w128}
use mir.Val.{SFits, of_z, to_z}
use Rattle.flow_values.specs.declared.no_memory.NoMemory.{NoMemory as WantOfMemory}
use Rattle.flow_values.specs.Answers.{FindsExactly}
use Rattle.serde_json.specs.Data.{Data}
use Rattle.serde_json.specs.Written.{compact_text}
use Rattle.stix_ids.specs.declared.id.Id.{Id}
use Rattle.stix_json.specs.declared.value.Json.{Json}
use Rattle.stix_json.specs.DataOf.{data_of}
use Rattle.stix_json.specs.Reading.{IsValueOf, IsJsonOf}
use Rattle.stix_objects.specs.Properties.{HasId}
use Rattle.taxii_rows.specs.declared.stored_row.StoredRow.{StoredRow}
use Rattle.taxii_rows.specs.declared.described.Described.{Described}
use Rattle.taxii_rows.specs.declared.type_set.TypeSet.{TypeSet}
use Rattle.taxii_rows.specs.declared.type_set.TypeSet.TheVariants.{Second}
use Rattle.taxii_rows.specs.Version.{HasVersion, IsUndated}
use Rattle.taxii_rows.specs.Described.{IsDescribed, stored_row_of}
use Rattle.taxii_rows.specs.SoundRow.{FitsUnder, Fits, IsRowOf, IsSoundRow}
use Rattle.taxii_rows.proofs.VersionLemmas.{OneVersion, undated, never_dated}

-- ---- the object that a body is

one_value : (bytes : List ℕ) (first second : Data) → IsValueOf bytes first → IsValueOf bytes second → first ≡ second
one_value bytes first second is also = let same : Some first ≡ Some second = sym is.value ∙ also.value in cc

-- a row is sound exactly where the object that its body is makes it
pub sound_by_object : (row : StoredRow) (object : Json) → IsJsonOf row.body object → IsRowOf row (data_of object) ↔ IsSoundRow row
sound_by_object row object is = (
  λ makes. record { object = object; reads = is; makes = makes },
  λ sound. subst (IsRowOf row) (one_value row.body (data_of sound.object) (data_of object) sound.reads.value is.value) sound.makes,
)

pub sound_answer : (row : StoredRow) (object : Json) → IsJsonOf row.body object → (answer : Result Bool WantOfMemory)
    → IfOk answer (λ own. IsTrue own ↔ IsRowOf row (data_of object)) → IfOk answer (λ sound. IsTrue sound ↔ IsSoundRow row)
sound_answer row object is (Ok own) tells =
    let same = sound_by_object row object is in (λ yes. same.0 (tells.0 yes), λ sound. tells.1 (same.1 sound))
sound_answer row object is (Err error) tells = tt

-- the row's body is the object's text, and so the answer is whether the object tells its identifier and version
pub row_of_text : (row : StoredRow) (d : Data) (text : List ℕ) (observable answer : Bool) → text ≡ compact_text d → row.body ≡ text
    → IsTrue observable ↔ (HasId d row.id × Fits row d) → answer ≡ observable → IsTrue answer ↔ IsRowOf row d
row_of_text row d text observable answer text_is body tells is = (
  λ yes. let both = tells.0 (sym is ∙ yes) in record { compact = body ∙ text_is; named = both.0; fits = both.1 },
  λ own. is ∙ tells.1 (own.named, own.fits),
)

pub row_of_other_text : (row : StoredRow) (d : Data) (text : List ℕ) (answer : Bool) → text ≡ compact_text d → ¬ (row.body ≡ text)
    → answer ≡ false → IsTrue answer ↔ IsRowOf row d
row_of_other_text row d text answer text_is other is = (
  λ yes. absurd (false≢true (sym is ∙ yes)),
  λ own. absurd (other (own.compact ∙ sym text_is)),
)

-- ---- whether a version fits

same_bits : (w : Width) (a b : ℤ) → SFits w a → SFits w b → IsTrue (nat_eq (of_z w a) (of_z w b)) → a ≡ b
same_bits w a b first second same = sym (to_z-of_z w a first) ∙ ap (to_z w) (eqb-true (of_z w a) (of_z w b) same) ∙ to_z-of_z w b second

same_whole : (w : Width) (a b : ℤ) → a ≡ b → IsTrue (nat_eq (of_z w a) (of_z w b))
same_whole w a b same = eq-eqb (of_z w a) (of_z w b) (ap (of_z w) same)

at_true : (b : Bool) (P Q : Type 0) → b ≡ true → P → MatchBool b P Q
at_true true P Q is p = p
at_true false P Q is p = absurd (cc)

at_false : (b : Bool) (P Q : Type 0) → b ≡ false → Q → MatchBool b P Q
at_false true P Q is q = absurd (cc)
at_false false P Q is q = q

pub dated_fits : OneVersion → (set : TypeSet) (row : StoredRow) (d : Data) (version : ℤ) → row.dated ≡ true → HasVersion set d version
    → SFits w64 row.version → SFits w64 version → IsTrue (nat_eq (of_z w64 row.version) (of_z w64 version)) ↔ FitsUnder set row d
dated_fits one set row d version dated has first second =
    let P = HasVersion set d row.version in
    let Q = IsUndated set d × (row.version ≡ pos row.date) in (
      λ same. at_true row.dated P Q dated (subst (HasVersion set d) (sym (same_bits w64 row.version version first second same)) has),
      λ fits. same_whole w64 row.version version (one set d row.version version (MatchBool-at_true P Q dated fits) has),
    )

pub undated_fits : (set : TypeSet) (row : StoredRow) (d : Data) (own : ℤ) (date : ℤ) → row.dated ≡ false → ((version : ℤ) → ¬ HasVersion set d version)
    → own ≡ row.version → date ≡ pos row.date → SFits w128 own → SFits w128 date
    → IsTrue (nat_eq (of_z w128 own) (of_z w128 date)) ↔ FitsUnder set row d
undated_fits set row d own date dated none own_is date_is first second =
    let P = HasVersion set d row.version in
    let Q = IsUndated set d × (row.version ≡ pos row.date) in (
      λ same. at_false row.dated P Q dated (undated set d none, sym own_is ∙ same_bits w128 own date first second same ∙ date_is),
      λ fits. same_whole w128 own date (own_is ∙ (MatchBool-at_false P Q dated fits).1 ∙ sym date_is),
    )

pub undated_never_fits : (set : TypeSet) (row : StoredRow) (d : Data) (version : ℤ) → row.dated ≡ false → HasVersion set d version → ¬ FitsUnder set row d
undated_never_fits set row d version dated has fits =
    never_dated set d (MatchBool-at_false (HasVersion set d row.version) (IsUndated set d × (row.version ≡ pos row.date)) dated fits).0 version has

-- ---- what an object makes

fits_by : (set : TypeSet) (d : Data) (date : ℕ) (version : Option ℤ) → FindsExactly (HasVersion set d) version
    → MatchBool (is_some version) (HasVersion set d (unwrap_or version (pos date))) (IsUndated set d × (unwrap_or version (pos date) ≡ pos date))
fits_by set d date (Some version) has = has
fits_by set d date None none = (undated set d none, refl)

-- the row of what is kept of an object is sound
pub described_is_sound : (object : Json) (described : Described) (date collection : ℕ) → IsDescribed (data_of object) described → IsJsonOf described.body object
    → IsSoundRow (stored_row_of described date collection)
described_is_sound object described date collection is reads = record {
  object = object;
  reads = reads;
  makes = record {
    compact = is.body;
    named = is.id;
    fits = inr (fits_by Second (data_of object) date described.version is.version);
  };
}

pub named_as : (d : Data) (id : Id) (kind : List ℕ) → kind ≡ id.kind → HasId d id → HasId d (record { kind = kind; number = id.number })
named_as d id kind same has = subst (λ (k : List ℕ). HasId d (record { kind = k; number = id.number })) (sym same) has
