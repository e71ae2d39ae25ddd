-- The rows of a page have one manifest, and one list of versions.
use Rattle.std.proofs.Common.{◌≡◌, ℕ, ℤ, List, [], ◌∷◌, Bool, true, false, refl, sym, ap, ◌∙◌}
use Rattle.std.specs.Prelude.{codes}
use Rattle.std.specs.Bool.{MatchBool}
use Rattle.std.specs.List.{AllZip}
use Rattle.serde_json.specs.Data.{Data, string}
use Rattle.serde_json.specs.Written.{compact_text}
use Rattle.stix_ids.specs.Identifier.{canonical_text}
use Rattle.stix_times.specs.Writing.{IsTextOfDigits}
use Rattle.taxii_rows.specs.declared.stored_row.StoredRow.{StoredRow}
use Rattle.taxii_bodies.specs.Manifest.{record_data, IsRecordOf, IsManifest}
use Rattle.taxii_bodies.specs.Page.{page_data}
use Rattle.taxii_bodies.specs.Times.{stated_digits, version_instant, IsVersionText}
use Rattle.taxii_bodies.specs.Versions.{IsVersionOf, AreVersions}

-- an instant has one text of so many digits
abbrev pub OneText : Type 0
OneText = (digits : ℕ) (instant : ℤ) (first second : List ℕ) → IsTextOfDigits digits first instant → IsTextOfDigits digits second instant → first ≡ second

-- where each item has one partner, a list has one
pub one_each : {A B : Type 0} (R : A → B → Type 0) → ((x : A) (y z : B) → R x y → R x z → y ≡ z) → (xs : List A) (ys zs : List B) → AllZip R xs ys → AllZip R xs zs → ys ≡ zs
one_each R one [] [] [] each other = refl
one_each R one [] [] (z ∷ zs) each other = absurd other
one_each R one [] (y ∷ ys) zs each other = absurd each
one_each R one (x ∷ xs) [] zs each other = absurd each
one_each R one (x ∷ xs) (y ∷ ys) [] each other = absurd other
one_each R one (x ∷ xs) (y ∷ ys) (z ∷ zs) each other =
    ap (λ first. first ∷ ys) (one x y z each.0 other.0) ∙ ap (λ rest. z ∷ rest) (one_each R one xs ys zs each.1 other.1)

one_of_two : OneText → (dated : Bool) (instant : ℤ) (first second : List ℕ)
    → MatchBool dated (IsTextOfDigits (stated_digits instant) first instant) (IsTextOfDigits 6 first instant)
    → MatchBool dated (IsTextOfDigits (stated_digits instant) second instant) (IsTextOfDigits 6 second instant) → first ≡ second
one_of_two one true instant first second its also = one (stated_digits instant) instant first second its also
one_of_two one false instant first second its also = one 6 instant first second its also

pub one_version : OneText → (row : StoredRow) (first second : List ℕ) → IsVersionText row first → IsVersionText row second → first ≡ second
one_version one row first second its also = one_of_two one row.dated (version_instant row) first second its also

one_record : OneText → (row : StoredRow) (first second : Data) → IsRecordOf row first → IsRecordOf row second → first ≡ second
one_record one row first second its also =
    its.value_is
    ∙ ap (λ date. record_data date (canonical_text row.id) its.version) (one 6 _ its.date also.date its.date_is also.date_is)
    ∙ ap (λ version. record_data also.date (canonical_text row.id) version) (one_version one row its.version also.version its.version_is also.version_is)
    ∙ sym also.value_is

pub one_manifest : OneText → (rows : List StoredRow) (more : Bool) (first second : List ℕ) → IsManifest rows more first → IsManifest rows more second → first ≡ second
one_manifest one rows more first second its also =
    its.text_is
    ∙ ap (λ records. compact_text (page_data more (codes "objects") records)) (one_each IsRecordOf (one_record one) rows its.records also.records its.each also.each)
    ∙ sym also.text_is

one_told : OneText → (row : StoredRow) (first second : Data) → IsVersionOf row first → IsVersionOf row second → first ≡ second
one_told one row first second its also = its.2 ∙ ap string (one_version one row its.0 also.0 its.1 also.1) ∙ sym also.2

pub one_list_of_versions : OneText → (rows : List StoredRow) (more : Bool) (first second : List ℕ) → AreVersions rows more first → AreVersions rows more second → first ≡ second
one_list_of_versions one rows more first second its also =
    its.text_is
    ∙ ap (λ versions. compact_text (page_data more (codes "versions") versions)) (one_each IsVersionOf (one_told one) rows its.versions also.versions its.each also.each)
    ∙ sym also.text_is
