-- Rows whose dates count up: they ascend, and the last of them is as far as there are rows. Shifted ones too, and they stay sound.
use Rattle.std.proofs.Common.{◌≡◌, inl, inr, ℕ, zero, suc, pos, ◌+◌, ◌≤◌, List, [], ◌∷◌, ◌++◌, length, get_or, map, All, Bool, true, false, cond, refl, subst, arith}
use Rattle.std.specs.Bool.{MatchBool}
use Rattle.std.proofs.lemmas.List.Elements.{All-nil, All-cons, All-map, All-weaker}
use Rattle.serde_json.specs.Data.{Data}
use Rattle.stix_json.specs.DataOf.{data_of}
use Rattle.taxii_rows.specs.declared.stored_row.StoredRow.{StoredRow}
use Rattle.taxii_rows.specs.declared.type_set.TypeSet.{TypeSet}
use Rattle.taxii_rows.specs.declared.type_set.TypeSet.TheVariants.{First, Second}
use Rattle.taxii_rows.specs.StoreState.{dates_of, AscendFrom}
use Rattle.taxii_rows.specs.Version.{HasVersion, IsUndated}
use Rattle.taxii_rows.specs.SoundRow.{Fits, IsSoundRow}
use Rattle.taxii_store.specs.Addition.{watermark_after}
use Rattle.taxii_store.specs.inner.Moving.{CountUp, shifted}

pub count_pushed : (date : ℕ) (rows : List StoredRow) (row : StoredRow) → CountUp date rows → row.date ≡ date + length rows → CountUp date (rows ++ row ∷ [])
count_pushed date [] row counts its = (omega (arith, its), tt)
count_pushed date (first ∷ rows) row counts its = (counts.0, count_pushed (date + 1) rows row counts.1 (omega (arith, its)))

pub counts_ascend : (least date : ℕ) (rows : List StoredRow) → least ≤ date → CountUp date rows → AscendFrom least (dates_of rows)
counts_ascend least date [] from counts = tt
counts_ascend least date (row ∷ rows) from counts =
    let here = counts.0 in (omega (arith, here), counts_ascend (row.date + 1) (date + 1) rows (omega (arith, here)) counts.1)

-- the watermark after rows that count up isn't past where they end
pub counts_last : (bound date watermark : ℕ) (rows : List StoredRow) → watermark ≤ bound → CountUp date rows → date + length rows ≤ bound + 1 → watermark_after watermark rows ≤ bound
counts_last bound date watermark [] marked counts within = marked
counts_last bound date watermark (row ∷ rows) marked counts within =
    let here = counts.0 in
    counts_last bound (date + 1) row.date rows (omega (arith, here)) counts.1 (omega arith)

pub counts_within : (date last : ℕ) (rows : List StoredRow) → CountUp date rows → date + length rows ≤ last + 1 → All (λ row. row.date ≤ last) rows
counts_within date last [] counts within = All-nil (λ row. row.date ≤ last)
counts_within date last (row ∷ rows) counts within =
    let here = counts.0 in
    All-cons (λ row. row.date ≤ last) row rows (omega (arith, here)) (counts_within (date + 1) last rows counts.1 (omega arith))

pub counts_shifted : (date shift : ℕ) (rows : List StoredRow) → CountUp date rows → CountUp (date + shift) (map (shifted shift) rows)
counts_shifted date shift [] counts = tt
counts_shifted date shift (row ∷ rows) counts =
    let here = counts.0 in
    (omega (arith, here), subst (λ (k : ℕ). CountUp k (map (shifted shift) rows)) (omega arith) (counts_shifted (date + 1) shift rows counts.1))

-- ---- shifted rows are sound

fits_shifted : (set : TypeSet) (row : StoredRow) (shift : ℕ) (d : Data) (dated : Bool)
    → MatchBool dated (HasVersion set d row.version) (IsUndated set d × (row.version ≡ pos row.date))
    → MatchBool dated (HasVersion set d (cond dated row.version (pos (row.date + shift))))
    (IsUndated set d × (cond dated row.version (pos (row.date + shift)) ≡ pos (row.date + shift)))
fits_shifted set row shift d true fits = fits
fits_shifted set row shift d false fits = (fits.0, refl)

either_shifted : (row : StoredRow) (shift : ℕ) (d : Data) → Fits row d → Fits (shifted shift row) d
either_shifted row shift d (inl fits) = inl (fits_shifted First row shift d row.dated fits)
either_shifted row shift d (inr fits) = inr (fits_shifted Second row shift d row.dated fits)

pub sound_shifted : (shift : ℕ) (row : StoredRow) → IsSoundRow row → IsSoundRow (shifted shift row)
sound_shifted shift row sound = record {
  object = sound.object;
  reads = sound.reads;
  makes = record {
    compact = sound.makes.compact;
    named = sound.makes.named;
    fits = either_shifted row shift (data_of sound.object) sound.makes.fits;
  };
}

pub all_sound_shifted : (shift : ℕ) (rows : List StoredRow) → All IsSoundRow rows → All IsSoundRow (map (shifted shift) rows)
all_sound_shifted shift rows sound = All-map IsSoundRow (shifted shift) rows (All-weaker IsSoundRow (λ row. IsSoundRow (shifted shift row)) (sound_shifted shift) rows sound)

-- the watermark after some rows is the date of the last
pub last_marks : (watermark : ℕ) (rows : List StoredRow) (last : ℕ) (d : StoredRow) → length rows ≡ suc last → watermark_after watermark rows ≡ (get_or rows last d).date
last_marks watermark [] last d some = absurd (omega (arith, some))
last_marks watermark (row ∷ []) zero d some = refl
last_marks watermark (row ∷ []) (suc last) d some = absurd (omega (arith, some))
last_marks watermark (row ∷ other ∷ rows) zero d some = absurd (omega (arith, some))
last_marks watermark (row ∷ other ∷ rows) (suc last) d some = last_marks row.date (other ∷ rows) last d (omega (arith, some))

-- what is read at a place is what is read there with itself in place of none
pub get_or_again : {A : Type 0} (xs : List A) (i : ℕ) (d : A) → get_or xs i d ≡ get_or xs i (get_or xs i d)
get_or_again [] i d = refl
get_or_again (x ∷ xs) zero d = refl
get_or_again (x ∷ xs) (suc i) d = get_or_again xs i d
