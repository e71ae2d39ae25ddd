-- The instants that a sound row tells lie within the years 0000 to 9999.
use Rattle.std.proofs.Common.{◌≡◌, ℕ, zero, suc, ◌+◌, ◌-◌, ◌^◌, ◌<◌, ◌≤◌, ℤ, pos, ◌*ℤ◌, inl, inr, Bool, true, false, List, length, take, get_or, refl, sym, subst, arith}
use Rattle.std.specs.Prelude.{All}
use Rattle.std.specs.Bool.{MatchBool}
use Rattle.std.specs.Char.{IsAsciiDigit}
use Rattle.std.specs.Str.Parse.{digits_value}
use Rattle.std.proofs.lemmas.Int.{ints}
use Rattle.std.proofs.lemmas.List.{take_all}
use Rattle.serde_json.specs.Data.{Data}
use Rattle.jiff_core.specs.declared.civil.date.Date.{Date}
use Rattle.jiff_core.proofs.DateLemmas.{epoch_day_range}
use Rattle.jiff_core.proofs.SignedLemmas.{signed_arith}
use Rattle.stix_times.specs.Instant.{IsInstant}
use Rattle.stix_times.specs.Timestamp.{Timestamp, IsShaped, HasDay, fraction_nanos, nanos_of_day}
use Rattle.stix_times.specs.Reading.{IsMillisTextOf}
use Rattle.stix_times.proofs.DayLemmas.{epoch_day-from_zero, instant_bounds}
use Rattle.stix_times.proofs.FractionLemmas.{value_more, bound_more, scaled_bound}
use Rattle.taxii_rows.specs.declared.stored_row.StoredRow.{StoredRow}
use Rattle.taxii_rows.specs.declared.stored_row.TheConstants.{LAST_DATE}
use Rattle.taxii_rows.specs.declared.type_set.TypeSet.{TypeSet}
use Rattle.taxii_rows.specs.StoreState.{StoreState}
use Rattle.taxii_rows.specs.SoundRow.{Fits, IsSoundRow, IsSoundState}
use Rattle.taxii_rows.specs.Version.{HasVersion, IsVersionTime, IsUndated}
use Rattle.taxii_bodies.specs.Times.{IsWritable}

-- ---- a timestamp's instant

below : (digits : List ℕ) (i : ℕ) → All IsAsciiDigit digits → i ≤ length digits → digits_value 10 (take i digits) < 10 ^ i
below digits zero are within = omega arith
below digits (suc i) are within =
    let value = digits_value 10 (take i digits) in
    let one = are i 0 (omega arith) in
    let more = value_more digits i value (omega arith) one refl in
    let bound = bound_more value (get_or digits i 0 - 48) i (below digits i are (omega arith)) (omega (arith, one.1)) in
    let next : i + 1 ≡ suc i = omega arith in
    subst (λ (n : ℕ). digits_value 10 (take n digits) < 10 ^ n) next (subst (λ (v : ℕ). v < 10 ^ (i + 1)) more bound)

fraction_below : (digits : List ℕ) → All IsAsciiDigit digits → length digits ≤ 9 → fraction_nanos digits < 1_000_000_000
fraction_below digits are few =
    let whole = subst (λ (ds : List ℕ). digits_value 10 ds < 10 ^ length digits) (take_all (length digits) digits (omega arith)) (below digits (length digits) are (omega arith)) in
    scaled_bound (digits_value 10 digits) (length digits) few whole

day_below : (t : Timestamp) → IsShaped t → length t.fraction ≤ 9 → nanos_of_day t < 86_400_000_000_000
day_below t shaped few = omega (arith, fraction_below t.fraction shaped.fraction few, shaped.hour, shaped.minute, shaped.second)

abbrev date_of : (t : Timestamp) → IsShaped t → HasDay t → Date
date_of t shaped day = record {
  year = pos t.year;
  month = t.month;
  day = t.day;
  year_in = (let year = shaped.year in (omega (arith, signed_arith), omega (arith, signed_arith)));
  month_in = shaped.month;
  day_in = (shaped.day.0, day);
}

named_instant : (text : List ℕ) (instant : ℤ) → IsMillisTextOf text instant → IsInstant instant
named_instant text instant named =
    let t = named.0 in
    let shaped = named.1.shaped in
    let d = date_of t shaped named.2.0.day in
    let early = epoch_day-from_zero d (omega (arith, signed_arith)) in
    let late = epoch_day_range d in
    subst IsInstant named.2.2 (instant_bounds _ (nanos_of_day t) (early, late.1) (day_below t shaped named.2.0.fine))

-- ---- a row's version

stated_instant : (whole : Data) (instant : ℤ) → IsVersionTime whole instant → IsInstant instant
stated_instant whole instant (inl modified) = named_instant modified.text instant modified.names
stated_instant whole instant (inr created) = named_instant created.1.text instant created.1.names

date_instant : (date : ℕ) → date ≤ LAST_DATE → IsInstant (pos date *ℤ pos 1000)
date_instant date last = (omega (arith, ints), omega (arith, ints))

fits_instant : (dated : Bool) (set : TypeSet) (whole : Data) (version : ℤ) (date : ℕ) → date ≤ LAST_DATE
    → MatchBool dated (HasVersion set whole version) (IsUndated set whole × (version ≡ pos date)) → IsInstant (version *ℤ pos 1000)
fits_instant true set whole version date last fits = stated_instant whole (version *ℤ pos 1000) fits.time
fits_instant false set whole version date last fits = subst (λ (v : ℤ). IsInstant (v *ℤ pos 1000)) (sym fits.1) (date_instant date last)

either_instant : (row : StoredRow) (whole : Data) → row.date ≤ LAST_DATE → Fits row whole → IsInstant (row.version *ℤ pos 1000)
either_instant row whole last (inl first) = fits_instant row.dated _ whole row.version row.date last first
either_instant row whole last (inr second) = fits_instant row.dated _ whole row.version row.date last second

pub writable : (row : StoredRow) → IsSoundRow row → row.date ≤ LAST_DATE → IsWritable row
writable row sound last = record {
  kind = sound.makes.named.reads.kind;
  date = last;
  version = either_instant row _ last sound.makes.fits;
}

pub all_writable : (state : StoreState) → IsSoundState state → All IsWritable state.rows
all_writable state sound = λ k row within.
    let last : (get_or state.rows k row).date ≤ LAST_DATE = omega (arith, sound.marked k row within, sound.last) in
    writable (get_or state.rows k row) (sound.rows k row within) last
