-- The result of reading a text: the instant that the text names, or why it names none.
use Rattle.std.specs.Prelude.{◌≡◌, ℕ, ◌<◌, ◌≤◌, ℤ, List, length, take, Result, Ok, Err}
use Rattle.stix_times.specs.declared.refusal.TimeRefusal.{TimeRefusal}
use Rattle.stix_times.specs.declared.refusal.TimeRefusal.TheVariants.{Shape, NoSuchDay, TooFine, NotMillis}
use Rattle.stix_times.specs.Timestamp.{Timestamp, Spells, HasDay, HasShape, BeginsShape, nanos_of}

-- the text has the form, with parts that meet the condition
abbrev pub HasShapeWhere : (Timestamp → Type 0) → List ℕ → Type 0
HasShapeWhere P text = (t : Timestamp) × Spells t text × P t

-- the day exists, and the fraction has at most nine digits
pub record IsExact (t : Timestamp) : Type 0 where
  pub day : HasDay t
  pub fine : length t.fraction ≤ 9

-- the fraction has three to six digits
abbrev pub HasMillis : Timestamp → Type 0
HasMillis t = (3 ≤ length t.fraction) × (length t.fraction ≤ 6)

-- the text names the instant
abbrev pub IsTextOfInstant : List ℕ → ℤ → Type 0
IsTextOfInstant text instant = HasShapeWhere (λ t. IsExact t × (nanos_of t ≡ instant)) text

-- the text names the instant, with a fraction of three to six digits
abbrev pub IsMillisTextOf : List ℕ → ℤ → Type 0
IsMillisTextOf text instant = HasShapeWhere (λ t. IsExact t × HasMillis t × (nanos_of t ≡ instant)) text

-- the first `at` bytes begin a text of the form, and no longer prefix does
pub record IsLongestShapePrefix (text : List ℕ) (at : ℕ) : Type 0 where
  pub within : at ≤ length text
  pub begins : BeginsShape (take at text)
  pub longest : (n : ℕ) → n ≤ length text → BeginsShape (take n text) → n ≤ at

-- why the text names no instant
abbrev pub IsRefusedTimestamp : List ℕ → TimeRefusal → Type 0
IsRefusedTimestamp text (Shape at) = (¬ HasShape text) × IsLongestShapePrefix text at
IsRefusedTimestamp text NoSuchDay = HasShapeWhere (λ t. ¬ HasDay t) text
IsRefusedTimestamp text TooFine = HasShapeWhere (λ t. HasDay t × (9 < length t.fraction)) text
IsRefusedTimestamp text NotMillis = ⊥

-- why the text names no instant with a fraction of three to six digits
abbrev pub IsRefusedMillis : List ℕ → TimeRefusal → Type 0
IsRefusedMillis text (Shape at) = IsRefusedTimestamp text (Shape at)
IsRefusedMillis text NoSuchDay = IsRefusedTimestamp text NoSuchDay
IsRefusedMillis text TooFine = IsRefusedTimestamp text TooFine
IsRefusedMillis text NotMillis = HasShapeWhere (λ t. IsExact t × (¬ HasMillis t)) text

-- the result of reading the text
abbrev pub ReadsTimestamp : List ℕ → Result ℤ TimeRefusal → Type 0
ReadsTimestamp text (Ok instant) = IsTextOfInstant text instant
ReadsTimestamp text (Err refusal) = IsRefusedTimestamp text refusal

-- the result of reading the text with three to six fraction digits required
abbrev pub ReadsMillis : List ℕ → Result ℤ TimeRefusal → Type 0
ReadsMillis text (Ok instant) = IsMillisTextOf text instant
ReadsMillis text (Err refusal) = IsRefusedMillis text refusal
