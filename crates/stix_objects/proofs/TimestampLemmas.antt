-- A text that names an instant does so with three to six digits of a second, or is refused for these alone.
use Rattle.std.proofs.Common.{◌↔◌, ◌<ℤ◌, ◌≤ℤ◌, Bool, not, IsTrue, subst, ◌≡◌, ℕ, ℤ, ◌⊎◌, inl, inr, List, length, Result, Ok, Err, Option, IfSome, unwrap_or, ap, sym, ◌∙◌, Some, None, true, false, refl, arith, bytes_eq}
use Rattle.std.proofs.lemmas.Bool.Decides.{leb_tells}
use Rattle.std.proofs.lemmas.Int.{ints, by_lt_z}
use Rattle.std.proofs.lemmas.Slice.Eq.{bytes_eq-Decides}
use Rattle.flow_values.specs.Answers.{FindsExactly}
use Rattle.stix_times.specs.declared.refusal.TimeRefusal.{TimeRefusal}
use Rattle.stix_times.specs.declared.refusal.TimeRefusal.TheVariants.{NotMillis}
use Rattle.stix_times.specs.Timestamp.{Timestamp, nanos_of}
use Rattle.serde_json.specs.Data.{Data}
use Rattle.stix_objects.specs.declared.form.Precision.{Precision}
use Rattle.stix_objects.specs.declared.form.Precision.TheVariants.{Any, Millis}
use Rattle.stix_objects.specs.Singles.{IsTimestampOf}
use Rattle.stix_json.specs.Properties.{property_text}
use Rattle.stix_objects.specs.Conditions.{SecondIsEarlier}
use Rattle.stix_objects.specs.Properties.{IsTimestampAt}
use Rattle.stix_times.specs.Reading.{HasMillis, IsTextOfInstant, IsMillisTextOf, ReadsTimestamp, ReadsMillis, IsRefusedMillis}

-- a text that names an instant isn't refused
pub not_refused : (s : List ℕ) (e : TimeRefusal) (answer : Result ℤ TimeRefusal) → ((other : Result ℤ TimeRefusal) → ReadsTimestamp s other → other ≡ answer)
    → answer ≡ Err e → (i : ℤ) → IsTextOfInstant s i → ⊥
not_refused s e answer only is i h = let same : Ok i ≡ answer = only (Ok i) h in cc

pub not_refused_millis : (s : List ℕ) (e : TimeRefusal) (answer : Result ℤ TimeRefusal) → ((other : Result ℤ TimeRefusal) → ReadsMillis s other → other ≡ answer)
    → answer ≡ Err e → (i : ℤ) → IsMillisTextOf s i → ⊥
not_refused_millis s e answer only is i h = let same : Ok i ≡ answer = only (Ok i) h in cc

-- the instant that is read is the one that is named
pub same_instant : (i j : ℤ) (answer : Result ℤ TimeRefusal) → Ok j ≡ answer → answer ≡ Ok i → Some i ≡ Some j
same_instant i j answer named is = cc

pub time_of_millis : (s : List ℕ) (i : ℤ) → IsMillisTextOf s i → IsTextOfInstant s i
time_of_millis s i h = (h.0, h.1, (h.2.0, h.2.2))

pub time_of_fine : (s : List ℕ) → IsRefusedMillis s NotMillis → (i : ℤ) × IsTextOfInstant s i
time_of_fine s h = (nanos_of h.0, (h.0, h.1, (h.2.0, refl)))

millis_or_not : (t : Timestamp) → HasMillis t ⊎ (¬ HasMillis t)
millis_or_not t =
    elim (leb_tells 3 (length t.fraction)) [
      | inl few ↦ elim (leb_tells (length t.fraction) 6) [ inl many ↦ inl (few.1, many.1) | inr many ↦ inr (λ h. let within = h.1 in omega arith) ]
      | inr few ↦ inr (λ h. let within = h.0 in omega arith)
    ]

-- a text that is refused for another cause than its digits names no instant
pub names_none : (s : List ℕ) (e : TimeRefusal) (answer : Result ℤ TimeRefusal) → ((other : Result ℤ TimeRefusal) → ReadsMillis s other → other ≡ answer)
    → answer ≡ Err e → ¬ (e ≡ NotMillis) → (i : ℤ) → IsTextOfInstant s i → ⊥
names_none s e answer only is other i h =
    elim (millis_or_not h.0) [
      | inl millis ↦ not_refused_millis s e answer only is i (h.0, h.1, (h.2.0, millis, h.2.1))
      | inr fine ↦ let same : Err NotMillis ≡ answer = only (Err NotMillis) (h.0, h.1, (h.2.0, fine)) in other (cc)
    ]

pub never_there : (i : ℤ) → None ≡ Some i → ⊥
never_there i is = cc

pub not_before : (from to : ℤ) (b : Bool) → (IsTrue b ↔ (from <ℤ to)) → not b ≡ true → to ≤ℤ from
not_before from to b tells other = by_lt_z from to (λ earlier. let is : b ≡ true = tells.1 earlier in absurd (both other is)) (λ later. later)
  where
    both : {b : Bool} → not b ≡ true → b ≡ true → ⊥
    both other is = cc

pub not_later_of : (from begins to ends : ℤ) (b : Bool) → Some begins ≡ Some from → Some ends ≡ Some to → (IsTrue b ↔ (begins <ℤ ends)) → to ≤ℤ from → not b ≡ true
not_later_of from begins to ends true first second tells not_later =
    let same : begins ≡ from = cc in
    let same_end : ends ≡ to = cc in
    let earlier : from <ℤ to = subst (λ (i : ℤ). i <ℤ to) same (subst (λ (j : ℤ). begins <ℤ j) same_end (tells.0 refl)) in
    absurd (omega (arith, ints))
not_later_of from begins to ends false first second tells not_later = refl

-- what holds of the answer, and of no other instant, is found exactly
pub found_exactly : (Rule : ℤ → Type 0) (found : Option ℤ) → IfSome found Rule → ((instant : ℤ) → Rule instant → found ≡ Some instant) → FindsExactly Rule found
found_exactly Rule None there only = λ instant is. let none : None ≡ Some instant = only instant is in cc
found_exactly Rule (Some instant) there only = there

abbrev pub OneInstant : Type 0
OneInstant = (text : List ℕ) (first second : ℤ) → IsTextOfInstant text first → IsTextOfInstant text second → first ≡ second

instant_once : OneInstant → (precision : Precision) (text : List ℕ) (first second : ℤ) → IsTimestampOf precision text first → IsTimestampOf precision text second → first ≡ second
instant_once one Any text first second is also = one text first second is also
instant_once one Millis text first second is also = one text first second (time_of_millis text first is) (time_of_millis text second also)

-- a property is a timestamp of one instant
pub timestamp_once : OneInstant → (precision : Precision) (name : List ℕ) (d : Data) (first second : ℤ) → IsTimestampAt precision name d first
    → IsTimestampAt precision name d second → first ≡ second
timestamp_once one precision name d first second is also =
    let text : also.text ≡ is.text = ap (λ (o : Option (List ℕ)). unwrap_or o also.text) (sym also.there ∙ is.there) in
    instant_once one precision is.text first second is.names (subst (λ (t : List ℕ). IsTimestampOf precision t second) text also.names)

is_equal : (first second : List ℕ) → not (bytes_eq first second) ≡ false → first ≡ second
is_equal first second is = (bytes_eq-Decides first second).0 (told (bytes_eq first second) is)
  where
    told : (b : Bool) → not b ≡ false → b ≡ true
    told true is = refl
    told false is = absurd (cc)

-- of two properties with one text the second isn't earlier than the first
pub never_earlier : OneInstant → (precision : Precision) (first second : List ℕ) (d : Data) (from to : List ℕ) → Some from ≡ property_text first d → Some to ≡ property_text second d
    → not (bytes_eq from to) ≡ false → SecondIsEarlier precision first second d → ⊥
never_earlier one precision first second d from to begins ends is earlier =
    let of_first : earlier.begins.text ≡ from = ap (λ (o : Option (List ℕ)). unwrap_or o from) (sym earlier.begins.there ∙ sym begins) in
    let of_second : earlier.ends.text ≡ from = ap (λ (o : Option (List ℕ)). unwrap_or o from) (sym earlier.ends.there ∙ sym ends) ∙ sym (is_equal from to is) in
    let same : earlier.from ≡ earlier.to = instant_once one precision from earlier.from earlier.to
    (subst (λ (t : List ℕ). IsTimestampOf precision t earlier.from) of_first earlier.begins.names)
    (subst (λ (t : List ℕ). IsTimestampOf precision t earlier.to) of_second earlier.ends.names) in
    let less : earlier.to <ℤ earlier.from = earlier.earlier in
    absurd (omega (arith, ints))
