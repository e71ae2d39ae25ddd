-- No input is without a reading: a line is a bundle or refused for some cause.
use Rattle.std.proofs.Common.{◌≢◌, ◌⊎◌, inl, inr, ℕ, ◌+◌, ℤ, Bool, true, false, List, [], ◌∷◌, length, nat_lt, nat_le, ◌&&◌, cond, Option, Some, None, refl}
use Rattle.std.specs.Prelude.{⊤}
use Rattle.std.proofs.lemmas.Int.{by_lt_z}
use Rattle.serde_json.specs.Data.{Data}
use Rattle.flow_lines.specs.Lines.{LineStream, ended, refused, line_then, RawLine, raw_lines, content, line_width, is_blank_text, unless_blank, unless_refused, lines_from}
use Rattle.flow_lines.specs.declared.refusal.TheConstants.{MAX_LINE, MAX_INPUT}
use Rattle.flow_lines.specs.declared.refusal.LineRefusal.{LineRefusal}
use Rattle.flow_lines.specs.declared.refusal.LineRefusal.TheVariants.{Fault, LineTooLong, InputTooLong, NoMemory}
use Rattle.flow_lines.specs.declared.whole_input.TheConstants.{MAX_WHOLE_INPUT}
use Rattle.stix_json.specs.declared.value.Json.{Json}
use Rattle.stix_json.specs.declared.refusal.JsonRefusal.{JsonRefusal}
use Rattle.stix_json.specs.declared.refusal.JsonRefusal.TheVariants as json_refusal
use Rattle.stix_json.specs.DataOf.{data_of}
use Rattle.stix_json.specs.Reading.{IsJsonOf, IsJsonRefusedAs}
use Rattle.stix_bundles.specs.declared.observation.Observation.{Observation}
use Rattle.stix_bundles.specs.declared.refusal.BundleRefusal.{BundleRefusal}
use Rattle.stix_bundles.specs.Bundle.{AreAllBreaks, IsBundle, IsBundleRefused}
use Rattle.stix_bundles.specs.Observations.{NoneEmbeds, IsFirstEmbedding, AreObservations}
use Rattle.match_input.specs.declared.mode.Mode.{Mode}
use Rattle.match_input.specs.declared.mode.Mode.TheVariants as mode
use Rattle.match_input.specs.declared.rule.InputRule.{InputRule}
use Rattle.match_input.specs.declared.rule.InputRule.TheVariants as rule
use Rattle.match_input.specs.Line.{IsTextOfBundle, IsInOrderAfter, Decreases, last_after, IsBundleLine, IsRefusedInputLine}
use Rattle.match_input.specs.Reading.{BundleOf, InputEnd, Whole, Refused, ReadsInputLines, at_end, at_refusal, one_bundle, lines_in, Reading}

-- what a line rests on
pub record Laws : Type 0 where
  pub json : (bytes : List ℕ) → ((value : Json) × IsJsonOf bytes value) ⊎ ((refusal : JsonRefusal) × (refusal ≢ json_refusal.NoMemory) × IsJsonRefusedAs bytes refusal)
  pub bundle : (value : Data) → ¬ (((objects : List Data) → ¬ IsBundle value objects) × ((refusal : BundleRefusal) → ¬ IsBundleRefused value refusal))
  pub embedding : (objects : List Data) → NoneEmbeds objects ⊎ ((at : ℕ) × IsFirstEmbedding objects at)
  pub observations : (objects : List Data) (number : ℕ) → AreAllBreaks 0 objects [] → ¬ ((observations : List Observation) → ¬ AreObservations objects number observations)

-- ---- one line

-- a line that is neither a bundle nor refused
record IsNeither (last : Option ℤ) (next : ℕ) (bytes : List ℕ) : Type 0 where
  bundle : (objects : List Data) (observations : List Observation) → ¬ IsBundleLine last next bytes objects observations
  refused : (why : InputRule) → ¬ IsRefusedInputLine last next bytes why

order_told : (last : Option ℤ) (observations : List Observation) → IsInOrderAfter last observations ⊎ ((before now : ℤ) × Decreases last observations before now)
order_told None observations = inl tt
order_told (Some last) [] = inl tt
order_told (Some last) (first ∷ observations) =
    by_lt_z first.last last (λ behind. inr (last, first.last, (refl, refl, behind))) (λ in_order. inl in_order)

by_order : (last : Option ℤ) (next : ℕ) (bytes : List ℕ) → IsNeither last next bytes → (objects : List Data) → IsTextOfBundle bytes objects → NoneEmbeds objects
    → (observations : List Observation) → AreObservations objects next observations
    → IsInOrderAfter last observations ⊎ ((before now : ℤ) × Decreases last observations before now) → ⊥
by_order last next bytes neither objects text apart observations are (inl in_order) =
    neither.bundle objects observations (record { text = text; apart = apart; are = are; in_order = in_order })
by_order last next bytes neither objects text apart observations are (inr (before, now, behind)) =
    neither.refused (rule.OutOfOrder before now)
    (record { objects = objects; text = text; apart = apart; observations = observations; are = are; behind = behind })

by_embedding : Laws → (last : Option ℤ) (next : ℕ) (bytes : List ℕ) → IsNeither last next bytes → (objects : List Data) → IsTextOfBundle bytes objects
    → NoneEmbeds objects ⊎ ((at : ℕ) × IsFirstEmbedding objects at) → ⊥
by_embedding laws last next bytes neither objects text (inl apart) =
    laws.observations objects next text.bundle.unbroken (λ observations are.
    by_order last next bytes neither objects text apart observations are (order_told last observations))
by_embedding laws last next bytes neither objects text (inr (at, first)) = neither.refused (rule.Embedded at) (objects, text, first)

by_json : Laws → (last : Option ℤ) (next : ℕ) (bytes : List ℕ) → IsNeither last next bytes
    → ((value : Json) × IsJsonOf bytes value) ⊎ ((refusal : JsonRefusal) × (refusal ≢ json_refusal.NoMemory) × IsJsonRefusedAs bytes refusal) → ⊥
by_json laws last next bytes neither (inl (value, json)) =
    laws.bundle (data_of value) (
      (λ objects bundle. by_embedding laws last next bytes neither objects (record { value = value; json = json; bundle = bundle }) (laws.embedding objects)),
      (λ refusal why. neither.refused (rule.Bundle refusal) (value, json, why)),
    )
by_json laws last next bytes neither (inr (refusal, some, why)) = neither.refused (rule.Json refusal) (some, why)

some_line : Laws → (last : Option ℤ) (next : ℕ) (bytes : List ℕ) → ¬ IsNeither last next bytes
some_line laws last next bytes neither = by_json laws last next bytes neither (laws.json bytes)

-- ---- all lines

-- lines are refused for length alone
abbrev IsForLength : LineRefusal → Type 0
IsForLength Fault = ⊥
IsForLength (LineTooLong number) = ⊤
IsForLength (InputTooLong number) = ⊤
IsForLength NoMemory = ⊥

abbrev AreForLength : LineStream → Type 0
AreForLength ended = ⊤
AreForLength (refused refusal) = IsForLength refusal
AreForLength (line_then number bytes later) = AreForLength later

length_told : (number : ℕ) (long past : Bool) (lines : LineStream) → AreForLength lines
    → AreForLength (unless_refused (cond long (Some (LineTooLong number)) (cond past (Some (InputTooLong number)) None)) lines)
length_told number true past lines are = tt
length_told number false true lines are = tt
length_told number false false lines are = are

blank_told : (blank : Bool) (number : ℕ) (bytes : List ℕ) (lines : LineStream) → AreForLength lines → AreForLength (cond blank lines (line_then number bytes lines))
blank_told true number bytes lines are = are
blank_told false number bytes lines are = are

for_length : (number place : ℕ) (lines : List RawLine) → AreForLength (lines_from number place lines)
for_length number place [] = tt
for_length number place (l ∷ ls) =
    let later = lines_from (number + 1) (place + line_width l) ls in
    let long = nat_lt MAX_LINE (length l.bytes) && nat_le (place + MAX_LINE) MAX_INPUT in
    let past = nat_lt MAX_INPUT (place + length l.bytes + cond l.terminated 1 0) in
    length_told number long past (unless_blank number (content l) later)
    (blank_told (is_blank_text (content l)) number (content l) later (for_length (number + 1) (place + line_width l) ls))

whole_told : (past : Bool) (bytes : List ℕ) → AreForLength (cond past (refused (InputTooLong 1)) (line_then 1 bytes ended))
whole_told true bytes = tt
whole_told false bytes = tt

in_for_length : (cut : Mode) (bytes : List ℕ) → AreForLength (lines_in cut bytes)
in_for_length mode.Lines bytes = for_length 1 0 (raw_lines bytes)
in_for_length mode.Whole bytes = whole_told (nat_lt MAX_WHOLE_INPUT (length bytes)) bytes

some_reads : Laws → (lines : LineStream) → AreForLength lines → (last : Option ℤ) (next : ℕ) → ¬ ((bundles : List BundleOf) (end : InputEnd) → ¬ ReadsInputLines last next lines bundles end)
some_reads laws ended are last next = λ fails. fails [] Whole at_end
some_reads laws (refused Fault) are last next = absurd are
some_reads laws (refused (LineTooLong number)) are last next = λ fails. fails [] (Refused number rule.LineTooLong) (at_refusal (refl, refl))
some_reads laws (refused (InputTooLong number)) are last next = λ fails. fails [] (Refused number rule.InputTooLong) (at_refusal (refl, refl))
some_reads laws (refused NoMemory) are last next = absurd are
some_reads laws (line_then number bytes later) are last next = λ fails. some_line laws last next bytes (record {
  bundle = λ objects observations is.
      some_reads laws later are (last_after last observations) (next + length observations) (λ bundles end reads.
      fails (record { line = number; objects = objects; observations = observations } ∷ bundles) end (one_bundle is reads));
  refused = λ why is. fails [] (Refused number why) (at_refusal (refl, is));
})

pub some_reading : Laws → (cut : Mode) (bytes : List ℕ) → ¬ ((bundles : List BundleOf) (end : InputEnd) → ¬ Reading cut bytes bundles end)
some_reading laws cut bytes = some_reads laws (lines_in cut bytes) (in_for_length cut bytes) None 1
