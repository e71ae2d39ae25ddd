-- The reading of some lines and of more after them, line by line.
use Rattle.std.proofs.Common.{◌≡◌, ℕ, ◌+◌, ℤ, Bool, true, false, List, [], ◌∷◌, ◌++◌, length, cond, Option, Some, None, refl, ap, ◌∙◌}
use Rattle.serde_json.specs.Data.{Data}
use Rattle.flow_lines.specs.Lines.{LineStream, ended, refused, line_then, RawLine, content, line_width, is_blank_text, raw_line_refusal, unless_blank, unless_refused, lines_from}
use Rattle.flow_lines.specs.declared.refusal.LineRefusal.{LineRefusal}
use Rattle.stix_bundles.specs.declared.observation.Observation.{Observation}
use Rattle.match_input.specs.declared.rule.InputRule.{InputRule}
use Rattle.match_input.specs.Line.{IsBundleLine, last_after}
use Rattle.match_input.specs.Reading.{BundleOf, InputEnd, Whole, Refused, ReadsInputLines, at_end, at_refusal, one_bundle}

-- where the first line is a bundle, all that comes is read as that bundle and what is after it
abbrev pub ReadsOn : Type 0
ReadsOn = (last : Option ℤ) (next number : ℕ) (bytes : List ℕ) (later : LineStream) (objects : List Data) (observations : List Observation)
    (all : List BundleOf) (end : InputEnd) → IsBundleLine last next bytes objects observations → ReadsInputLines last next (line_then number bytes later) all end
    → (rest : List BundleOf) × (all ≡ record { line = number; objects = objects; observations = observations } ∷ rest)
    × ReadsInputLines (last_after last observations) (next + length observations) later rest end

-- ---- lines that are read to their end

-- a reading of the lines to their end begins each reading of the longer ones
abbrev Begins : LineStream → LineStream → Type 0
Begins lines longer = (last : Option ℤ) (next : ℕ) (bundles all : List BundleOf) (end : InputEnd) → ReadsInputLines last next lines bundles Whole
    → ReadsInputLines last next longer all end → (rest : List BundleOf) × (all ≡ bundles ++ rest)

begins_ended : (longer : LineStream) → Begins ended longer
begins_ended longer last next bundles all end at_end second = (all, refl)

begins_refused : (refusal : LineRefusal) (longer : LineStream) → Begins (refused refusal) longer
begins_refused refusal longer last next bundles all end first second = elim first [ ]

begins_line : ReadsOn → (number : ℕ) (bytes : List ℕ) (later longer : LineStream) → Begins later longer → Begins (line_then number bytes later) (line_then number bytes longer)
begins_line on number bytes later longer begins last next bundles all end (one_bundle {objects = objects} {observations = observations} {bundles = more} is first) second =
    let tail = on last next number bytes longer objects observations all end is second in
    let rest = begins (last_after last observations) (next + length observations) more tail.0 end first tail.2 in
    (rest.0, tail.1 ∙ ap (λ (bundles : List BundleOf). record { line = number; objects = objects; observations = observations } ∷ bundles) rest.1)

begins_blank : ReadsOn → (blank : Bool) (number : ℕ) (bytes : List ℕ) (later longer : LineStream) → Begins later longer
    → Begins (cond blank later (line_then number bytes later)) (cond blank longer (line_then number bytes longer))
begins_blank on true number bytes later longer begins = begins
begins_blank on false number bytes later longer begins = begins_line on number bytes later longer begins

begins_first : (refusal : Option LineRefusal) (later longer : LineStream) → Begins later longer → Begins (unless_refused refusal later) (unless_refused refusal longer)
begins_first None later longer begins = begins
begins_first (Some refusal) later longer begins = begins_refused refusal (refused refusal)

pub begins_from : ReadsOn → (number place : ℕ) (lines more : List RawLine) → Begins (lines_from number place lines) (lines_from number place (lines ++ more))
begins_from on number place [] more = begins_ended (lines_from number place more)
begins_from on number place (l ∷ ls) more =
    let later = lines_from (number + 1) (place + line_width l) ls in
    let longer = lines_from (number + 1) (place + line_width l) (ls ++ more) in
    begins_first (raw_line_refusal number place l) (unless_blank number (content l) later) (unless_blank number (content l) longer)
    (begins_blank on (is_blank_text (content l)) number (content l) later longer (begins_from on (number + 1) (place + line_width l) ls more))

-- ---- lines of which one is refused

-- a reading of the lines to a refused one is a reading of the longer ones
abbrev Stays : LineStream → LineStream → Type 0
Stays lines longer = (last : Option ℤ) (next : ℕ) (bundles : List BundleOf) (line : ℕ) (why : InputRule) → ReadsInputLines last next lines bundles (Refused line why)
    → ReadsInputLines last next longer bundles (Refused line why)

stays_ended : (longer : LineStream) → Stays ended longer
stays_ended longer last next bundles line why (at_refusal is) = absurd is

stays_line : (number : ℕ) (bytes : List ℕ) (later longer : LineStream) → Stays later longer → Stays (line_then number bytes later) (line_then number bytes longer)
stays_line number bytes later longer stays last next bundles line why (at_refusal is) = at_refusal is
stays_line number bytes later longer stays last next bundles line why (one_bundle {objects = objects} {observations = observations} {bundles = more} is reads) =
    one_bundle is (stays (last_after last observations) (next + length observations) more line why reads)

stays_blank : (blank : Bool) (number : ℕ) (bytes : List ℕ) (later longer : LineStream) → Stays later longer
    → Stays (cond blank later (line_then number bytes later)) (cond blank longer (line_then number bytes longer))
stays_blank true number bytes later longer stays = stays
stays_blank false number bytes later longer stays = stays_line number bytes later longer stays

stays_first : (refusal : Option LineRefusal) (later longer : LineStream) → Stays later longer → Stays (unless_refused refusal later) (unless_refused refusal longer)
stays_first None later longer stays = stays
stays_first (Some refusal) later longer stays = λ last next bundles line why reads. reads

pub stays_from : (number place : ℕ) (lines more : List RawLine) → Stays (lines_from number place lines) (lines_from number place (lines ++ more))
stays_from number place [] more = stays_ended (lines_from number place more)
stays_from number place (l ∷ ls) more =
    let later = lines_from (number + 1) (place + line_width l) ls in
    let longer = lines_from (number + 1) (place + line_width l) (ls ++ more) in
    stays_first (raw_line_refusal number place l) (unless_blank number (content l) later) (unless_blank number (content l) longer)
    (stays_blank (is_blank_text (content l)) number (content l) later longer (stays_from (number + 1) (place + line_width l) ls more))
