-- What an input is read as, one bundle at a time.
use Rattle.std.proofs.Common.{◌≡◌, ℕ, ◌+◌, ℤ, List, [], ◌∷◌, ◌++◌, length, Option, None, Some, option_map, IfSome, refl, sym, ap, subst, ◌∙◌, append_assoc, arith}
use Rattle.std.proofs.lemmas.List.{append-nil}
use Rattle.serde_json.specs.Data.{Data}
use Rattle.flow_edges.specs.declared.source.TheConstants.{MAX_READ}
use Rattle.flow_edges.specs.Flow.{TakesAtMost}
use Rattle.flow_lines.specs.declared.whole_input.TheConstants.{MAX_WHOLE_INPUT}
use Rattle.flow_lines.specs.Lines.{LineStream, ended, line_then, lines_start}
use Rattle.stix_bundles.specs.Objects.{data_in}
use Rattle.stix_bundles.specs.declared.observation.Observation.{Observation}
use Rattle.match_input.specs.declared.batch.Batch.{Batch}
use Rattle.match_input.specs.declared.rule.InputRule.{InputRule}
use Rattle.match_input.specs.declared.mode.Mode.{Mode}
use Rattle.match_input.specs.declared.mode.Mode.TheVariants.{Lines, Whole as WholeInput}
use Rattle.match_input.specs.declared.stage.Stage.{Stage}
use Rattle.match_input.specs.declared.stage.Stage.TheVariants as stage
use Rattle.match_input.specs.Line.{IsBundleLine, last_after}
use Rattle.match_input.specs.Reading.{BundleOf, InputEnd, Whole, Refused, IsInputRefusedAt, ReadsInputLines, at_end, at_refusal, one_bundle}
use Rattle.match_input.specs.Ahead.{InputReaderState, reader_start, next_observation_number, ahead, BreaksOffReading, GivesBatch}
use Rattle.match_run.specs.Matching.{ReadsInput, HasPrefix, HasTaken}
use Rattle.match_run.specs.Reading.{bundle_of}
use Rattle.match_run.specs.inner.MatchRuns.{IsStageOf, HasReadInMode}
use Rattle.match_run.proofs.StageLemmas.{ahead_none, ahead_some, start_accounts, moves_on}

-- where the first line that comes is a bundle, all that comes is read as that bundle and what is after it
abbrev pub Continues : Type 0
Continues = (last : Option ℤ) (next number : ℕ) (bytes : List ℕ) (later : LineStream) (objects : List Data) (observations : List Observation)
    (all : List BundleOf) (end : InputEnd) → IsBundleLine last next bytes objects observations → ReadsInputLines last next (line_then number bytes later) all end
    → (rest : List BundleOf) × (all ≡ record { line = number; objects = objects; observations = observations } ∷ rest)
    × ReadsInputLines (last_after last observations) (next + length observations) later rest end

-- ---- the start

pub read-start : (mode : Mode) (left : Option (List ℕ)) → HasReadInMode mode left (reader_start mode) left []
read-start Lines None = record { forward = λ more end h. tt; backward = λ all end h. tt; told = tt; stage = (refl, start_accounts lines_start None, omega arith) }
read-start Lines (Some bytes) = record {
  forward = λ more end h. h;
  backward = λ all end h. (all, refl, h);
  told = (bytes, refl);
  stage = (refl, start_accounts lines_start (Some bytes), omega arith);
}
read-start WholeInput None = record { forward = λ more end h. tt; backward = λ all end h. tt; told = tt; stage = (refl, refl) }
read-start WholeInput (Some bytes) = record {
  forward = λ more end h. h;
  backward = λ all end h. (all, refl, h);
  told = (bytes, refl);
  stage = (refl, refl);
}

-- ---- a bundle more

module _ (continues : Continues) (last last_now : Option ℤ) (next next_now number : ℕ) (bytes : List ℕ) (objects : List Data) (observations : List Observation)
    (line : IsBundleLine last next bytes objects observations) (last_is : last_now ≡ last_after last observations) (next_is : next_now ≡ next + length observations) where
  abbrev pub this : BundleOf
  this = record { line = number; objects = objects; observations = observations }

  line-forward : (later : Option LineStream) (more : List BundleOf) (end : InputEnd) → IfSome later (λ lines. ReadsInputLines last_now next_now lines more end)
      → IfSome (option_map (λ lines. line_then number bytes lines) later) (λ lines. ReadsInputLines last next lines (this ∷ more) end)
  line-forward None more end h = tt
  line-forward (Some lines) more end h =
      one_bundle line (subst (λ (n : ℕ). ReadsInputLines (last_after last observations) n lines more end) next_is
      (subst (λ (l : Option ℤ). ReadsInputLines l next_now lines more end) last_is h))

  line-backward : (later : Option LineStream) (bundles all : List BundleOf) (end : InputEnd)
      → IfSome (option_map (λ lines. line_then number bytes lines) later) (λ lines. (rest : List BundleOf) × (all ≡ bundles ++ rest) × ReadsInputLines last next lines rest end)
      → IfSome later (λ lines. (rest : List BundleOf) × (all ≡ (bundles ++ this ∷ []) ++ rest) × ReadsInputLines last_now next_now lines rest end)
  line-backward None bundles all end h = tt
  line-backward (Some lines) bundles all end h =
      let goes = continues last next number bytes lines objects observations h.0 end line h.2 in (
        goes.0,
        h.1 ∙ ap (λ (r : List BundleOf). bundles ++ r) goes.1 ∙ sym (append_assoc bundles (this ∷ []) goes.0),
        subst (λ (l : Option ℤ). ReadsInputLines l next_now lines goes.0 end) (sym last_is)
            (subst (λ (n : ℕ). ReadsInputLines (last_after last observations) n lines goes.0 end) (sym next_is) goes.2),
      )

told-more : (first left left_after : Option (List ℕ)) (st after : Stage) (number : ℕ) (bytes : List ℕ) → IfSome first (λ _. (there : List ℕ) × (left ≡ Some there))
    → ahead st left ≡ option_map (λ lines. line_then number bytes lines) (ahead after left_after) → IfSome first (λ _. (there : List ℕ) × (left_after ≡ Some there))
told-more None left left_after st after number bytes told is = tt
told-more (Some x) left (Some y) st after number bytes told is = (y, refl)
told-more (Some x) left None st after number bytes told is =
    let some = ahead_some st told.0 in
    let one : ahead st left ≡ Some some.0 = ap (ahead st) told.1 ∙ some.1 in
    let none : ahead st left ≡ None = is ∙ ap (option_map (λ lines. line_then number bytes lines)) (ahead_none after) in
    let no : Some some.0 ≡ None = sym one ∙ none in
    absurd (cc)

pub read-more : Continues → (mode : Mode) (first left left_after : Option (List ℕ)) (reader after : InputReaderState) (batch : Batch) (bundles : List BundleOf)
    → HasReadInMode mode first reader left bundles → GivesBatch reader after left left_after batch → HasReadInMode mode first after left_after (bundles ++ bundle_of batch ∷ [])
read-more continues mode first left left_after reader after batch bundles far gives =
    let objects = data_in batch.bundle in
    let next : next_observation_number after ≡ next_observation_number reader + length batch.observations = omega (arith, gives.observations) in
    record {
      forward = λ more end h. subst (λ (bs : List BundleOf). ReadsInput mode first bs end) (sym (append_assoc bundles (bundle_of batch ∷ []) more))
          (far.forward (bundle_of batch ∷ more) end
          (subst (λ (l : Option LineStream). IfSome l (λ lines. ReadsInputLines reader.last (next_observation_number reader) lines (bundle_of batch ∷ more) end)) (sym gives.line)
          (line-forward continues reader.last after.last (next_observation_number reader) (next_observation_number after) batch.line gives.bytes objects batch.observations gives.is gives.last next
          (ahead after.stage left_after) more end h)));
      backward = λ all end h.
          line-backward continues reader.last after.last (next_observation_number reader) (next_observation_number after) batch.line gives.bytes objects batch.observations gives.is gives.last next
          (ahead after.stage left_after) bundles all end
          (subst (λ (l : Option LineStream). IfSome l (λ lines. (rest : List BundleOf) × (all ≡ bundles ++ rest) × ReadsInputLines reader.last (next_observation_number reader) lines rest end)) gives.line
          (far.backward all end h));
      told = told-more first left left_after reader.stage after.stage batch.line gives.bytes far.told gives.line;
      stage = (moves_on bundles (bundles ++ bundle_of batch ∷ []) batch.line first left left_after mode reader.stage after.stage far.stage gives.moves).stage_is;
    }

-- ---- what is read at last

rest_begins : (st : Stage) (first left : Option (List ℕ)) (bundles all : List BundleOf) (Behind : LineStream → List BundleOf → Type 0) → IfSome first (λ _. (there : List ℕ) × (left ≡ Some there))
    → IfSome (ahead st left) (λ lines. (later : List BundleOf) × (all ≡ bundles ++ later) × Behind lines later)
    → IfSome first (λ bytes. (later : List BundleOf) × (all ≡ bundles ++ later))
rest_begins st None left bundles all Behind told h = tt
rest_begins st (Some x) left bundles all Behind told h =
    let some = ahead_some st told.0 in
    let is : ahead st left ≡ Some some.0 = ap (ahead st) told.1 ∙ some.1 in
    let here = subst (λ (l : Option LineStream). IfSome l (λ lines. (later : List BundleOf) × (all ≡ bundles ++ later) × Behind lines later)) is h in
    (here.0, here.1)

pub begins_so : (mode : Mode) (first left : Option (List ℕ)) (reader : InputReaderState) (bundles : List BundleOf) → HasReadInMode mode first reader left bundles → HasPrefix mode first bundles
begins_so mode first left reader bundles far all end reads =
    rest_begins reader.stage first left bundles all (λ lines later. ReadsInputLines reader.last (next_observation_number reader) lines later end) far.told (far.backward all end reads)

whole_ahead : (lines : Option LineStream) (last : Option ℤ) (next : ℕ) → IfSome lines (λ l. l ≡ ended) → IfSome lines (λ l. ReadsInputLines last next l [] Whole)
whole_ahead None last next h = tt
whole_ahead (Some lines) last next h = subst (λ (l : LineStream). ReadsInputLines last next l [] Whole) (sym h) at_end

refused_ahead : (lines : Option LineStream) (last : Option ℤ) (next line : ℕ) (why : InputRule) → IfSome lines (λ l. IsInputRefusedAt last next l line why)
    → IfSome lines (λ l. ReadsInputLines last next l [] (Refused line why))
refused_ahead None last next line why h = tt
refused_ahead (Some lines) last next line why h = at_refusal h

module _ (mode : Mode) (first left : Option (List ℕ)) (reader : InputReaderState) (bundles : List BundleOf) (far : HasReadInMode mode first reader left bundles) where
  pub reads-whole : IfSome (ahead reader.stage left) (λ lines. lines ≡ ended) → ReadsInput mode first bundles Whole
  reads-whole none = subst (λ (bs : List BundleOf). ReadsInput mode first bs Whole) (append-nil bundles)
      (far.forward [] Whole (whole_ahead (ahead reader.stage left) reader.last (next_observation_number reader) none))

  pub reads-refused : (line : ℕ) (why : InputRule) → IfSome (ahead reader.stage left) (λ lines. IsInputRefusedAt reader.last (next_observation_number reader) lines line why)
      → ReadsInput mode first bundles (Refused line why)
  reads-refused line why refused = subst (λ (bs : List BundleOf). ReadsInput mode first bs (Refused line why)) (append-nil bundles)
      (far.forward [] (Refused line why) (refused_ahead (ahead reader.stage left) reader.last (next_observation_number reader) line why refused))

-- nothing is left where the end had come
pub none_left : (st : Stage) (left : Option (List ℕ)) → st ≡ stage.AtEnd → IfSome (ahead st left) (λ lines. lines ≡ ended)
none_left st left is = subst (λ (s : Stage). IfSome (ahead s left) (λ lines. lines ≡ ended)) (sym is) (go left)
  where
    go : (left : Option (List ℕ)) → IfSome (ahead stage.AtEnd left) (λ lines. lines ≡ ended)
    go None = tt
    go (Some bytes) = refl

-- a read failed
pub has_taken : (mode : Mode) (first left left_after : Option (List ℕ)) (st : Stage) (last : Option ℤ) (next : ℕ) (bundles : List BundleOf)
    → ((more : List BundleOf) (end : InputEnd) → IfSome (ahead st left) (λ lines. ReadsInputLines last next lines more end) → ReadsInput mode first (bundles ++ more) end)
    → IsStageOf mode st bundles first left → BreaksOffReading st left left_after → HasTaken mode bundles first left_after
has_taken Lines first left left_after (stage.Lines lines) last next bundles forward s broken = record {
  at = broken.at;
  part = broken.keeps.part;
  fits = broken.keeps.fits;
  accounts = broken.accounts lines_start first s.1;
  last = last;
  next = next;
  behind = λ later end h. forward later end (subst (λ (l : Option LineStream). IfSome l (λ lines. ReadsInputLines last next lines later end)) broken.keeps.lines h);
}
has_taken Lines first left left_after stage.Whole last next bundles forward s broken = absurd s
has_taken Lines first left left_after stage.AtEnd last next bundles forward s broken = absurd s
has_taken Lines first left left_after stage.Ended last next bundles forward s broken = absurd s
has_taken WholeInput first left left_after (stage.Lines lines) last next bundles forward s broken = absurd s
has_taken WholeInput first left left_after stage.Whole last next bundles forward s broken =
    (s.1, subst (λ (l : Option (List ℕ)). TakesAtMost (MAX_WHOLE_INPUT + MAX_READ) l left_after) s.0 broken)
has_taken WholeInput first left left_after stage.AtEnd last next bundles forward s broken = absurd broken
has_taken WholeInput first left left_after stage.Ended last next bundles forward s broken = absurd s
