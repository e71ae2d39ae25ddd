-- An input is read in one way.
use Rattle.std.proofs.Common.{◌≡◌, ◌≢◌, ◌⊎◌, inl, inr, ℕ, zero, suc, ◌+◌, ◌<◌, ℤ, List, [], ◌∷◌, length, Option, Some, None, refl, sym, ap, subst, ◌∙◌, arith}
use Rattle.std.proofs.lemmas.Int.{ints}
use Rattle.serde_json.specs.Data.{Data}
use Rattle.flow_lines.specs.Lines.{LineStream, ended, refused, line_then}
use Rattle.flow_lines.specs.declared.refusal.LineRefusal.{LineRefusal}
use Rattle.flow_lines.specs.declared.refusal.LineRefusal.TheVariants as length_refusal
use Rattle.stix_json.specs.declared.value.Json.{Json}
use Rattle.stix_json.specs.declared.refusal.JsonRefusal.{JsonRefusal}
use Rattle.stix_json.specs.declared.refusal.JsonRefusal.TheVariants.{NoMemory}
use Rattle.stix_json.specs.DataOf.{data_of}
use Rattle.stix_json.specs.Reading.{IsJsonOf, IsJsonRefusedAs}
use Rattle.stix_bundles.specs.declared.observation.Observation.{Observation}
use Rattle.stix_bundles.specs.declared.refusal.BundleRefusal.{BundleRefusal}
use Rattle.stix_bundles.specs.Bundle.{IsBundle, IsBundleRefused}
use Rattle.stix_bundles.specs.Observations.{NoneEmbeds, IsFirstEmbedding, AreObservations}
use Rattle.match_input.specs.declared.rule.InputRule.{InputRule}
use Rattle.match_input.specs.declared.rule.InputRule.TheVariants as rule
use Rattle.match_input.specs.Line.{IsTextOfBundle, IsInOrderAfter, Decreases, last_after, IsBundleLine, IsNoBundleLine, IsEmbedded, IsOutOfOrder, IsRefusedInputLine}
use Rattle.match_input.specs.Reading.{BundleOf, InputEnd, Refused, IsTooLongInputLine, IsInputRefusedAt, ReadsInputLines, at_end, at_refusal, one_bundle}

-- the laws of JSON, of bundles and of their observations
pub record Laws : Type 0 where
  pub same_json : (bytes : List ℕ) (first second : Json) → IsJsonOf bytes first → IsJsonOf bytes second → data_of first ≡ data_of second
  pub json_refusal : (bytes : List ℕ) (first second : JsonRefusal) → first ≢ NoMemory → second ≢ NoMemory → IsJsonRefusedAs bytes first
      → IsJsonRefusedAs bytes second → first ≡ second
  pub no_json : (bytes : List ℕ) (refusal : JsonRefusal) (value : Json) → refusal ≢ NoMemory → IsJsonRefusedAs bytes refusal → ¬ IsJsonOf bytes value
  pub bundle : (value : Data) (first second : List Data) → IsBundle value first → IsBundle value second → first ≡ second
  pub refusal : (value : Data) (first second : BundleRefusal) → IsBundleRefused value first → IsBundleRefused value second → first ≡ second
  pub either : (value : Data) (objects : List Data) (refusal : BundleRefusal) → IsBundle value objects → ¬ IsBundleRefused value refusal
  pub list : (objects : List Data) (number : ℕ) (first second : List Observation) → AreObservations objects number first
      → AreObservations objects number second → first ≡ second

one_text : Laws → (bytes : List ℕ) (first second : List Data) → IsTextOfBundle bytes first → IsTextOfBundle bytes second → first ≡ second
one_text laws bytes first second p q =
    let same = laws.same_json bytes p.value q.value p.json q.json in
    laws.bundle (data_of q.value) first second (subst (λ (d : Data). IsBundle d first) same p.bundle) q.bundle

no_text : Laws → (bytes : List ℕ) (objects : List Data) (refusal : BundleRefusal) → IsNoBundleLine bytes refusal → IsTextOfBundle bytes objects → ⊥
no_text laws bytes objects refusal p q =
    let same = laws.same_json bytes p.0 q.value p.1 q.json in
    laws.either (data_of q.value) objects refusal q.bundle (subst (λ (d : Data). IsBundleRefused d refusal) same p.2)

one_no_bundle : Laws → (bytes : List ℕ) (first second : BundleRefusal) → IsNoBundleLine bytes first → IsNoBundleLine bytes second → first ≡ second
one_no_bundle laws bytes first second p q =
    let same = laws.same_json bytes p.0 q.0 p.1 q.1 in
    laws.refusal (data_of q.0) first second (subst (λ (d : Data). IsBundleRefused d first) same p.2) q.2

compare : (a b : ℕ) → (a < b) ⊎ ((a ≡ b) ⊎ (b < a))
compare zero zero = inr (inl refl)
compare zero (suc b) = inl (omega arith)
compare (suc a) zero = inr (inr (omega arith))
compare (suc a) (suc b) = elim (compare a b) [
  | inl less ↦ inl (omega (arith, less))
  | inr (inl same) ↦ inr (inl (ap suc same))
  | inr (inr more) ↦ inr (inr (omega (arith, more)))
]

one_first : (objects : List Data) (a b : ℕ) → IsFirstEmbedding objects a → IsFirstEmbedding objects b → a ≡ b
one_first objects a b p q = go (compare a b)
  where
    go : (a < b) ⊎ ((a ≡ b) ⊎ (b < a)) → a ≡ b
    go (inl less) = absurd (q.before a less p.embeds)
    go (inr (inl same)) = same
    go (inr (inr more)) = absurd (p.before b more q.embeds)

one_embedded : Laws → (bytes : List ℕ) (a b : ℕ) → IsEmbedded bytes a → IsEmbedded bytes b → a ≡ b
one_embedded laws bytes a b p q =
    let same = one_text laws bytes p.0 q.0 p.1 q.1 in
    one_first q.0 a b (subst (λ (ds : List Data). IsFirstEmbedding ds a) same p.2) q.2

not_apart : Laws → (bytes : List ℕ) (at : ℕ) (objects : List Data) → IsEmbedded bytes at → IsTextOfBundle bytes objects → NoneEmbeds objects → ⊥
not_apart laws bytes at objects p text none =
    let same = one_text laws bytes p.0 objects p.1 text in
    none at (subst (λ (ds : List Data). IsFirstEmbedding ds at) same p.2).embeds

one_behind : (last : Option ℤ) (observations : List Observation) (a b c d : ℤ) → Decreases last observations a b → Decreases last observations c d → (a ≡ c) × (b ≡ d)
one_behind None observations a b c d p q = absurd p
one_behind (Some last) [] a b c d p q = absurd p
one_behind (Some last) (first ∷ observations) a b c d p q = (p.0 ∙ sym q.0, p.1 ∙ sym q.1)

not_behind : (last : Option ℤ) (observations : List Observation) (a b : ℤ) → Decreases last observations a b → IsInOrderAfter last observations → ⊥
not_behind None observations a b p q = p
not_behind (Some last) [] a b p q = p
not_behind (Some last) (first ∷ observations) a b p q =
    let before = p.0 in
    let now = p.1 in
    let less = p.2 in
    omega (arith, ints, before, now, less, q)

same_list : Laws → (bytes : List ℕ) (next : ℕ) (first second : List Data) (xs ys : List Observation) → IsTextOfBundle bytes first → IsTextOfBundle bytes second
    → AreObservations first next xs → AreObservations second next ys → xs ≡ ys
same_list laws bytes next first second xs ys p q a b =
    let same = one_text laws bytes first second p q in
    laws.list second next xs ys (subst (λ (ds : List Data). AreObservations ds next xs) same a) b

one_out_of_order : Laws → (last : Option ℤ) (next : ℕ) (bytes : List ℕ) (a b c d : ℤ) → IsOutOfOrder last next bytes a b → IsOutOfOrder last next bytes c d → (a ≡ c) × (b ≡ d)
one_out_of_order laws last next bytes a b c d p q =
    let same = same_list laws bytes next p.objects q.objects p.observations q.observations p.text q.text p.are q.are in
    one_behind last q.observations a b c d (subst (λ (os : List Observation). Decreases last os a b) same p.behind) q.behind

one_rule : Laws → (last : Option ℤ) (next : ℕ) (bytes : List ℕ) (why other : InputRule) → IsRefusedInputLine last next bytes why → IsRefusedInputLine last next bytes other → why ≡ other
one_rule laws last next bytes (rule.Json r) (rule.Json s) p q = ap rule.Json (laws.json_refusal bytes r s p.0 q.0 p.1 q.1)
one_rule laws last next bytes (rule.Json r) (rule.Bundle s) p q = absurd (laws.no_json bytes r q.0 p.0 p.1 q.1)
one_rule laws last next bytes (rule.Json r) (rule.Embedded at) p q = absurd (laws.no_json bytes r q.1.value p.0 p.1 q.1.json)
one_rule laws last next bytes (rule.Json r) (rule.OutOfOrder a b) p q = absurd (laws.no_json bytes r q.text.value p.0 p.1 q.text.json)
one_rule laws last next bytes (rule.Bundle r) (rule.Json s) p q = absurd (laws.no_json bytes s p.0 q.0 q.1 p.1)
one_rule laws last next bytes (rule.Bundle r) (rule.Bundle s) p q = ap rule.Bundle (one_no_bundle laws bytes r s p q)
one_rule laws last next bytes (rule.Bundle r) (rule.Embedded at) p q = absurd (no_text laws bytes q.0 r p q.1)
one_rule laws last next bytes (rule.Bundle r) (rule.OutOfOrder a b) p q = absurd (no_text laws bytes q.objects r p q.text)
one_rule laws last next bytes (rule.Embedded at) (rule.Json s) p q = absurd (laws.no_json bytes s p.1.value q.0 q.1 p.1.json)
one_rule laws last next bytes (rule.Embedded at) (rule.Bundle s) p q = absurd (no_text laws bytes p.0 s q p.1)
one_rule laws last next bytes (rule.Embedded at) (rule.Embedded n) p q = ap rule.Embedded (one_embedded laws bytes at n p q)
one_rule laws last next bytes (rule.Embedded at) (rule.OutOfOrder a b) p q = absurd (not_apart laws bytes at q.objects p q.text q.apart)
one_rule laws last next bytes (rule.OutOfOrder a b) (rule.Json s) p q = absurd (laws.no_json bytes s p.text.value q.0 q.1 p.text.json)
one_rule laws last next bytes (rule.OutOfOrder a b) (rule.Bundle s) p q = absurd (no_text laws bytes p.objects s q p.text)
one_rule laws last next bytes (rule.OutOfOrder a b) (rule.Embedded at) p q = absurd (not_apart laws bytes at p.objects q p.text p.apart)
one_rule laws last next bytes (rule.OutOfOrder a b) (rule.OutOfOrder c d) p q =
    let same = one_out_of_order laws last next bytes a b c d p q in
    ap (λ (i : ℤ). rule.OutOfOrder i b) same.0 ∙ ap (rule.OutOfOrder c) same.1
one_rule laws last next bytes why rule.LineTooLong p q = absurd q
one_rule laws last next bytes why rule.InputTooLong p q = absurd q
one_rule laws last next bytes rule.LineTooLong other p q = absurd p
one_rule laws last next bytes rule.InputTooLong other p q = absurd p

no_line : Laws → (last : Option ℤ) (next : ℕ) (bytes : List ℕ) (objects : List Data) (observations : List Observation) (why : InputRule)
    → IsRefusedInputLine last next bytes why → IsBundleLine last next bytes objects observations → ⊥
no_line laws last next bytes objects observations rule.LineTooLong p q = p
no_line laws last next bytes objects observations rule.InputTooLong p q = p
no_line laws last next bytes objects observations (rule.Json r) p q = laws.no_json bytes r q.text.value p.0 p.1 q.text.json
no_line laws last next bytes objects observations (rule.Bundle r) p q = no_text laws bytes objects r p q.text
no_line laws last next bytes objects observations (rule.Embedded at) p q = not_apart laws bytes at objects p q.text q.apart
no_line laws last next bytes objects observations (rule.OutOfOrder a b) p q =
    let same = same_list laws bytes next p.objects objects p.observations observations p.text q.text p.are q.are in
    not_behind last observations a b (subst (λ (os : List Observation). Decreases last os a b) same p.behind) q.in_order

one_too_long : (refusal : LineRefusal) (line number : ℕ) (why other : InputRule) → IsTooLongInputLine refusal line why → IsTooLongInputLine refusal number other → (line ≡ number) × (why ≡ other)
one_too_long length_refusal.Fault line number why other p q = absurd p
one_too_long (length_refusal.LineTooLong n) line number why other p q = (p.0 ∙ sym q.0, p.1 ∙ sym q.1)
one_too_long (length_refusal.InputTooLong n) line number why other p q = (p.0 ∙ sym q.0, p.1 ∙ sym q.1)
one_too_long length_refusal.NoMemory line number why other p q = absurd p

one_refused_at : Laws → (last : Option ℤ) (next : ℕ) (lines : LineStream) (line number : ℕ) (why other : InputRule) → IsInputRefusedAt last next lines line why
    → IsInputRefusedAt last next lines number other → (line ≡ number) × (why ≡ other)
one_refused_at laws last next ended line number why other p q = absurd p
one_refused_at laws last next (refused refusal) line number why other p q = one_too_long refusal line number why other p q
one_refused_at laws last next (line_then n bytes later) line number why other p q = (p.0 ∙ sym q.0, one_rule laws last next bytes why other p.1 q.1)

pub one_reads : Laws → (last : Option ℤ) (next : ℕ) (lines : LineStream) (bundles others : List BundleOf) (end other : InputEnd)
    → ReadsInputLines last next lines bundles end → ReadsInputLines last next lines others other → (bundles ≡ others) × (end ≡ other)
one_reads laws last next ended bundles others end other at_end at_end = (refl, refl)
one_reads laws last next ended bundles others end other at_end (at_refusal q) = absurd q
one_reads laws last next ended bundles others end other (at_refusal p) at_end = absurd p
one_reads laws last next lines bundles others (Refused line why) (Refused number because) (at_refusal p) (at_refusal q) =
    let same = one_refused_at laws last next lines line number why because p q in
    (refl, ap (λ (n : ℕ). Refused n why) same.0 ∙ ap (Refused number) same.1)
one_reads laws last next (line_then n bytes later) bundles others (Refused line why) other (at_refusal p) (one_bundle {objects = objects} {observations = observations} q reads) =
    absurd (no_line laws last next bytes objects observations why p.1 q)
one_reads laws last next (line_then n bytes later) bundles others end (Refused line why) (one_bundle {objects = objects} {observations = observations} q reads) (at_refusal p) =
    absurd (no_line laws last next bytes objects observations why p.1 q)
one_reads laws last next (line_then n bytes later) bundles others end other (one_bundle {objects = ds} {observations = xs} {bundles = more} p first) (one_bundle {objects = es} {observations = ys} {bundles = rest} q second) =
    let objects = one_text laws bytes ds es p.text q.text in
    let observations = same_list laws bytes next ds es xs ys p.text q.text p.are q.are in
    let tail = one_reads laws (last_after last ys) (next + length ys) later more rest end other
    (subst (λ (os : List Observation). ReadsInputLines (last_after last os) (next + length os) later more end) observations first) second in
    let same : more ≡ rest = tail.0 in
    (cc, tail.1)

-- where the first line is a bundle, the input is read as that bundle and what comes after it
pub continues : Laws → (last : Option ℤ) (next number : ℕ) (bytes : List ℕ) (later : LineStream) (objects : List Data) (observations : List Observation)
    (all : List BundleOf) (end : InputEnd) → IsBundleLine last next bytes objects observations → ReadsInputLines last next (line_then number bytes later) all end
    → (rest : List BundleOf) × (all ≡ record { line = number; objects = objects; observations = observations } ∷ rest)
    × ReadsInputLines (last_after last observations) (next + length observations) later rest end
continues laws last next number bytes later objects observations all (Refused line why) is (at_refusal p) = absurd (no_line laws last next bytes objects observations why p.1 is)
continues laws last next number bytes later objects observations all end is (one_bundle {objects = ds} {observations = xs} {bundles = more} p reads) =
    let same = one_text laws bytes ds objects p.text is.text in
    let list = same_list laws bytes next ds objects xs observations p.text is.text p.are is.are in
    (more, cc, subst (λ (os : List Observation). ReadsInputLines (last_after last os) (next + length os) later more end) list reads)
