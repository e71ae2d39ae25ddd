-- A feed is read in one way.
use Rattle.std.proofs.Common.{◌≡◌, ◌≢◌, ◌⊎◌, inl, inr, ℕ, List, [], ◌∷◌, Some, None, refl, sym, ap, subst, ◌∙◌}
use Rattle.serde_json.specs.Data.{Data}
use Rattle.flow_lines.specs.Lines.{LineStream, ended, refused, line_then}
use Rattle.flow_lines.specs.declared.refusal.LineRefusal.{LineRefusal}
use Rattle.flow_lines.specs.declared.refusal.LineRefusal.TheVariants as length_refusal
use Rattle.stix_json.specs.declared.value.Json.{Json}
use Rattle.stix_json.specs.declared.refusal.JsonRefusal.{JsonRefusal}
use Rattle.stix_json.specs.declared.refusal.JsonRefusal.TheVariants.{NoMemory}
use Rattle.stix_json.specs.DataOf.{data_of}
use Rattle.stix_json.specs.Reading.{IsJsonOf, IsJsonRefusedAs}
use Rattle.stix_objects.specs.declared.rule_break.Break.{Break}
use Rattle.stix_objects.specs.Breaks.{AreBreaksOf}
use Rattle.hunt_feed.specs.declared.rule.FeedRule.{FeedRule}
use Rattle.hunt_feed.specs.declared.rule.FeedRule.TheVariants as rule
use Rattle.hunt_feed.specs.Line.{IsObjectOf, IsRefusedFeedLine}
use Rattle.hunt_feed.specs.Feeds.{FeedClose, Refused, IsTooLongFeedLine, IsFeedRefusedAt, ReadsFeedLines, at_end, at_refusal, one_object}

-- the laws of JSON and of breaks
pub record Laws : Type 0 where
  pub same_json : (bytes : List ℕ) (first second : Json) → IsJsonOf bytes first → IsJsonOf bytes second → data_of first ≡ data_of second
  pub json_refusal : (bytes : List ℕ) (first second : JsonRefusal) → first ≢ NoMemory → second ≢ NoMemory → IsJsonRefusedAs bytes first
      → IsJsonRefusedAs bytes second → first ≡ second
  pub no_json : (bytes : List ℕ) (refusal : JsonRefusal) (value : Json) → refusal ≢ NoMemory → IsJsonRefusedAs bytes refusal → ¬ IsJsonOf bytes value
  pub breaks : (value : Data) (first second : List Break) → AreBreaksOf value first → AreBreaksOf value second → first ≡ second

same_object : Laws → (bytes : List ℕ) (d e : Data) → IsObjectOf bytes d → IsObjectOf bytes e → d ≡ e
same_object laws bytes d e p q = p.object_is ∙ laws.same_json bytes p.value q.value p.json q.json ∙ sym q.object_is

one_rule : Laws → (bytes : List ℕ) (why other : FeedRule) → IsRefusedFeedLine bytes why → IsRefusedFeedLine bytes other → why ≡ other
one_rule laws bytes (rule.Json r) (rule.Json s) p q = ap rule.Json (laws.json_refusal bytes r s p.0 q.0 p.1 q.1)
one_rule laws bytes (rule.Json r) (rule.Breaks s) p q = absurd (laws.no_json bytes r q.value p.0 p.1 q.json)
one_rule laws bytes (rule.Breaks r) (rule.Json s) p q = absurd (laws.no_json bytes s p.value q.0 q.1 p.json)
one_rule laws bytes (rule.Breaks r) (rule.Breaks s) p q =
    let same = laws.same_json bytes p.value q.value p.json q.json in
    ap rule.Breaks (laws.breaks (data_of q.value) r s (subst (λ (d : Data). AreBreaksOf d r) same p.are) q.are)
one_rule laws bytes why rule.LineTooLong p q = absurd q
one_rule laws bytes why rule.InputTooLong p q = absurd q
one_rule laws bytes rule.LineTooLong other p q = absurd p
one_rule laws bytes rule.InputTooLong other p q = absurd p

no_object : Laws → (bytes : List ℕ) (object : Data) (why : FeedRule) → IsRefusedFeedLine bytes why → IsObjectOf bytes object → ⊥
no_object laws bytes object rule.LineTooLong p q = p
no_object laws bytes object rule.InputTooLong p q = p
no_object laws bytes object (rule.Json r) p q = laws.no_json bytes r q.value p.0 p.1 q.json
no_object laws bytes object (rule.Breaks r) p q =
    let same = laws.same_json bytes p.value q.value p.json q.json in
    p.some (laws.breaks (data_of q.value) r [] (subst (λ (d : Data). AreBreaksOf d r) same p.are) (subst (λ (d : Data). AreBreaksOf d []) q.object_is q.unbroken))

one_too_long : (refusal : LineRefusal) (line number : ℕ) (why other : FeedRule) → IsTooLongFeedLine refusal line why → IsTooLongFeedLine refusal number other → (line ≡ number) × (why ≡ other)
one_too_long length_refusal.Fault line number why other p q = absurd p
one_too_long (length_refusal.LineTooLong n) line number why other p q = (p.0 ∙ sym q.0, p.1 ∙ sym q.1)
one_too_long (length_refusal.InputTooLong n) line number why other p q = (p.0 ∙ sym q.0, p.1 ∙ sym q.1)
one_too_long length_refusal.NoMemory line number why other p q = absurd p

one_refused_at : Laws → (lines : LineStream) (line number : ℕ) (why other : FeedRule) → IsFeedRefusedAt lines line why → IsFeedRefusedAt lines number other
    → (line ≡ number) × (why ≡ other)
one_refused_at laws ended line number why other p q = absurd p
one_refused_at laws (refused refusal) line number why other p q = one_too_long refusal line number why other p q
one_refused_at laws (line_then n bytes later) line number why other p q = (p.0 ∙ sym q.0, one_rule laws bytes why other p.1 q.1)

pub one_reads : Laws → (lines : LineStream) (objects others : List Data) (close other : FeedClose) → ReadsFeedLines lines objects close → ReadsFeedLines lines others other
    → (objects ≡ others) × (close ≡ other)
one_reads laws ended objects others close other at_end at_end = (refl, refl)
one_reads laws ended objects others close other at_end (at_refusal q) = absurd q
one_reads laws ended objects others close other (at_refusal p) at_end = absurd p
one_reads laws lines objects others (Refused line why) (Refused number because) (at_refusal p) (at_refusal q) =
    let same = one_refused_at laws lines line number why because p q in
    (refl, ap (λ (n : ℕ). Refused n why) same.0 ∙ ap (Refused number) same.1)
one_reads laws (line_then n bytes later) objects others (Refused line why) other (at_refusal p) (one_object {object = d} q reads) = absurd (no_object laws bytes d why p.1 q)
one_reads laws (line_then n bytes later) objects others close (Refused line why) (one_object {object = d} q reads) (at_refusal p) = absurd (no_object laws bytes d why p.1 q)
one_reads laws (line_then n bytes later) objects others close other (one_object {object = d} {objects = more} p first) (one_object {object = e} {objects = rest} q second) =
    let object = same_object laws bytes d e p q in
    let tail = one_reads laws later more rest close other first second in
    let same : more ≡ rest = tail.0 in
    (cc, tail.1)
