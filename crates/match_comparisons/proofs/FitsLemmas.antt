-- The frames of a walk have room, their values are ordered, and their weight falls with each value that is visited.
use Rattle.std.proofs.Common.{arith, ◌≡◌, ℕ, suc, ◌+◌, ◌*◌, ◌<◌, ◌≤◌, ◌^◌, List, [], ◌∷◌, length, All, ap, subst, ◌∙◌, Bor}
use Rattle.std.proofs.Math.Nat.{mul-le-mul_right}
use Rattle.serde_json.specs.Data.{Data}
use Rattle.stix_json.specs.declared.value.Json.{Json}
use Rattle.stix_json.specs.Ordered.{IsOrdered}
use Rattle.stix_json.specs.DataOf.{data_of}
use Rattle.stix_bundles.specs.Objects.{data_in}
use Rattle.pattern_types.specs.declared.path.Step.{Step}
use Rattle.match_comparisons.specs.declared.frame.Frame.{Frame}
use Rattle.match_comparisons.specs.inner.Frames.{HasFrameSpace, weight_of, weight}
use Rattle.match_comparisons.proofs.LeftLemmas.{with_values}

ordered_rest : (d : Data) (ds : List Data) → All IsOrdered (d ∷ ds) → All IsOrdered ds
ordered_rest d ds all k e inside = all (suc k) e (omega (arith, inside))

pub ordered_others : (row : List Json) (first : Json) (others : List Json) → row ≡ first ∷ others → All IsOrdered (data_in row) → All IsOrdered (data_in others)
ordered_others row first others is all = ordered_rest (data_of first) (data_in others) (subst (λ (r : List Json). All IsOrdered (data_in r)) is all)

pub fits_others : (frame : Frame) (frames : List Frame) (first : Json) (others : Bor (List Json)) → frame.values.now ≡ first ∷ others.now
    → HasFrameSpace (frame ∷ frames) → HasFrameSpace (with_values frame others ∷ frames)
fits_others frame frames first others row fits = (fits.0, ordered_others frame.values.now first others.now row fits.1, fits.2)

pub fits_below : (frame : Frame) (frames : List Frame) (first : Json) (others : Bor (List Json)) (step : Step) (steps : List Step) (below : Frame)
    → frame.values.now ≡ first ∷ others.now → frame.steps.now ≡ step ∷ steps → below.steps.now ≡ steps → All IsOrdered (data_in below.values.now)
    → HasFrameSpace (frame ∷ frames) → HasFrameSpace (below ∷ with_values frame others ∷ frames)
fits_below frame frames first others step steps below row more same ordered fits =
    let total : length frame.steps.now ≡ suc (length steps) = ap length more in
    let own : length below.steps.now ≡ length steps = ap length same in
    (omega (arith, fits.0), ordered, fits_others frame frames first others row fits)

at_least_two : (steps : List Step) → 2 ≤ weight_of steps
at_least_two [] = omega arith
at_least_two (step ∷ steps) = omega (arith, at_least_two steps)

one_fewer : (count room : ℕ) → suc count * room ≡ count * room + room
one_fewer count room = grind arith

pub falls_below : (frame : Frame) (frames : List Frame) (first : Json) (others : Bor (List Json)) (step : Step) (steps : List Step) (below : Frame)
    → frame.values.now ≡ first ∷ others.now → frame.steps.now ≡ step ∷ steps → below.steps.now ≡ steps → length below.values.now < 2 ^ 64
    → weight (below ∷ with_values frame others ∷ frames) < weight (frame ∷ frames)
falls_below frame frames first others step steps below row more same counted =
    let room = weight_of frame.steps.now in
    let lower = weight_of steps in
    let total : length frame.values.now ≡ suc (length others.now) = ap length row in
    let parts : length frame.values.now * room ≡ length others.now * room + room = ap (λ n. n * room) total ∙ one_fewer (length others.now) room in
    let is_room : room ≡ 2 ^ 64 * lower = ap weight_of more in
    let own : length below.values.now * weight_of below.steps.now ≡ length below.values.now * lower = ap (λ (ss : List Step). length below.values.now * weight_of ss) same in
    let most : suc (length below.values.now) * lower ≤ 2 ^ 64 * lower = mul-le-mul_right lower (omega arith) in
    let split = one_fewer (length below.values.now) lower in
    omega (arith, parts, is_room, own, most, split, at_least_two steps)
