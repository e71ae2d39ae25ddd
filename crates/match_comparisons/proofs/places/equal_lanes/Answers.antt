use Rattle.std.proofs.Common.{ℕ, eqb, false, map, cond, ap, ◌∙◌, arith, w32}
use Rattle.std.specs.Int.{bit_at}
use Rattle.std.proofs.lemmas.Simd.{bitmask_splat, bit_mask_l, length-chunk, get_or-chunk}
use Rattle.std.proofs.lemmas.List.{get_or-map}
use lib.Lanes.{chunk}
use Rattle.match_comparisons.proofs.places.equal_lanes.Goals as goal

pub returns : goal.returns
returns c i below =
    let window = c.args.window.now in
    let p = λ (x : ℕ). eqb x c.args.mark in
    let v = chunk c.args.at 64 window in
    let long = length-chunk c.args.at 64 window (omega arith) in
    ap (λ n. bit_at n i) (bitmask_splat w32 eqb v 64 c.args.mark long (omega arith)) ∙ bit_mask_l (map p v) i
    ∙ ap (λ b. cond b 1 0) (get_or-map p v i 0 false (omega (arith, long)) ∙ ap p (get_or-chunk c.args.at 64 window i 0 below))
