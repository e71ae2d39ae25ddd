use Rattle.std.proofs.Common.{◌≡◌, ℤ, pos, negsuc, ◌≤ℤ◌, nat_abs, refl, ap, ◌∙◌, arith, FitsSigned, w16, to_z, of_z}
use Rattle.std.proofs.lemmas.Int.{to_z-of_z}
use Rattle.jiff_core.proofs.SignedLemmas.{signed_arith}
use Rattle.stix_times.proofs.CivilLemmas.{civil_of_date}
use Rattle.stix_times.proofs.civil.Civil.new.Goals as goal

pos-nat_abs : (z : ℤ) → pos 0 ≤ℤ z → pos (nat_abs z) ≡ z
pos-nat_abs (pos n) h = refl
pos-nat_abs (negsuc n) h = absurd (omega (arith, signed_arith))

pub returns : goal.returns
returns c =
    let y = c.args.date.year in
    let fits : FitsSigned w16 y = omega (arith, signed_arith) in
    let year : pos (nat_abs (to_z w16 (of_z w16 y))) ≡ y = ap (λ z. pos (nat_abs z)) (to_z-of_z w16 y fits) ∙ pos-nat_abs y c.requires.from_zero in
    civil_of_date _ c.args.date c.args.nanos year refl refl (record { hour = refl; minute = refl; second = refl; nanosecond = refl }) c.requires.within
