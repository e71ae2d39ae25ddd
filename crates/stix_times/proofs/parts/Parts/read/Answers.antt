-- The refusal's offset is where the bytes stop fitting; what is left has all of them and a last `Z`.
use Rattle.std.proofs.Common.{◌≡◌, ◌-◌, length, get_or, subst, sym, ◌∙◌, arith}
use Rattle.stix_times.specs.Timestamp.{Spells}
use Rattle.stix_times.specs.Offsets.{parts_at}
use Rattle.stix_times.proofs.ShapeLemmas.{last_or-at, digits_of_shape}
use Rattle.stix_times.proofs.PrefixLemmas.{longest_prefix, shape_from_end, ends_from_shape}
use Rattle.stix_times.proofs.parts.Parts.read.Goals as goal
use Rattle.stix_times.proofs.parts.Parts.read.Goals.{then-at-text-via-then-at-text, then-at-text-via-else-at-text+then-text-lt20, then-at-text-via-else-at-text+else-text-lt20+then-text-ne90}

pub returns-then-at-text-clause-err : goal.returns-then-at-text-clause-err
returns-then-at-text-clause-err c =
    let s = c.args.text.now in
    let n = c.longest_prefix_length-at.result in (
      λ h. let ends = ends_from_shape s n c.longest_prefix_length-at.ensures h in
          let z : get_or s (length s - 1) 0 ≡ 90 = sym (last_or-at 0 s (omega arith)) ∙ ends.2 in
          elim c.then-at-text.branch [ then-at-text-via-then-at-text w ↦ omega arith | then-at-text-via-else-at-text+then-text-lt20 w ↦ omega arith | then-at-text-via-else-at-text+else-text-lt20+then-text-ne90 w ↦ w.if-text-ne90.true z ],
      longest_prefix s n c.longest_prefix_length-at.ensures,
    )

pub at_offsets-requires-clause-digits : goal.at_offsets-requires-clause-digits
at_offsets-requires-clause-digits c =
    let s = c.args.text.now in
    digits_of_shape (parts_at s) s (shape_from_end s c.longest_prefix_length-at.result c.longest_prefix_length-at.ensures (omega arith) (omega arith) (last_or-at 0 s (omega arith) ∙ c.if-text-ne90.false))

pub returns-clause-ok : goal.returns-clause-ok
returns-clause-ok c =
    let s = c.args.text.now in
    subst (λ t. Spells t s) (sym c.at_offsets.ensures) (shape_from_end s c.longest_prefix_length-at.result c.longest_prefix_length-at.ensures (omega arith) (omega arith) (last_or-at 0 s (omega arith) ∙ c.if-text-ne90.false))
