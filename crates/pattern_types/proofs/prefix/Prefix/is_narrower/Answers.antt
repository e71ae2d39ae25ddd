use Rattle.std.proofs.Common.{sym, ◌∙◌, arith, eqb-true, eq-eqb, leb-true}
use Rattle.pattern_types.proofs.IsWithinLemmas.{narrower_from, same_leading, fewer_leading}
use Rattle.pattern_types.proofs.prefix.Prefix.is_narrower.Goals as goal

pub returns-then-outer-self : goal.returns-then-outer-self
returns-then-outer-self c =
    let self = c.args.self in
    let outer = c.args.outer in
    let width = c.args.width in (
      λ same. narrower_from width self.net self.bits outer.net outer.bits c.requires.net c.requires.bits c.requires.outer_bits c.if-outer-self.true (sym c.cut_off.ensures ∙ eqb-true _ _ same ∙ c.cut_off-then-outer-self.ensures),
      λ narrower. eq-eqb _ _ (c.cut_off.ensures ∙ same_leading width self.net self.bits outer.net outer.bits c.requires.net c.requires.bits c.requires.outer_bits narrower ∙ sym c.cut_off-then-outer-self.ensures),
    )

pub returns-else-outer-self : goal.returns-else-outer-self
returns-else-outer-self c =
    let self = c.args.self in
    let outer = c.args.outer in (
      λ fewer. absurd (omega (arith, leb-true _ _ fewer)),
      λ narrower. absurd (omega (arith, fewer_leading c.args.width self.net self.bits outer.net outer.bits c.requires.net c.requires.bits c.requires.outer_bits narrower)),
    )
