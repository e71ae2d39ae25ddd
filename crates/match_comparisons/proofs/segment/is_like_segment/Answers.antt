use Rattle.std.proofs.Common.{IsUtf8, length, sym, ◌∙◌, rules, eqb-true, eq-eqb}
use Rattle.std.specs.Str.{chars}
use Rattle.match_comparisons.proofs.CharactersLemmas.{chars-none, chars-empty}
use Rattle.match_comparisons.proofs.SegmentsLemmas.{whole_segment, whole_segment_only, no_whole_segment}
use Rattle.match_comparisons.proofs.segment.is_like_segment.Goals as goal

pub returns-in-Some : goal.returns-in-Some
returns-in-Some c =
    let text = chars c.args.text.now in
    let segment = chars c.args.segment.now in
    let left = c.in-Some.left.now in
    let utf8 : IsUtf8 left = search rules in (
      λ yes. whole_segment text segment (chars left) (chars-empty left (eqb-true (length left) 0 (sym c.is_empty.ensures ∙ yes))) c.in-Some.ensures,
      λ like. c.is_empty.ensures ∙ eq-eqb (length left) 0 (chars-none left utf8 (whole_segment_only text segment (chars left) c.requires c.in-Some.ensures like)),
    )

pub returns-in-None : goal.returns-in-None
returns-in-None c =
    let none = no_whole_segment (chars c.args.text.now) (chars c.args.segment.now) c.in-None.ensures in
    (λ yes. absurd (cc yes), λ like. absurd (none like))
