use Rattle.std.specs.Prelude.{codes}
use Rattle.pattern_types.specs.PlainPattern.{plain_pattern}
use Rattle.pattern_types.specs.declared.limit.Limit.TheVariants.{Between}
use Rattle.pattern_writer.specs.Parts.{IsParenthesizedBelow}
use Rattle.pattern_writer.specs.Limit.{IsLimitText}
use Rattle.pattern_writer.specs.Canonical.{precedence_level, IsCanonical}
use Rattle.pattern_writer.proofs.AddingLemmas.{ok_sides}
use Rattle.pattern_writer.proofs.patterns.+patterns.Goals as goal

pub write-returns-in-Then : goal.write-returns-in-Then
write-returns-in-Then t c = rw (c.in-Then.is, ← c.deref-in-Then.ensures, ← c.deref-in-Then-2.ensures) c.write_sides-in-Then.ensures

pub write-returns-in_ok-push-in-Between : goal.write-returns-in_ok-push-in-Between
write-returns-in_ok-push-in-Between t c =
    let m = plain_pattern c.deref-in-Between.result.now in
    rw (c.in-Between.is, ← c.deref-in-Between.ensures)
    (ok_sides c.write_span.result (IsParenthesizedBelow 3 (precedence_level m) (IsCanonical m)) (IsLimitText (Between c.in-Between.begins c.in-Between.ends)) (codes " ") c.args.out.now c.write_part-in-Between.new.out c.push-in-Between.new.self c.write_span.new.out
    c.in_ok-write_part-in-Between.ensures c.in_ok-push-in-Between.ensures.ok c.write_span.ensures)
