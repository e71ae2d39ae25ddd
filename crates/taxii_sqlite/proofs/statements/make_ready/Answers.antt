-- Each step was asked of the disk as the one before left it, which was clean.
use Rattle.std.proofs.Common.{◌≡◌, pos, rules, subst}
use Rattle.std.proofs.lemmas.Int.{ints}
use Rattle.sqlite.specs.Held.{state}
use Rattle.taxii_sqlite.specs.Statements.{AnswersCount}
use Rattle.taxii_sqlite.proofs.statements.make_ready.Goals as goal

pub returns-then-branch-eq0 : goal.returns-then-branch-eq0
returns-then-branch-eq0 g c = record {
  ready = λ clean.
      let read = c.count_early_rows.ensures.clean clean in
      let taken = c.read_watermark.ensures.clean read in
      record {
        taken = c.take.new.connection;
        marked = c.read_watermark.new.connection;
        watermark = c.in_ok-_watermark._watermark;
        takes = c.in_ok-take.ensures.taken taken;
        has_watermark = c.in_ok-_watermark.ensures.asks read;
        has_none_early = let none : c.in_ok-count_early_rows.field-0 ≡ pos 0 = search (rules, ints) in subst (λ count. AnswersCount (state g.S.Store c.read_watermark.new.connection) (state g.S.Store c.count_early_rows.new.connection) count) none (c.in_ok-count_early_rows.ensures.asks clean);
      };
  clean = λ clean. c.take.ensures.clean (c.read_watermark.ensures.clean (c.count_early_rows.ensures.clean clean));
}
