use Rattle.taxii_index.specs.Hints.{AreTrueOf}
use Rattle.taxii_index.proofs.hinted_rows.note_all_versions.Given as goal

abbrev pub invariant-loop-key : goal.invariant-loop-key
invariant-loop-key l = AreTrueOf l.fn.rows l.fn.hints.hints.items → AreTrueOf l.fn.rows l.hints.hints.items
