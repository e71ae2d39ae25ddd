use Rattle.std.proofs.Common.{◌+◌, ◌*◌, length, map}
use Rattle.pattern_grammar.specs.Grammar.{IsUnit, IsAnds, IsOrs, IsPattern}
use Rattle.pattern_grammar.specs.inner.Machine.{expects_unit, expects_ands, expects_ors, expects_pattern, qualifiers, ands, ors, thens}
use Rattle.pattern_grammar.specs.inner.Machine.{Found, open_for}
use Rattle.pattern_grammar.specs.Tree.{left_fold, shape, both, either, followed}
use Rattle.pattern_grammar.proofs.parse_pattern.+pattern.Given as goal

abbrev pub decreases-whole : goal.decreases-whole
decreases-whole l = 5 * length l.tokens.now + 4

abbrev pub decreases-ors : goal.decreases-ors
decreases-ors l = 5 * length l.tokens.now + 3

abbrev pub decreases-ands : goal.decreases-ands
decreases-ands l = 5 * length l.tokens.now + 2

abbrev pub decreases-unit : goal.decreases-unit
decreases-unit l = 5 * length l.tokens.now + 1

abbrev pub decreases-start : goal.decreases-start
decreases-start l = 5 * length l.tokens.now

abbrev pub invariant-whole-loop-after : goal.invariant-whole-loop-after
invariant-whole-loop-after l = Found IsPattern expects_pattern (open_for thens) l.fn.tokens (left_fold followed (shape l.first) (map shape l.others)) l.rest

abbrev pub decreases-whole-loop-after : goal.decreases-whole-loop-after
decreases-whole-loop-after l = length l.rest

abbrev pub invariant-ors-loop-after : goal.invariant-ors-loop-after
invariant-ors-loop-after l = Found IsOrs expects_ors (open_for ors) l.fn.tokens (left_fold either (shape l.first) (map shape l.others)) l.rest

abbrev pub decreases-ors-loop-after : goal.decreases-ors-loop-after
decreases-ors-loop-after l = length l.rest

abbrev pub invariant-ands-loop-after : goal.invariant-ands-loop-after
invariant-ands-loop-after l = Found IsAnds expects_ands (open_for ands) l.fn.tokens (left_fold both (shape l.first) (map shape l.others)) l.rest

abbrev pub decreases-ands-loop-after : goal.decreases-ands-loop-after
decreases-ands-loop-after l = length l.rest

abbrev pub invariant-unit-loop-limit : goal.invariant-unit-loop-limit
invariant-unit-loop-limit l = Found IsUnit expects_unit (open_for qualifiers) l.fn.tokens (shape l.tree) l.rest

abbrev pub decreases-unit-loop-limit : goal.decreases-unit-loop-limit
decreases-unit-loop-limit l = length l.rest
