use Rattle.std.proofs.Common.{length}
use Rattle.pattern_lexer.proofs.EscapedTextLemmas.{ReadInside}
use Rattle.pattern_lexer.proofs.quoted.after_words.Given as goal

abbrev pub invariant-loop-first : goal.invariant-loop-first
invariant-loop-first l = ReadInside l.inside l.rest

abbrev pub decreases-loop-first : goal.decreases-loop-first
decreases-loop-first l = length l.rest
