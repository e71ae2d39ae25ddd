use Rattle.std.proofs.Common.{take}
use Rattle.pattern_reader.specs.Meaning.{IsConstantOf}
use Rattle.std.specs.List.{AllZip}
use Rattle.pattern_reader.proofs.constants.constants_of.Given as goal

abbrev pub invariant-loop-token : goal.invariant-loop-token
invariant-loop-token l = AllZip (IsConstantOf l.text) (take l.token-index l.tokens) l.found
