use Rattle.std.proofs.Common.{List, ◌++◌, map, take}
use Rattle.std.specs.List.{AllZip}
use Rattle.clap.specs.Words.{Rule}
use Rattle.command_line.specs.inner.Forms.{HasRule, free_rules}
use Rattle.command_line.proofs.parser.add_free_positions.Given as goal

abbrev pub invariant-loop-name : goal.invariant-loop-name
invariant-loop-name l = (rules : List Rule) → AllZip HasRule l.fn.args.items rules
    → AllZip HasRule l.args.items (rules ++ free_rules (map (λ name. name.now) (take l.name-index l.names)))
