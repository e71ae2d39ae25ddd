use Rattle.std.proofs.Common.{◌≡◌, ◌++◌, map, take}
use Rattle.hunt_index.proofs.finder.add_brackets.Given as goal

abbrev pub invariant-loop-bracket : goal.invariant-loop-bracket
invariant-loop-bracket l = l.brackets_found.items ≡ l.fn.brackets_found.items ++ map (λ entry. entry.1) (take l.bracket-index l.entries)
