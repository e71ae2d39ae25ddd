-- The line of a tree: its greatest number, and its entries from left to right.
use Rattle.std.specs.Prelude.{ℕ, List, [], ◌++◌, codes, decimal}
use Rattle.match_bindings.specs.BindTree.{BindTree, One, Pair, First, Second, Empty, Single, More, greatest}

-- each number in decimal, and before the part of a First an L, before that of a Second an R; a space before each
abbrev pub entries_text : BindTree → List ℕ
entries_text (One n) = codes " " ++ decimal n
entries_text (Pair a b) = entries_text a ++ entries_text b
entries_text (First a) = codes " L" ++ entries_text a
entries_text (Second a) = codes " R" ++ entries_text a
entries_text Empty = []
entries_text (Single a) = entries_text a
entries_text (More m a) = entries_text m ++ entries_text a

abbrev pub line_text : BindTree → List ℕ
line_text x = decimal (greatest x) ++ (codes ":" ++ (entries_text x ++ codes "\n"))
