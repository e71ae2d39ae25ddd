use Rattle.std.proofs.Common.{option_map, Bor, List, ℕ}
use Rattle.match_comparisons.proofs.check.meets.Goals as goal

pub returns-in-Equal : goal.returns-in-Equal
returns-in-Equal c = rw c.in-Equal.is c.compares.ensures

pub returns-in-Less : goal.returns-in-Less
returns-in-Less c = rw c.in-Less.is c.compares-in-Less.ensures

pub returns-in-LessEqual : goal.returns-in-LessEqual
returns-in-LessEqual c = rw c.in-LessEqual.is c.compares_or_equals.ensures

pub returns-in-Greater : goal.returns-in-Greater
returns-in-Greater c = rw c.in-Greater.is c.compares-in-Greater.ensures

pub returns-in-GreaterEqual : goal.returns-in-GreaterEqual
returns-in-GreaterEqual c = rw c.in-GreaterEqual.is c.compares_or_equals-in-GreaterEqual.ensures

pub returns-in-Among : goal.returns-in-Among
returns-in-Among c = rw c.in-Among.is (rw c.as_slice.ensures at c.equals_some.ensures)

pub returns-in-Like : goal.returns-in-Like
returns-in-Like c =
    rw c.in-Like.is (rw c.as_str.ensures at (c.is_like.ensures (option_map (λ (name : Bor (List ℕ)). name.now) c.args.last)))
