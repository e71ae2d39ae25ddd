-- The trees of a One, a First, a Second and a Many.
use Rattle.std.proofs.Common.{◌≡◌, ℕ, sym, ◌∙◌, ap}
use Rattle.std.specs.Prelude.{map}
use Rattle.std.specs.Rc.{rc_value}
use Rattle.match_bindings.specs.declared.bind.Bind.{Bind}
use Rattle.match_bindings.specs.declared.bind.Bind.TheVariants.{One as Only, rolls-One, First as OfFirst, rolls-First, Second as OfSecond, rolls-Second, Many, rolls-Many}
use Rattle.match_bindings.specs.declared.bind.Bind.TheOpen as shape
use Rattle.match_bindings.specs.declared.bind.Bind.TheFolds.{fold-roll-Bind}
use Rattle.match_bindings.specs.BindTree.{BindTree, One, First, Second, firsts, tree_level, tree_of, many_of}

pub tree_many : (parts : _) → tree_of (Many parts) ≡ many_of (map tree_of (rc_value parts))
tree_many parts = ap tree_of (sym (rolls-Many parts)) ∙ fold-roll-Bind BindTree tree_level (shape.Many parts)

pub tree_one : (number : ℕ) → tree_of (Only number) ≡ One number
tree_one number = ap tree_of (sym (rolls-One number)) ∙ fold-roll-Bind BindTree tree_level (shape.One number)

pub tree_first : (more : ℕ) (part : _) → tree_of (OfFirst more part) ≡ First (firsts more (tree_of (rc_value part)))
tree_first more part = ap tree_of (sym (rolls-First more part)) ∙ fold-roll-Bind BindTree tree_level (shape.First more part)

pub tree_second : (part : _) → tree_of (OfSecond part) ≡ Second (tree_of (rc_value part))
tree_second part = ap tree_of (sym (rolls-Second part)) ∙ fold-roll-Bind BindTree tree_level (shape.Second part)
