-- For private clauses: the enumeration as a plain functional program. What exceeds the limits above
-- a part is dropped at once. Lemmas in proofs/ show that the candidates of a pattern are its
-- bindings, each once.
use Rattle.std.specs.Prelude.{ℕ, zero, suc, nat_lt, max, ℤ, int_le, int_lt, Bool, true, ◌&&◌, cond, List, [], ◌∷◌, ◌++◌, map, filter, Option, Some, None}
use Rattle.std.specs.Int.{int_min, int_max}
use Rattle.std.specs.List.{flat_map}
use Rattle.match_bindings.specs.declared.span.Span.{Span}
use Rattle.match_bindings.specs.declared.bounds.Bounds.{Bounds}
use Rattle.match_bindings.specs.declared.spanned_bind.SpannedBind.{SpannedBind}
use Rattle.match_bindings.specs.declared.join.Join.{Join}
use Rattle.match_bindings.specs.declared.join.Join.TheVariants as join
use Rattle.match_bindings.specs.Bounds.{within, between}
use Rattle.match_bindings.specs.NumberedPattern.{NumberedPattern, Leaf, Both, Then, Either, Within, Between, Repeats}
use Rattle.match_bindings.specs.BindTree.{BindTree, One, Pair, First, Second, Single, tree_of, add_part, disjoint, greatest}
use Rattle.match_bindings.specs.Log.{Observed}
use Rattle.match_bindings.specs.Span.{earliest, latest, later_by}
use Rattle.match_bindings.specs.Test.{is_binding}

-- the earliest and latest time of a tree, and its greatest number
abbrev pub span_of : Observed → BindTree → Span
span_of o x = record { earliest = earliest o.first x; latest = latest o.last x; greatest = greatest x }

-- the span of two trees together
abbrev pub joined_span : Span → Span → Span
joined_span a b = record { earliest = int_min a.earliest b.earliest; latest = int_max a.latest b.latest; greatest = max a.greatest b.greatest }

abbrev pub lies_within : ℕ → Span → Bool
lies_within x s = int_lt s.latest (later_by x s.earliest)

abbrev pub lies_between : ℤ → ℤ → Span → Bool
lies_between x y s = int_le x s.earliest && int_lt s.latest y

-- the span of a tree, where the test passes
abbrev pub span_if : Bool → Span → Option Span
span_if b s = cond b (Some s) None

abbrev pub is_in_seconds : Option ℕ → Span → Bool
is_in_seconds None s = true
is_in_seconds (Some x) s = lies_within x s

abbrev pub is_from_start : Option ℤ → Span → Bool
is_from_start None s = true
is_from_start (Some x) s = int_le x s.earliest

abbrev pub is_before_stop : Option ℤ → Span → Bool
is_before_stop None s = true
is_before_stop (Some y) s = int_lt s.latest y

-- whether a span respects all limits
abbrev pub span_fits : Bounds → Span → Bool
span_fits w s = is_in_seconds w.seconds s && (is_from_start w.start s && is_before_stop w.stop s)

-- a tree with its span
pub record SpannedTree : Type 0 where
  pub tree : BindTree
  pub span : Span

abbrev pub spanned_binding : Observed → BindTree → SpannedTree
spanned_binding o x = record { tree = x; span = span_of o x }

abbrev pub spanned_tree : SpannedBind → SpannedTree
spanned_tree held = record { tree = tree_of held.bind; span = held.span }

abbrev pub spanned_trees : List SpannedBind → List SpannedTree
spanned_trees helds = map spanned_tree helds

abbrev pub trees_of : List SpannedTree → List BindTree
trees_of xs = map (λ x. x.tree) xs

-- a spanned tree under one constructor
abbrev pub spanned_with : (BindTree → BindTree) → SpannedTree → SpannedTree
spanned_with f a = record { tree = f a.tree; span = a.span }

abbrev pub joined_bindings : Join → BindTree → BindTree → BindTree
joined_bindings join.Both a b = Pair a b
joined_bindings join.Then a b = Pair a b
joined_bindings join.Repeats a b = add_part a b

-- whether two spans are in the order that an operator requires
abbrev pub admits : Join → Span → Span → Bool
admits join.Both a b = true
admits join.Then a b = int_le a.latest b.earliest
admits join.Repeats a b = nat_lt a.greatest b.greatest

-- whether two spanned trees join
abbrev pub may_join_spans : Join → Bounds → SpannedTree → SpannedTree → Bool
may_join_spans j w a b = (admits j a.span b.span && span_fits w (joined_span a.span b.span)) && disjoint a.tree b.tree

abbrev pub joined_spanned : Join → SpannedTree → SpannedTree → SpannedTree
joined_spanned j a b = record { tree = joined_bindings j a.tree b.tree; span = joined_span a.span b.span }

-- one spanned tree joined with each of ys that it span_joins
abbrev pub span_join_row : Join → Bounds → SpannedTree → List SpannedTree → List SpannedTree
span_join_row j w x ys = map (joined_spanned j x) (filter (may_join_spans j w x) ys)

-- each of xs joined with each of ys that it span_joins
abbrev pub span_joins : Join → Bounds → List SpannedTree → List SpannedTree → List SpannedTree
span_joins j w xs ys = flat_map (λ x. span_join_row j w x ys) xs

-- an observation, where the test passes and it is within the limits
abbrev pub one_if : Bool → Bounds → SpannedTree → List SpannedTree
one_if b w x = cond (b && span_fits w x.span) (x ∷ []) []

-- the first n observations for which leaf k holds
abbrev pub ones : Observed → Bounds → ℕ → ℕ → List SpannedTree
ones o w k zero = []
ones o w k (suc n) = ones o w k n ++ one_if (o.holds k (suc n)) w (spanned_binding o (One (suc n)))

-- the chains of n of the parts
abbrev pub repeats_of : Bounds → List SpannedTree → ℕ → List SpannedTree
repeats_of w parts zero = []
repeats_of w parts (suc zero) = map (spanned_with Single) parts
repeats_of w parts (suc (suc n)) = span_joins join.Repeats w (repeats_of w parts (suc n)) parts

-- the candidates of a pattern within these limits, among the first n observations
abbrev pub candidates : Observed → ℕ → Bounds → NumberedPattern → List SpannedTree
candidates o n w (Leaf k) = ones o w k n
candidates o n w (Both p q) = span_joins join.Both w (candidates o n w p) (candidates o n w q)
candidates o n w (Then p q) = span_joins join.Then w (candidates o n w p) (candidates o n w q)
candidates o n w (Either p q) = map (spanned_with First) (candidates o n w p) ++ map (spanned_with Second) (candidates o n w q)
candidates o n w (Within p x) = candidates o n (within w x) p
candidates o n w (Between p x y) = candidates o n (between w x y) p
candidates o n w (Repeats p j) = repeats_of w (candidates o n w p) j

-- the span of a binding; None for any other tree
abbrev pub verified : Observed → NumberedPattern → BindTree → Option Span
verified o p x = span_if (is_binding o p x) (span_of o x)
