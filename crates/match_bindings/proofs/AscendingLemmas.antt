-- Trees under Firsts, of which the second has no lesser flat list.
use Rattle.std.proofs.Common.{◌≡◌, ℕ, zero, suc, ◌<◌, refl, sym, ◌∙◌, ap, subst, arith}
use Rattle.std.specs.Prelude.{true}
use Rattle.std.specs.Rc.{rc_value}
use Rattle.match_bindings.specs.declared.bind.Bind.{Bind}
use Rattle.match_bindings.specs.declared.bind.Bind.TheVariants.{First as OfFirst}
use Rattle.match_bindings.specs.BindTree.{BindTree, First, Second, firsts, tree_of}
use Rattle.match_bindings.specs.inner.Ascending.{FlatAscends, is_second}
use Rattle.match_bindings.proofs.BindTreeLemmas.{tree_first}

pub runs_ascend : (n : ℕ) (x y : BindTree) → FlatAscends x y → FlatAscends (firsts n x) (firsts n y)
runs_ascend zero x y h = h
runs_ascend (suc n) x y h = runs_ascend n x y h

pub longer_ascends : (m n : ℕ) (x y : BindTree) → n < m → is_second y ≡ true → FlatAscends (firsts m x) (firsts n y)
longer_ascends zero n x y h s = absurd (omega arith)
longer_ascends (suc m) zero x (Second y) h s = refl
longer_ascends (suc m) (suc n) x y h s = longer_ascends m n x y (omega (arith, h)) s
longer_ascends (suc m) zero x y h s = absurd (cc)

-- a First beside another
pub same_runs : (m n : ℕ) (x : BindTree) (bind : Bind) (other : _) → bind ≡ OfFirst n other → m ≡ n → FlatAscends x (tree_of (rc_value other)) →
    FlatAscends (First (firsts m x)) (tree_of bind)
same_runs m n x bind other is e h =
    subst (λ y. FlatAscends (First (firsts m x)) y) (ap (λ k. First (firsts k (tree_of (rc_value other)))) e ∙ sym (ap tree_of is ∙ tree_first n other))
    (runs_ascend (suc m) x (tree_of (rc_value other)) h)

pub longer_run : (m n : ℕ) (x : BindTree) (bind : Bind) (other : _) → bind ≡ OfFirst n other → n < m → is_second (tree_of (rc_value other)) ≡ true →
    FlatAscends (First (firsts m x)) (tree_of bind)
longer_run m n x bind other is h s =
    subst (λ y. FlatAscends (First (firsts m x)) y) (sym (ap tree_of is ∙ tree_first n other))
    (longer_ascends (suc m) (suc n) x (tree_of (rc_value other)) (omega (arith, h)) s)
