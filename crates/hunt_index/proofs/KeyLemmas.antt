-- Look-ups that are alike are equal to the methods that are derived for them, and the other way round.
use Rattle.std.proofs.Common.{arith, ◌≡◌, ℕ, ℤ, List, Bool, true, false, ◌&&◌, eqb, refl, subst, Ordering}
use Rattle.std.specs.declared.cmp.Ordering.TheVariants.{Less, Equal, Greater}
use Rattle.std.specs.Ordering.{nat_cmp, int_cmp, ordering_then}
use Rattle.std.proofs.lemmas.Map.Lookups.{exact_bytes, exact_signed, exact_unsigned}
use Rattle.std.specs.Cmp.Lexicographic.{slice_cmp}
use Rattle.std.proofs.lemmas.Bool.{false≢true, eqb-true}
use Rattle.std.proofs.lemmas.Bool.Decides.{Decides-int_eq}
use Rattle.std.proofs.lemmas.Slice.Eq.{bytes_eq-Decides}
use Rattle.std.proofs.lemmas.Cmp.{tied_itself, nat_cmp_total, int_cmp_total, nat_list_cmp_total}
use Rattle.hunt_index.specs.declared.key.Key.{Key}
use Rattle.hunt_index.specs.declared.key.Key.TheVariants.{Any, Integer, Text}
use Rattle.hunt_index.specs.declared.paths.Lookup.{Lookup}
use Rattle.hunt_index.specs.inner.Keys.{AreSame}
use Rattle.hunt_index.specs.inner.Finding.{AreAlike}
use Rattle.hunt_index.specs.contracts.key.KeyOrd.TheImpl as key_order
use Rattle.hunt_index.specs.contracts.key.KeyPartialEq.TheImpl as key_equality
use Rattle.hunt_index.specs.contracts.paths.LookupOrd.TheImpl as lookup_order
use Rattle.hunt_index.specs.contracts.paths.LookupPartialEq.TheImpl as lookup_equality

key_tied : (one other : Key) → AreSame one other → (key_order.ghosts).cmp one other ≡ Equal
key_tied Any Any same = refl
key_tied (Integer whole) (Integer other) same = subst (λ (n : ℤ). int_cmp whole n ≡ Equal) same (tied_itself int_cmp_total whole)
key_tied (Text text) (Text other) same = subst (λ (t : List ℕ). slice_cmp nat_cmp text.now t ≡ Equal) same (tied_itself nat_list_cmp_total text.now)
key_tied Any (Integer other) same = absurd same
key_tied Any (Text other) same = absurd same
key_tied (Integer whole) Any same = absurd same
key_tied (Integer whole) (Text other) same = absurd same
key_tied (Text text) Any same = absurd same
key_tied (Text text) (Integer other) same = absurd same

pub alike_tied : (lookup other : Lookup) → AreAlike lookup other → (lookup_order.ghosts).cmp lookup other ≡ Equal
alike_tied lookup other alike =
    let paths : nat_cmp lookup.path other.path ≡ Equal = subst (λ (n : ℕ). nat_cmp lookup.path n ≡ Equal) alike.path (tied_itself nat_cmp_total lookup.path) in
    let keys = key_tied lookup.key other.key alike.key in
    rw paths keys

key_same : (one other : Key) → (key_equality.ghosts).eq one other ≡ true → AreSame one other
key_same Any Any is = tt
key_same (Integer whole) (Integer other) is = grind (arith, is, Decides-int_eq)
key_same (Text text) (Text other) is = grind (arith, is, bytes_eq-Decides)
key_same Any (Integer other) is = absurd (false≢true is)
key_same Any (Text other) is = absurd (false≢true is)
key_same (Integer whole) Any is = absurd (false≢true is)
key_same (Integer whole) (Text other) is = absurd (false≢true is)
key_same (Text text) Any is = absurd (false≢true is)
key_same (Text text) (Integer other) is = absurd (false≢true is)

both_true : (a b : Bool) → (a && b) ≡ true → (a ≡ true) × (b ≡ true)
both_true true b is = (refl, is)
both_true false b is = absurd (false≢true is)

pub alike_equal : (lookup other : Lookup) → (lookup_equality.ghosts).eq lookup other ≡ true → AreAlike lookup other
alike_equal lookup other is =
    let both = both_true (eqb lookup.path other.path) ((key_equality.ghosts).eq lookup.key other.key) is in
    record { path = eqb-true lookup.path other.path both.0; key = key_same lookup.key other.key both.1 }

-- keys that are tied stand for the same values
key_untied : (one other : Key) → (key_order.ghosts).cmp one other ≡ Equal → AreSame one other
key_untied Any Any is = tt
key_untied (Integer whole) (Integer other) is = exact_signed whole other is
key_untied (Text text) (Text other) is = exact_bytes text.now other.now is
key_untied Any (Integer other) is = absurd (cc)
key_untied Any (Text other) is = absurd (cc)
key_untied (Integer whole) Any is = absurd (cc)
key_untied (Integer whole) (Text other) is = absurd (cc)
key_untied (Text text) Any is = absurd (cc)
key_untied (Text text) (Integer other) is = absurd (cc)

then_equal : (first second : Ordering) → ordering_then first second ≡ Equal → (first ≡ Equal) × (second ≡ Equal)
then_equal Less second is = absurd (cc)
then_equal Equal second is = (refl, is)
then_equal Greater second is = absurd (cc)

pub alike_untied : (lookup other : Lookup) → (lookup_order.ghosts).cmp lookup other ≡ Equal → AreAlike lookup other
alike_untied lookup other is =
    let both = then_equal (nat_cmp lookup.path other.path) ((key_order.ghosts).cmp lookup.key other.key) is in
    record { path = exact_unsigned lookup.path other.path both.0; key = key_untied lookup.key other.key both.1 }
