-- The law that joins share: the new with the old, the old with the new, and never the new with the new.
use Rattle.std.proofs.Common.{◌≡◌, ℕ, ◌+◌, ◌*◌, List, ◌++◌, refl, ◌∙◌, ap, arith}
use Rattle.std.specs.Prelude.{Bool, true, false, ◌&&◌, ◌||◌, not}
use Rattle.match_bindings.specs.BindTree.{BindTree, has}
use Rattle.match_bindings.specs.Once.{bit, count, Exactly}
use Rattle.match_bindings.proofs.PairsLemmas.{pairs}
use Rattle.match_bindings.proofs.OnceLemmas.{count_append, count_pairs, Joins}

left_bits : (c p u q v r : Bool) → (p ≡ true → u ≡ true → c ≡ true → r ≡ (q && not v)) →
    bit c * (bit (p && u) * bit r) ≡ bit c * (bit (p && u) * bit (q && not v))
left_bits false p u q v r h = omega arith
left_bits true false u q v r h = omega arith
left_bits true true false q v r h = omega arith
left_bits true true true q v r h = ap (λ z. 1 * (1 * bit z)) (h refl refl refl)

pure_bits : (c p q u v : Bool) → (c ≡ true → (u && v) ≡ false) →
    bit c * (bit (p && u) * bit (q && not v)) + bit c * (bit (q && v) * bit (p && not u)) ≡ bit ((p && q && c) && (u || v))
pure_bits false false q u v h = omega arith
pure_bits false true false u v h = omega arith
pure_bits false true true u v h = omega arith
pure_bits true false q u v h = omega arith
pure_bits true true false u v h = omega arith
pure_bits true true true true true h = absurd (let e : true ≡ false = h refl in cc)
pure_bits true true true true false h = refl
pure_bits true true true false true h = refl
pure_bits true true true false false h = refl

join_bits : (c p q u v r s : Bool) → (p ≡ true → u ≡ true → c ≡ true → r ≡ (q && not v)) → (q ≡ true → v ≡ true → c ≡ true → s ≡ (p && not u)) →
    (c ≡ true → (u && v) ≡ false) → bit c * (bit (p && u) * bit r) + bit c * (bit s * bit (q && v)) ≡ bit ((p && q && c) && (u || v))
join_bits c p q u v r s hr hs h = omega (arith, left_bits c p u q v r hr, left_bits c q v p u s hs, pure_bits c p q u v h)

-- The new things of a join, each once. P and Q are what the sides may hold now; R and S are what the stores hold of them.
pub join_law : (mk : BindTree → BindTree → BindTree) → Joins mk → (n : ℕ) (p q r s : BindTree → Bool) (c : BindTree → BindTree → Bool) (new_a old_a new_b old_b : List BindTree) →
    Exactly (λ x. p x && has n x) new_a → Exactly s old_a → Exactly (λ x. q x && has n x) new_b → Exactly r old_b →
    ((a b : BindTree) → p a ≡ true → has n a ≡ true → c a b ≡ true → r b ≡ (q b && not (has n b))) →
    ((a b : BindTree) → q b ≡ true → has n b ≡ true → c a b ≡ true → s a ≡ (p a && not (has n a))) →
    ((a b : BindTree) → c a b ≡ true → (has n a && has n b) ≡ false) →
    (a b : BindTree) → count (mk a b) (pairs mk c new_a old_b ++ pairs mk c old_a new_b) ≡ bit ((p a && q b && c a b) && (has n a || has n b))
join_law mk j n p q r s c new_a old_a new_b old_b ha hs hb hr right left apart a b =
    count_append (mk a b) (pairs mk c new_a old_b) (pairs mk c old_a new_b)
    ∙ (let one = count_pairs mk j c a b new_a old_b in
    let two = count_pairs mk j c a b old_a new_b in
    let e1 = ha a in let e2 = hr b in let e3 = hs a in let e4 = hb b in
    rw (one, two, e1, e2, e3, e4) refl)
    ∙ join_bits (c a b) (p a) (q b) (has n a) (has n b) (r b) (s a) (right a b) (left a b) (apart a b)

level_bits : (d lt p x u q y v : Bool) → (q ≡ true → p ≡ true → v ≡ true → u ≡ false → lt ≡ true) → (q ≡ true → p ≡ true → u ≡ true → lt ≡ false) →
    bit d * (bit ((p && x) && not u) * bit ((q && y) && v)) ≡ bit (((p && q && (d && lt)) && (x && y)) && (u || v))
level_bits false lt false x u q y v h k = omega arith
level_bits false lt true x u false y v h k = omega arith
level_bits false lt true x u true y v h k = omega arith
level_bits true lt false x u q y v h k = omega arith
level_bits true lt true x u false y v h k = omega arith
level_bits true lt true false true true y v h k = let e : lt ≡ false = k refl refl refl in rw e (omega arith)
level_bits true lt true true true true y v h k = let e : lt ≡ false = k refl refl refl in rw e (omega arith)
level_bits true lt true false false true y v h k = step lt where
  step : (lt : Bool) → bit true * (bit ((true && false) && not false) * bit ((true && y) && v)) ≡ bit (((true && true && (true && lt)) && (false && y)) && (false || v))
  step true = omega arith
  step false = omega arith
level_bits true lt true true false true y false h k = step lt y where
  step : (lt y : Bool) → bit true * (bit ((true && true) && not false) * bit ((true && y) && false)) ≡ bit (((true && true && (true && lt)) && (true && y)) && (false || false))
  step true true = refl
  step true false = refl
  step false true = refl
  step false false = refl
level_bits true lt true true false true true true h k = let e : lt ≡ true = h refl refl refl refl in rw e refl
level_bits true lt true true false true false true h k = let e : lt ≡ true = h refl refl refl refl in rw e refl

-- The new sets of a level: an older set of the level below, and a new part, which is the last; the order of the parts needs no test.
pub level_law : (mk : BindTree → BindTree → BindTree) → Joins mk → (n : ℕ) (p x q y : BindTree → Bool) (d lt : BindTree → BindTree → Bool) (old new : List BindTree) →
    Exactly (λ m. (p m && x m) && not (has n m)) old → Exactly (λ b. (q b && y b) && has n b) new →
    ((m b : BindTree) → q b ≡ true → p m ≡ true → has n b ≡ true → has n m ≡ false → lt m b ≡ true) →
    ((m b : BindTree) → q b ≡ true → p m ≡ true → has n m ≡ true → lt m b ≡ false) →
    (m b : BindTree) → count (mk m b) (pairs mk d old new) ≡ bit (((p m && q b && (d m b && lt m b)) && (x m && y b)) && (has n m || has n b))
level_law mk j n p x q y d lt old new ho hn ascends falls m b =
    count_pairs mk j d m b old new
    ∙ (let e1 = ho m in let e2 = hn b in rw (e1, e2) refl)
    ∙ level_bits (d m b) (lt m b) (p m) (x m) (has n m) (q b) (y b) (has n b) (ascends m b) (falls m b)
