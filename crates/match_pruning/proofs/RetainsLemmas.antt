-- What retains is what hasn't expired.
use Rattle.std.proofs.Common.{◌≡◌, ℕ, ℤ, ◌<ℤ◌, ◌≤ℤ◌, refl, sym, arith, inl, inr}
use Rattle.std.specs.Prelude.{Bool, true, false, ◌&&◌, not, ◌↔◌, int_lt, int_le, Option, Some, None, IsTrue}
use Rattle.std.proofs.lemmas.Int.{ints}
use Rattle.match_bindings.specs.Span.{later_by}
use Rattle.match_pruning.specs.declared.window.Window.{Window}
use Rattle.match_pruning.specs.Expiry.{ArePast, IsBeforeStart, IsStopped, HasExpired}
use Rattle.match_pruning.specs.inner.Retains.{lasts_at_most, ends_from_start, begins_before_stop, is_ahead, retains}

pub le_self : (a : ℤ) → a ≤ℤ a
le_self a = omega (arith, ints)

pub le_trans : (a b c : ℤ) → a ≤ℤ b → b ≤ℤ c → a ≤ℤ c
le_trans a b c h k = omega (arith, ints)

pub le_both : (a b : ℤ) → a ≤ℤ b → b ≤ℤ a → a ≡ b
le_both a b h k = omega (arith, ints)

pub lt_false : (a b : ℤ) → int_lt a b ≡ false → b ≤ℤ a
lt_false a b h = grind (arith, ints)

false_lt : (a b : ℤ) → b ≤ℤ a → int_lt a b ≡ false
false_lt a b h = grind (arith, ints)

pub le_false : (a b : ℤ) → int_le a b ≡ false → b <ℤ a
le_false a b h = grind (arith, ints)

false_le : (a b : ℤ) → b <ℤ a → int_le a b ≡ false
false_le a b h = grind (arith, ints)

past : (o : Option ℕ) (e t : ℤ) → lasts_at_most o e t ≡ false → ArePast o e t
past None e t h = absurd (cc)
past (Some x) e t h = lt_false t (later_by x e) h

not_in : (o : Option ℕ) (e t : ℤ) → ArePast o e t → lasts_at_most o e t ≡ false
not_in None e t h = absurd h
not_in (Some x) e t h = false_lt t (later_by x e) h

early : (o : Option ℤ) (e : ℤ) → ends_from_start o e ≡ false → IsBeforeStart o e
early None e h = absurd (cc)
early (Some x) e h = le_false x e h

not_from : (o : Option ℤ) (e : ℤ) → IsBeforeStart o e → ends_from_start o e ≡ false
not_from None e h = absurd h
not_from (Some x) e h = false_le x e h

stopped : (o : Option ℤ) (t : ℤ) → begins_before_stop o t ≡ false → IsStopped o t
stopped None t h = absurd (cc)
stopped (Some y) t h = lt_false t y h

not_before : (o : Option ℤ) (t : ℤ) → IsStopped o t → begins_before_stop o t ≡ false
not_before None t h = absurd h
not_before (Some y) t h = false_lt t y h

overtaken : (b : Bool) (e t : ℤ) → is_ahead b e t ≡ false → IsTrue b × (e <ℤ t)
overtaken true e t h = (refl, le_false t e h)
overtaken false e t h = absurd (cc)

not_ahead : (b : Bool) (e t : ℤ) → IsTrue b → e <ℤ t → is_ahead b e t ≡ false
not_ahead true e t h k = false_le t e k
not_ahead false e t h k = absurd (cc)

-- what doesn't retained has expired
pub gone_expired : (w : Window) (e t : ℤ) → retains w e t ≡ false → HasExpired w e t
gone_expired w e t h = by (is_ahead w.after_left e t) (lasts_at_most w.seconds e t) (ends_from_start w.start e) (begins_before_stop w.stop t) refl refl refl refl h where
  by : (a s b p : Bool) → is_ahead w.after_left e t ≡ a → lasts_at_most w.seconds e t ≡ s → ends_from_start w.start e ≡ b → begins_before_stop w.stop t ≡ p →
      (a && (s && (b && p))) ≡ false → HasExpired w e t
  by a false b p ea es eb ep k = inl (past w.seconds e t es)
  by a true false p ea es eb ep k = inr (inl (early w.start e eb))
  by a true true false ea es eb ep k = inr (inr (inl (stopped w.stop t ep)))
  by false true true true ea es eb ep k = inr (inr (inr (overtaken w.after_left e t ea)))
  by true true true true ea es eb ep k = absurd (cc)

-- and the other way round
pub expired_gone : (w : Window) (e t : ℤ) → HasExpired w e t → retains w e t ≡ false
expired_gone w e t h = elim h [
  | inl k ↦ (let no = not_in w.seconds e t k in rw no (with_s (is_ahead w.after_left e t)))
  | inr k ↦ elim k [
    | inl l ↦ (let no = not_from w.start e l in rw no (with_b (is_ahead w.after_left e t) (lasts_at_most w.seconds e t)))
    | inr l ↦ elim l [
      | inl m ↦ (let no = not_before w.stop t m in rw no (with_p (is_ahead w.after_left e t) (lasts_at_most w.seconds e t) (ends_from_start w.start e)))
      | inr m ↦ (let no = not_ahead w.after_left e t m.0 m.1 in rw no refl)
    ]
  ]
] where
  with_s : (a : Bool) → (a && false) ≡ false
  with_s true = refl
  with_s false = refl

  with_b : (a s : Bool) → (a && (s && false)) ≡ false
  with_b true true = refl
  with_b true false = refl
  with_b false s = refl

  with_p : (a s b : Bool) → (a && (s && (b && false))) ≡ false
  with_p true true true = refl
  with_p true true false = refl
  with_p true false b = refl
  with_p false s b = refl

-- a test of expiry is one of life
pub not_expired : (w : Window) (e t : ℤ) (r : Bool) → (IsTrue r ↔ HasExpired w e t) → not r ≡ retains w e t
not_expired w e t true h = sym (expired_gone w e t (h.0 refl))
not_expired w e t false h = by (retains w e t) refl where
  by : (b : Bool) → retains w e t ≡ b → true ≡ retains w e t
  by true k = sym k
  by false k = absurd (let e : false ≡ true = h.1 (gone_expired w e t k) in cc)
