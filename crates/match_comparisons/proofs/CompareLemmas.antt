-- How the bytes and the instant of a text compare, where the text stands for one value at most.
use Rattle.std.proofs.Common.{arith, ◌≡◌, ◌↔◌, inl, inr, ℕ, ◌-◌, ◌+◌, ℤ, List, length, drop, Option, Some, None, Result, Ok, Err, IfOk, slice_get, codes, nat_eq, nat_cmp, option_map, refl, sym, ap, subst, ◌∙◌, Ordering}
use Rattle.std.specs.Ordering.{int_cmp}
use Rattle.std.specs.Cmp.Lexicographic.{slice_cmp}
use Rattle.serde_json.specs.Data.{Data}
use Rattle.std.proofs.lemmas.List.{length-append, drop_at}
use Rattle.std.proofs.lemmas.Bool.{false≢true}
use Rattle.std.proofs.lemmas.Option.{none-some, same_Some}
use Rattle.hex.specs.Hex.{decode_of}
use Rattle.stix_times.specs.Reading.{IsTextOfInstant}
use Rattle.match_comparisons.specs.Selection.{EndsIn}
use Rattle.match_comparisons.specs.Tests.{IsBytesOf, BytesCompare}
use Rattle.match_comparisons.specs.inner.Bytes.{EncodesBytes}

-- how the instants that a text names compare with another
abbrev pub TimeCompares : List ℕ → ℤ → Ordering → Type 0
TimeCompares text instant order = (i : ℤ) × IsTextOfInstant text i × (order ≡ int_cmp i instant)

pub named_compares : (text : List ℕ) (named instant : ℤ) (answer : Ordering) → IsTextOfInstant text named → ((i : ℤ) → IsTextOfInstant text i → i ≡ named)
    → answer ≡ int_cmp named instant → (order : Ordering) → TimeCompares text instant order ↔ (Some answer ≡ Some order)
named_compares text named instant answer names only is order = (
  λ h. ap Some (is ∙ sym (h.2 ∙ ap (λ (i : ℤ). int_cmp i instant) (only h.0 h.1))),
  λ e. (named, names, sym (same_Some answer order e) ∙ is),
)

pub unnamed_compares : (text : List ℕ) (instant : ℤ) → ((i : ℤ) → ¬ IsTextOfInstant text i)
    → (order : Ordering) → TimeCompares text instant order ↔ (◌≡◌ {A = Option Ordering} None (Some order))
unnamed_compares text instant never order = (λ h. absurd (never h.0 h.1), λ e. absurd (none-some order e))

pub text_compares : (value : Option (List ℕ)) (text : List ℕ) (instant : ℤ) (answer : Option Ordering) → Some text ≡ value
    → ((order : Ordering) → TimeCompares text instant order ↔ (answer ≡ Some order)) → (order : Ordering)
    → ((t : List ℕ) × (i : ℤ) × (value ≡ Some t) × IsTextOfInstant t i × (order ≡ int_cmp i instant)) ↔ (answer ≡ Some order)
text_compares value text instant answer is exact order = (
  λ h.
      let same : h.0 ≡ text = same_Some h.0 text (sym h.2 ∙ sym is) in
      (exact order).0 (h.1, subst (λ (t : List ℕ). IsTextOfInstant t h.1) same h.3, h.4),
  λ e. let g = (exact order).1 e in (text, g.0, sym is, g.1, g.2),
)

-- how the bytes that a value stands for compare with others
pub bytes_compare : (last : Option (List ℕ)) (value : Data) (own : Option (List ℕ)) (bytes : List ℕ) (answer : Option Ordering) → EncodesBytes last value own
    → answer ≡ option_map (λ (decoded : List ℕ). slice_cmp nat_cmp decoded bytes) own → (order : Ordering) → BytesCompare last value bytes order ↔ (answer ≡ Some order)
bytes_compare last value None bytes answer stands is order = (
  λ h. let never = (stands h.1).0 (h.0, h.2, h.3) in absurd (none-some h.1 never),
  λ e. absurd (none-some order (sym is ∙ e)),
)
bytes_compare last value (Some own) bytes answer stands is order = (
  λ h.
      let same : own ≡ h.1 = same_Some own h.1 ((stands h.1).0 (h.0, h.2, h.3)) in
      is ∙ ap Some (ap (λ (decoded : List ℕ). slice_cmp nat_cmp decoded bytes) same ∙ sym h.4),
  λ e.
      let text = (stands own).1 refl in
      (text.0, own, text.1, text.2, sym (same_Some (slice_cmp nat_cmp own bytes) order (sym is ∙ e))),
)

last_part : (suffix name : List ℕ) → EndsIn suffix name → suffix ≡ drop (length name - length suffix) name
last_part suffix name ends =
    let front = ends.0 in
    let total : length name ≡ length front + length suffix = ap length ends.1 ∙ length-append front suffix in
    let at : length front ≡ length name - length suffix = omega arith in
    sym (ap (drop (length name - length suffix)) ends.1 ∙ drop_at front suffix (length name - length suffix) at)

-- no name ends in both
pub one_end : (name : List ℕ) → EndsIn (codes "_hex") name → EndsIn (codes "_bin") name → ⊥
one_end name hex bin =
    let h = last_part (codes "_hex") name hex in
    let b = last_part (codes "_bin") name bin in
    let e : ◌≡◌ {A = Option ℕ} (Some 120) (Some 110) = ap (λ (l : List ℕ). slice_get l 3) (h ∙ sym b) in
    false≢true (ap (λ (n : ℕ). nat_eq n 110) (same_Some 120 110 e))

-- the bytes of a text whose name ends in `_hex`
pub hex_exactly : {E : Type 0} (r : Result (Option (List ℕ)) E) (name text : List ℕ) → EndsIn (codes "_hex") name
    → IfOk r (λ found. (bytes : List ℕ) → (decode_of text ≡ Ok bytes) ↔ (found ≡ Some bytes))
    → IfOk r (λ found. (bytes : List ℕ) → IsBytesOf (Some name) text bytes ↔ (found ≡ Some bytes))
hex_exactly (Err e) name text hex exact = tt
hex_exactly (Ok found) name text hex exact = λ bytes. (
  λ h. elim h [
    | inl is ↦ (exact bytes).0 is.1
    | inr is ↦ absurd (one_end name hex is.0)
  ],
  λ is. inl (hex, (exact bytes).1 is),
)
