-- A test of how a name ends.
use Rattle.std.proofs.Common.{arith, ◌≡◌, ◌↔◌, ℕ, ◌-◌, ◌+◌, List, ◌++◌, length, drop, take, Bool, true, false, IsTrue, nat_eq, sym, ap, ◌∙◌, refl}
use Rattle.std.specs.List.{ends_with}
use Rattle.std.specs.Cmp.Lexicographic.{same_text, other_text}
use Rattle.std.proofs.lemmas.List.{length-append, take-append-drop, drop_at}
use Rattle.std.proofs.lemmas.Bool.{false≢true}
use Rattle.match_comparisons.specs.Selection.{EndsIn}

-- the end as long as the suffix
abbrev last_part : List ℕ → List ℕ → List ℕ
last_part suffix name = drop (length name - length suffix) name

ends_if : (suffix name : List ℕ) → suffix ≡ last_part suffix name → EndsIn suffix name
ends_if suffix name is =
    let n = length name - length suffix in
    (take n name, sym (take-append-drop n name) ∙ ap (λ (end : List ℕ). take n name ++ end) (sym is))

only_if : (suffix name : List ℕ) → EndsIn suffix name → suffix ≡ last_part suffix name
only_if suffix name ends =
    let front = ends.0 in
    let total : length name ≡ length front + length suffix = ap length ends.1 ∙ length-append front suffix in
    let at : length front ≡ length name - length suffix = omega arith in
    sym (ap (drop (length name - length suffix)) ends.1 ∙ drop_at front suffix (length name - length suffix) at)

pub ends_exactly : (suffix name : List ℕ) (answer : Bool) → answer ≡ ends_with nat_eq name suffix → IsTrue answer ↔ EndsIn suffix name
ends_exactly suffix name true is = (λ yes. ends_if suffix name (same_text suffix (last_part suffix name) is), λ ends. refl)
ends_exactly suffix name false is = (λ yes. absurd (false≢true yes), λ ends. absurd (other_text suffix (last_part suffix name) is (only_if suffix name ends)))
