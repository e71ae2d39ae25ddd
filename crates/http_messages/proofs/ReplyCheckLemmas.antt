-- Which of the conditions of a head decides.
use Rattle.std.proofs.Common.{rules, ◌≡◌, inr, ℕ, suc, ◌≤◌, Bool, false, ◌||◌, not, ◌==◌, List, length, map, Bor, Result, Ok, Err, IfOk, [], ◌∷◌, Option, Some, None, refl, sym, ap, subst, ◌∙◌}
use Rattle.std.specs.List.{list_all}
use Rattle.http_messages.specs.declared.frame.TheConstants.{MAX_HEAD}
use Rattle.http_messages.specs.Fields.{first_length, states}
use Rattle.http_messages.proofs.ValueLemmas.{all_of}
use Rattle.http_messages.specs.declared.reply_checking.Checked.{Checked}
use Rattle.http_messages.specs.declared.reply_refusal.HeadRefusal.{HeadRefusal}
use Rattle.http_messages.specs.ReplyHeads.{IsHead, ReplyHeadParts, IsResponseHeadReadAs, state_no_length, reply_body_length, reply_head_refusal}
use Rattle.http_messages.specs.inner.Reading.{checked_by, refusal_or_length, ChecksHead}

-- what was checked of the parts of a head was checked of the head
pub checks : (head : List ℕ) (parts : ReplyHeadParts) (checked : Checked) → IsHead head → length head ≤ MAX_HEAD → IsResponseHeadReadAs head parts → checked ≡ refusal_or_length parts → ChecksHead head checked
checks head parts checked is_head fits read is = subst (ChecksHead head) (sym is) (by_refusal (reply_head_refusal parts) refl)
  where
    by_refusal : (r : Option HeadRefusal) → reply_head_refusal parts ≡ r → ChecksHead head (checked_by r (reply_body_length parts))
    by_refusal None fine = record { is_head = is_head; fits = fits; parts = parts; read = read; fine = fine; count_is = refl }
    by_refusal (Some refusal) refused = record { is_head = is_head; fits = fits; refused = inr (parts, read, refused) }

or_false : (a b : Bool) → a ≡ false → (a || b) ≡ b
or_false a b is = rw is refl

not_zero : (n : ℕ) → (suc n == 0) ≡ false
not_zero n = search rules

pub some_lengths : (xs : List (Bor (List ℕ))) (n : ℕ) (a : Bool) → (xs ≡ [] → ⊥) → n ≡ first_length (map (λ (x : Bor (List ℕ)). x.now) xs) → a ≡ list_all (λ (x : Bor (List ℕ)). states n x.now) xs
    → not a ≡ state_no_length (map (λ (x : Bor (List ℕ)). x.now) xs)
some_lengths [] n a some number all = absurd (some refl)
some_lengths (x ∷ xs) n a some number all =
    ap not all_state ∙ sym (or_false (length values == 0) (not (list_all (states (first_length values)) values)) (not_zero (length (map (λ (y : Bor (List ℕ)). y.now) xs))))
  where
    values : List (List ℕ)
    values = map (λ (y : Bor (List ℕ)). y.now) (x ∷ xs)

    all_state : a ≡ list_all (states (first_length values)) values
    all_state = all ∙ all_of (states n) (x ∷ xs) (map (λ (x : Bor (List ℕ)). x.now) (x ∷ xs)) refl
        ∙ ap (λ (k : ℕ). list_all (states k) values) number

pub checks_ok : {E : Type 0} (head : List ℕ) (parts : ReplyHeadParts) (result : Result Checked E) → IsHead head → length head ≤ MAX_HEAD → IsResponseHeadReadAs head parts
    → IfOk result (λ checked. checked ≡ refusal_or_length parts) → IfOk result (ChecksHead head)
checks_ok head parts (Ok checked) is_head fits read is = checks head parts checked is_head fits read is
checks_ok head parts (Err e) is_head fits read is = tt
