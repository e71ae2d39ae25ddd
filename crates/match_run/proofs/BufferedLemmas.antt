-- A text on its way to an output: a first part is written, and the rest is pending.
use Rattle.std.proofs.Common.{◌≡◌, ℕ, suc, ◌+◌, List, [], ◌∷◌, ◌++◌, length, take, Option, refl, sym, ap, ◌∙◌, append_assoc, length-append, arith}
use Rattle.std.proofs.lemmas.List.{append-nil, take-append-le}
use Rattle.std.proofs.Math.Seq.{take-length}
use Rattle.flow_edges.specs.Flow.{written_with, WritesPrefix}
use Rattle.match_run.proofs.PendingLemmas.{written_with-nil, written_with-both}
use Rattle.match_run.specs.Buffered.{IsBuffered}

-- nothing is on its way yet
pub way-none : (written : Option (List ℕ)) → IsBuffered [] [] written written
way-none written = record { sent = []; text_is = refl; now_is = written_with-nil written }

-- more text comes, which is pending
pub way-more : (text pending more : List ℕ) (before now : Option (List ℕ)) → IsBuffered text pending before now
    → IsBuffered (text ++ more) (pending ++ more) before now
way-more text pending more before now way = record {
  sent = way.sent;
  text_is = ap (λ (t : List ℕ). t ++ more) way.text_is ∙ append_assoc way.sent pending more;
  now_is = way.now_is;
}

-- all is written
pub way-all : (text : List ℕ) (before after : Option (List ℕ)) → after ≡ written_with text before → IsBuffered text [] before after
way-all text before after is = record { sent = text; text_is = sym (append-nil text); now_is = is }

take-both : (n : ℕ) (xs ys : List ℕ) → take (length xs + n) (xs ++ ys) ≡ xs ++ take n ys
take-both n [] ys = let none : 0 + n ≡ n = omega arith in ap (λ (k : ℕ). take k ys) none
take-both n (x ∷ xs) ys =
    let one : suc (length xs) + n ≡ suc (length xs + n) = omega arith in
    ap (λ (k : ℕ). take k (x ∷ (xs ++ ys))) one ∙ ap (λ (t : List ℕ). x ∷ t) (take-both n xs ys)

-- of what is pending a prefix is written
pub way-cut : (text pending : List ℕ) (before now after : Option (List ℕ)) → IsBuffered text pending before now
    → WritesPrefix pending now after → WritesPrefix text before after
way-cut text pending before now after way (n, within, is) = (
  length way.sent + n,
  omega (arith, within, ap length way.text_is, length-append way.sent pending),
  is ∙ ap (written_with (take n pending)) way.now_is ∙ written_with-both way.sent (take n pending) before
      ∙ ap (λ (t : List ℕ). written_with t before) (sym (take-both n way.sent pending) ∙ ap (take (length way.sent + n)) (sym way.text_is)),
)

-- nothing more is written
pub way-stopped : (text pending more : List ℕ) (before now : Option (List ℕ)) → IsBuffered text pending before now → WritesPrefix (text ++ more) before now
way-stopped text pending more before now way =
    let whole : text ++ more ≡ way.sent ++ (pending ++ more) = ap (λ (t : List ℕ). t ++ more) way.text_is ∙ append_assoc way.sent pending more in (
      length way.sent,
      omega (arith, ap length whole, length-append way.sent (pending ++ more)),
      way.now_is ∙ ap (λ (t : List ℕ). written_with t before) (sym (ap (take (length way.sent)) whole
          ∙ take-append-le (length way.sent) way.sent (pending ++ more) (omega arith) ∙ take-length way.sent)),
    )
