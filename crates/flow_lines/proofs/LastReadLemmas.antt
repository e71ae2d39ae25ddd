-- When the last read began: a line that was given hadn't come whole then, unless no read was made for it.
use Rattle.std.proofs.Common.{◌≡◌, ◌⊎◌, inl, inr, ℕ, ◌+◌, ◌<◌, Bool, true, false, List, [], ◌∷◌, ◌++◌, Option, Some, None, IfSome, refl, sym, ap, subst, ◌∙◌, arith, ◌||◌, not}
use Rattle.std.specs.List.{list_any}
use Rattle.std.proofs.lemmas.List.Elements.{All-head, All-tail, All-cons, All-nil}
use Rattle.flow_lines.specs.Lines.{is_line_feed, IsNoLineFeed, NoLineFeed, LinesState, raw_lines, content, is_blank_text, is_whole, HoldsLine, AccountsFor, LacksLine}
use Rattle.flow_lines.specs.inner.Reading.{bytes_remaining, TakesToLineFeed, IsWithinLine, IsBufferedLine, lines_state}
use Rattle.flow_lines.proofs.RawLinesLemmas.{raw_lines-fed}
use Rattle.flow_lines.proofs.AccountsForLemmas.{accounts-then, accounts-part-of}

-- what is known of the bytes that were left then
pub each_told : (began : Option (List ℕ)) {P Q : List ℕ → Type 0} → ((bytes : List ℕ) → P bytes → Q bytes) → IfSome began P → IfSome began Q
each_told None each told = tt
each_told (Some bytes) each told = each bytes told

-- a read began after a part of a line
pub within_line : (all left began : Option (List ℕ)) (line : List ℕ) → NoLineFeed line → all ≡ bytes_remaining line [] left
    → IfSome began (λ bytes. left ≡ Some bytes) → IfSome began (IsWithinLine all)
within_line all left began line plain is told = each_told began (λ bytes here. (line, plain, is ∙ ap (bytes_remaining line []) here)) told

-- bytes up to a line feed have one
pub feed_stands : (read_buffer read_buffer_new line line_new : List ℕ) → TakesToLineFeed read_buffer read_buffer_new line line_new → ¬ (NoLineFeed read_buffer)
feed_stands read_buffer read_buffer_new line line_new takes plain =
    go takes.taken (subst NoLineFeed takes.read_buffer plain)
  where
    go : (taken : List ℕ) → ¬ (NoLineFeed (taken ++ 10 ∷ read_buffer_new))
    go [] all = let feed = All-head IsNoLineFeed 10 read_buffer_new all in cc
    go (byte ∷ taken) all = go taken (All-tail IsNoLineFeed byte (taken ++ 10 ∷ read_buffer_new) all)

-- bytes have a line feed or none
pub feed_or_none : (bytes : List ℕ) → NoLineFeed bytes ⊎ ¬ (NoLineFeed bytes)
feed_or_none [] = inl (All-nil IsNoLineFeed)
feed_or_none (byte ∷ bytes) = go (is_line_feed byte) refl (feed_or_none bytes)
  where
    go : (b : Bool) → is_line_feed byte ≡ b → (NoLineFeed bytes ⊎ ¬ (NoLineFeed bytes)) → NoLineFeed (byte ∷ bytes) ⊎ ¬ (NoLineFeed (byte ∷ bytes))
    go true is later = inr (λ all. let none = All-head IsNoLineFeed byte bytes all in cc)
    go false is (inl plain) = inl (All-cons IsNoLineFeed byte bytes is plain)
    go false is (inr feed) = inr (λ all. feed (All-tail IsNoLineFeed byte bytes all))

-- the line that is read next hadn't come whole
pub lacks_next : (read_buffer : List ℕ) (count given : ℕ) (left began : Option (List ℕ)) → IfSome began (IsWithinLine (bytes_remaining [] read_buffer left))
    → IfSome began (LacksLine (lines_state [] read_buffer count given) (count + 1) left)
lacks_next read_buffer count given left began told = each_told began (λ bytes within. record {
  at = lines_state [] within.0 count given;
  fewer = omega arith;
  part = within.1;
  accounts = λ start all from. accounts-then start (lines_state [] read_buffer count given) (lines_state [] within.0 count given) all left (Some bytes) from
      (accounts-part-of read_buffer within.0 count given left bytes within.2);
}) told

-- nor has a later one
pub lacks_later : (before : LinesState) (number later : ℕ) (left began : Option (List ℕ)) → number < later + 1
    → IfSome began (LacksLine before number left) → IfSome began (LacksLine before later left)
lacks_later before number later left began fewer told = each_told began (λ bytes lacks. record {
  at = lacks.at;
  fewer = omega (arith, lacks.fewer);
  part = lacks.part;
  accounts = lacks.accounts;
}) told

-- the same from where the bytes are accounted for
pub lacks_from : (before middle : LinesState) (number : ℕ) (left left_middle began : Option (List ℕ)) → AccountsFor before middle left left_middle
    → IfSome began (LacksLine middle number left_middle) → IfSome began (LacksLine before number left)
lacks_from before middle number left left_middle began accounts told = each_told began (λ bytes lacks. record {
  at = lacks.at;
  fewer = lacks.fewer;
  part = lacks.part;
  accounts = λ start all from. lacks.accounts start all (accounts-then start before middle all left left_middle from accounts);
}) told

-- of a read buffer that held a line, what is whole after that line was whole in the read buffer
pub holds_behind : (line read_buffer read_buffer_new : List ℕ) (terminated : Bool) → NoLineFeed line → IsBufferedLine read_buffer read_buffer_new line terminated → HoldsLine read_buffer_new → HoldsLine read_buffer
holds_behind line read_buffer read_buffer_new terminated plain held holds =
    ap (λ all. list_any is_whole (raw_lines all)) held.cut ∙ ap (list_any is_whole) (raw_lines-fed line read_buffer_new plain)
    ∙ or_true (is_whole (record { bytes = line; terminated = true })) (list_any is_whole (raw_lines read_buffer_new)) holds
  where
    or_true : (a b : Bool) → b ≡ true → (a || b) ≡ true
    or_true true b is = refl
    or_true false b is = is

-- and the line itself, where it isn't blank
pub holds_this : (line read_buffer read_buffer_new bytes : List ℕ) (terminated : Bool) → NoLineFeed line → IsBufferedLine read_buffer read_buffer_new line terminated
    → bytes ≡ content (record { bytes = line; terminated = terminated }) → is_blank_text bytes ≡ false → HoldsLine read_buffer
holds_this line read_buffer read_buffer_new bytes terminated plain held same full =
    let whole : not (is_blank_text (content (record { bytes = line; terminated = true }))) ≡ true =
    ap not (ap (λ terminated. is_blank_text (content (record { bytes = line; terminated = terminated }))) (sym held.whole) ∙ ap is_blank_text (sym same) ∙ full) in
    ap (λ all. list_any is_whole (raw_lines all)) held.cut ∙ ap (list_any is_whole) (raw_lines-fed line read_buffer_new plain)
    ∙ ap (λ here. here || list_any is_whole (raw_lines read_buffer_new)) whole

-- ---- over the lines that are read until one isn't blank

-- no read was made, and no whole line was found; or the last one began before the line of that number was whole
abbrev pub IsInTime : {S : Type 0} → (S → Option (List ℕ)) → S → S → List ℕ → List ℕ → LinesState → ℕ → Option (List ℕ) → Type 0
IsInTime began first source held read_buffer start number left =
    ((source ≡ first) × (HoldsLine read_buffer → HoldsLine held)) ⊎ IfSome (began source) (LacksLine start number left)

module _ {S : Type 0} (began : S → Option (List ℕ)) (first source next : S) (held line read_buffer read_buffer_new bytes : List ℕ) (start : LinesState)
    (count count_new given : ℕ) (left left_now : Option (List ℕ)) (so_far : IsInTime began first source held read_buffer start count left)
    (accounts : AccountsFor start (lines_state line read_buffer count given) left left_now)
    (read : NoLineFeed read_buffer → IfSome (began next) (LacksLine (lines_state line read_buffer count given) (count + 1) left_now))
    (there : ¬ (NoLineFeed read_buffer) → (next ≡ source) × (HoldsLine read_buffer_new → HoldsLine read_buffer) × (is_blank_text bytes ≡ false → HoldsLine read_buffer))
    (counts : count_new ≡ count + 1) where
  by_read : NoLineFeed read_buffer → IfSome (began next) (LacksLine start count_new left)
  by_read plain = lacks_from start (lines_state line read_buffer count given) count_new left left_now (began next) accounts
      (subst (λ (n : ℕ). IfSome (began next) (LacksLine (lines_state line read_buffer count given) n left_now)) (sym counts) (read plain))

  by_earlier : next ≡ source → IfSome (began source) (LacksLine start count left) → IfSome (began next) (LacksLine start count_new left)
  by_earlier same lacks = lacks_later start count count_new left (began next) (omega (arith, counts))
      (subst (λ (s : S). IfSome (began s) (LacksLine start count left)) (sym same) lacks)

  -- after a blank line
  pub still_in_time : IsInTime began first next held read_buffer_new start count_new left
  still_in_time = go (feed_or_none read_buffer) so_far
    where
      go : (NoLineFeed read_buffer ⊎ ¬ (NoLineFeed read_buffer)) → IsInTime began first source held read_buffer start count left → IsInTime began first next held read_buffer_new start count_new left
      go (inl plain) far = inr (by_read plain)
      go (inr feed) (inl none) = inl ((there feed).0 ∙ none.0, λ holds. none.1 ((there feed).1 holds))
      go (inr feed) (inr lacks) = inr (by_earlier (there feed).0 lacks)

  -- where a line is given
  pub given_in_time : is_blank_text bytes ≡ false → ¬ (HoldsLine held) → IfSome (began next) (LacksLine start count_new left)
  given_in_time full unheld = go (feed_or_none read_buffer) so_far
    where
      go : (NoLineFeed read_buffer ⊎ ¬ (NoLineFeed read_buffer)) → IsInTime began first source held read_buffer start count left → IfSome (began next) (LacksLine start count_new left)
      go (inl plain) far = by_read plain
      go (inr feed) (inl none) = absurd (unheld (none.1 ((there feed).2 full)))
      go (inr feed) (inr lacks) = by_earlier (there feed).0 lacks
