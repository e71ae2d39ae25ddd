-- The lines of whole lines and more after them, byte by byte.
use Rattle.std.proofs.Common.{◌≡◌, ℕ, Bool, true, false, List, [], ◌∷◌, ◌++◌, length, cond, eqb, inl, inr, refl, sym, ap, ◌∙◌, arith}
use Rattle.std.proofs.lemmas.Bool.Decides.{nat_tests}
use Rattle.std.proofs.lemmas.List.Splits.{slice_split-cons_yes, slice_split-cons_no}
use Rattle.std.specs.List.{onto_first}
use Rattle.flow_lines.specs.Lines.{is_line_feed, RawLine, raw_lines, raw_lines_of, AreWholeLines}
use Rattle.flow_lines.proofs.RawLinesLemmas.{split-first}

abbrev line_of : List ℕ → Bool → RawLine
line_of bytes terminated = record { bytes = bytes; terminated = terminated }

-- one byte more stands before the first line
abbrev onto_line : ℕ → List RawLine → List RawLine
onto_line byte [] = line_of (byte ∷ []) false ∷ []
onto_line byte (l ∷ ls) = line_of (byte ∷ l.bytes) l.terminated ∷ ls

filled : (byte : ℕ) (bytes : List ℕ) → eqb (length (byte ∷ bytes)) 0 ≡ false
filled byte bytes = grind (arith, nat_tests)

onto_parts : (byte : ℕ) (first : List ℕ) (later : List (List ℕ)) → raw_lines_of ((byte ∷ first) ∷ later) ≡ onto_line byte (raw_lines_of (first ∷ later))
onto_parts byte [] [] = ap (λ none. cond none [] (line_of (byte ∷ []) false ∷ [])) (filled byte [])
onto_parts byte (next ∷ first) [] =
    ap (λ none. cond none [] (line_of (byte ∷ next ∷ first) false ∷ [])) (filled byte (next ∷ first))
    ∙ sym (ap (λ none. onto_line byte (cond none [] (line_of (next ∷ first) false ∷ []))) (filled next first))
onto_parts byte first (part ∷ later) = refl

-- a byte that is no line feed stands in the first line
raw_lines-onto : (byte : ℕ) (bytes : List ℕ) → is_line_feed byte ≡ false → raw_lines (byte ∷ bytes) ≡ onto_line byte (raw_lines bytes)
raw_lines-onto byte bytes not =
    let (first, later, is) = split-first bytes in
    ap raw_lines_of (slice_split-cons_no is_line_feed byte bytes not ∙ ap (onto_first byte) is) ∙ onto_parts byte first later
    ∙ sym (ap (λ parts. onto_line byte (raw_lines_of parts)) is)

-- a line feed is a line of its own
raw_lines-terminated : (byte : ℕ) (bytes : List ℕ) → is_line_feed byte ≡ true → raw_lines (byte ∷ bytes) ≡ line_of [] true ∷ raw_lines bytes
raw_lines-terminated byte bytes feed =
    let (first, later, is) = split-first bytes in
    ap raw_lines_of (slice_split-cons_yes is_line_feed byte bytes feed ∙ ap (λ parts. [] ∷ parts) is) ∙ ap (λ parts. line_of [] true ∷ raw_lines_of parts) (sym is)

-- whole lines are some lines
some_lines : (front : List ℕ) → (l : RawLine) × (ls : List RawLine) × (raw_lines (front ++ 10 ∷ []) ≡ l ∷ ls)
some_lines [] = (line_of [] true, [], refl)
some_lines (byte ∷ front) = go (is_line_feed byte) refl (some_lines front)
  where
    go : (b : Bool) → is_line_feed byte ≡ b → ((l : RawLine) × (ls : List RawLine) × (raw_lines (front ++ 10 ∷ []) ≡ l ∷ ls))
        → (l : RawLine) × (ls : List RawLine) × (raw_lines (byte ∷ (front ++ 10 ∷ [])) ≡ l ∷ ls)
    go true e tail = (line_of [] true, raw_lines (front ++ 10 ∷ []), raw_lines-terminated byte (front ++ 10 ∷ []) e)
    go false e (l, ls, is) = (line_of (byte ∷ l.bytes) l.terminated, ls, raw_lines-onto byte (front ++ 10 ∷ []) e ∙ ap (onto_line byte) is)

onto_append : (byte : ℕ) (lines more : List RawLine) (l : RawLine) (ls : List RawLine) → lines ≡ l ∷ ls → onto_line byte (lines ++ more) ≡ onto_line byte lines ++ more
onto_append byte lines more l ls is = rw is refl

proceed : (front more : List ℕ) → raw_lines ((front ++ 10 ∷ []) ++ more) ≡ raw_lines (front ++ 10 ∷ []) ++ raw_lines more
proceed [] more = raw_lines-terminated 10 more refl
proceed (byte ∷ front) more = go (is_line_feed byte) refl (proceed front more)
  where
    go : (b : Bool) → is_line_feed byte ≡ b → raw_lines ((front ++ 10 ∷ []) ++ more) ≡ raw_lines (front ++ 10 ∷ []) ++ raw_lines more
        → raw_lines (byte ∷ ((front ++ 10 ∷ []) ++ more)) ≡ raw_lines (byte ∷ (front ++ 10 ∷ [])) ++ raw_lines more
    go true e tail =
        raw_lines-terminated byte ((front ++ 10 ∷ []) ++ more) e ∙ ap (λ (ls : List RawLine). line_of [] true ∷ ls) tail
        ∙ sym (ap (λ (ls : List RawLine). ls ++ raw_lines more) (raw_lines-terminated byte (front ++ 10 ∷ []) e))
    go false e tail =
        let (l, ls, is) = some_lines front in
        raw_lines-onto byte ((front ++ 10 ∷ []) ++ more) e ∙ ap (onto_line byte) tail
        ∙ onto_append byte (raw_lines (front ++ 10 ∷ [])) (raw_lines more) l ls is
        ∙ sym (ap (λ (ls : List RawLine). ls ++ raw_lines more) (raw_lines-onto byte (front ++ 10 ∷ []) e))

-- the lines of whole lines stand first
pub whole_lines_first : (bytes more : List ℕ) → AreWholeLines bytes → raw_lines (bytes ++ more) ≡ raw_lines bytes ++ raw_lines more
whole_lines_first bytes more (inl none) = rw none refl
whole_lines_first bytes more (inr (front, is)) = rw is (proceed front more)
