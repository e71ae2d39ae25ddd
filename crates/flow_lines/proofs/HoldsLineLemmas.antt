-- Whole lines among the bytes held: where there is one, no read is needed.
use Rattle.std.proofs.Common.{◌≡◌, ℕ, Option, MatchBool, Bool, true, false, List, [], ◌∷◌, length, if◌then◌else◌, refl, sym, ap, ◌∙◌, ◌==◌, ◌||◌, not}
use Rattle.std.proofs.lemmas.List.Splits.{slice_split_none}
use Rattle.std.specs.List.{list_any}
use Rattle.flow_lines.specs.Lines.{is_line_feed, NoLineFeed, raw_lines, raw_lines_of, content, is_blank_text, is_whole, HoldsLine}
use Rattle.flow_lines.specs.inner.Reading.{ReadsToLineFeed, ReadsLast, IsBufferedLine}
use Rattle.flow_lines.proofs.RawLinesLemmas.{raw_lines-fed}

-- the last line, which has no line feed, isn't whole
last-unwhole : (part : List ℕ) (none : Bool) → list_any is_whole (if none then [] else record { bytes = part; terminated = false } ∷ []) ≡ false
last-unwhole part true = refl
last-unwhole part false = refl

-- without a line feed there is no whole line
pub holds_line-feed : (bytes : List ℕ) → HoldsLine bytes → ¬ (NoLineFeed bytes)
holds_line-feed bytes holds plain =
    let none : list_any is_whole (raw_lines bytes) ≡ false =
    ap (λ parts. list_any is_whole (raw_lines_of parts)) (slice_split_none is_line_feed bytes plain) ∙ last-unwhole bytes (length bytes == 0) in
    cc

-- where a blank line goes by, the whole line stands after it
pub holds_line-later : (line read_buffer read_buffer_new bytes : List ℕ) (terminated : Bool) → NoLineFeed line → IsBufferedLine read_buffer read_buffer_new line terminated
    → bytes ≡ content (record { bytes = line; terminated = terminated }) → is_blank_text bytes ≡ true → HoldsLine read_buffer → HoldsLine read_buffer_new
holds_line-later line read_buffer read_buffer_new bytes terminated plain held same blank holds =
    let empty : is_blank_text (content (record { bytes = line; terminated = true })) ≡ true =
    ap (λ terminated. is_blank_text (content (record { bytes = line; terminated = terminated }))) (sym held.whole) ∙ ap is_blank_text (sym same) ∙ blank in
    ap (λ blank. not blank || list_any is_whole (raw_lines read_buffer_new)) (sym empty)
    ∙ ap (list_any is_whole) (sym (raw_lines-fed line read_buffer_new plain)) ∙ ap (λ all. list_any is_whole (raw_lines all)) (sym held.cut) ∙ holds

-- a line that was read has no line feed
pub reads-plain : (number offset : ℕ) (all left : Option (List ℕ)) (line read_buffer : List ℕ) (terminated : Bool)
    → MatchBool terminated (ReadsToLineFeed number offset all left line read_buffer) (ReadsLast number offset all left line read_buffer) → NoLineFeed line
reads-plain number offset all left line read_buffer true reads = reads.plain
reads-plain number offset all left line read_buffer false reads = reads.plain
