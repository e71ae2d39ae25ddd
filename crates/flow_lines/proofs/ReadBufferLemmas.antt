-- How the bytes of a read buffer are cut at its first line feed, by their offsets in the last read.
use Rattle.std.proofs.Common.{◌≡◌, ℕ, suc, ◌+◌, ◌-◌, ◌≤◌, List, ◌∷◌, ◌++◌, Some, None, length, take, drop, get_or, sym, ap, ◌∙◌, arith}
use Rattle.std.proofs.Math.Seq.{split_at}
use Rattle.std.proofs.lemmas.List.{drop-take, drop-drop}
use Rattle.std.proofs.lemmas.List.Elements.{All-from_get_or}
use Rattle.std.proofs.lemmas.Grind.{elements}
use Rattle.memchr.specs.Find.{IsFirstByte, is_byte}
use Rattle.flow_lines.specs.Lines.{IsNoLineFeed, NoLineFeed}
use Rattle.flow_lines.specs.inner.Reading.{TakesToLineFeed, TakesAll}

-- the bytes from one offset to another
abbrev part : List ℕ → ℕ → ℕ → List ℕ
part all from to = take (to - from) (drop from all)

part-behind : (all : List ℕ) (from to at : ℕ) → from + (at + 1) ≤ to → part all (from + (at + 1)) to ≡ drop (at + 1) (part all from to)
part-behind all from to at within =
    let size : (at + 1) + (to - (from + (at + 1))) ≡ to - from = omega arith in
    ap (take (to - (from + (at + 1)))) (sym (drop-drop (at + 1) from all)) ∙ sym (drop-take (at + 1) (to - (from + (at + 1))) (drop from all))
    ∙ ap (λ n. drop (at + 1) (take n (drop from all))) size

plain-before : (bytes : List ℕ) (at : ℕ) → IsFirstByte (is_byte 10) bytes (Some at) → NoLineFeed (take at bytes)
plain-before bytes at (first, is) = All-from_get_or IsNoLineFeed (take at bytes) 0 (λ k within. let none = first.before k in grind (arith, elements))

cut-at : (bytes : List ℕ) (at : ℕ) → IsFirstByte (is_byte 10) bytes (Some at) → bytes ≡ take at bytes ++ 10 ∷ drop (at + 1) bytes
cut-at bytes at (first, is) =
    let feed : get_or bytes at 10 ≡ 10 = grind (arith, elements) in
    let next : suc at ≡ at + 1 = omega arith in
    split_at bytes at 10 first.high ∙ ap (λ byte. take at bytes ++ byte ∷ drop (suc at) bytes) feed ∙ ap (λ n. take at bytes ++ 10 ∷ drop n bytes) next

-- the first line feed stands there
pub takes-to-feed : (all bytes now line line_new : List ℕ) (from to at : ℕ) → part all from to ≡ now → bytes ≡ all → to ≤ length all
    → IsFirstByte (is_byte 10) (part bytes from to) (Some at) → line_new ≡ line ++ take at (part bytes from to)
    → TakesToLineFeed now (part all (from + (at + 1)) to) line line_new
takes-to-feed all bytes now line line_new from to at held same within first fed = record {
  taken = take at (part bytes from to);
  plain = plain-before (part bytes from to) at first;
  read_buffer = sym held ∙ ap (λ all. part all from to) (sym same) ∙ cut-at (part bytes from to) at first
      ∙ ap (λ rest. take at (part bytes from to) ++ 10 ∷ rest) (ap (λ all. drop (at + 1) (part all from to)) same ∙ sym (part-behind all from to at (grind (arith, elements))));
  line = fed;
}

-- there is none
pub takes-all : (all bytes now line line_new : List ℕ) (from to : ℕ) → part all from to ≡ now → bytes ≡ all
    → IsFirstByte (is_byte 10) (part bytes from to) None → line_new ≡ line ++ part bytes from to → TakesAll now (part all to to) line line_new
takes-all all bytes now line line_new from to held same none fed =
    let is : part bytes from to ≡ now = ap (λ all. part all from to) same ∙ held in record {
      plain = rw is at (All-from_get_or IsNoLineFeed (part bytes from to) 0 (λ k within. let here = none k in grind (arith, elements)));
      read_buffer = grind (arith, elements);
      line = fed ∙ ap (λ more. line ++ more) is;
    }
