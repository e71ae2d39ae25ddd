-- What reading a line gives, where it continues from one turn to the next and where it ends.
use Rattle.std.proofs.Common.{◌≡◌, ◌⊎◌, inl, inr, ℕ, Bool, true, false, List, [], ◌∷◌, ◌++◌, Option, Some, None, length, option_map, is_some, not, refl, sym, ap, subst, ◌∙◌}
use Rattle.flow_edges.specs.Flow.{left_after, IsAtEnd}
use Rattle.flow_lines.specs.declared.refusal.LineRefusal.{LineRefusal}
use Rattle.flow_lines.specs.Lines.{NoLineFeed, length_refusal}
use Rattle.flow_lines.specs.inner.Reading.{bytes_remaining, TakesToLineFeed, TakesAll, ReadsToLineFeed, ReadsLast, IsBufferedLine}
use Rattle.flow_lines.proofs.RawLinesLemmas.{bytes_remaining-fed, bytes_remaining-all, plain-to_feed, plain-all}
use Rattle.flow_lines.proofs.LastReadLemmas.{feed_stands}

-- where no read is permitted, the line ends with a line feed
pub terminated-without : {Permit : Type 0} (permit : Option Permit) (terminated : Bool) → permit ≡ None → is_some permit ≡ not terminated → terminated ≡ true
terminated-without permit true none same = refl
terminated-without {Permit} permit false none same = let there : false ≡ is_some permit = ap is_some (sym none) in there ∙ same

-- where one is permitted, it doesn't yet
pub open-with : {Permit : Type 0} (permit : Option Permit) (terminated : Bool) (read : Permit) → permit ≡ Some read → is_some permit ≡ not terminated → terminated ≡ false
open-with permit false read some same = refl
open-with permit true read some same = let there : true ≡ is_some permit = ap is_some (sym some) in there ∙ same

-- a line isn't refused that was checked by its size
pub unrefused : (number offset size len : ℕ) (terminated known : Bool) (refusal : Option LineRefusal) → refusal ≡ length_refusal number offset len terminated → refusal ≡ None
    → size ≡ len → terminated ≡ known → length_refusal number offset size known ≡ None
unrefused number offset size len terminated known refusal judged none same is =
    ap (λ size. length_refusal number offset size known) same ∙ ap (λ terminated. length_refusal number offset len terminated) (sym is) ∙ sym judged ∙ none

-- the line is whole
pub reads-to-feed : (number offset : ℕ) (all left : Option (List ℕ)) (line_old line read_buffer_old read_buffer : List ℕ) → NoLineFeed line_old → all ≡ bytes_remaining line_old read_buffer_old left
    → TakesToLineFeed read_buffer_old read_buffer line_old line → length_refusal number offset (length line) true ≡ None → ReadsToLineFeed number offset all left line read_buffer
reads-to-feed number offset all left line_old line read_buffer_old read_buffer plain is takes fits = record {
  plain = plain-to_feed line_old read_buffer_old line read_buffer plain takes;
  bytes = is ∙ ap (λ read_buffer. bytes_remaining line_old read_buffer left) takes.read_buffer ∙ bytes_remaining-fed takes.taken line_old read_buffer left
      ∙ ap (λ line. option_map (λ bytes. line ++ 10 ∷ (read_buffer ++ bytes)) left) (sym takes.line);
  fits = fits;
}

-- nothing more comes
pub reads-last : (number offset : ℕ) (all left left_new : Option (List ℕ)) (line_old line read_buffer_old read_buffer read_buffer_new : List ℕ) → NoLineFeed line_old → all ≡ bytes_remaining line_old read_buffer_old left
    → TakesAll read_buffer_old read_buffer line_old line → IsAtEnd left → left_new ≡ left_after 0 left → 0 ≡ length read_buffer_new
    → length_refusal number offset (length line) false ≡ None → ReadsLast number offset all left_new line read_buffer_new
reads-last number offset all left left_new line_old line read_buffer_old read_buffer read_buffer_new plain is takes end rest none fits = record {
  plain = plain-all line_old read_buffer_old line read_buffer plain takes;
  bytes = bytes_remaining-all all left line_old read_buffer_old line read_buffer is takes ∙ ap (bytes_remaining line []) (same left ∙ sym rest);
  ended = subst IsAtEnd (same left ∙ sym rest) end;
  drained = empty read_buffer_new none;
  fits = fits;
}
  where
    same : (left : Option (List ℕ)) → left ≡ left_after 0 left
    same None = refl
    same (Some bytes) = refl

    empty : (bytes : List ℕ) → 0 ≡ length bytes → bytes ≡ []
    empty [] none = refl
    empty (byte ∷ bytes) none = absurd (cc none)

-- the read buffer held the line
pub is-held : (first read_buffer read_buffer_new line line_new : List ℕ) → read_buffer ≡ first → line ≡ [] → TakesToLineFeed read_buffer read_buffer_new line line_new → IsBufferedLine first read_buffer_new line_new true
is-held first read_buffer read_buffer_new line line_new same empty takes = record {
  whole = refl;
  cut = sym same ∙ takes.read_buffer ∙ ap (λ taken. taken ++ 10 ∷ read_buffer_new) (sym (takes.line ∙ ap (λ line. line ++ takes.taken) empty));
}

-- what the first read buffer held is taken without a read
pub unless-held : {P Q : Type 0} (first read_buffer read_buffer_new line line_new : List ℕ) → ((P × (read_buffer ≡ first)) ⊎ Q) → TakesToLineFeed read_buffer read_buffer_new line line_new → NoLineFeed first → Q
unless-held first read_buffer read_buffer_new line line_new (inl before) takes plain = absurd (feed_stands read_buffer read_buffer_new line line_new takes (subst NoLineFeed (sym before.1) plain))
unless-held first read_buffer read_buffer_new line line_new (inr told) takes plain = told
