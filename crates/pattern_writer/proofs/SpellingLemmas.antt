-- The canonical text of a pattern that some text is read as is read as it.
use Rattle.std.proofs.Common.{◌≡◌, ℕ, ◌<◌, ◌≤◌, List, [], length, refl, sym, subst, arith}
use Rattle.pattern_lexer.specs.Reading.{AreTokens}
use Rattle.pattern_grammar.specs.Grammar.{IsPattern}
use Rattle.pattern_grammar.specs.Tree.{Tree}
use Rattle.pattern_types.specs.declared.pattern.Pattern.{Pattern}
use Rattle.pattern_types.specs.PlainPattern.{PlainPattern, plain_pattern}
use Rattle.pattern_reader.specs.PatternMeaning.{MeansPattern}
use Rattle.pattern_reader.specs.declared.read.TheConstants.{MAX_TEXT}
use Rattle.pattern_reader.specs.declared.pattern_refusal.PatternRefusal.{PatternRefusal}
use Rattle.pattern_reader.specs.declared.pattern_refusal.PatternRefusal.TheVariants as refused
use Rattle.pattern_reader.specs.Read.{IsSpelled, IsReadAs, IsRefusedAs}
use Rattle.pattern_writer.specs.Canonical.{precedence_level, IsCanonical}
use Rattle.pattern_writer.proofs.FitLemmas.{FitMeant}
use Rattle.pattern_writer.proofs.LongestLemmas.{Ends}
use Rattle.pattern_writer.proofs.WrittenLemmas.{Written}
use Rattle.pattern_writer.proofs.PatternLinesLemmas.{IsDeepLine, MeansTree, whole_pattern}
use Rattle.pattern_writer.proofs.CuttingLemmas.{tokens_at, cut_pieces, represent}
use Rattle.pattern_writer.proofs.LexedLemmas.{all_lexed}
use Rattle.pattern_writer.proofs.FitPatternsLemmas.{fit_pattern}
use Rattle.pattern_writer.proofs.DepthsLemmas.{within, none_too_many}
use Rattle.pattern_writer.proofs.DepthLinesLemmas.{need, qualifiers_in, wrapped_least, pattern_deep}

-- a text that is written so, and isn't too deep
pub record Spelling (text : List ℕ) (m : PlainPattern) : Type 0 where
  pub tree : Tree
  pub spelled : IsSpelled text tree
  pub means : MeansPattern text tree m

spelling : (m : PlainPattern) (text : List ℕ) (n q : ℕ) → n ≤ 64 → q ≤ 64 → Written (IsDeepLine IsPattern n q) (MeansTree m) Ends text → Spelling text m
spelling m text n q low few w =
    let ts = tokens_at 0 w.pieces in
    let fit = w.fit [] tt in
    let cut = cut_pieces 0 w.pieces fit in
    let read = w.read text ts (represent text 0 w.pieces (omega arith) (sym w.spelled) fit) in
    record {
      tree = read.0;
      spelled = record {
        tokens = ts;
        of_text = record { rest = cut.rest; stand = subst (λ (x : List ℕ). AreTokens 0 x ts cut.rest) w.spelled cut.stand; blank = cut.blank };
        of_tokens = record { spells = read.1.0; shallow = none_too_many ts n q read.1.1 low few };
      };
      means = read.2;
    }

-- what is known of a pattern by a text that spells it
fits : (m : PlainPattern) (text : List ℕ) (tree : Tree) → IsSpelled text tree → MeansPattern text tree m → FitMeant m
fits m text tree s means = fit_pattern text s.tokens tree m s.of_tokens.spells (all_lexed text 0 text s.tokens s.of_text.rest (omega arith) refl s.of_text.stand) means

limits : (m : PlainPattern) (text : List ℕ) (tree : Tree) → IsSpelled text tree → MeansPattern text tree m → (need m ≤ 64) × (qualifiers_in m ≤ 64)
limits m text tree s means =
    let deep = pattern_deep text s.of_tokens.spells means in
    let low = within s.tokens deep.n (qualifiers_in m) deep.measured s.of_tokens.shallow in
    let a = low.0 in
    let g = deep.at_least in
    let e = wrapped_least (precedence_level m) (need m) in
    (omega (arith, a, g, e), low.1)

pub reads_back : (p : Pattern) (text canonical : List ℕ) → IsReadAs text p → IsCanonical (plain_pattern p) canonical → length canonical ≤ MAX_TEXT → IsReadAs canonical p
reads_back p text canonical r h short =
    let m = plain_pattern p in
    let means = r.meant.meant.means in
    let low = limits m text r.tree r.spelled means in
    let again = spelling m canonical (need m) (qualifiers_in m) low.0 low.1 (whole_pattern m canonical (fits m text r.tree r.spelled means) h) in
    record {
      short = short;
      tree = again.tree;
      spelled = again.spelled;
      meant = record { meant = record { means = again.means; sound = r.meant.meant.sound }; narrow = r.meant.narrow };
    }

too_long : (text : List ℕ) → MAX_TEXT < length text → length text ≤ MAX_TEXT → ⊥
too_long text h k = omega (arith, h, k)

pub only_too_long : (text : List ℕ) (r : PatternRefusal) → MAX_TEXT < length text → IsRefusedAs text r → r ≡ refused.TooLong
only_too_long text refused.TooLong h x = refl
only_too_long text refused.NoMemory h x = absurd x
only_too_long text _ h x = absurd (too_long text h x.0)
