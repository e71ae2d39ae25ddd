-- Names and constants of a canonical text read back.
use Rattle.std.proofs.Common.{◌≡◌, ◌≢◌, inl, inr, ℕ, zero, suc, ◌/◌, ◌%◌, ℤ, true, false, List, [], ◌∷◌, refl, sym, subst, arith}
use Rattle.std.specs.Prelude.{All, codes, slice_index}
use Rattle.std.specs.Fmt.{signed_decimal}
use Rattle.std.proofs.lemmas.List.Elements.{All-cons, All-nil}
use Rattle.hex.specs.Hex.{encode_with, encode_lower, lower_digits}
use Rattle.hex.proofs.HexLemmas.{decode_of-encode_lower}
use Rattle.base64.specs.Engines.{standard}
use Rattle.base64.specs.GeneralPurpose.{encode_of}
use Rattle.pattern_lexer.specs.declared.token.Token.{Token}
use Rattle.pattern_lexer.specs.declared.token.TokenKind.{TokenKind}
use Rattle.pattern_lexer.specs.declared.token.TokenKind.TheVariants as kind
use Rattle.pattern_lexer.specs.Values.{quoted, string_text, IsIntegerText, IsStringText, IsHexText, IsBinaryText, IsTimestampText}
use Rattle.pattern_lexer.specs.Spans.{At}
use Rattle.pattern_grammar.specs.declared.class.TokenClass.{TokenClass}
use Rattle.pattern_grammar.specs.declared.class.TokenClass.TheVariants.{Name}
use Rattle.pattern_grammar.specs.TokenClass.{is_in}
use Rattle.pattern_types.specs.declared.constant.Constant.{Constant}
use Rattle.pattern_types.specs.declared.constant.Constant.TheVariants.{Integer, String, Boolean, Hex, Binary, Timestamp}
use Rattle.pattern_reader.specs.Meaning.{IsNameOf, IsConstantOf}
use Rattle.pattern_writer.specs.Path.{IsNameText}
use Rattle.pattern_writer.specs.Constant.{IsTimeText, IsConstantText}
use Rattle.pattern_writer.proofs.LongestLemmas.{Stops, Ends, ends_stops}
use Rattle.pattern_writer.proofs.PiecesLemmas.{Stands}
use Rattle.pattern_writer.proofs.WrittenLemmas.{Written, IsOne, token, as_tree, as_text, before}
use Rattle.pattern_writer.proofs.TokensLemmas.{Anything, fits_plain, plain_name, all_plain, literal, words, lettered, number}
use Rattle.pattern_writer.proofs.NumeralsLemmas.{whole_text, whole_shape}
use Rattle.pattern_writer.proofs.TimesLemmas.{unquoted_time}
use Rattle.pattern_writer.proofs.FitLemmas.{FitConstant, kind_of}

-- a token that represents a value, by its text
pub at : {V : Type 0} (IsTextOf : List ℕ → V → Type 0) (whole : List ℕ) (t : Token) (k : TokenKind) (text : List ℕ) (value : V) → Stands whole t k text → IsTextOf text value → At IsTextOf whole t value
at IsTextOf whole t k text value s h = record { cut = s.cut; is = subst (λ (x : List ℕ). IsTextOf x value) (sym s.text) h }

words_differ : (k : TokenKind) → k ≡ kind.Word → k ≢ kind.String
words_differ k e f = cc

pub name : (n text : List ℕ) → IsNameText n text → Written (IsOne Name) (λ (whole : List ℕ) (t : Token). IsNameOf whole t n) Stops text
name n text (inl h) = as_text (sym h.1) (as_tree (IsOne Name) (λ (whole : List ℕ) (t : Token). IsNameOf whole t n) (λ whole ts t i s. (t, i, inr (words_differ t.kind s.kind, record { cut = s.cut; is = sym s.text }))) word)
  where
    word : Written (IsOne Name) (λ (whole : List ℕ) (t : Token). Stands whole t kind.Word n) Stops n
    word = token Name kind.Word Stops n refl (λ after e. fits_plain kind.Word n after h.0.word tt (plain_name n h.0.word.starts (λ k d b. inl (h.0.word.parts k d b)) h.0.used) e (λ x. absurd (cc)))
name n text (inr h) = before Stops (λ after e. tt) (as_text (sym h.1) (as_tree (IsOne Name) (λ (whole : List ℕ) (t : Token). IsNameOf whole t n) (λ whole ts t i s. (t, i, inl (s.kind, at IsStringText whole t kind.String (string_text n) n s refl))) (words Name n refl)))

-- hexadecimal digits are no quotes
no_quote_in : (xs : List ℕ) → All (λ b. b ≢ 39) xs → (k : ℕ) → slice_index xs k ≢ 39
no_quote_in [] h k e = omega arith
no_quote_in (x ∷ xs) h zero e = h 0 0 (omega arith) e
no_quote_in (x ∷ xs) h (suc k) e = no_quote_in xs (λ i d b. h (suc i) d (omega arith)) k e

digits_plain : All (λ b. b ≢ 39) lower_digits
digits_plain = all_plain lower_digits refl

hex_plain : (bytes : List ℕ) → All (λ b. b ≢ 39) (encode_lower bytes)
unfolding encode_with
hex_plain [] = All-nil (λ b. b ≢ 39)
hex_plain (b ∷ bytes) =
    let high = slice_index lower_digits (b / 16) in
    let low = slice_index lower_digits (b % 16) in
    All-cons (λ x. x ≢ 39) high (low ∷ encode_lower bytes) (no_quote_in lower_digits digits_plain (b / 16)) (All-cons (λ x. x ≢ 39) low (encode_lower bytes) (no_quote_in lower_digits digits_plain (b % 16)) (hex_plain bytes))

pub time : (class : TokenClass) (i : ℤ) (text : List ℕ) → is_in class kind.Timestamp ≡ true → IsTimeText i text → Written (IsOne class) (λ (whole : List ℕ) (t : Token). (t.kind ≡ kind.Timestamp) × At IsTimestampText whole t i) Anything text
time class i text among h =
    let inside = h.0 in
    let moment : IsTimestampText (quoted (codes "t") inside) i = (inside, refl, (h.1.0, h.1.1, (h.1.2.0, h.1.2.1))) in
    let u = unquoted_time inside i h.1 in
    as_text (sym h.2) (as_tree (IsOne class) (λ (whole : List ℕ) (t : Token). (t.kind ≡ kind.Timestamp) × At IsTimestampText whole t i) (λ whole ts t o s. (t, o, (s.kind, at IsTimestampText whole t kind.Timestamp (quoted (codes "t") inside) i s moment)))
    (lettered class kind.Timestamp 116 inside among (inside, record { spelled = refl; unquoted = u }) (i, moment) (record { number = λ e. cc; equal = λ e. cc; less = λ e. cc }) (omega arith) (omega arith) u))

pub constant : (class : TokenClass) (c : Constant) (text : List ℕ) → is_in class (kind_of c) ≡ true → FitConstant c → IsConstantText c text → Written (IsOne class) (λ (whole : List ℕ) (t : Token). IsConstantOf whole t c) Ends text
constant class (Integer z) text among fit h =
    as_text (sym h) (as_tree (IsOne class) (λ (whole : List ℕ) (t : Token). IsConstantOf whole t (Integer z)) (λ whole ts t i s. (t, i, (s.kind, at IsIntegerText whole t kind.Number (signed_decimal z) z s (whole_text z fit))))
    (number class z (signed_decimal z) among (whole_text z fit) (whole_shape z fit)))
constant class (String w) text among fit h =
    before Ends (λ after e. tt) (as_text (sym h) (as_tree (IsOne class) (λ (whole : List ℕ) (t : Token). IsConstantOf whole t (String w)) (λ whole ts t i s. (t, i, (s.kind, at IsStringText whole t kind.String (string_text w) w s refl))) (words class w among)))
constant class (Boolean true) text among fit h =
    before Ends ends_stops (as_text (sym h) (as_tree (IsOne class) (λ (whole : List ℕ) (t : Token). IsConstantOf whole t (Boolean true)) (λ whole ts t i s. (t, i, inl (s.kind, refl))) (literal class kind.TrueWord (codes "true") among refl tt refl (λ e. cc))))
constant class (Boolean false) text among fit h =
    before Ends ends_stops (as_text (sym h) (as_tree (IsOne class) (λ (whole : List ℕ) (t : Token). IsConstantOf whole t (Boolean false)) (λ whole ts t i s. (t, i, inr (s.kind, refl))) (literal class kind.FalseWord (codes "false") among refl tt refl (λ e. cc))))
constant class (Hex bytes) text among fit h =
    let digits = encode_lower bytes in
    let hex : IsHexText (quoted (codes "h") digits) bytes = (digits, refl, decode_of-encode_lower bytes fit) in
    before Ends (λ after e. tt) (as_text (sym h) (as_tree (IsOne class) (λ (whole : List ℕ) (t : Token). IsConstantOf whole t (Hex bytes)) (λ whole ts t i s. (t, i, (s.kind, at IsHexText whole t kind.Hex (quoted (codes "h") digits) bytes s hex)))
    (lettered class kind.Hex 104 digits among (digits, record { spelled = refl; unquoted = hex_plain bytes }) (bytes, hex) (record { number = λ e. cc; equal = λ e. cc; less = λ e. cc }) (omega arith) (omega arith) (hex_plain bytes))))
constant class (Binary bytes) text among fit h =
    let symbols = encode_of standard bytes in
    let base : IsBinaryText (quoted (codes "b") symbols) bytes = (fit.0, refl) in
    before Ends (λ after e. tt) (as_text (sym h) (as_tree (IsOne class) (λ (whole : List ℕ) (t : Token). IsConstantOf whole t (Binary bytes)) (λ whole ts t i s. (t, i, (s.kind, at IsBinaryText whole t kind.Binary (quoted (codes "b") symbols) bytes s base)))
    (lettered class kind.Binary 98 symbols among (symbols, record { spelled = refl; unquoted = fit.1 }) (bytes, base) (record { number = λ e. cc; equal = λ e. cc; less = λ e. cc }) (omega arith) (omega arith) fit.1)))
constant class (Timestamp i) text among fit h = before Ends (λ after e. tt) (time class i text among h)
