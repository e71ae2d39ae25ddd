-- Tokens that stand one after another in a text, up to a place.
use Rattle.std.proofs.Common.{◌≡◌, ◌↔◌, ℕ, Bool, false, IsTrue, ◌+◌, ◌-◌, ◌<◌, ◌≤◌, inl, inr, List, [], ◌∷◌, ◌++◌, length, take, drop, All, IsUtf8, slice_range, refl, sym, ap, ◌∙◌, subst, arith, append_assoc, length-append, length-drop, length-take-le, take-append-drop}
use Rattle.std.proofs.lemmas.List.{drop-drop, drop_at, take_at}
use Rattle.std.proofs.lemmas.Bool.{false≢true}
use Rattle.std.proofs.lemmas.Slice.{between_to_end}
use Rattle.pattern_lexer.specs.declared.token.Token.{Token}
use Rattle.pattern_lexer.specs.declared.token.TokenKind.{TokenKind}
use Rattle.pattern_lexer.specs.declared.token.TokenKind.TheVariants.{Number, String, Hex, Binary, Timestamp}
use Rattle.pattern_lexer.specs.declared.refusal.LeftWord.{LeftWord}
use Rattle.pattern_lexer.specs.declared.refusal.TokenRefusal.{TokenRefusal}
use Rattle.pattern_lexer.specs.Word.{HasAt}
use Rattle.pattern_lexer.specs.Spans.{IsCut, token_text_at}
use Rattle.pattern_lexer.specs.Values.{HasValue}
use Rattle.pattern_lexer.specs.Reading.{IsBlank, IsFirst, RunsOn, IsUnsupported, IsUsable, IsNextToken, AreTokens, IsRefusalAt, HasRefusal}
use Rattle.pattern_lexer.specs.inner.Steps.{IsRun, BeginsToken, ArePassed, StandsAt, ReadUpTo, invalid_value_refusal}
use Rattle.pattern_lexer.proofs.TokenEdgeLemmas.{cuts, token_edges}

-- a token at a place
pub record Placed (text : List ℕ) (token : Token) (after : List ℕ) : Type 0 where
  pub cut : IsCut text token
  pub ordered : token.from < token.to
  pub within : token.to ≤ length text
  pub first : IsFirst (drop token.from text) token.kind (token_text_at text token) after
  pub rest : after ≡ drop token.to text

placed_by : (text : List ℕ) (at : ℕ) (kind : TokenKind) (part after : List ℕ) (token : Token) → token ≡ record { kind = kind; from = at; to = length text - length after } → IsUtf8 text → at < length text → IsFirst (drop at text) kind part after → Placed text token after
placed_by text at kind part after token is utf8 l first =
    let front : List ℕ = take at text in
    let n : length front ≡ at = length-take-le at text (omega arith) in
    let e : text ≡ front ++ (part ++ after) = sym (take-append-drop at text) ∙ ap (λ (xs : List ℕ). front ++ xs) first.spelled in
    let m : length text ≡ length front + (length part + length after) = ap length e ∙ simp length-append in
    let to : ℕ = length text - length after in
    let edges = token_edges kind part first.token in
    let some = edges.some in
    let end : to ≡ at + length part = omega arith in
    let h = cuts text front part after at to utf8 e (sym n) end edges in
    let rest : after ≡ drop to text =
    sym (ap (λ (xs : List ℕ). drop to xs) (e ∙ sym (append_assoc front part after)) ∙ drop_at (front ++ part) after to (length-append front part ∙ (omega arith))) in
    subst (λ (t : Token). Placed text t after) (sym is) (record {
      cut = record { ordered = omega arith; from = h.from; to = h.to };
      ordered = omega arith;
      within = omega arith;
      first = subst (λ (xs : List ℕ). IsFirst (drop at text) kind xs after) (sym h.is) first;
      rest = rest;
    })

pub placed : (text bytes : List ℕ) (at : ℕ) (kind : TokenKind) (after : List ℕ) → IsUtf8 text → bytes ≡ text → at < length text → BeginsToken (take (length bytes - at) (drop at bytes)) kind after → Placed text (record { kind = kind; from = at; to = length bytes - length after }) after
placed text bytes at kind after utf8 same l begins =
    let whole : take (length bytes - at) (drop at bytes) ≡ drop at text = between_to_end bytes at (length bytes) (omega arith) ∙ ap (λ (xs : List ℕ). drop at xs) same in
    let first = subst (λ (xs : List ℕ). IsFirst xs kind begins.0 after) whole begins.1 in
    placed_by text at kind begins.0 after (record { kind = kind; from = at; to = length bytes - length after }) (ap (λ (xs : List ℕ). record { kind = kind; from = at; to = length xs - length after }) same) utf8 l first

-- the refusal of a token that has no value
pub invalid_value_fault : (kind : TokenKind) (place : ℕ) (whole part after : List ℕ) → IsFirst whole kind part after → IsUsable kind part after → ¬ HasValue kind part → IsRefusalAt place whole (invalid_value_refusal kind place)
invalid_value_fault Number place whole part after first usable none = (refl, record { text = part; after = after; first = first; usable = usable; invalid_value = none })
invalid_value_fault Timestamp place whole part after first usable none = (refl, record { text = part; after = after; first = first; usable = usable; invalid_value = none })
invalid_value_fault Hex place whole part after first usable none = (refl, inl (record { text = part; after = after; first = first; usable = usable; invalid_value = none }))
invalid_value_fault Binary place whole part after first usable none = (refl, inr (record { text = part; after = after; first = first; usable = usable; invalid_value = none }))
invalid_value_fault String place whole part after first usable none = absurd (none first.token)
invalid_value_fault _ place whole part after first usable none = absurd (none tt)

abbrev pub token_of : (bytes : List ℕ) (at : ℕ) (kind : TokenKind) (after : List ℕ) → Token
token_of bytes at kind after = record { kind = kind; from = at; to = length bytes - length after }

usable_by : (text bytes : List ℕ) (at to : ℕ) (kind : TokenKind) (after : List ℕ) (r : Bool) → bytes ≡ text → IsTrue r ↔ RunsOn kind after → r ≡ false → ((word : LeftWord) → ¬ IsUnsupported word kind (take (to - at) (drop at bytes)) after) → IsUsable kind (take (to - at) (drop at text)) after
usable_by text bytes at to kind after r same ends is_false used = record {
  ends = λ h. false≢true (sym is_false ∙ ends.1 h);
  used = subst (λ (xs : List ℕ). (word : LeftWord) → ¬ IsUnsupported word kind (take (to - at) (drop at xs)) after) same used;
}

pub stands : (text bytes : List ℕ) (at : ℕ) (kind : TokenKind) (after : List ℕ) (r : Bool) → IsUtf8 text → bytes ≡ text → at < length text → BeginsToken (take (length bytes - at) (drop at bytes)) kind after → IsTrue r ↔ RunsOn kind after → r ≡ false → ((word : LeftWord) → ¬ IsUnsupported word kind (take (length bytes - length after - at) (drop at bytes)) after) → HasValue kind (token_text_at text (token_of bytes at kind after)) → StandsAt text at (token_of bytes at kind after)
stands text bytes at kind after r utf8 same l begins ends is_false used value =
    let to : ℕ = length bytes - length after in
    let p = placed text bytes at kind after utf8 same l begins in
    let part : List ℕ = take (to - at) (drop at text) in
    record {
      from = refl;
      ordered = p.ordered;
      within = p.within;
      first = subst (λ (xs : List ℕ). IsFirst (drop at text) kind part xs) p.rest p.first;
      usable = subst (λ (xs : List ℕ). IsUsable kind part xs) p.rest (usable_by text bytes at to kind after r same ends is_false used);
      value = value;
    }

pub represents_nothing : (text bytes : List ℕ) (at : ℕ) (kind : TokenKind) (after : List ℕ) (r : Bool) → IsUtf8 text → bytes ≡ text → at < length text → BeginsToken (take (length bytes - at) (drop at bytes)) kind after → IsTrue r ↔ RunsOn kind after → r ≡ false → ((word : LeftWord) → ¬ IsUnsupported word kind (take (length bytes - length after - at) (drop at bytes)) after) → ¬ HasValue kind (token_text_at text (token_of bytes at kind after)) → IsRefusalAt at (drop at text) (invalid_value_refusal kind at)
represents_nothing text bytes at kind after r utf8 same l begins ends is_false used value =
    let to : ℕ = length bytes - length after in
    let p = placed text bytes at kind after utf8 same l begins in
    invalid_value_fault kind at (drop at text) (take (to - at) (drop at text)) after p.first (usable_by text bytes at to kind after r same ends is_false used) value

-- blanks
pub passed : (text bytes : List ℕ) (at : ℕ) (front rest : List ℕ) → bytes ≡ text → at ≤ length text → IsRun IsBlank (take (length bytes - at) (drop at bytes)) front rest → ArePassed text at (length text - length rest)
passed text bytes at front rest same l run =
    let whole : take (length bytes - at) (drop at bytes) ≡ drop at text = between_to_end bytes at (length bytes) (omega arith) ∙ ap (λ (xs : List ℕ). drop at xs) same in
    let e : drop at text ≡ front ++ rest = sym whole ∙ run.spelled in
    let m : length text - at ≡ length front + length rest = sym (length-drop at text) ∙ ap length e ∙ length-append front rest in
    let to : ℕ = length text - length rest in
    let w : to - at ≡ length front = omega arith in
    let t : at + length front ≡ to = omega arith in
    let blanks : take (to - at) (drop at text) ≡ front = ap (λ (k : ℕ). take k (drop at text)) w ∙ ap (λ (xs : List ℕ). take (length front) xs) e ∙ take_at front rest (length front) refl in
    let left : drop to text ≡ rest = ap (λ (k : ℕ). drop k text) (sym t) ∙ sym (drop-drop (length front) at text) ∙ ap (λ (xs : List ℕ). drop (length front) xs) e ∙ drop_at front rest (length front) refl in
    record {
      ordered = omega arith;
      within = omega arith;
      blank = subst (λ (xs : List ℕ). All IsBlank xs) (sym blanks) run.all;
      ends = λ h. run.ends (subst (λ (xs : List ℕ). HasAt 0 IsBlank xs) left h);
    }

passed_spelled : (text : List ℕ) (from to : ℕ) → ArePassed text from to → drop from text ≡ slice_range text from to ++ drop to text
passed_spelled text from to p =
    let o = p.ordered in
    let t : from + (to - from) ≡ to = omega arith in
    sym (take-append-drop (to - from) (drop from text)) ∙ ap (λ (xs : List ℕ). slice_range text from to ++ xs) (drop-drop (to - from) from text ∙ ap (λ (k : ℕ). drop k text) t)

-- where the last token ends
abbrev pub end_of : ℕ → List Token → ℕ
end_of at [] = at
end_of at (token ∷ tokens) = end_of token.to tokens

pub end_is : (at : ℕ) (left : List ℕ) (tokens : List Token) (rest : List ℕ) → AreTokens at left tokens rest → end_of at tokens + length rest ≡ at + length left
end_is at left [] rest h = ap (λ (xs : List ℕ). at + length xs) (sym h)
end_is at left (token ∷ tokens) rest h =
    let next = h.1 in
    let more = end_is token.to h.0 tokens rest h.2 in
    let n : length left ≡ length next.blanks + (length next.text + length h.0) = ap length next.spelled ∙ simp length-append (omega arith) in
    let from = next.from in
    let to = next.to in
    omega arith

one_token_more : (at : ℕ) (left : List ℕ) (tokens : List Token) (rest : List ℕ) (token : Token) (after : List ℕ) → AreTokens at left tokens rest → IsNextToken (end_of at tokens) rest token after → AreTokens at left (tokens ++ token ∷ []) after
one_token_more at left [] rest token after h next = (after, subst (λ (xs : List ℕ). IsNextToken at xs token after) (sym h) next, refl)
one_token_more at left (t ∷ tokens) rest token after h next = (h.0, h.1, one_token_more t.to h.0 tokens rest token after h.2 next)

pub read_nothing : (text : List ℕ) (at : ℕ) → ArePassed text 0 at → ReadUpTo text [] at
read_nothing text at p = record {
  within = p.within;
  blanks = slice_range text 0 at;
  stand = passed_spelled text 0 at p;
  blank = p.blank;
  ends = p.ends;
}

next_of : (text : List ℕ) (tokens : List Token) (at : ℕ) (token : Token) → (read : ReadUpTo text tokens at) → StandsAt text at token → IsNextToken (end_of 0 tokens) (read.blanks ++ drop at text) token (drop token.to text)
next_of text tokens at token read stands =
    let part : List ℕ = token_text_at text token in
    let after : List ℕ = drop token.to text in
    let within = read.within in
    let low = stands.ordered in
    let high = stands.within in
    let from = stands.from in
    let spelled = stands.first.spelled in
    let total : end_of 0 tokens + length (read.blanks ++ drop at text) ≡ 0 + length text = end_is 0 text tokens (read.blanks ++ drop at text) read.stand in
    let rest : length (read.blanks ++ drop at text) ≡ length read.blanks + (length text - at) = length-append read.blanks (drop at text) ∙ ap (λ (n : ℕ). length read.blanks + n) (length-drop at text) in
    let wide : length part ≡ token.to - token.from = length-take-le (token.to - token.from) (drop token.from text) (let d = length-drop token.from text in omega arith) in
    record {
      blanks = read.blanks;
      text = part;
      blank = read.blank;
      spelled = ap (λ (xs : List ℕ). read.blanks ++ xs) spelled ∙ sym (append_assoc read.blanks part after);
      first = subst (λ (xs : List ℕ). IsFirst xs token.kind part after) spelled stands.first;
      usable = stands.usable;
      value = stands.value;
      from = omega arith;
      to = omega arith;
    }

pub read_one : (text : List ℕ) (tokens : List Token) (at next : ℕ) (token : Token) → ReadUpTo text tokens at → StandsAt text at token → ArePassed text token.to next → ReadUpTo text (tokens ++ token ∷ []) next
read_one text tokens at next token read stands p = record {
  within = p.within;
  blanks = slice_range text token.to next;
  stand = subst (AreTokens 0 text (tokens ++ token ∷ [])) (passed_spelled text token.to next p) (one_token_more 0 text tokens (read.blanks ++ drop at text) token (drop token.to text) read.stand (next_of text tokens at token read stands));
  blank = p.blank;
  ends = p.ends;
}

not_blank : (rest : List ℕ) → 0 < length rest → ¬ HasAt 0 IsBlank rest → HasAt 0 (λ c. ¬ IsBlank c) rest
not_blank [] l none = absurd (omega arith)
not_blank (c ∷ rest) l none = none

begins_there : (text : List ℕ) (at : ℕ) → at < length text → ¬ HasAt 0 IsBlank (drop at text) → HasAt 0 (λ c. ¬ IsBlank c) (drop at text)
begins_there text at l ends = not_blank (drop at text) (let d = length-drop at text in omega arith) ends

pub read_fault : (text : List ℕ) (tokens : List Token) (at : ℕ) (refusal : TokenRefusal) → at < length text → ReadUpTo text tokens at → IsRefusalAt at (drop at text) refusal → HasRefusal text refusal
read_fault text tokens at refusal l read fault =
    let d : at ≡ length text - length (drop at text) = let n = length-drop at text in omega arith in
    record {
      tokens = tokens;
      blanks = read.blanks;
      rest = drop at text;
      stand = read.stand;
      blank = read.blank;
      begins = begins_there text at l read.ends;
      refused = subst (λ (n : ℕ). IsRefusalAt n (drop at text) refusal) d fault;
    }
