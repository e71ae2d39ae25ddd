-- The token that begins a text is the longest.
use Rattle.std.proofs.Common.{◌≡◌, ◌≢◌, ℕ, ◌<◌, ◌≤◌, ◌⊎◌, inl, inr, Bool, true, false, cond, ◌==◌, List, [], ◌∷◌, ◌++◌, length, drop, flat_map, All, Option, Some, None, IsSome, IfNone, IfSome, Bor, refl, sym, ap, ◌∙◌, subst, arith, append_assoc, ◌+◌}
use Rattle.std.specs.Char.{IsAsciiDigit}
use Rattle.std.specs.Str.Parse.{IsNumeral, AllDigits, without_leading_sign}
use Rattle.std.proofs.lemmas.Bool.Decides.{nat_tests, Decides-eqb}
use Rattle.std.proofs.lemmas.List.Elements.{All-nil, All-cons, All-head, All-tail}
use Rattle.std.proofs.lemmas.List.{length_push}
use Rattle.std.proofs.lemmas.Str.Parse.{digit_from_value, tells_digits}
use Rattle.pattern_lexer.specs.declared.token.TokenKind.{TokenKind}
use Rattle.pattern_lexer.specs.declared.token.TokenKind.TheVariants.{Number, String}
use Rattle.pattern_lexer.specs.Word.{IsWordStart, IsHyphenWordPart, HasAt}
use Rattle.pattern_lexer.specs.Values.{escaped, IsNumberText}
use Rattle.pattern_lexer.specs.Table.{IsToken}
use Rattle.pattern_lexer.specs.Reading.{HasNoToken}
use Rattle.pattern_lexer.specs.inner.Steps.{IsNameOrKeyword, IsRun, IsNumberStart, StartsAsPunctuation, BeginsToken, HasNoPrefixed, letter_kind, single_kind, double_kind}
use Rattle.pattern_lexer.proofs.TokenShapeLemmas.{Shape, of_single, of_double, of_name, of_letter, of_number, of_words, shape, start_by}
use Rattle.pattern_lexer.proofs.EscapedTextLemmas.{one_end}
use Rattle.pattern_lexer.proofs.TokenLeadLemmas.{Lead, letter, number, quote, other, Starts, same_lead, other_start, single_row, double_row, letter_row, some_of}

-- a longest front of bytes of a class is as long as each front of such bytes
pub run_longest : (P : ℕ → Type 0) (front after longer more : List ℕ) → front ++ after ≡ longer ++ more → ¬ HasAt 0 P after → All P longer → length longer ≤ length front
run_longest P front after [] more e ends all = omega arith
run_longest P [] after (x ∷ xs) more e ends all = absurd (ends (subst (λ (l : List ℕ). HasAt 0 P l) (sym e) (All-head P x xs all)))
run_longest P (f ∷ front) after (x ∷ xs) more e ends all =
    let same : front ++ after ≡ xs ++ more = cc in
    let h = run_longest P front after xs more same ends (All-tail P x xs all) in
    omega arith

-- a first byte
pub has_first : (P : ℕ → Type 0) (whole : List ℕ) (c : ℕ) (rest : List ℕ) → whole ≡ c ∷ rest → P c → HasAt 0 P whole
has_first P whole c rest e h = subst (λ (l : List ℕ). HasAt 0 P l) (sym e) h

front_first : (P : ℕ → Type 0) (whole front after : List ℕ) → whole ≡ front ++ after → HasAt 0 P front → HasAt 0 P whole
front_first P whole [] after e h = absurd h
front_first P whole (c ∷ front) after e h = has_first P whole c (front ++ after) e h

both_first : (a b : Lead) (whole : List ℕ) → HasAt 0 (Starts a) whole → HasAt 0 (Starts b) whole → a ≡ b
both_first a b [] x y = absurd x
both_first a b (c ∷ whole) x y = same_lead a b c x y

-- numbers
signed : (c : ℕ) (cs : List ℕ) → (c ≡ 43) ⊎ (c ≡ 45) → without_leading_sign (c ∷ cs) ≡ cs
signed c cs (inl e) = ap (λ (x : ℕ). without_leading_sign (x ∷ cs)) e
signed c cs (inr e) = ap (λ (x : ℕ). without_leading_sign (x ∷ cs)) e

unsigned_by : (b d : Bool) (c : ℕ) (cs : List ℕ) → (c == 45) ≡ b → (c == 43) ≡ d → c ≢ 43 → c ≢ 45 → cond b cs (drop (cond d 1 0) (c ∷ cs)) ≡ c ∷ cs
unsigned_by true d c cs p q x y = absurd (y (grind (arith, nat_tests)))
unsigned_by false true c cs p q x y = absurd (x (grind (arith, nat_tests)))
unsigned_by false false c cs p q x y = refl

unsigned : (c : ℕ) (cs : List ℕ) → c ≢ 43 → c ≢ 45 → without_leading_sign (c ∷ cs) ≡ c ∷ cs
unsigned c cs x y = unsigned_by (c == 45) (c == 43) c cs refl refl x y

all_digits : (digits : List ℕ) → AllDigits 10 digits → All IsAsciiDigit digits
all_digits [] h = All-nil IsAsciiDigit
all_digits (c ∷ cs) h = All-cons IsAsciiDigit c cs (digit_from_value c h.0) (all_digits cs h.1)

digits_all : (digits : List ℕ) → All IsAsciiDigit digits → AllDigits 10 digits
digits_all [] h = tells_digits.empty
digits_all (c ∷ cs) h = tells_digits.more c cs (All-head IsAsciiDigit c cs h) (digits_all cs (All-tail IsAsciiDigit c cs h))

sign_by : (a b : Bool) (c : ℕ) → (c == 43) ≡ a → (c == 45) ≡ b → ((c ≡ 43) ⊎ (c ≡ 45)) ⊎ ((c ≢ 43) × (c ≢ 45))
sign_by true b c p q = inl (inl (grind (arith, nat_tests)))
sign_by false true c p q = inl (inr (grind (arith, nat_tests)))
sign_by false false c p q = inr (grind (arith, nat_tests), grind (arith, nat_tests))

sign_or_not : (c : ℕ) → ((c ≡ 43) ⊎ (c ≡ 45)) ⊎ ((c ≢ 43) × (c ≢ 45))
sign_or_not c = sign_by (c == 43) (c == 45) c refl refl

digit_start : (cs : List ℕ) → 0 < length cs → All IsAsciiDigit cs → HasAt 0 IsNumberStart cs
digit_start [] l all = absurd (omega arith)
digit_start (c ∷ cs) l all = inl (All-head IsAsciiDigit c cs all)

number_start_by : (c : ℕ) (cs : List ℕ) → ((c ≡ 43) ⊎ (c ≡ 45)) ⊎ ((c ≢ 43) × (c ≢ 45)) → IsNumberText (c ∷ cs) → IsNumberStart c
number_start_by c cs (inl (inl e)) h = inr (inl e)
number_start_by c cs (inl (inr e)) h = inr (inr e)
number_start_by c cs (inr n) h =
    let e = unsigned c cs n.0 n.1 in
    let P : List ℕ → Type 0 = λ l. IsNumeral 10 l in
    let numeral = subst P e h in
    digit_start (c ∷ cs) numeral.0 (all_digits (c ∷ cs) numeral.1)

pub number_start : (text : List ℕ) → IsNumberText text → HasAt 0 IsNumberStart text
number_start [] h = absurd (omega (arith, h.0))
number_start (c ∷ cs) h = number_start_by c cs (sign_or_not c) h

-- the lead of a shape
abbrev lead_of : {text : List ℕ} → Shape text → Lead
lead_of (of_single c s e) = other
lead_of (of_double c s e) = other
lead_of (of_name n) = letter
lead_of (of_letter c inside s h) = letter
lead_of (of_number h) = number
lead_of (of_words words h) = quote

lead_there : (text : List ℕ) (s : Shape text) → HasAt 0 (Starts (lead_of s)) text
lead_there text (of_single c s e) = let k = some_of (single_kind c) s in has_first (Starts other) text c [] e (other_start c (single_row c k.0 k.1).1)
lead_there text (of_double c s e) = let k = some_of (double_kind c) s in has_first (Starts other) text c (61 ∷ []) e (other_start c (double_row c k.0 k.1).1)
lead_there text (of_name n) = n.starts
lead_there text (of_letter c inside s h) = let k = some_of (letter_kind c) s in has_first (Starts letter) text c (39 ∷ (inside ++ 39 ∷ [])) h.spelled (start_by c (letter_row c k.0 k.1).1)
lead_there text (of_number h) = number_start text h
lead_there text (of_words words h) = has_first (Starts quote) text 39 (flat_map escaped words ++ 39 ∷ []) h refl

-- each token that begins a text has the text's lead
lead_is : (l : Lead) (whole text after : List ℕ) → HasAt 0 (Starts l) whole → whole ≡ text ++ after → (s : Shape text) → lead_of s ≡ l
lead_is l whole text after h e s = both_first (lead_of s) l whole (front_first (Starts (lead_of s)) whole text after e (lead_there text s)) h

-- names
letter_spelled : (c : ℕ) (inside more : List ℕ) → ((c ∷ 39 ∷ inside) ++ 39 ∷ []) ++ more ≡ c ∷ 39 ∷ (inside ++ 39 ∷ more)
letter_spelled c inside more = append_assoc (c ∷ 39 ∷ inside) (39 ∷ []) more

name_longest : (whole front after longer more : List ℕ) → IsRun IsHyphenWordPart whole front after → HasAt 0 IsWordStart whole → HasNoPrefixed whole → whole ≡ longer ++ more → Shape longer → length longer ≤ length front
name_longest whole front after longer more run starts none e (of_single c s x) = let h : other ≡ letter = lead_is letter whole longer more starts e (of_single c s x) in absurd (cc)
name_longest whole front after longer more run starts none e (of_double c s x) = let h : other ≡ letter = lead_is letter whole longer more starts e (of_double c s x) in absurd (cc)
name_longest whole front after longer more run starts none e (of_name n) = run_longest IsHyphenWordPart front after longer more (sym run.spelled ∙ e) run.ends n.parts
name_longest whole front after longer more run starts none e (of_letter c inside s h) =
    absurd (none c inside more s h.unquoted (e ∙ ap (λ (l : List ℕ). l ++ more) h.spelled ∙ letter_spelled c inside more))
name_longest whole front after longer more run starts none e (of_number h) = let h : number ≡ letter = lead_is letter whole longer more starts e (of_number h) in absurd (cc)
name_longest whole front after longer more run starts none e (of_words words h) = let h : quote ≡ letter = lead_is letter whole longer more starts e (of_words words h) in absurd (cc)

pub name_first : (whole front after : List ℕ) (kind : TokenKind) → IsRun IsHyphenWordPart whole front after → HasAt 0 IsWordStart whole → HasNoPrefixed whole → IsToken kind front → BeginsToken whole kind after
name_first whole front after kind run starts none token = (
  front,
  record {
    spelled = run.spelled;
    token = token;
    longest = λ other longer more e t. name_longest whole front after longer more run starts none e (shape other longer t);
  },
)

start_part : (whole after : List ℕ) → whole ≡ after → HasAt 0 IsWordStart whole → HasAt 0 IsHyphenWordPart after
start_part [] after e h = absurd h
start_part (c ∷ whole) after e h = has_first IsHyphenWordPart after c whole (sym e) (inl (inl h))

start_of : (whole : List ℕ) (c : ℕ) (rest : List ℕ) → whole ≡ c ∷ rest → HasAt 0 IsWordStart whole → IsWordStart c
start_of whole c rest e h = subst (λ (l : List ℕ). HasAt 0 IsWordStart l) e h

pub run_name : (whole front after : List ℕ) → IsRun IsHyphenWordPart whole front after → HasAt 0 IsWordStart whole → IsNameOrKeyword front
run_name whole [] after run starts = absurd (run.ends (start_part whole after run.spelled starts))
run_name whole (c ∷ front) after run starts = record { starts = start_of whole c (front ++ after) run.spelled starts; parts = run.all }

-- texts in quotes after a letter
pub quote_no_part : IsHyphenWordPart 39 → ⊥
quote_no_part (inl (inl (inl (inl h)))) = absurd (omega (arith, h.0))
quote_no_part (inl (inl (inl (inr h)))) = absurd (omega (arith, h.0))
quote_no_part (inl (inl (inr h))) = absurd (omega (arith, h))
quote_no_part (inl (inr h)) = absurd (omega (arith, h.0))
quote_no_part (inr h) = absurd (omega (arith, h))

letter_longest : (whole inside after longer more : List ℕ) (l : ℕ) → whole ≡ l ∷ 39 ∷ (inside ++ 39 ∷ after) → IsWordStart l → All (λ c. c ≢ 39) inside → whole ≡ longer ++ more → Shape longer → length longer ≤ length (l ∷ 39 ∷ (inside ++ 39 ∷ []))
letter_longest whole inside after longer more l w start all e (of_single c s x) = let h : other ≡ letter = lead_is letter whole longer more (has_first IsWordStart whole l _ w start) e (of_single c s x) in absurd (cc)
letter_longest whole inside after longer more l w start all e (of_double c s x) = let h : other ≡ letter = lead_is letter whole longer more (has_first IsWordStart whole l _ w start) e (of_double c s x) in absurd (cc)
letter_longest whole inside after longer more l w start all e (of_name n) =
    let h = run_longest IsHyphenWordPart (l ∷ []) (39 ∷ (inside ++ 39 ∷ after)) longer more (sym w ∙ e) quote_no_part n.parts in
    omega arith
letter_longest whole inside after longer more l w start all e (of_letter c inside2 s h) =
    let same : l ∷ 39 ∷ (inside ++ 39 ∷ after) ≡ c ∷ 39 ∷ (inside2 ++ 39 ∷ more) = sym w ∙ e ∙ ap (λ (x : List ℕ). x ++ more) h.spelled ∙ letter_spelled c inside2 more in
    let tails : inside ++ 39 ∷ after ≡ inside2 ++ 39 ∷ more = cc in
    let k = run_longest (λ c. c ≢ 39) inside (39 ∷ after) inside2 (39 ∷ more) tails (λ n. n refl) h.unquoted in
    let n : length longer ≡ length (c ∷ 39 ∷ (inside2 ++ 39 ∷ [])) = ap length h.spelled in
    let m : length (inside2 ++ 39 ∷ []) ≡ length inside2 + 1 = length_push inside2 39 in
    let o : length (inside ++ 39 ∷ []) ≡ length inside + 1 = length_push inside 39 in
    omega arith
letter_longest whole inside after longer more l w start all e (of_number h) = let h : number ≡ letter = lead_is letter whole longer more (has_first IsWordStart whole l _ w start) e (of_number h) in absurd (cc)
letter_longest whole inside after longer more l w start all e (of_words words h) = let h : quote ≡ letter = lead_is letter whole longer more (has_first IsWordStart whole l _ w start) e (of_words words h) in absurd (cc)

pub letter_first : (whole more strip_byte inside after : List ℕ) (l : ℕ) (kind : TokenKind) → whole ≡ l ∷ more → more ≡ 39 ∷ strip_byte → letter_kind l ≡ Some kind → All (λ c. c ≢ 39) inside → strip_byte ≡ inside ++ 39 ∷ after → BeginsToken whole kind after
letter_first whole more strip_byte inside after l kind w m k all b =
    let row = letter_row l kind k in
    let spelled : whole ≡ l ∷ 39 ∷ (inside ++ 39 ∷ after) = cc in (
      l ∷ 39 ∷ (inside ++ 39 ∷ []),
      record {
        spelled = spelled ∙ sym (letter_spelled l inside after);
        token = row.0 (l ∷ 39 ∷ (inside ++ 39 ∷ [])) inside (record { spelled = refl; unquoted = all });
        longest = λ other longer more e t. letter_longest whole inside after longer more l spelled (start_by l row.1) all e (shape other longer t);
      },
    )

single_longest : (whole more : List ℕ) (c : ℕ) (longer rest : List ℕ) → whole ≡ c ∷ more → Starts other c → ((after : List ℕ) → IsSome (double_kind c) → more ≢ 61 ∷ after) → whole ≡ longer ++ rest → Shape longer → length longer ≤ 1
single_longest whole more c longer rest w start none e (of_single d s x) = let n : length longer ≡ 1 = ap length x in omega arith
single_longest whole more c longer rest w start none e (of_double d s x) =
    let h : c ∷ more ≡ d ∷ 61 ∷ rest = sym w ∙ e ∙ ap (λ (l : List ℕ). l ++ rest) x in
    let same : d ≡ c = cc in
    let tails : more ≡ 61 ∷ rest = cc in
    absurd (none rest (subst (λ (n : ℕ). IsSome (double_kind n)) same s) tails)
single_longest whole more c longer rest w start none e (of_name n) = let h : letter ≡ other = lead_is other whole longer rest (has_first (Starts other) whole c more w start) e (of_name n) in absurd (cc)
single_longest whole more c longer rest w start none e (of_letter d inside s h) = let h : letter ≡ other = lead_is other whole longer rest (has_first (Starts other) whole c more w start) e (of_letter d inside s h) in absurd (cc)
single_longest whole more c longer rest w start none e (of_number h) = let h : number ≡ other = lead_is other whole longer rest (has_first (Starts other) whole c more w start) e (of_number h) in absurd (cc)
single_longest whole more c longer rest w start none e (of_words words h) = let h : quote ≡ other = lead_is other whole longer rest (has_first (Starts other) whole c more w start) e (of_words words h) in absurd (cc)

-- punctuation
pub single_first : (whole more : List ℕ) (c : ℕ) (kind : TokenKind) → whole ≡ c ∷ more → single_kind c ≡ Some kind → ((after : List ℕ) → IsSome (double_kind c) → more ≢ 61 ∷ after) → BeginsToken whole kind more
single_first whole more c kind w k none =
    let row = single_row c kind k in (
      c ∷ [],
      record {
        spelled = w;
        token = row.0;
        longest = λ other longer rest e t. single_longest whole more c longer rest w (other_start c row.1) none e (shape other longer t);
      },
    )

double_longest : (whole more : List ℕ) (c : ℕ) (longer rest : List ℕ) → whole ≡ c ∷ more → Starts other c → whole ≡ longer ++ rest → Shape longer → length longer ≤ 2
double_longest whole more c longer rest w start e (of_single d s x) = let n : length longer ≡ 1 = ap length x in omega arith
double_longest whole more c longer rest w start e (of_double d s x) = let n : length longer ≡ 2 = ap length x in omega arith
double_longest whole more c longer rest w start e (of_name n) = let h : letter ≡ other = lead_is other whole longer rest (has_first (Starts other) whole c more w start) e (of_name n) in absurd (cc)
double_longest whole more c longer rest w start e (of_letter d inside s h) = let h : letter ≡ other = lead_is other whole longer rest (has_first (Starts other) whole c more w start) e (of_letter d inside s h) in absurd (cc)
double_longest whole more c longer rest w start e (of_number h) = let h : number ≡ other = lead_is other whole longer rest (has_first (Starts other) whole c more w start) e (of_number h) in absurd (cc)
double_longest whole more c longer rest w start e (of_words words h) = let h : quote ≡ other = lead_is other whole longer rest (has_first (Starts other) whole c more w start) e (of_words words h) in absurd (cc)

pub double_first : (whole more after : List ℕ) (c : ℕ) (kind : TokenKind) → whole ≡ c ∷ more → double_kind c ≡ Some kind → more ≡ 61 ∷ after → BeginsToken whole kind after
double_first whole more after c kind w k m =
    let row = double_row c kind k in (
      c ∷ 61 ∷ [],
      record {
        spelled = let h : whole ≡ c ∷ 61 ∷ after = cc in h;
        token = row.0;
        longest = λ other longer rest e t. double_longest whole more c longer rest w (other_start c row.1) e (shape other longer t);
      },
    )

pub punctuation_start : (whole : List ℕ) (c : ℕ) (more : List ℕ) → whole ≡ c ∷ more → StartsAsPunctuation whole → Starts other c
punctuation_start whole c more w start = (
  λ h. start.letter (has_first IsWordStart whole c more w h),
  λ h. start.number (has_first IsNumberStart whole c more w h),
  λ h. start.quote (has_first (λ x. x ≡ 39) whole c more w h),
)

no_some : IsSome {T = TokenKind} None → ⊥
no_some h = cc

no_punctuation_by : (whole more text after : List ℕ) (c : ℕ) → whole ≡ c ∷ more → Starts other c → single_kind c ≡ None → ((after : List ℕ) → IsSome (double_kind c) → more ≢ 61 ∷ after) → whole ≡ text ++ after → Shape text → ⊥
no_punctuation_by whole more text after c w start single none e (of_single d s x) =
    let h : c ∷ more ≡ d ∷ after = sym w ∙ e ∙ ap (λ (l : List ℕ). l ++ after) x in
    let same : d ≡ c = cc in
    let P : Option TokenKind → Type 0 = λ o. IsSome o in
    no_some (subst P single (subst (λ (n : ℕ). IsSome (single_kind n)) same s))
no_punctuation_by whole more text after c w start single none e (of_double d s x) =
    let h : c ∷ more ≡ d ∷ 61 ∷ after = sym w ∙ e ∙ ap (λ (l : List ℕ). l ++ after) x in
    let same : d ≡ c = cc in
    let tails : more ≡ 61 ∷ after = cc in
    none after (subst (λ (n : ℕ). IsSome (double_kind n)) same s) tails
no_punctuation_by whole more text after c w start single none e (of_name n) = let h : letter ≡ other = lead_is other whole text after (has_first (Starts other) whole c more w start) e (of_name n) in absurd (cc)
no_punctuation_by whole more text after c w start single none e (of_letter d inside s h) = let h : letter ≡ other = lead_is other whole text after (has_first (Starts other) whole c more w start) e (of_letter d inside s h) in absurd (cc)
no_punctuation_by whole more text after c w start single none e (of_number h) = let h : number ≡ other = lead_is other whole text after (has_first (Starts other) whole c more w start) e (of_number h) in absurd (cc)
no_punctuation_by whole more text after c w start single none e (of_words words h) = let h : quote ≡ other = lead_is other whole text after (has_first (Starts other) whole c more w start) e (of_words words h) in absurd (cc)

pub no_punctuation : (whole more : List ℕ) (c : ℕ) → whole ≡ c ∷ more → StartsAsPunctuation whole → single_kind c ≡ None → ((after : List ℕ) → IsSome (double_kind c) → more ≢ 61 ∷ after) → HasNoToken whole
no_punctuation whole more c w start single none kind text after e token = no_punctuation_by whole more text after c w (punctuation_start whole c more w start) single none e (shape kind text token)

-- texts in quotes
words_spelled : (words more : List ℕ) → (39 ∷ (flat_map escaped words ++ 39 ∷ [])) ++ more ≡ 39 ∷ (flat_map escaped words ++ 39 ∷ more)
words_spelled words more = append_assoc (39 ∷ flat_map escaped words) (39 ∷ []) more

words_longest : (whole inside after words longer more : List ℕ) → whole ≡ 39 ∷ inside → inside ≡ flat_map escaped words ++ 39 ∷ after → whole ≡ longer ++ more → Shape longer → length longer ≤ length (39 ∷ (flat_map escaped words ++ 39 ∷ []))
words_longest whole inside after words longer more w i e (of_single c s x) = let h : other ≡ quote = lead_is quote whole longer more (has_first (Starts quote) whole 39 inside w refl) e (of_single c s x) in absurd (cc)
words_longest whole inside after words longer more w i e (of_double c s x) = let h : other ≡ quote = lead_is quote whole longer more (has_first (Starts quote) whole 39 inside w refl) e (of_double c s x) in absurd (cc)
words_longest whole inside after words longer more w i e (of_name n) = let h : letter ≡ quote = lead_is quote whole longer more (has_first (Starts quote) whole 39 inside w refl) e (of_name n) in absurd (cc)
words_longest whole inside after words longer more w i e (of_letter c inside2 s h) = let h : letter ≡ quote = lead_is quote whole longer more (has_first (Starts quote) whole 39 inside w refl) e (of_letter c inside2 s h) in absurd (cc)
words_longest whole inside after words longer more w i e (of_number h) = let h : number ≡ quote = lead_is quote whole longer more (has_first (Starts quote) whole 39 inside w refl) e (of_number h) in absurd (cc)
words_longest whole inside after words longer more w i e (of_words words2 h) =
    let same : 39 ∷ (flat_map escaped words ++ 39 ∷ after) ≡ 39 ∷ (flat_map escaped words2 ++ 39 ∷ more) =
    ap (λ (l : List ℕ). 39 ∷ l) (sym i) ∙ sym w ∙ e ∙ ap (λ (l : List ℕ). l ++ more) h ∙ words_spelled words2 more in
    let tails : flat_map escaped words ++ 39 ∷ after ≡ flat_map escaped words2 ++ 39 ∷ more = cc in
    let k : words ≡ words2 = (one_end words words2 after more tails).0 in
    let n : length longer ≡ length (39 ∷ (flat_map escaped words ++ 39 ∷ [])) = ap length h ∙ ap (λ (l : List ℕ). length (39 ∷ (flat_map escaped l ++ 39 ∷ []))) (sym k) in
    omega arith

pub words_first : (whole inside after words : List ℕ) → whole ≡ 39 ∷ inside → inside ≡ flat_map escaped words ++ 39 ∷ after → BeginsToken whole String after
words_first whole inside after words w i = (
  39 ∷ (flat_map escaped words ++ 39 ∷ []),
  record {
    spelled = w ∙ ap (λ (l : List ℕ). 39 ∷ l) i ∙ sym (words_spelled words after);
    token = (words, refl);
    longest = λ other longer more e t. words_longest whole inside after words longer more w i e (shape other longer t);
  },
)

no_words_by : (whole inside text after : List ℕ) → whole ≡ 39 ∷ inside → ((words more : List ℕ) → inside ≢ flat_map escaped words ++ 39 ∷ more) → whole ≡ text ++ after → Shape text → ⊥
no_words_by whole inside text after w none e (of_single c s x) = let h : other ≡ quote = lead_is quote whole text after (has_first (Starts quote) whole 39 inside w refl) e (of_single c s x) in absurd (cc)
no_words_by whole inside text after w none e (of_double c s x) = let h : other ≡ quote = lead_is quote whole text after (has_first (Starts quote) whole 39 inside w refl) e (of_double c s x) in absurd (cc)
no_words_by whole inside text after w none e (of_name n) = let h : letter ≡ quote = lead_is quote whole text after (has_first (Starts quote) whole 39 inside w refl) e (of_name n) in absurd (cc)
no_words_by whole inside text after w none e (of_letter c inside2 s h) = let h : letter ≡ quote = lead_is quote whole text after (has_first (Starts quote) whole 39 inside w refl) e (of_letter c inside2 s h) in absurd (cc)
no_words_by whole inside text after w none e (of_number h) = let h : number ≡ quote = lead_is quote whole text after (has_first (Starts quote) whole 39 inside w refl) e (of_number h) in absurd (cc)
no_words_by whole inside text after w none e (of_words words h) =
    let same : 39 ∷ inside ≡ 39 ∷ (flat_map escaped words ++ 39 ∷ after) = sym w ∙ e ∙ ap (λ (l : List ℕ). l ++ after) h ∙ words_spelled words after in
    none words after (cc)

pub no_words : (whole inside : List ℕ) → whole ≡ 39 ∷ inside → ((words more : List ℕ) → inside ≢ flat_map escaped words ++ 39 ∷ more) → HasNoToken whole
no_words whole inside w none kind text after e token = no_words_by whole inside text after w none e (shape kind text token)

-- the number of a first byte and some digits after its sign
abbrev number_text : (c : ℕ) → ((c ≡ 43) ⊎ (c ≡ 45)) ⊎ ((c ≢ 43) × (c ≢ 45)) → List ℕ → List ℕ
number_text c (inl sign) front = c ∷ front
number_text c (inr none) front = front

number_len : (c : ℕ) (w front after longer more : List ℕ) (side : ((c ≡ 43) ⊎ (c ≡ 45)) ⊎ ((c ≢ 43) × (c ≢ 45))) → IsRun IsAsciiDigit (without_leading_sign (c ∷ w)) front after → IsNumberText longer → c ∷ w ≡ longer ++ more → length longer ≤ length (number_text c side front)
number_len c w front after [] more side run h e = omega arith
number_len c w front after (d ∷ longer) more (inl sign) run h e =
    let same : c ≡ d = cc in
    let tails : w ≡ longer ++ more = cc in
    let P : ℕ → Type 0 = λ x. (x ≡ 43) ⊎ (x ≡ 45) in
    let Q : List ℕ → Type 0 = λ l. IsNumeral 10 l in
    let numeral = subst Q (signed d longer (subst P same sign)) h in
    let k = run_longest IsAsciiDigit front after longer more (sym run.spelled ∙ signed c w sign ∙ tails) run.ends (all_digits longer numeral.1) in
    omega arith
number_len c w front after (d ∷ longer) more (inr none) run h e =
    let same : c ≡ d = cc in
    let Q : List ℕ → Type 0 = λ l. IsNumeral 10 l in
    let P : ℕ → Type 0 = λ x. (x ≢ 43) × (x ≢ 45) in
    let not = subst P same none in
    let numeral = subst Q (unsigned d longer not.0 not.1) h in
    run_longest IsAsciiDigit front after (d ∷ longer) more (sym run.spelled ∙ unsigned c w none.0 none.1 ∙ e) run.ends (all_digits (d ∷ longer) numeral.1)

number_longest : (c : ℕ) (w front after longer more : List ℕ) (side : ((c ≡ 43) ⊎ (c ≡ 45)) ⊎ ((c ≢ 43) × (c ≢ 45))) → IsNumberStart c → IsRun IsAsciiDigit (without_leading_sign (c ∷ w)) front after → c ∷ w ≡ longer ++ more → Shape longer → length longer ≤ length (number_text c side front)
number_longest c w front after longer more side start run e (of_single d s x) = let h : other ≡ number = lead_is number (c ∷ w) longer more start e (of_single d s x) in absurd (cc)
number_longest c w front after longer more side start run e (of_double d s x) = let h : other ≡ number = lead_is number (c ∷ w) longer more start e (of_double d s x) in absurd (cc)
number_longest c w front after longer more side start run e (of_name n) = let h : letter ≡ number = lead_is number (c ∷ w) longer more start e (of_name n) in absurd (cc)
number_longest c w front after longer more side start run e (of_letter d inside s h) = let h : letter ≡ number = lead_is number (c ∷ w) longer more start e (of_letter d inside s h) in absurd (cc)
number_longest c w front after longer more side start run e (of_number h) = number_len c w front after longer more side run h e
number_longest c w front after longer more side start run e (of_words words h) = let h : quote ≡ number = lead_is number (c ∷ w) longer more start e (of_words words h) in absurd (cc)

number_is : (c : ℕ) (w front after : List ℕ) (side : ((c ≡ 43) ⊎ (c ≡ 45)) ⊎ ((c ≢ 43) × (c ≢ 45))) → IsRun IsAsciiDigit (without_leading_sign (c ∷ w)) front after → 0 < length front → IsNumberText (number_text c side front) × (c ∷ w ≡ number_text c side front ++ after)
number_is c w front after (inl sign) run some =
    let Q : List ℕ → Type 0 = λ l. IsNumeral 10 l in
    (subst Q (sym (signed c front sign)) (some, digits_all front run.all), ap (λ (l : List ℕ). c ∷ l) (sym (signed c w sign) ∙ run.spelled))
number_is c w [] after (inr none) run some = absurd (omega arith)
number_is c w (d ∷ front) after (inr none) run some =
    let Q : List ℕ → Type 0 = λ l. IsNumeral 10 l in
    let e : c ∷ w ≡ (d ∷ front) ++ after = sym (unsigned c w none.0 none.1) ∙ run.spelled in
    let same : c ≡ d = cc in
    let P : ℕ → Type 0 = λ x. (x ≢ 43) × (x ≢ 45) in
    let not = subst P same none in
    (subst Q (sym (unsigned d front not.0 not.1)) (some, digits_all (d ∷ front) run.all), e)

pub number_first : (whole front after : List ℕ) → HasAt 0 IsNumberStart whole → IsRun IsAsciiDigit (without_leading_sign whole) front after → 0 < length front → BeginsToken whole Number after
number_first [] front after start run some = absurd start
number_first (c ∷ w) front after start run some =
    let side = sign_or_not c in
    let h = number_is c w front after side run some in (
      number_text c side front,
      record {
        spelled = h.1;
        token = h.0;
        longest = λ other longer more e t. number_longest c w front after longer more side start run e (shape other longer t);
      },
    )

digit_first : (digits : List ℕ) → IsNumeral 10 digits → HasAt 0 IsAsciiDigit digits
digit_first [] h = absurd (omega (arith, h.0))
digit_first (c ∷ cs) h = digit_from_value c h.1.0

behind_sign_by : (c : ℕ) (w text after : List ℕ) → ((c ≡ 43) ⊎ (c ≡ 45)) ⊎ ((c ≢ 43) × (c ≢ 45)) → IsNumberText (c ∷ text) → w ≡ text ++ after → HasAt 0 IsAsciiDigit (without_leading_sign (c ∷ w))
behind_sign_by c w text after (inl sign) h e =
    let Q : List ℕ → Type 0 = λ l. IsNumeral 10 l in
    let D : List ℕ → Type 0 = λ l. HasAt 0 IsAsciiDigit l in
    subst D (sym (signed c w sign)) (front_first IsAsciiDigit w text after e (digit_first text (subst Q (signed c text sign) h)))
behind_sign_by c w text after (inr none) h e =
    let Q : List ℕ → Type 0 = λ l. IsNumeral 10 l in
    let D : List ℕ → Type 0 = λ l. HasAt 0 IsAsciiDigit l in
    subst D (sym (unsigned c w none.0 none.1)) (digit_first (c ∷ text) (subst Q (unsigned c text none.0 none.1) h))

behind_sign : (c : ℕ) (w text after : List ℕ) → IsNumberText text → c ∷ w ≡ text ++ after → HasAt 0 IsAsciiDigit (without_leading_sign (c ∷ w))
behind_sign c w [] after h e = absurd (omega (arith, h.0))
behind_sign c w (d ∷ text) after h e =
    let same : c ≡ d = cc in
    let tails : w ≡ text ++ after = cc in
    behind_sign_by c w text after (sign_or_not c) (subst (λ (x : ℕ). IsNumberText (x ∷ text)) (sym same) h) tails

no_number_by : (c : ℕ) (w text after : List ℕ) → IsNumberStart c → (HasAt 0 IsAsciiDigit (without_leading_sign (c ∷ w)) → ⊥) → c ∷ w ≡ text ++ after → Shape text → ⊥
no_number_by c w text after start none e (of_single d s x) = let h : other ≡ number = lead_is number (c ∷ w) text after start e (of_single d s x) in absurd (cc)
no_number_by c w text after start none e (of_double d s x) = let h : other ≡ number = lead_is number (c ∷ w) text after start e (of_double d s x) in absurd (cc)
no_number_by c w text after start none e (of_name n) = let h : letter ≡ number = lead_is number (c ∷ w) text after start e (of_name n) in absurd (cc)
no_number_by c w text after start none e (of_letter d inside s h) = let h : letter ≡ number = lead_is number (c ∷ w) text after start e (of_letter d inside s h) in absurd (cc)
no_number_by c w text after start none e (of_number h) = none (behind_sign c w text after h e)
no_number_by c w text after start none e (of_words words h) = let h : quote ≡ number = lead_is number (c ∷ w) text after start e (of_words words h) in absurd (cc)

pub no_number : (whole front after : List ℕ) → HasAt 0 IsNumberStart whole → IsRun IsAsciiDigit (without_leading_sign whole) front after → front ≡ [] → HasNoToken whole
no_number [] front after start run none kind text rest e token = start
no_number (c ∷ w) front after start run none kind text rest e token =
    let D : List ℕ → Type 0 = λ l. HasAt 0 IsAsciiDigit l in
    let spelled : without_leading_sign (c ∷ w) ≡ after = run.spelled ∙ ap (λ (l : List ℕ). l ++ after) none in
    no_number_by c w text rest start (λ h. run.ends (subst D spelled h)) e (shape kind text token)

-- the first `'` of a text, by its longest front without one
at_quote : (front rest inside after : List ℕ) → front ++ rest ≡ inside ++ 39 ∷ after → All (λ c. c ≢ 39) front → ¬ HasAt 0 (λ c. c ≢ 39) rest → All (λ c. c ≢ 39) inside → (more : List ℕ) × (rest ≡ 39 ∷ more)
at_quote [] rest [] after e all ends unquoted = (after, e)
at_quote [] rest (i ∷ inside) after e all ends unquoted = absurd (ends (has_first (λ c. c ≢ 39) rest i (inside ++ 39 ∷ after) e (All-head (λ c. c ≢ 39) i inside unquoted)))
at_quote (f ∷ front) rest [] after e all ends unquoted = let h : f ≡ 39 = cc in absurd (All-head (λ c. c ≢ 39) f front all h)
at_quote (f ∷ front) rest (i ∷ inside) after e all ends unquoted =
    let tails : front ++ rest ≡ inside ++ 39 ∷ after = cc in
    at_quote front rest inside after tails (All-tail (λ c. c ≢ 39) f front all) ends (All-tail (λ c. c ≢ 39) i inside unquoted)

pub unquoted_some : (whole front rest : List ℕ) (r : Option (Bor (List ℕ))) → IsRun (λ c. c ≢ 39) whole front rest → IfSome r (λ a. rest ≡ 39 ∷ a.now) → IfSome r (λ a. (inside : List ℕ) × All (λ c. c ≢ 39) inside × (whole ≡ inside ++ 39 ∷ a.now))
unquoted_some whole front rest None run h = tt
unquoted_some whole front rest (Some a) run h = (front, run.all, run.spelled ∙ ap (λ (l : List ℕ). front ++ l) h)

pub unquoted_none : (whole front rest : List ℕ) (r : Option (Bor (List ℕ))) → IsRun (λ c. c ≢ 39) whole front rest → IfNone r ((after : List ℕ) → rest ≢ 39 ∷ after) → IfNone r ((inside after : List ℕ) → All (λ c. c ≢ 39) inside → whole ≢ inside ++ 39 ∷ after)
unquoted_none whole front rest (Some a) run h = tt
unquoted_none whole front rest None run h = λ inside after all e.
    let at = at_quote front rest inside after (sym run.spelled ∙ e) run.all run.ends all in
    h at.0 at.1

-- whether a list is empty, by its test
pub is_none : (front : List ℕ) (b : Bool) → b ≡ (length front == 0) → b ≡ true → front ≡ []
is_none [] b e t = refl
is_none (c ∷ front) b e t = let h : length (c ∷ front) ≡ 0 = (Decides-eqb (length (c ∷ front)) 0).0 (sym e ∙ t) in absurd (omega arith)

pub is_some : (front : List ℕ) (b : Bool) → b ≡ (length front == 0) → b ≡ false → 0 < length front
is_some [] b e t = absurd (cc)
is_some (c ∷ front) b e t = omega arith
