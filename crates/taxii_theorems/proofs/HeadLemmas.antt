-- The head of an answer of 200, by the grammar of responses.
use Rattle.std.proofs.Common.{◌≡◌, ℕ, ◌+◌, ◌/◌, ◌%◌, ◌<◌, ◌≤◌, ◌^◌, Bool, true, false, not, List, [], ◌∷◌, ◌++◌, All, length, reverse, codes, decimal, map, Option, Some, None, option_map, refl, sym, ap, subst, ◌∙◌, append_assoc, append-nil, arith, ne_eqb}
use Rattle.std.specs.Prelude.{⊤, IsTrue, if◌then◌else◌, flat_map}
use Rattle.std.specs.List.{list_all}
use Rattle.std.specs.Char.{IsAsciiDigit, digit_value}
use Rattle.std.specs.Fmt.{digits}
use Rattle.std.specs.Str.{str_eq_ignore_ascii_case}
use Rattle.std.specs.Str.Parse.{AllDigits}
use Rattle.std.proofs.lemmas.Fmt.{decimal_is_IsNumeral}
use Rattle.std.proofs.lemmas.List.Elements.{All-nil, All-cons, All-head, All-tail}
use Rattle.std.proofs.lemmas.Str.Parse.{digit_from_value}
use Rattle.httparse.specs.Grammar.{is_token_byte, is_value_byte, is_ows, skip_ows, trim_ows, AllPass, IsToken, Field, IsField, crlf, print_field, ResponseHead, IsResponseHead, print_response}
use Rattle.httparse.specs.Spans.{name_and_value}
use Rattle.httparse.proofs.GrammarLemmas.{print_response-append}
use Rattle.httparse.proofs.TrimLemmas.{AllPass-reverse, trim_ows_space}
use Rattle.http_messages.specs.declared.status.Status.TheVariants.{Okay}
use Rattle.http_messages.specs.Lines.{status_line, line_end, field_line, line_if_some}
use Rattle.http_messages.specs.Fields.{values_among}
use Rattle.taxii_exchange.specs.declared.answer.Allow.{Allow}
use Rattle.taxii_exchange.specs.declared.answer.Allow.TheVariants.{Get, GetPost, GetDelete}
use Rattle.taxii_exchange.specs.declared.answer.Answer.{Answer}
use Rattle.taxii_exchange.specs.Answers.{media_type, methods_of, body_bytes, head_text, IsOptionalDateText}
use Rattle.taxii_theorems.proofs.BytesLemmas.{passes, AreFrom, from_both, from_less, are_values, are_digits}
use Rattle.stix_times.specs.Timestamp.{Timestamp, IsShaped, two_digits, text_of, fraction_text}

-- ---- digits

-- bytes that are no space and no tab
abbrev is_black : ℕ → Bool
is_black b = not (is_ows b)

digit_black : (b : ℕ) → digit_value b < 10 → is_black b ≡ true
digit_black b digit = let range = digit_from_value b digit in
    rw (ne_eqb b 32 (λ is. omega (arith, is, range.0)), ne_eqb b 9 (λ is. omega (arith, is, range.0))) refl

digits_black : (bytes : List ℕ) → AllDigits 10 bytes → AllPass is_black bytes
digits_black [] are = All-nil (λ b. IsTrue (is_black b))
digits_black (b ∷ bytes) (digit, are) = All-cons (λ x. IsTrue (is_black x)) b bytes (digit_black b digit) (digits_black bytes are)

not_true : (t : Bool) → not t ≡ true → t ≡ false
not_true true is = absurd (cc)
not_true false is = refl

black_stays : (bytes : List ℕ) → AllPass is_black bytes → skip_ows bytes ≡ bytes
black_stays [] are = refl
black_stays (b ∷ bytes) are = rw (not_true (is_ows b) (All-head (λ x. IsTrue (is_black x)) b bytes are)) refl

-- a number after a space, without the spaces around it
pub trimmed_digits : (bytes : List ℕ) → AllDigits 10 bytes → trim_ows (32 ∷ bytes) ≡ bytes
trimmed_digits bytes are =
    let black = digits_black bytes are in
    trim_ows_space bytes (black_stays bytes black) (black_stays (reverse bytes) (AllPass-reverse is_black bytes black))

-- ---- dates

two_shown : (n : ℕ) (rest : List ℕ) → n < 100 → AreFrom 32 rest → AreFrom 32 ((48 + n / 10) ∷ (48 + n % 10) ∷ rest)
two_shown n rest few are = (omega arith, omega (arith, few), (omega arith, omega arith, are))

fraction_shown : (digits : List ℕ) → All IsAsciiDigit digits → AreFrom 32 digits
fraction_shown [] are = tt
fraction_shown (d ∷ digits) are =
    let first = All-head IsAsciiDigit d digits are in
    (omega (arith, first), omega (arith, first), fraction_shown digits (All-tail IsAsciiDigit d digits are))

dotted_shown : (digits : List ℕ) → All IsAsciiDigit digits → AreFrom 32 (fraction_text digits)
dotted_shown [] are = tt
dotted_shown (d ∷ digits) are = (omega arith, omega arith, fraction_shown (d ∷ digits) are)

one_shown : (b : ℕ) (rest : List ℕ) → 32 ≤ b → b < 127 → AreFrom 32 rest → AreFrom 32 (b ∷ rest)
one_shown b rest low high are = (low, high, are)

time_shown : (t : Timestamp) → IsShaped t → AreFrom 32 (text_of t)
unfolding text_of
time_shown t is =
    let end = fraction_text t.fraction ++ (90 ∷ []) in
    let second = two_digits t.second ++ end in
    let minute = two_digits t.minute ++ (58 ∷ second) in
    let hour = two_digits t.hour ++ (58 ∷ minute) in
    let day = two_digits t.day ++ (84 ∷ hour) in
    let month = two_digits t.month ++ (45 ∷ day) in
    let year = two_digits (t.year % 100) ++ (45 ∷ month) in
    two_shown (t.year / 100) year (omega (arith, is.year))
    (two_shown (t.year % 100) (45 ∷ month) (omega arith)
    (one_shown 45 month (omega arith) (omega arith)
    (two_shown t.month (45 ∷ day) (omega (arith, is.month.1))
    (one_shown 45 day (omega arith) (omega arith)
    (two_shown t.day (84 ∷ hour) (omega (arith, is.day.1))
    (one_shown 84 hour (omega arith) (omega arith)
    (two_shown t.hour (58 ∷ minute) (omega (arith, is.hour))
    (one_shown 58 minute (omega arith) (omega arith)
    (two_shown t.minute (58 ∷ second) (omega (arith, is.minute))
    (one_shown 58 second (omega arith) (omega arith)
    (two_shown t.second end (omega (arith, is.second))
    (from_both 32 (fraction_text t.fraction) (90 ∷ []) (dotted_shown t.fraction is.fraction) (omega arith, omega arith, tt)))))))))))))

-- a value that is told has bytes that a field may have
abbrev IsValue : Option (List ℕ) → Type 0
IsValue None = ⊤
IsValue (Some value) = AllPass is_value_byte value

date_value : (micros : Option ℕ) (text : Option (List ℕ)) → IsOptionalDateText micros text → IsValue text
date_value None None is = tt
date_value None (Some text) is = absurd is
date_value (Some micros) None is = absurd is
date_value (Some micros) (Some text) (t, spells, parts) = subst (AllPass is_value_byte) (sym spells.spelling) (are_values (text_of t) (time_shown t spells.shaped))

-- ---- fields

abbrev pub field : List ℕ → List ℕ → Field
field name value = record { name = name; raw = 32 ∷ value; end = crlf }

-- the field, where there is a value, before others
abbrev if_told : List ℕ → Option (List ℕ) → List Field → List Field
if_told name None fields = fields
if_told name (Some value) fields = field name value ∷ fields

pub is_field : (name value : List ℕ) → IsToken name → AllPass is_value_byte value → IsField (field name value)
is_field name value token are = record { name = token; raw = All-cons (λ x. IsTrue (is_value_byte x)) 32 value refl are }

all_told : (name : List ℕ) (value : Option (List ℕ)) (fields : List Field) → IsToken name → IsValue value → All IsField fields → All IsField (if_told name value fields)
all_told name None fields token is all = all
all_told name (Some value) fields token is all = All-cons IsField (field name value) fields (is_field name value token is) all

pub printed_field : (name value : List ℕ) → print_field (field name value) ≡ field_line name value
printed_field name value =
    append_assoc name (58 ∷ 32 ∷ value) (codes "\r\n")
    ∙ sym (append_assoc (name ++ codes ": ") value (codes "\r\n") ∙ append_assoc name (codes ": ") (value ++ codes "\r\n"))

printed_told : (name : List ℕ) (value : Option (List ℕ)) (fields : List Field)
    → flat_map print_field (if_told name value fields) ≡ line_if_some name value ++ flat_map print_field fields
printed_told name None fields = refl
printed_told name (Some value) fields = ap (λ (line : List ℕ). line ++ flat_map print_field fields) (printed_field name value)

values_told : (other name : List ℕ) (value : Option (List ℕ)) (fields : List Field) → str_eq_ignore_ascii_case name other ≡ false
    → values_among other (map name_and_value (if_told name value fields)) ≡ values_among other (map name_and_value fields)
values_told other name None fields differ = refl
values_told other name (Some value) fields differ = rw differ refl

-- ---- the head

abbrev close_fields : Bool → List Field
close_fields true = field (codes "Connection") (codes "close") ∷ []
close_fields false = []

abbrev fields_of : Answer → Option (List ℕ) → Option (List ℕ) → Bool → List Field
fields_of answer first last close =
    if_told (codes "Content-Type") (option_map (λ body. media_type) answer.body)
    (if_told (codes "Allow") (option_map methods_of answer.allow)
    (if_told (codes "X-TAXII-Date-Added-First") first
    (if_told (codes "X-TAXII-Date-Added-Last") last
    (field (codes "Content-Length") (decimal (length (body_bytes answer.body))) ∷ close_fields close))))

abbrev pub tree_of : Answer → Option (List ℕ) → Option (List ℕ) → Bool → ResponseHead
tree_of answer first last close = record {
  blank = [];
  minor = 1;
  digits = codes "200";
  reason = Some (codes "OK");
  line_end = crlf;
  fields = fields_of answer first last close;
  last = crlf;
}

media_value : (body : Option (List ℕ)) → IsValue (option_map (λ text. media_type) body)
media_value None = tt
media_value (Some body) = passes is_value_byte media_type refl

allow_value : (allow : Option Allow) → IsValue (option_map methods_of allow)
allow_value None = tt
allow_value (Some Get) = passes is_value_byte (codes "GET") refl
allow_value (Some GetPost) = passes is_value_byte (codes "GET, POST") refl
allow_value (Some GetDelete) = passes is_value_byte (codes "GET, DELETE") refl

pub token : (name : List ℕ) → 0 < length name → list_all is_token_byte name ≡ true → IsToken name
token name some all = (some, passes is_token_byte name all)

close_all : (close : Bool) → All IsField (close_fields close)
unfolding is_token_byte
close_all true = All-cons IsField (field (codes "Connection") (codes "close")) [] (is_field (codes "Connection") (codes "close") (token (codes "Connection") (omega arith) refl) (passes is_value_byte (codes "close") refl)) (All-nil IsField)
close_all false = All-nil IsField

pub tree_valid : (answer : Answer) (first last : Option (List ℕ)) (close : Bool) → IsOptionalDateText answer.first first → IsOptionalDateText answer.last last
    → length (body_bytes answer.body) < 2 ^ 64 → IsResponseHead (tree_of answer first last close)
unfolding is_token_byte
tree_valid answer first last close first_is last_is few =
    let size = decimal (length (body_bytes answer.body)) in
    let digits_are : AllDigits 10 size = (decimal_is_IsNumeral (length (body_bytes answer.body)) few).0.1 in record {
      minor = omega arith;
      digits = (refl, passes Rattle.std.specs.Char.is_ascii_digit (codes "200") refl);
      reason = passes is_value_byte (codes "OK") refl;
      fields =
          all_told (codes "Content-Type") (option_map (λ body. media_type) answer.body) _ (token (codes "Content-Type") (omega arith) refl) (media_value answer.body)
          (all_told (codes "Allow") (option_map methods_of answer.allow) _ (token (codes "Allow") (omega arith) refl) (allow_value answer.allow)
          (all_told (codes "X-TAXII-Date-Added-First") first _ (token (codes "X-TAXII-Date-Added-First") (omega arith) refl) (date_value answer.first first first_is)
          (all_told (codes "X-TAXII-Date-Added-Last") last _ (token (codes "X-TAXII-Date-Added-Last") (omega arith) refl) (date_value answer.last last last_is)
          (All-cons IsField (field (codes "Content-Length") size) (close_fields close)
          (is_field (codes "Content-Length") size (token (codes "Content-Length") (omega arith) refl) (are_values size (from_less 33 32 size (omega arith) (are_digits size digits_are))))
          (close_all close)))));
    }

close_printed : (close : Bool) → flat_map print_field (close_fields close) ≡ (if close then field_line (codes "Connection") (codes "close") else [])
close_printed true = append-nil (print_field (field (codes "Connection") (codes "close"))) ∙ printed_field (codes "Connection") (codes "close")
close_printed false = refl

fields_printed : (answer : Answer) (first last : Option (List ℕ)) (close : Bool) → flat_map print_field (fields_of answer first last close)
    ≡ line_if_some (codes "Content-Type") (option_map (λ body. media_type) answer.body)
    ++ (line_if_some (codes "Allow") (option_map methods_of answer.allow)
    ++ (line_if_some (codes "X-TAXII-Date-Added-First") first
    ++ (line_if_some (codes "X-TAXII-Date-Added-Last") last
    ++ (field_line (codes "Content-Length") (decimal (length (body_bytes answer.body)))
    ++ (if close then field_line (codes "Connection") (codes "close") else [])))))
fields_printed answer first last close =
    let media = option_map (λ body. media_type) answer.body in
    let allow = option_map methods_of answer.allow in
    let size = field (codes "Content-Length") (decimal (length (body_bytes answer.body))) in
    let rest : flat_map print_field (size ∷ close_fields close) ≡ field_line (codes "Content-Length") (decimal (length (body_bytes answer.body)))
    ++ (if close then field_line (codes "Connection") (codes "close") else []) =
    ap (λ (line : List ℕ). line ++ flat_map print_field (close_fields close)) (printed_field (codes "Content-Length") (decimal (length (body_bytes answer.body))))
    ∙ ap (λ (more : List ℕ). field_line (codes "Content-Length") (decimal (length (body_bytes answer.body))) ++ more) (close_printed close) in
    printed_told (codes "Content-Type") media _
    ∙ ap (λ (more : List ℕ). line_if_some (codes "Content-Type") media ++ more)
    (printed_told (codes "Allow") allow _
    ∙ ap (λ (more : List ℕ). line_if_some (codes "Allow") allow ++ more)
    (printed_told (codes "X-TAXII-Date-Added-First") first _
    ∙ ap (λ (more : List ℕ). line_if_some (codes "X-TAXII-Date-Added-First") first ++ more)
    (printed_told (codes "X-TAXII-Date-Added-Last") last _
    ∙ ap (λ (more : List ℕ). line_if_some (codes "X-TAXII-Date-Added-Last") last ++ more) rest)))

-- one after the other from the left, and from the right
from_right : (s a b c d e f g : List ℕ) → s ++ a ++ b ++ c ++ d ++ e ++ f ++ g ≡ s ++ (a ++ (b ++ (c ++ (d ++ (e ++ (f ++ g))))))
from_right s a b c d e f g = simp append_assoc

regrouped : (a b c d e f g : List ℕ) → (a ++ (b ++ (c ++ (d ++ (e ++ f))))) ++ g ≡ a ++ (b ++ (c ++ (d ++ (e ++ (f ++ g)))))
regrouped a b c d e f g = simp append_assoc

first_line : decimal 200 ≡ codes "200"
unfolding digits
first_line = refl

okay_line : status_line Okay ≡ codes "HTTP/1.1 200 OK\r\n"
okay_line = ap (λ (code : List ℕ). codes "HTTP/1.1 " ++ code ++ codes " " ++ codes "OK" ++ line_end) first_line

printed_head : (answer : Answer) (first last : Option (List ℕ)) (close : Bool)
    → print_response (tree_of answer first last close) ≡ codes "HTTP/1.1 200 OK\r\n" ++ (flat_map print_field (fields_of answer first last close) ++ line_end)
printed_head answer first last close =
    sym (append-nil (print_response (tree_of answer first last close))) ∙ print_response-append (tree_of answer first last close) []
    ∙ ap (λ (text : List ℕ). codes "HTTP/1.1 200 OK\r\n" ++ text) (append-nil (flat_map print_field (fields_of answer first last close) ++ line_end))

pub tree_printed : (answer : Answer) (first last : Option (List ℕ)) (close : Bool) → answer.status ≡ Okay
    → head_text answer first last close ≡ print_response (tree_of answer first last close)
unfolding head_text
tree_printed answer first last close okay =
    let media = line_if_some (codes "Content-Type") (option_map (λ body. media_type) answer.body) in
    let allow = line_if_some (codes "Allow") (option_map methods_of answer.allow) in
    let begins = line_if_some (codes "X-TAXII-Date-Added-First") first in
    let ends = line_if_some (codes "X-TAXII-Date-Added-Last") last in
    let size = field_line (codes "Content-Length") (decimal (length (body_bytes answer.body))) in
    let closes = if close then field_line (codes "Connection") (codes "close") else [] in
    from_right (status_line answer.status) media allow begins ends size closes line_end
    ∙ ap (λ (line : List ℕ). line ++ (media ++ (allow ++ (begins ++ (ends ++ (size ++ (closes ++ line_end))))))) (ap status_line okay ∙ okay_line)
    ∙ ap (λ (text : List ℕ). codes "HTTP/1.1 200 OK\r\n" ++ text)
    (sym (ap (λ (text : List ℕ). text ++ line_end) (fields_printed answer first last close) ∙ regrouped media allow begins ends size closes line_end))
    ∙ sym (printed_head answer first last close)

-- ---- the length that it states

pub stated : (answer : Answer) (first last : Option (List ℕ)) (close : Bool) → length (body_bytes answer.body) < 2 ^ 64
    → values_among (codes "content-length") (map name_and_value (fields_of answer first last close)) ≡ decimal (length (body_bytes answer.body)) ∷ []
stated answer first last close few =
    values_told (codes "content-length") (codes "Content-Type") (option_map (λ body. media_type) answer.body) _ refl
    ∙ values_told (codes "content-length") (codes "Allow") (option_map methods_of answer.allow) _ refl
    ∙ values_told (codes "content-length") (codes "X-TAXII-Date-Added-First") first _ refl
    ∙ values_told (codes "content-length") (codes "X-TAXII-Date-Added-Last") last _ refl
    ∙ by_close close
  where
    size : List ℕ
    size = decimal (length (body_bytes answer.body))

    its : trim_ows (32 ∷ size) ≡ size
    its = trimmed_digits size (decimal_is_IsNumeral (length (body_bytes answer.body)) few).0.1

    by_close : (t : Bool) → values_among (codes "content-length") (map name_and_value (field (codes "Content-Length") size ∷ close_fields t)) ≡ size ∷ []
    by_close true = ap (λ (value : List ℕ). value ∷ []) its
    by_close false = ap (λ (value : List ℕ). value ∷ []) its
