-- What the fields of a request's head say (RFC 9110, sections 5 and 8; RFC 9112, sections 3.2, 6
-- and 9). Of the bytes, 44 is `,`.
use Rattle.std.specs.Prelude.{ℕ, Bool, true, false, not, ◌==◌, ◌&&◌, ◌||◌, if◌then◌else◌, nat_le, nat_lt, List, [], ◌∷◌, length, map, codes, bytes_eq, Option, Some, None}
use Rattle.std.specs.List.{filter, list_all, list_any, slice_split, join_by}
use Rattle.std.specs.Char.{is_ascii_digit}
use Rattle.std.specs.Str.{is_utf8, str_eq_ignore_ascii_case}
use Rattle.std.specs.Str.Parse.{digits_value}
use Rattle.httparse.specs.Grammar.{RequestHead, trim_ows}
use Rattle.httparse.specs.Spans.{name_and_value}
use Rattle.http_messages.specs.declared.method.Method.{Method}
use Rattle.http_messages.specs.declared.method.Method.TheVariants.{Get, Head, Post, Delete, Other}

-- a head as its parts: the minor version of HTTP/1.0 or HTTP/1.1, and the fields, each a name and a
-- value
pub record HeadParts : Type 0 where
  pub method : List ℕ
  pub target : List ℕ
  pub minor : ℕ
  pub fields : List (List ℕ × List ℕ)

-- the parts of a head of the grammar; a value is without the spaces and tabs around it
abbrev pub head_parts : RequestHead → HeadParts
head_parts h = record { method = h.method; target = h.target; minor = h.minor; fields = map name_and_value h.fields }

-- the values of those of some fields that have a name, in order; names ignore ASCII case (RFC 9110,
-- section 5.1)
abbrev pub values_among : List ℕ → List (List ℕ × List ℕ) → List (List ℕ)
values_among name fields = map (λ field. field.1) (filter (λ field. str_eq_ignore_ascii_case field.0 name) fields)

-- the values of all fields of a name
abbrev pub values : List ℕ → HeadParts → List (List ℕ)
values name h = values_among name h.fields

-- the method, whose case counts (RFC 9110, section 9.1)
abbrev pub method_of : List ℕ → Method
method_of name =
    if bytes_eq name (codes "GET") then Get
    else if bytes_eq name (codes "HEAD") then Head
    else if bytes_eq name (codes "POST") then Post
    else if bytes_eq name (codes "DELETE") then Delete
    else Other

-- the method is POST
abbrev pub is_post : Method → Bool
is_post Get = false
is_post Head = false
is_post Post = true
is_post Delete = false
is_post Other = false

-- a request of HTTP/1.1 without a Host, or one of either version with more than one (RFC 9112,
-- section 3.2)
abbrev pub has_bad_host : HeadParts → Bool
has_bad_host h = (h.minor == 1 && length (values (codes "host") h) == 0) || nat_lt 1 (length (values (codes "host") h))

-- a value of that name is not UTF-8
abbrev pub has_bad_text_in : List ℕ → HeadParts → Bool
has_bad_text_in name h = not (list_all is_utf8 (values name h))

-- a value of Accept, Content-Type or Connection is not UTF-8
abbrev pub has_bad_text : HeadParts → Bool
has_bad_text h = has_bad_text_in (codes "accept") h || has_bad_text_in (codes "content-type") h || has_bad_text_in (codes "connection") h

-- a transfer coding, of which none is read (RFC 9112, section 6.1)
abbrev pub has_coding : HeadParts → Bool
has_coding h = nat_lt 0 (length (values (codes "transfer-encoding") h))

-- Content-Length = 1*DIGIT, of at most 18 digits (RFC 9110, section 8.6)
abbrev pub is_length : List ℕ → Bool
is_length value = nat_lt 0 (length value) && nat_le (length value) 18 && list_all is_ascii_digit value

-- the number that a Content-Length states
abbrev pub length_of : List ℕ → ℕ
length_of value = if is_length value then digits_value 10 value else 0

-- the number that the first of some lengths states; without one there is no body
abbrev pub first_length : List (List ℕ) → ℕ
first_length [] = 0
first_length (value ∷ others) = length_of value

-- how many bytes the body has (RFC 9112, section 6.3)
abbrev pub body_length : HeadParts → ℕ
body_length h = first_length (values (codes "content-length") h)

-- the value is a length, and states that number
abbrev pub states : ℕ → List ℕ → Bool
states number value = is_length value && (length_of value == number)

-- a Content-Length that is not one, or two that state different numbers (RFC 9112, section 6.3)
abbrev pub has_bad_length : HeadParts → Bool
has_bad_length h = not (list_all (states (body_length h)) (values (codes "content-length") h))

-- POST without Content-Length (RFC 9110, section 15.5.12)
abbrev pub lacks_length : HeadParts → Bool
lacks_length h = is_post (method_of h.method) && length (values (codes "content-length") h) == 0

-- the first of some values
abbrev pub first_field_value : List (List ℕ) → Option (List ℕ)
first_field_value [] = None
first_field_value (value ∷ others) = Some value

-- the values of one field, joined_values by a comma and a space (RFC 9110, section 5.3)
abbrev pub joined_values : List (List ℕ) → Option (List ℕ)
joined_values [] = None
joined_values (value ∷ others) = Some (join_by (λ text. text) (codes ", ") (value ∷ others))

-- the comma_members of a list, which stand between commas (RFC 9110, section 5.6.1)
abbrev pub comma_members : List ℕ → List (List ℕ)
comma_members value = slice_split (λ byte. byte == 44) value

-- a member is `close`, without the spaces and tabs around it and ASCII case ignored (RFC 9112,
-- section 9.6)
abbrev pub is_close : List ℕ → Bool
is_close member = str_eq_ignore_ascii_case (trim_ows member) (codes "close")

-- the value has the member `close`
abbrev pub asks_to_close : List ℕ → Bool
asks_to_close value = list_any is_close (comma_members value)

-- the connection ends after the answer (RFC 9112, section 9.3)
abbrev pub closes : HeadParts → Bool
closes h = h.minor == 0 || list_any asks_to_close (values (codes "connection") h)
