-- The lines of the head of an answer: the field of a date, and all of them one after the other.
use Rattle.std.proofs.Common.{◌≡◌, ℕ, ◌*◌, Bool, List, [], ◌++◌, length, Option, Some, None, ℤ, pos, subst, sym, refl, ap, ◌∙◌, codes}
use Rattle.std.specs.Prelude.{SomeIff, decimal, option_map, if◌then◌else◌}
use Rattle.stix_times.specs.Writing.{IsTextOfDigits}
use Rattle.http_messages.specs.Lines.{field_line, line_if_some, line_end, status_line}
use Rattle.taxii_exchange.specs.declared.answer.Answer.{Answer}
use Rattle.taxii_exchange.specs.Answers.{media_type, methods_of, body_bytes, head_text, IsOptionalDateText, IsAnswerText}
use Rattle.taxii_exchange.specs.inner.HeadText.{PushesDate, IsHeadText}

pub some_is : (found : Option ℤ) (P : Type 0) (v i : ℤ) → SomeIff found P v → found ≡ Some i → i ≡ v
some_is None P v i holds is = absurd (cc is)
some_is (Some x) P v i holds is = let e = holds.1 in cc

pub pushes_date : (name : List ℕ) (micros : ℕ) (before after text : List ℕ) (instant : ℤ) → IsTextOfDigits 6 text instant → instant ≡ pos (1000 * micros)
    → after ≡ before ++ field_line name text → PushesDate name (Some micros) before after
pushes_date name micros before after text instant names is added = record {
  text = Some text;
  text_is = subst (λ i. IsTextOfDigits 6 text i) is names;
  added = added;
}

in_turn : (a b c d e f g h t1 t2 t3 t4 t5 t6 t7 t8 : List ℕ) → t1 ≡ a → t2 ≡ t1 ++ b → t3 ≡ t2 ++ c → t4 ≡ t3 ++ d → t5 ≡ t4 ++ e → t6 ≡ t5 ++ f → t7 ≡ t6 ++ g → t8 ≡ t7 ++ h
    → t8 ≡ ((((((a ++ b) ++ c) ++ d) ++ e) ++ f) ++ g) ++ h
in_turn a b c d e f g h t1 t2 t3 t4 t5 t6 t7 t8 e1 e2 e3 e4 e5 e6 e7 e8 = cc

-- the lines of the head, which were added in turn
pub head_of_lines : (answer : Answer) (close : Bool) (h1 h2 h3 h4 h5 h6 h7 h8 : List ℕ) (media allow : Option (List ℕ)) (size : ℕ)
    → h1 ≡ status_line answer.status
    → h2 ≡ h1 ++ line_if_some (codes "Content-Type") media
    → media ≡ option_map (λ body. media_type) answer.body
    → h3 ≡ h2 ++ line_if_some (codes "Allow") allow
    → allow ≡ option_map methods_of answer.allow
    → PushesDate (codes "X-TAXII-Date-Added-First") answer.first h3 h4
    → PushesDate (codes "X-TAXII-Date-Added-Last") answer.last h4 h5
    → h6 ≡ h5 ++ field_line (codes "Content-Length") (decimal size)
    → size ≡ length (body_bytes answer.body)
    → h7 ≡ h6 ++ (if close then field_line (codes "Connection") (codes "close") else [])
    → h8 ≡ h7 ++ line_end
    → IsHeadText answer close h8
unfolding head_text
head_of_lines answer close h1 h2 h3 h4 h5 h6 h7 h8 media allow size e1 e2 m e3 a first last e6 s e7 e8 =
    let typed = e2 ∙ ap (λ (value : Option (List ℕ)). h1 ++ line_if_some (codes "Content-Type") value) m in
    let allowed = e3 ∙ ap (λ (value : Option (List ℕ)). h2 ++ line_if_some (codes "Allow") value) a in
    let sized = e6 ∙ ap (λ (n : ℕ). h5 ++ field_line (codes "Content-Length") (decimal n)) s in record {
      first = first.text;
      last = last.text;
      first_is = first.text_is;
      last_is = last.text_is;
      text_is = in_turn
          (status_line answer.status)
          (line_if_some (codes "Content-Type") (option_map (λ body. media_type) answer.body))
          (line_if_some (codes "Allow") (option_map methods_of answer.allow))
          (line_if_some (codes "X-TAXII-Date-Added-First") first.text)
          (line_if_some (codes "X-TAXII-Date-Added-Last") last.text)
          (field_line (codes "Content-Length") (decimal (length (body_bytes answer.body))))
          (if close then field_line (codes "Connection") (codes "close") else [])
          line_end
          h1 h2 h3 h4 h5 h6 h7 h8 e1 typed allowed first.added last.added sized e7 e8;
    }

-- ---- a date has one text, and so has an answer

abbrev IsUnique : Type 0
IsUnique = (digits : ℕ) (instant : ℤ) (first second : List ℕ) → IsTextOfDigits digits first instant → IsTextOfDigits digits second instant → first ≡ second

one_date : IsUnique → (date : Option ℕ) (first second : Option (List ℕ)) → IsOptionalDateText date first → IsOptionalDateText date second → first ≡ second
one_date unique None None None a b = refl
one_date unique None None (Some text) a b = absurd b
one_date unique None (Some text) second a b = absurd a
one_date unique (Some micros) None second a b = absurd a
one_date unique (Some micros) (Some text) None a b = absurd b
one_date unique (Some micros) (Some text) (Some other) a b = ap Some (unique 6 _ text other a b)

pub one_text : IsUnique → (answer : Answer) (close : Bool) (text other : List ℕ) → IsAnswerText answer close text → IsAnswerText answer close other → text ≡ other
one_text unique answer close text other x y =
    x.text_is
    ∙ ap (λ (first : Option (List ℕ)). head_text answer first x.last close ++ body_bytes answer.body) (one_date unique answer.first x.first y.first x.first_is y.first_is)
    ∙ ap (λ (last : Option (List ℕ)). head_text answer y.first last close ++ body_bytes answer.body) (one_date unique answer.last x.last y.last x.last_is y.last_is)
    ∙ sym y.text_is
