-- The results of the private functions that write the head of a response. No public contract cites
-- these.
use Rattle.std.specs.Prelude.{◌≡◌, ℕ, Bool, List, ◌++◌, Option}
use Rattle.http_messages.specs.Lines.{line_if_some}
use Rattle.taxii_exchange.specs.declared.answer.Answer.{Answer}
use Rattle.taxii_exchange.specs.Answers.{head_text, IsOptionalDateText}

-- the field of a date was added, where there is a date
pub record PushesDate (name : List ℕ) (date : Option ℕ) (before after : List ℕ) : Type 0 where
  pub text : Option (List ℕ)
  pub text_is : IsOptionalDateText date text
  pub added : after ≡ before ++ line_if_some name text

-- the head of an answer
pub record IsHeadText (answer : Answer) (close : Bool) (text : List ℕ) : Type 0 where
  pub first : Option (List ℕ)
  pub last : Option (List ℕ)
  pub first_is : IsOptionalDateText answer.first first
  pub last_is : IsOptionalDateText answer.last last
  pub text_is : text ≡ head_text answer first last close
