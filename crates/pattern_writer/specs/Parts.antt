-- Combinators for texts.
use Rattle.std.specs.Prelude.{◌≡◌, ℕ, nat_le, if◌then◌else◌, List, ◌++◌, codes}
use Rattle.std.specs.List.{join_by}
use Rattle.std.specs.List.{AllZip}

-- a fixed text, then a text that meets the condition
abbrev pub IsAfterText : List ℕ → (List ℕ → Type 0) → List ℕ → Type 0
IsAfterText lead IsText text = (inner : List ℕ) × IsText inner × (text ≡ lead ++ inner)

-- a text that meets the condition, with fixed texts before and after it
abbrev pub IsBetween : (before after : List ℕ) → (List ℕ → Type 0) → List ℕ → Type 0
IsBetween before after IsText text = (inner : List ℕ) × IsText inner × (text ≡ before ++ inner ++ after)

-- a text of the one kind, a separator, and a text of the other kind
abbrev pub AreSides : (List ℕ → Type 0) → List ℕ → (List ℕ → Type 0) → List ℕ → Type 0
AreSides IsLeft between IsRight text = (left : List ℕ) × (right : List ℕ) × IsLeft left × IsRight right × (text ≡ left ++ between ++ right)

-- the texts with a separator between them
abbrev pub joined_texts : List ℕ → List (List ℕ) → List ℕ
joined_texts = join_by (λ text. text)

-- a text of each element, with a separator between them
abbrev pub AreJoined : {A : Type 0} → List ℕ → (A → List ℕ → Type 0) → List A → List ℕ → Type 0
AreJoined between IsTextOf xs text = (texts : List (List ℕ)) × AllZip IsTextOf xs texts × (text ≡ joined_texts between texts)

-- the text, in parentheses if its precedence is too low
abbrev pub parenthesized : (least binds : ℕ) → List ℕ → List ℕ
parenthesized least binds text = if nat_le least binds then text else codes "(" ++ text ++ codes ")"

-- a text of this precedence, in parentheses if that is below the required one
abbrev pub IsParenthesizedBelow : (least binds : ℕ) → (List ℕ → Type 0) → List ℕ → Type 0
IsParenthesizedBelow least binds IsText text = (inner : List ℕ) × IsText inner × (text ≡ parenthesized least binds inner)

-- a text that meets the condition was appended
abbrev pub AppendsText : (List ℕ → Type 0) → (old new : List ℕ) → Type 0
AppendsText IsText old new = (added : List ℕ) × IsText added × (new ≡ old ++ added)
