-- The rows that `clap` keeps: one for each part of a line, and what a use of an option or a position adds to them.
use Rattle.std.proofs.lemmas.Bool.{false≢true}
use Rattle.std.proofs.Common.{◌≡◌, ◌↔◌, ℕ, Bool, true, false, not, ◌&&◌, ◌||◌, if◌then◌else◌, List, [], ◌∷◌, ◌++◌, Some, None, codes, bytes_eq, append-nil, refl, sym, subst, ap, ◌∙◌}
use Rattle.clap.specs.Kinds.{Kinds, or_else}
use Rattle.clap.specs.Faults.{use_fault}
use Rattle.clap.specs.Walk.{Row, at_row, has_row, more_values, used}
use Rattle.clap.specs.declared.builder.value_parser.Reading.TheVariants.{AsWritten}
use Rattle.clap.specs.declared.error.kind.ErrorKind.TheVariants.{ArgumentConflict}
use Rattle.clap.specs.declared.parser.matches.ValueSource.TheVariants.{CommandLine}
use Rattle.command_line.specs.Parts.{ArgumentPart, Flag, Valued, Position}
use Rattle.command_line.proofs.HasLemmas.{Text}
use Rattle.command_line.proofs.FormLemmas.{built_flag, built_option, built_position}

abbrev pub value_row : Text → Text → Row
value_row name value = record { id = name; values = value ∷ []; count = None; source = Some CommandLine; reading = AsWritten }

abbrev pub flag_row : Text → Row
flag_row name = value_row name (codes "true")

-- the rows of some parts, where these positions are left
abbrev pub part_rows : List Text → List ArgumentPart → List Row
part_rows left [] = []
part_rows left (Flag name ∷ parts) = flag_row name ∷ part_rows left parts
part_rows left (Valued name value ∷ parts) = value_row name value ∷ part_rows left parts
part_rows [] (Position argument ∷ parts) = part_rows [] parts
part_rows (name ∷ left) (Position argument ∷ parts) = value_row name argument ∷ part_rows left parts

-- each further row has a name of its own
abbrev pub Fresh : List Row → List Row → Type 0
Fresh rows [] = Unit {0}
Fresh rows (r ∷ rs) = (has_row r.id rows ≡ false) × Fresh (rows ++ r ∷ []) rs

pub fresh_with : (now grown more : List Row) (r : Row) → grown ≡ now ++ r ∷ [] → Fresh (now ++ r ∷ []) more → Fresh grown more
fresh_with now grown more r same fresh = subst (λ (rs : List Row). Fresh rs more) (sym same) fresh

-- a change at a name that has no row
pub at_absent : (id : Text) (change : Row → List Row) (missing rows : List Row) → has_row id rows ≡ false → at_row id change missing rows ≡ rows ++ missing
at_absent id change missing [] h = refl
at_absent id change missing (r ∷ rs) h = go (bytes_eq r.id id) refl h (at_absent id change missing rs)
  where
    go : (t : Bool) → bytes_eq r.id id ≡ t → (t || has_row id rs) ≡ false → (has_row id rs ≡ false → at_row id change missing rs ≡ rs ++ missing)
        → (if bytes_eq r.id id then change r ++ rs else r ∷ at_row id change missing rs) ≡ r ∷ (rs ++ missing)
    go true t h rec = absurd (false≢true (sym h))
    go false t h rec = rw t (ap (λ (xs : List Row). r ∷ xs) (rec h))

absent_again : (name value : Text) (rows : List Row) → has_row name rows ≡ false
    → at_row name (more_values CommandLine (value ∷ [])) (value_row name value ∷ []) (at_row name (λ _. []) [] rows) ≡ rows ++ value_row name value ∷ []
absent_again name value rows h =
    ap (λ (rs : List Row). at_row name (more_values CommandLine (value ∷ [])) (value_row name value ∷ []) rs) (at_absent name (λ _. []) [] rows h ∙ append-nil rows)
    ∙ at_absent name (more_values CommandLine (value ∷ [])) (value_row name value ∷ []) rows h

pub used_flag : (name : Text) (rows : List Row) → has_row name rows ≡ false → used (built_flag name) [] rows ≡ rows ++ flag_row name ∷ []
used_flag name rows h = absent_again name (codes "true") rows h

pub used_option : (name value : Text) (rows : List Row) → has_row name rows ≡ false → used (built_option name) (value ∷ []) rows ≡ rows ++ value_row name value ∷ []
used_option name value rows h = absent_again name value rows h

pub used_position : (needed : Bool) (n : ℕ) (name value : Text) (rows : List Row) → has_row name rows ≡ false → used (built_position needed n name) (value ∷ []) rows ≡ rows ++ value_row name value ∷ []
used_position needed n name value rows h = absent_again name value rows h

-- a use is no mistake just where the name has no row yet
conflict : (b : Bool) → (or_else (if b && not false then ArgumentConflict ∷ [] else []) [] ≡ []) ↔ (b ≡ false)
conflict true = (λ h. absurd (cc), λ h. absurd (false≢true (sym h)))
conflict false = (λ h. refl, λ h. refl)

pub flag_quiet : (name : Text) (rows : List Row) → (use_fault false (built_flag name) [] rows ≡ []) ↔ (has_row name rows ≡ false)
flag_quiet name rows = conflict (has_row name rows)

pub option_quiet : (name value : Text) (rows : List Row) → (use_fault false (built_option name) (value ∷ []) rows ≡ []) ↔ (has_row name rows ≡ false)
option_quiet name value rows = conflict (has_row name rows)

pub position_quiet : (needed : Bool) (n : ℕ) (name value : Text) (rows : List Row) → (use_fault false (built_position needed n name) (value ∷ []) rows ≡ []) ↔ (has_row name rows ≡ false)
position_quiet needed n name value rows = conflict (has_row name rows)

-- a list of kinds that is made of two is empty where both are
pub both_quiet : (a b : Kinds) → (or_else a b ≡ []) ↔ ((a ≡ []) × (b ≡ []))
both_quiet [] b = (λ h. (refl, h), λ h. h.1)
both_quiet (k ∷ ks) b = (λ h. absurd (cc), λ h. absurd (cc h.0))
