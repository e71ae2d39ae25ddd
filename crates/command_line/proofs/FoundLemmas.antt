-- What `clap` found, as rows: its getters read the rows.
use Rattle.std.proofs.Common.{◌≡◌, Bool, true, false, List, [], ◌∷◌, map, Option, Some, None, find, cond, option_map, option_and_then, slice_get, Box, box_value, bytes_eq, refl}
use Rattle.std.specs.Borrow.{Bor}
use Rattle.std.specs.declared.alloc.Global.{Global}
use Rattle.clap.specs.Facts.{Entry}
use Rattle.clap.specs.Matches.{first_value, found_of, one_text}
use Rattle.clap.specs.Simple.{subcommand_rows}
use Rattle.clap.specs.Values.{read_as}
use Rattle.clap.specs.Walk.{Row, first_of, one_of, row_of, row_text, rows_of}
use Rattle.clap.specs.declared.builder.value_parser.Reading.{Reading}
use Rattle.clap.specs.declared.parser.matches.ArgMatches.TheViews.{out-SubCommand}
use Rattle.clap.specs.declared.parser.matches.SubCommand.{SubCommand}
use Rattle.clap.specs.declared.parser.matches.Found.{Found}
use Rattle.clap.specs.declared.parser.matches.MatchedArg.{MatchedArg}
use Rattle.command_line.proofs.HasLemmas.{Text}

first_text : (values : List (Bor Text)) → option_map (λ s. s.now) (slice_get values 0) ≡ slice_get (map (λ s. s.now) values) 0
first_text [] = refl
first_text (value ∷ values) = refl

first_read : (how : Reading) (values : List (Bor Text)) → option_map (λ s. read_as how s.now) (slice_get values 0) ≡ option_map (read_as how) (slice_get (map (λ s. s.now) values) 0)
first_read how [] = refl
first_read how (value ∷ values) = refl

abbrev entry_at : Text → List Entry → Option MatchedArg
entry_at name xs = option_map (λ e. e.1) (find (λ e. bytes_eq e.0.now name) xs)

first_in : (name : Text) (xs : List Entry) → option_and_then (λ a. option_map (λ s. s.now) (slice_get a.vals.items 0)) (entry_at name xs)
    ≡ option_and_then (λ r. slice_get r.values 0) (find (λ r. bytes_eq r.id name) (map row_of xs))
first_in name [] = refl
first_in name (x ∷ xs) = go (bytes_eq x.0.now name) (first_in name xs)
  where
    go : (t : Bool) → option_and_then (λ a. option_map (λ s. s.now) (slice_get a.vals.items 0)) (entry_at name xs)
        ≡ option_and_then (λ r. slice_get r.values 0) (find (λ r. bytes_eq r.id name) (map row_of xs))
        → option_and_then (λ a. option_map (λ s. s.now) (slice_get a.vals.items 0)) (option_map (λ e. e.1) (cond t (Some x) (find (λ e. bytes_eq e.0.now name) xs)))
        ≡ option_and_then (λ r. slice_get r.values 0) (cond t (Some (row_of x)) (find (λ r. bytes_eq r.id name) (map row_of xs)))
    go true rec = first_text x.1.vals.items
    go false rec = rec

read_in : (name : Text) (xs : List Entry) → option_and_then (λ a. option_map (λ s. read_as a.reading s.now) (slice_get a.vals.items 0)) (entry_at name xs)
    ≡ option_and_then row_text (find (λ r. bytes_eq r.id name) (map row_of xs))
read_in name [] = refl
read_in name (x ∷ xs) = go (bytes_eq x.0.now name) (read_in name xs)
  where
    go : (t : Bool) → option_and_then (λ a. option_map (λ s. read_as a.reading s.now) (slice_get a.vals.items 0)) (entry_at name xs)
        ≡ option_and_then row_text (find (λ r. bytes_eq r.id name) (map row_of xs))
        → option_and_then (λ a. option_map (λ s. read_as a.reading s.now) (slice_get a.vals.items 0)) (option_map (λ e. e.1) (cond t (Some x) (find (λ e. bytes_eq e.0.now name) xs)))
        ≡ option_and_then row_text (cond t (Some (row_of x)) (find (λ r. bytes_eq r.id name) (map row_of xs)))
    go true rec = first_read x.1.reading x.1.vals.items
    go false rec = rec

pub first_value_row : (found : Found) (name : Text) → first_value found name ≡ first_of name (rows_of found)
first_value_row found name = first_in name found.entries.items

pub one_text_row : (found : Found) (name : Text) → one_text found name ≡ one_of name (rows_of found)
one_text_row found name = read_in name found.entries.items

-- the command that a parse entered, and the rows of its matches
pub entered_as : (o : Option (Box SubCommand Global)) (command : Text) (rows : List Row)
    → Some command ≡ option_map (λ b. (out-SubCommand (box_value b)).name.now) o → Some rows ≡ option_map (λ p. p.1) (subcommand_rows o)
    → subcommand_rows o ≡ Some (command, rows)
entered_as None command rows named kept = absurd (cc)
entered_as (Some b) command rows named kept =
    let name_is : (out-SubCommand (box_value b)).name.now ≡ command = cc in
    let rows_are : rows_of (found_of (out-SubCommand (box_value b)).matches) ≡ rows = cc in
    rw (name_is, rows_are) refl

pub not_entered : (o : Option (Box SubCommand Global)) (command : Text) (rows : List Row) → subcommand_rows o ≡ Some (command, rows) → None ≡ option_map (λ p. p.1) (subcommand_rows o) → ⊥
not_entered None command rows is none' = absurd (cc)
not_entered (Some b) command rows is none' = absurd (cc)
