-- What `make` writes of the generated log, and what an ending of it says; its status, and its
-- reason as a text.
use Rattle.std.specs.Prelude.{◌≡◌, ⊤, ℕ, List, [], ◌++◌, length, codes, decimal, Option}
use Rattle.flow_edges.specs.Flow.{written_with, WritesPrefix}
use Rattle.pattern_types.specs.declared.pattern.Pattern.{Pattern}
use Rattle.pattern_types.specs.PlainPattern.{plain_pattern}
use Rattle.pattern_reader.specs.Read.{IsReadAs}
use Rattle.match_input.specs.declared.mode.Mode.TheVariants.{Lines}
use Rattle.match_input.specs.declared.rule.InputRule.{InputRule}
use Rattle.match_input.specs.Reading.{BundleOf, Reading, Whole, Refused as RefusedAt}
use Rattle.match_input.specs.Texts.{IsInputRefusalText}
use Rattle.match_bindings.specs.declared.log_entry.LogEntry.{LogEntry}
use Rattle.match_bindings.specs.BindTree.{BindTree}
use Rattle.match_generator.specs.GeneratedLog.{log_text}
use Rattle.match_run.specs.Entries.{AreEntries}
use Rattle.match_run.specs.Listing.{AreBindings, last_number}
use Rattle.command_make.specs.declared.making.MakeEnding.{MakeEnding}
use Rattle.command_make.specs.declared.making.MakeEnding.TheVariants.{Made, Refused, WriteFault, NoMemory}

-- the pattern that a generated log is matched with
abbrev pub made_pattern : List ℕ
made_pattern = codes "[user-account:account_login = 'u1'] REPEATS 2 TIMES WITHIN 30 SECONDS"

-- the numbers of observations and of bindings over the generated log, and the largest observation
-- number of the last binding, or 0
pub record AreNumbersOf (seed count observations bindings last : ℕ) : Type 0 where
  pub pattern : Pattern
  pub read : IsReadAs made_pattern pattern
  pub bundles : List BundleOf
  pub reading : Reading Lines (log_text seed count) bundles Whole
  pub log : List LogEntry
  pub entries : AreEntries (plain_pattern pattern) bundles log
  pub trees : List BindTree
  pub bindings_of : AreBindings pattern log trees
  pub observations_are : observations ≡ length log
  pub bindings_are : bindings ≡ length trees
  pub last_is : last ≡ last_number trees

-- observations N bindings M last K
abbrev pub numbers_text : ℕ → ℕ → ℕ → List ℕ
numbers_text observations bindings last =
    codes "observations " ++ (decimal observations ++ (codes " bindings " ++ (decimal bindings ++ (codes " last " ++ (decimal last ++ codes "\n")))))

-- the numbers of the generated log, as a text
pub record IsTextOfLog (seed count : ℕ) (text : List ℕ) : Type 0 where
  pub observations : ℕ
  pub bindings : ℕ
  pub last : ℕ
  pub numbers : AreNumbersOf seed count observations bindings last
  pub text_is : text ≡ numbers_text observations bindings last

-- a line of the generated log is refused
abbrev pub IsRefusedLog : ℕ → ℕ → ℕ → InputRule → Type 0
IsRefusedLog seed count line rule = (bundles : List BundleOf) × Reading Lines (log_text seed count) bundles (RefusedAt line rule)

abbrev pub EndsMake : ℕ → ℕ → Option (List ℕ) → Option (List ℕ) → MakeEnding → Type 0
EndsMake seed count written written_after Made = (text : List ℕ) × IsTextOfLog seed count text × (written_after ≡ written_with text written)
EndsMake seed count written written_after (Refused line rule) = IsRefusedLog seed count line rule × (written_after ≡ written)
EndsMake seed count written written_after WriteFault = (text : List ℕ) × IsTextOfLog seed count text × WritesPrefix text written written_after
EndsMake seed count written written_after NoMemory = written_after ≡ written

abbrev pub make_status : MakeEnding → ℕ
make_status Made = 0
make_status NoMemory = 1
make_status (Refused line rule) = 4
make_status WriteFault = 6

abbrev pub IsMakeReason : MakeEnding → List ℕ → Type 0
IsMakeReason Made text = text ≡ []
IsMakeReason NoMemory text = text ≡ codes "out of memory\n"
IsMakeReason (Refused line rule) text = IsInputRefusalText line rule text
IsMakeReason WriteFault text = text ≡ codes "write fault\n"

-- For private clauses: the log was not matched to its end.
abbrev pub StopsEarly : ℕ → ℕ → MakeEnding → Type 0
StopsEarly seed count Made = ⊥
StopsEarly seed count (Refused line rule) = IsRefusedLog seed count line rule
StopsEarly seed count WriteFault = ⊥
StopsEarly seed count NoMemory = ⊤
