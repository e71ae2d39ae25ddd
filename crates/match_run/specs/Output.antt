-- The complete output of an input.
use Rattle.std.specs.Prelude.{◌≡◌, ℕ, List}
use Rattle.pattern_types.specs.declared.pattern.Pattern.{Pattern}
use Rattle.pattern_types.specs.PlainPattern.{plain_pattern}
use Rattle.match_bindings.specs.declared.log_entry.LogEntry.{LogEntry}
use Rattle.match_bindings.specs.BindTree.{BindTree}
use Rattle.match_input.specs.declared.mode.Mode.{Mode}
use Rattle.match_input.specs.Reading.{BundleOf, InputEnd, Reading}
use Rattle.match_run.specs.Entries.{AreEntries}
use Rattle.match_run.specs.Listing.{AreBindings, listing_text}

-- the lines of all bindings of a pattern over the log of the input, up to its end or to the first
-- refused line
pub record IsOutputOf (mode : Mode) (p : Pattern) (bytes text : List ℕ) : Type 0 where
  pub bundles : List BundleOf
  pub end : InputEnd
  pub reading : Reading mode bytes bundles end
  pub log : List LogEntry
  pub entries : AreEntries (plain_pattern p) bundles log
  pub trees : List BindTree
  pub bindings : AreBindings p log trees
  pub text_is : text ≡ listing_text trees
