-- The lines of a hunt: the skipped indicators, and each hit.
use Rattle.std.specs.Prelude.{ℕ, List, [], ◌++◌, codes, Option, Some, None, slice_get}
use Rattle.std.specs.List.{flat_map}
use Rattle.stix_ids.specs.Identifier.{canonical_text}
use Rattle.pattern_reader.specs.PatternRefusal.{pattern_refusal_text}
use Rattle.match_bindings.specs.BindTree.{BindTree, tree_of}
use Rattle.match_bindings.specs.Line.{line_text}
use Rattle.hunt_feed.specs.declared.hunted.Hunted.{Hunted}
use Rattle.hunt_feed.specs.declared.hunted.Skipped.{Skipped}
use Rattle.hunt_engine.specs.declared.found.Hit.{Hit}

-- skipped ID: NAME at N, the offset if there is one
abbrev pub skipped_line : Skipped → List ℕ
skipped_line skipped = codes "skipped " ++ (canonical_text skipped.id ++ (codes ": " ++ (pattern_refusal_text skipped.refusal ++ codes "\n")))

abbrev pub skipped_lines : List Skipped → List ℕ
skipped_lines skipped = flat_map skipped_line skipped

-- the identifier of the indicator, a space, and the line of the binding
abbrev pub line_for : Option Hunted → BindTree → List ℕ
line_for (Some indicator) tree = canonical_text indicator.id ++ (codes " " ++ line_text tree)
line_for None tree = []

abbrev pub hit_line : List Hunted → Hit → List ℕ
hit_line hunted hit = line_for (slice_get hunted hit.hunted) (tree_of hit.bind)

abbrev pub hits_text : List Hunted → List Hit → List ℕ
hits_text hunted hits = flat_map (hit_line hunted) hits
