-- For private clauses: how far an input is followed.
use Rattle.std.specs.Prelude.{ℕ, List, ◌++◌, Option}
use Rattle.match_input.specs.Reading.{BundleOf}
use Rattle.match_input.specs.Ahead.{InputReaderState}
use Rattle.match_run.specs.Reading.{HasRead}
use Rattle.match_run.specs.Watching.{Says, SeesAll}

-- after the earlier bundles some more were read, and the text about them was written
pub record RunsSo {W : Type 0} (sees : W → BundleOf → W → List ℕ → Type 0) (first : Option (List ℕ)) (earlier : List BundleOf)
    (start now : W) (written written_now : Option (List ℕ)) (reader : InputReaderState) (left began : Option (List ℕ)) : Type 0 where
  pub bundles : List BundleOf
  pub read : HasRead first reader left began (earlier ++ bundles)
  pub says : Says (SeesAll sees start bundles now) written written_now
