-- What `--help` and `--version` answer.
use Rattle.std.specs.Prelude.{◌≡◌, ◌≢◌, ◌⊎◌, ℕ, List, [], ◌∷◌, Option, codes}
use Rattle.flow_edges.specs.Flow.{written_with, WritesPrefix}
use Rattle.command_about.specs.declared.about.About.{About}

-- `--help` alone asks for the help, `--version` alone for the version
abbrev pub AsksAbout : About → List (List ℕ) → List ℕ → Type 0
AsksAbout about arguments text =
    ((arguments ≡ codes "--help" ∷ []) × (text ≡ about.help.now))
    ⊎ ((arguments ≡ codes "--version" ∷ []) × (text ≡ about.version.now))

-- the arguments are neither
abbrev pub AsksNothing : List (List ℕ) → Type 0
AsksNothing arguments = (arguments ≢ codes "--help" ∷ []) × (arguments ≢ codes "--version" ∷ [])

-- the text asked for was written with status 0, or a prefix of it with status 6
pub record IsAnsweredAbout (about : About) (arguments : List (List ℕ)) (status : ℕ) (written written_after : Option (List ℕ)) : Type 0 where
  pub text : List ℕ
  pub asked : AsksAbout about arguments text
  pub ending :
      ((status ≡ 0) × (written_after ≡ written_with text written))
      ⊎ ((status ≡ 6) × WritesPrefix text written written_after)
