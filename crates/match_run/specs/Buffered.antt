-- A text that is partly written and partly buffered.
use Rattle.std.specs.Prelude.{◌≡◌, ℕ, List, ◌++◌, Option}
use Rattle.flow_edges.specs.Flow.{written_with}

-- a prefix of the text is written, and the rest is buffered
pub record IsBuffered (text pending : List ℕ) (before now : Option (List ℕ)) : Type 0 where
  pub sent : List ℕ
  pub text_is : text ≡ sent ++ pending
  pub now_is : now ≡ written_with sent before
