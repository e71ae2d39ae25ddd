-- What is to be copied.
use Rattle.std.specs.Prelude.{ℕ, List}
use Rattle.taxii_client.specs.declared.target.Target.{Target}

-- a collection of a peer, the name of the store that it is copied to, and how many fetches may be
-- lost before the copy ends
pub record Copying : Type 0 where
  pub target : Target
  pub file : List ℕ
  pub tries : ℕ
