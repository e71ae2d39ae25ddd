-- The target of a request, RFC 9112, section 3.2.1: `origin-form = absolute-path [ "?" query ]`. Of
-- the bytes, 63 is `?`.
use Rattle.std.specs.Prelude.{◌≡◌, ◌≢◌, ℕ, List, [], ◌∷◌, ◌++◌, Option, Some, None, All}

-- "?" query, if any
abbrev pub query_text : Option (List ℕ) → List ℕ
query_text None = []
query_text (Some query) = 63 ∷ query

-- the target is the path and then the query, split at the first question mark
pub record IsTargetOf (target path : List ℕ) (query : Option (List ℕ)) : Type 0 where
  pub unmarked : All (λ byte. byte ≢ 63) path
  pub spelling : target ≡ path ++ query_text query
