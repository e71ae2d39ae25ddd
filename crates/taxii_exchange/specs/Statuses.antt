-- The statuses that clients may request (TAXII 2.1, section 4.3): those of the latest POSTs.
use Rattle.std.specs.Prelude.{ℕ, ◌+◌, ◌%◌, ◌^◌, List, [], ◌∷◌, ◌++◌, bytes_eq, Option, option_map, find}
use Rattle.circular_buffer.specs.Buffer.{keep_last}
use Rattle.taxii_exchange.specs.declared.kept_status.KeptStatus.{KeptStatus}

-- the number of the last status, and those that are kept, the oldest first
pub record StatusesState : Type 0 where
  pub count : ℕ
  pub kept : List KeptStatus

-- where none was given yet
abbrev pub no_statuses : StatusesState
no_statuses = record { count = 0; kept = [] }

-- the number of the next status: after 2 ^ 48 numbers they begin again
abbrev pub next_number : StatusesState → ℕ
next_number statuses = (statuses.count + 1) % 2 ^ 48

-- with one more status as the latest, and of all of them the last 1,024 kept
abbrev pub with_status : KeptStatus → StatusesState → StatusesState
with_status status statuses = record {
  count = next_number statuses;
  kept = keep_last 1024 (statuses.kept ++ status ∷ []);
}

-- the body of the first that is kept under the identifier
abbrev pub kept_status_body : List ℕ → StatusesState → Option (List ℕ)
kept_status_body id statuses = option_map (λ status. status.body) (find (λ status. bytes_eq status.id id) statuses.kept)
