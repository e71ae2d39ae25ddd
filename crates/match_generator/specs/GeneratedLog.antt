-- The generated log: lines that observe logins, at times and with logins that a generator draws. A state of the generator is a
-- number below 2^31, and the first one is the seed. The log begins at 2021-01-01T00:00:00Z. Of the bytes, 48 is `0`.
use Rattle.std.specs.Prelude.{ℕ, zero, suc, ◌+◌, ◌*◌, ◌/◌, ◌%◌, ◌^◌, List, [], ◌∷◌, ◌++◌, codes, ℤ, pos}
use Rattle.stix_times.specs.Timestamp.{two_digits}

-- the state that replaces a state at the next draw
abbrev pub next_state : ℕ → ℕ
next_state state = (1_103_515_245 * state + 12_345) % 2 ^ 31

-- the number drawn, computed from the new state
abbrev pub drawn_number : ℕ → ℕ
drawn_number state = state / 65_536

-- an observation to come: how many seconds after the one before, and the digit of its login
pub record Event : Type 0 where
  pub wait : ℕ
  pub digit : ℕ

-- the event drawn with these states
abbrev pub event_of : ℕ → ℕ → Event
event_of first second = record { wait = drawn_number first % 10; digit = drawn_number second % 4 }

-- the events of k pairs of draws from a state
unfoldable pub events : ℕ → ℕ → List Event
events state zero = []
events state (suc count) =
    let first = next_state state in
    let second = next_state first in
    event_of first second ∷ events second count

-- the text of the time this many seconds after the start of the log, in January: of 100,000 events
-- none is as late as February
unfoldable pub time_text : ℕ → List ℕ
time_text seconds =
    codes "2021-01-" ++ two_digits (1 + seconds / 86_400) ++ codes "T" ++ two_digits (seconds / 3600 % 24)
    ++ codes ":" ++ two_digits (seconds / 60 % 60) ++ codes ":" ++ two_digits (seconds % 60) ++ codes "Z"

-- the instant of that time: the log begins 1,609,459,200 seconds after 1970-01-01T00:00:00Z
abbrev pub instant_after : ℕ → ℤ
instant_after seconds = pos ((1_609_459_200 + seconds) * 1_000_000_000)

-- the line of an observation: a bundle with an observed-data and the user account that it observes, whose login is `u` and a digit
unfoldable pub line_text : ℕ → ℕ → List ℕ
line_text seconds digit =
    codes "{\"type\":\"bundle\",\"id\":\"bundle--00000000-0000-4000-8000-000000000001\",\"objects\":[{\"type\":\"observed-data\",\"spec_version\":\"2.1\",\"id\":\"observed-data--00000000-0000-4000-8000-000000000001\",\"created\":\"2021-06-10T00:00:00.000Z\",\"modified\":\"2021-06-10T00:00:00.000Z\",\"first_observed\":\""
    ++ time_text seconds ++ codes "\",\"last_observed\":\"" ++ time_text seconds
    ++ codes "\",\"number_observed\":1,\"object_refs\":[\"user-account--00000000-0000-4000-8000-000000000001\"]},{\"type\":\"user-account\",\"id\":\"user-account--00000000-0000-4000-8000-000000000001\",\"account_login\":\"u"
    ++ (48 + digit) ∷ [] ++ codes "\"}]}\n"

-- the lines of some events; the observation before the first was this many seconds after the start
-- of the log
unfoldable pub lines_text : ℕ → List Event → List ℕ
lines_text seconds [] = []
lines_text seconds (event ∷ more) =
    let now = seconds + event.wait in
    line_text now event.digit ++ lines_text now more

-- the log of a seed with this many lines
abbrev pub log_text : ℕ → ℕ → List ℕ
log_text seed count = lines_text 0 (events seed count)
