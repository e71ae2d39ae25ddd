-- The timeouts of a client's connection, by its phase. Times are nanoseconds.
use Rattle.std.specs.Prelude.{ℕ, ◌+◌, ◌-◌, ◌*◌, ◌^◌, min, nat_le, nat_lt, if◌then◌else◌}
use Rattle.std.specs.Time.{instant_nanos}
use Rattle.std.specs.declared.time.Instant.{Instant}
use Rattle.flow_links.specs.declared.system.phase.TheConstants.{IDLE_TIME, HEAD_TIME, BODY_TIME, ANSWER_TIME, MAX_HEAD}
use Rattle.flow_links.specs.declared.system.phase.Phase.{Phase}
use Rattle.flow_links.specs.declared.system.phase.Phase.TheVariants.{Waiting, Receiving, Answering}

abbrev pub seconds : ℕ → ℕ
seconds n = n * 1_000_000_000

-- the rest of a time limit that began at one instant, at another
abbrev pub left_of : ℕ → Instant → Instant → ℕ
left_of time since now = time - (instant_nanos now - instant_nanos since)

-- the time limit of a request of this many bytes: one longer than a head has a body
abbrev pub request_time : ℕ → ℕ
request_time bytes = if nat_le bytes MAX_HEAD then seconds HEAD_TIME else seconds BODY_TIME

-- the timeout of a read that begins now
abbrev pub read_time : Phase → Instant → ℕ
read_time Waiting now = seconds IDLE_TIME
read_time (Receiving since bytes) now = left_of (request_time bytes) since now
read_time (Answering since) now = seconds IDLE_TIME

-- the timeout of a write that begins now
abbrev pub write_time : Phase → Instant → ℕ
write_time Waiting now = seconds ANSWER_TIME
write_time (Receiving since bytes) now = seconds ANSWER_TIME
write_time (Answering since) now = left_of (seconds ANSWER_TIME) since now

-- the phase after the first read that follows a write: bytes begin a request
abbrev pub first_read : Instant → ℕ → Phase
first_read now count = if nat_lt 0 count then Receiving now count else Waiting

-- the phase after a read of this many bytes that ended now. Their sum saturates at 2^64 - 1
abbrev pub after_read : Phase → Instant → ℕ → Phase
after_read Waiting now count = first_read now count
after_read (Receiving since bytes) now count = Receiving since (min (bytes + count) (2 ^ 64 - 1))
after_read (Answering since) now count = first_read now count

-- the phase after a write that began now: the first one begins a response
abbrev pub after_write : Phase → Instant → Phase
after_write Waiting now = Answering now
after_write (Receiving since bytes) now = Answering now
after_write (Answering since) now = Answering since
