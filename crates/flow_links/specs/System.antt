-- Adapters of the operating system's connections and ports: their values in contracts.
use Rattle.std.specs.Prelude.{◌≡◌, ℕ, ◌+◌, ◌-◌, ◌^◌, ◌<◌, min, List, [], ◌∷◌, Option, Some, None, Result, Ok, Err}
use Rattle.std.specs.Net.Addr.{ipv4_octets}
use Rattle.std.specs.Net.Socket.{v4_ip, v4_port}
use Rattle.std.specs.declared.net.socket_addr.SocketAddrV4.{SocketAddrV4}
use Rattle.flow_links.specs.declared.system.phase.Phase.{Phase}
use Rattle.flow_links.specs.declared.system.tcp_door.TheConstants.{MAX_LOST}

-- the bytes left in the stream and its contents, if they are observable, and the two counts of
-- faults
pub record StreamState : Type 0 where
  pub remaining : Option (List ℕ)
  pub contents : Option (List ℕ)
  pub read_faults : ℕ
  pub write_faults : ℕ

-- an IPv4 address and a port
pub record Address : Type 0 where
  pub octets : List ℕ
  pub port : ℕ

abbrev pub address_of : SocketAddrV4 → Address
address_of socket = record { octets = ipv4_octets (v4_ip socket); port = v4_port socket }

-- a port of the loopback interface
abbrev pub loopback : ℕ → Address
loopback port = record { octets = 127 ∷ 0 ∷ 0 ∷ 1 ∷ []; port = port }

-- the local address, as the system reports it; the number of clients lost because accepting them
-- failed; and the count of faults
pub record PortState : Type 0 where
  pub address : Option Address
  pub lost : ℕ
  pub faults : ℕ

-- the count of lost clients after some more. It saturates at 2^64 - 1
abbrev pub with_lost : ℕ → ℕ → ℕ
with_lost more lost = min (lost + more) (2 ^ 64 - 1)

-- the effect of `next` on the count: fewer than MAX_LOST clients are lost before an accepted one; a
-- door that doesn't listen loses none; MAX_LOST are a fault
abbrev pub LosesCallers : {L E : Type 0} → Result (Option L) E → ℕ → ℕ → Type 0
LosesCallers (Ok (Some link)) before after = (n : ℕ) × (n < MAX_LOST) × (after ≡ with_lost n before)
LosesCallers (Ok None) before after = after ≡ before
LosesCallers (Err fault) before after = after ≡ with_lost MAX_LOST before

-- the bytes left in the stream and its contents, if they are observable, and the deadline in
-- nanoseconds since the clock's start
pub record DeadlineState : Type 0 where
  pub remaining : Option (List ℕ)
  pub contents : Option (List ℕ)
  pub deadline : ℕ

-- the bytes left in the stream and its contents, if they are observable, the phase of its client,
-- and the nanoseconds for which its calls may still wait
pub record TimedState : Type 0 where
  pub remaining : Option (List ℕ)
  pub contents : Option (List ℕ)
  pub phase : Phase
  pub left : ℕ
