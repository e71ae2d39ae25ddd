use Rattle.std.proofs.Common.{inl, refl, arith}
use Rattle.http_messages.proofs.FrameLemmas.{none_in, needs_nothing}
use Rattle.http_messages.proofs.finding.without_head.Goals as goal

pub returns-then-bytes-lt-MAX_HEAD : goal.returns-then-bytes-lt-MAX_HEAD
returns-then-bytes-lt-MAX_HEAD c greatest =
    (inl (record { room = omega arith; none = none_in _ _ c.requires }), needs_nothing greatest _)

pub returns-else-bytes-lt-MAX_HEAD : goal.returns-else-bytes-lt-MAX_HEAD
returns-else-bytes-lt-MAX_HEAD c greatest =
    inl (record { full = omega arith; none = none_in _ _ c.requires }, refl)
