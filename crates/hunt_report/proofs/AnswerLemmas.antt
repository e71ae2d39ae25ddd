-- What follows under an answer that may be an error.
use Rattle.std.proofs.Common.{Result, Ok, Err, IfOk}
use Rattle.std.specs.Prelude.{OnOk}

pub ok_follows : {A E : Type 0} {P Q : A → Type 0} (r : Result A E) → ((x : A) → P x → Q x) → IfOk r P → IfOk r Q
ok_follows (Ok x) follows h = follows x h
ok_follows (Err e) follows h = tt

pub on_follows : {A E : Type 0} {P Q : Type 0} (r : Result A E) → (P → Q) → OnOk r P → OnOk r Q
on_follows (Ok x) follows h = follows h
on_follows (Err e) follows h = tt
