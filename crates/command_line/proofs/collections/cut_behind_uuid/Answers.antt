use Rattle.std.proofs.Common.{◌≡◌, ◌++◌, ◌∷◌, Some, None, sym, ◌∙◌, arith}
use Rattle.std.proofs.lemmas.List.{take-append-drop}
use Rattle.std.proofs.lemmas.Str.Pattern.{strip_prefix_char}
use Rattle.command_line.proofs.CollectionLemmas.{same_front}
use Rattle.command_line.proofs.collections.cut_behind_uuid.Goals as goal

pub returns-in_err-rest-clause-none : goal.returns-in_err-rest-clause-none
returns-in_err-rest-clause-none c =
    let none = strip_prefix_char 58 c.in_ok-uuid.behind.now None c.in_err-rest.ensures.cases (omega arith) in
    let whole : c.in_ok-uuid.uuid.now ++ c.in_ok-uuid.behind.now ≡ c.args.argument.now
    = (λ i. c.in_ok-uuid.ensures.front i ++ c.in_ok-uuid.ensures.back i) ∙ take-append-drop 36 c.args.argument.now in
    rw c.from_residual-in_err-rest.ensures (λ front back long is.
    none back (same_front c.in_ok-uuid.uuid.now front c.in_ok-uuid.behind.now (58 ∷ back) (c.in_ok-uuid.ensures.front_len ∙ sym long) (whole ∙ is)).1)

pub returns-clause-some : goal.returns-clause-some
returns-clause-some c =
    let cut = strip_prefix_char 58 c.in_ok-uuid.behind.now (Some c.in_ok-rest.rest) c.in_ok-rest.ensures.cases (omega arith) in
    sym (take-append-drop 36 c.args.argument.now) ∙ (λ i. sym c.in_ok-uuid.ensures.front i ++ (sym c.in_ok-uuid.ensures.back ∙ cut) i)
