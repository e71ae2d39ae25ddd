-- What calls of `next` took stands before what is left.
use Rattle.std.proofs.Common.{◌↔◌, List, [], ◌∷◌, ◌++◌, append-nil, sym, ap, subst, ◌∙◌, refl, Bor}
use Rattle.std.specs.Iterator.{Yields, Drains}
use Rattle.serde_json.specs.Data.{Data}
use Rattle.stix_json.specs.declared.value.Json.{Json}
use Rattle.stix_json.specs.DataOf.{data_of}
use Rattle.match_comparisons.specs.declared.path_values.PathValues.{PathValues}
use Rattle.match_comparisons.specs.Remaining.{Left, Gives, FollowsTaken, taken_data}

pub taken_before : (before after : PathValues) (taken : List (Bor Json)) → Yields Gives before taken after
    → (values : List Data) → Left before values ↔ FollowsTaken (taken_data taken) (Left after) values
taken_before before after [] same values = (
  λ left. (values, refl, subst (λ (w : PathValues). Left w values) same left),
  λ follows. subst (λ (w : PathValues). Left w values) (sym same) (subst (Left after) (sym follows.1) follows.2),
)
taken_before before after (x ∷ xs) run values =
    let first = run.1 values in
    let more = taken_before run.0 after xs run.2 in (
      λ left.
          let begins = first.0 left in
          let follows = (more begins.0).0 begins.2 in
          (follows.0, begins.1 ∙ ap (λ (rest : List Data). data_of x.now ∷ rest) follows.1, follows.2),
      λ follows.
          let rest = taken_data xs ++ follows.0 in
          first.1 (rest, follows.1, (more rest).1 (follows.0, refl, follows.2)),
    )

pub taken_whole : (before : PathValues) (taken : List (Bor Json)) → Drains Gives before taken → Left before (taken_data taken)
taken_whole before taken drained =
    let run = drained.1 in
    let none : Left run.0 [] = (run.2 []).1 refl in
    (taken_before before run.0 taken run.1 (taken_data taken)).1 ([], sym (append-nil (taken_data taken)), none)
