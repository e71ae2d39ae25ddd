use Rattle.std.proofs.Common.{Some, None, ◌≢◌, sym, append-nil, arith}
use Rattle.std.proofs.lemmas.Str.Pattern.{split_parts}
use Rattle.std.proofs.lemmas.List.Elements.{All-from_get_or}
use Rattle.taxii_routes.proofs.target.split_target.Goals as goal

pub returns-in-Some : goal.returns-in-Some
returns-in-Some c =
    let parts = split_parts 63 c.args.target.now (Some (c.in-Some.path, c.in-Some.query)) c.in-Some.ensures.cases (omega arith) in
    record { unmarked = All-from_get_or (λ byte. byte ≢ 63) c.in-Some.path.now 0 parts.1; spelling = parts.0 }

pub returns-in-None : goal.returns-in-None
returns-in-None c =
    let parts = split_parts 63 c.args.target.now None c.in-None.ensures.cases (omega arith) in
    record { unmarked = All-from_get_or (λ byte. byte ≢ 63) c.args.target.now 0 parts; spelling = sym (append-nil c.args.target.now) }
