use Rattle.std.proofs.Common.{inl, inr, refl, subst, sym, arith}
use Rattle.command_line.specs.declared.request.Request.{Request}
use Rattle.command_line.specs.CommandLines.{argument_texts, IsCommandLine}
use Rattle.command_line.specs.Request.{plain_request, plain_service}
use Rattle.command_match.specs.Tasks.{match_task}
use Rattle.command_run.specs.Requests.{IsMatchRequest}
use Rattle.command_run.proofs.RunEndingsLemmas.{match_isn't_usage, check_statuses, show_isn't_usage, make_statuses, serve_statuses, match-counts, check-counts, show-counts, make-counts, show-input, make-input, serve-input, serve-output, serve-door, serve-keeper, early, early-rows, match_reads, check_reads}
use Rattle.command_run.proofs.program.execute.Goals as goal

pub returns-in-Ok-Match-clause-end : goal.returns-in-Ok-Match-clause-end
returns-in-Ok-Match-clause-end g c =
    let line = subst (λ (r : Request). IsCommandLine (argument_texts c.args.arguments.now) (plain_request r)) c.in-Ok-Match.field-0-is c.in-Ok-Match.ensures.ok in record {
      request = match_task c.in-Ok-Match.request;
      command = record { whole = c.in-Ok-Match.request.whole; mode_is = refl; line = line };
      match_ends = c.match_bindings.ensures.end;
    }

pub returns-in-Ok-Show-clause-end : goal.returns-in-Ok-Show-clause-end
returns-in-Ok-Show-clause-end g c = record {
  pattern = c.in-Ok-Show.pattern.now;
  command = subst (λ (r : Request). IsCommandLine (argument_texts c.args.arguments.now) (plain_request r)) c.in-Ok-Show.field-0-is c.in-Ok-Show.ensures.ok;
  show_ends = c.show.ensures.end (g.I.Source.left c.args.input.now) (g.I.Source.began c.args.input.now);
  unread = refl;
}

pub returns-in-Ok-Serve-clause-end : goal.returns-in-Ok-Serve-clause-end
returns-in-Ok-Serve-clause-end g c = record {
  service = plain_service c.in-Ok-Serve.request;
  command = subst (λ (r : Request). IsCommandLine (argument_texts c.args.arguments.now) (plain_request r)) c.in-Ok-Serve.field-0-is c.in-Ok-Serve.ensures.ok;
  serve_ends = c.serve.ensures.ends;
  unread = refl;
}

pub returns-in-Ok-Match-clause-door : goal.returns-in-Ok-Match-clause-door
returns-in-Ok-Match-clause-door g c = match-counts c.match_bindings.result 8 (omega arith)

pub returns-in-Ok-Match-clause-keeper : goal.returns-in-Ok-Match-clause-keeper
returns-in-Ok-Match-clause-keeper g c = λ _. match-counts c.match_bindings.result 9 (omega arith)

pub returns-in-Ok-Check-clause-door : goal.returns-in-Ok-Check-clause-door
returns-in-Ok-Check-clause-door g c = check-counts c.check.result 8 (omega arith)

pub returns-in-Ok-Check-clause-keeper : goal.returns-in-Ok-Check-clause-keeper
returns-in-Ok-Check-clause-keeper g c = λ _. check-counts c.check.result 9 (omega arith)

pub returns-in-Ok-Show-clause-input : goal.returns-in-Ok-Show-clause-input
returns-in-Ok-Show-clause-input g c = show-input c.show.result

pub returns-in-Ok-Show-clause-door : goal.returns-in-Ok-Show-clause-door
returns-in-Ok-Show-clause-door g c = show-counts c.show.result 8 (omega arith)

pub returns-in-Ok-Show-clause-keeper : goal.returns-in-Ok-Show-clause-keeper
returns-in-Ok-Show-clause-keeper g c = λ _. show-counts c.show.result 9 (omega arith)

pub returns-in-Ok-Make-clause-input : goal.returns-in-Ok-Make-clause-input
returns-in-Ok-Make-clause-input g c = make-input c.make.result

pub returns-in-Ok-Make-clause-door : goal.returns-in-Ok-Make-clause-door
returns-in-Ok-Make-clause-door g c = make-counts c.make.result 8 (omega arith)

pub returns-in-Ok-Make-clause-keeper : goal.returns-in-Ok-Make-clause-keeper
returns-in-Ok-Make-clause-keeper g c = λ _. make-counts c.make.result 9 (omega arith)

pub returns-in-Ok-Serve-clause-unserved : goal.returns-in-Ok-Serve-clause-unserved
returns-in-Ok-Serve-clause-unserved g c = λ none.
    let kept = c.serve.ensures.early (early _ none) in (kept.0, kept.1, early-rows _ _ _ _ _ (early _ none) c.serve.ensures.ends)

pub returns-in-Ok-Serve-clause-input : goal.returns-in-Ok-Serve-clause-input
returns-in-Ok-Serve-clause-input g c = serve-input c.serve.result

pub returns-in-Ok-Serve-clause-output : goal.returns-in-Ok-Serve-clause-output
returns-in-Ok-Serve-clause-output g c = serve-output _ c.serve.ensures.output

pub returns-in-Ok-Serve-clause-door : goal.returns-in-Ok-Serve-clause-door
returns-in-Ok-Serve-clause-door g c = serve-door _ c.serve.ensures.door

pub returns-in-Ok-Serve-clause-keeper : goal.returns-in-Ok-Serve-clause-keeper
returns-in-Ok-Serve-clause-keeper g c = λ none. serve-keeper _ (c.serve.ensures.keeper (early _ none))

pub returns-in-Ok-Match-clause-untouched : goal.returns-in-Ok-Match-clause-untouched
returns-in-Ok-Match-clause-untouched g c = λ is. elim is [ inl two ↦ absurd (match_isn't_usage _ two) | inr three ↦ c.match_bindings.ensures.untouched three ]

pub returns-in-Ok-Match-clause-unasked : goal.returns-in-Ok-Match-clause-unasked
returns-in-Ok-Match-clause-unasked g c =
    let line = subst (λ (r : Request). IsCommandLine (argument_texts c.args.arguments.now) (plain_request r)) c.in-Ok-Match.field-0-is c.in-Ok-Match.ensures.ok in
    let task : IsMatchRequest (argument_texts c.args.arguments.now) (match_task c.in-Ok-Match.request) = record { whole = c.in-Ok-Match.request.whole; mode_is = refl; line = line } in
    (λ asks. absurd (match_reads c.one_request.ensures _ (match_task c.in-Ok-Match.request) task asks), λ _. (refl, refl, refl))

pub returns-in-Ok-Check-clause-untouched : goal.returns-in-Ok-Check-clause-untouched
returns-in-Ok-Check-clause-untouched g c = λ is. elim is [ inl two ↦ absurd ((check_statuses _).0 two) | inr three ↦ absurd ((check_statuses _).1 three) ]

pub returns-in-Ok-Check-clause-unasked : goal.returns-in-Ok-Check-clause-unasked
returns-in-Ok-Check-clause-unasked g c =
    let line = subst (λ (r : Request). IsCommandLine (argument_texts c.args.arguments.now) (plain_request r)) c.in-Ok-Check.field-0-is c.in-Ok-Check.ensures.ok in
    (λ asks. absurd (check_reads c.one_request.ensures _ line asks), λ _. (refl, refl, refl))

pub returns-in-Ok-Show-clause-untouched : goal.returns-in-Ok-Show-clause-untouched
returns-in-Ok-Show-clause-untouched g c = λ is. elim is [ inl two ↦ absurd (show_isn't_usage _ two) | inr three ↦ (refl, c.show.ensures.untouched three) ]

pub returns-in-Ok-Make-clause-untouched : goal.returns-in-Ok-Make-clause-untouched
returns-in-Ok-Make-clause-untouched g c = λ is. elim is [ inl two ↦ absurd ((make_statuses _).0 two) | inr three ↦ absurd ((make_statuses _).1 three) ]

pub returns-in-Ok-Serve-clause-untouched : goal.returns-in-Ok-Serve-clause-untouched
returns-in-Ok-Serve-clause-untouched g c = λ is. elim is [ inl two ↦ absurd ((serve_statuses _).0 two) | inr three ↦ absurd ((serve_statuses _).1 three) ]
