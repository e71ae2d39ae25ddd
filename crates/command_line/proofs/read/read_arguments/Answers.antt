use Rattle.std.proofs.Common.{◌∙◌, sym}
use Rattle.clap.specs.Matches.{found_of}
use Rattle.clap.specs.Walk.{rows_of}
use Rattle.clap.specs.declared.parser.matches.ArgMatches.TheViews.{out-ArgMatches}
use Rattle.command_line.specs.CommandLines.{argument_texts}
use Rattle.command_line.specs.Request.{plain_request}
use Rattle.command_line.proofs.CommandLinesLemmas.{asked_from, asked_to, failed, none_asked, texts_utf8}
use Rattle.command_line.proofs.FoundLemmas.{entered_as, not_entered}
use Rattle.command_line.proofs.read.read_arguments.Goals as goal

pub returns-in-Err-clause-no_line : goal.returns-in-Err-clause-no_line
returns-in-Err-clause-no_line c = λ is. failed (argument_texts c.args.arguments.now) c.in-Err.error c.in-Err.ensures.exact (λ memory. let other = c.refusal_of.ensures.1 memory in absurd (cc))

pub returns-in_default-clause-no_line : goal.returns-in_default-clause-no_line
returns-in_default-clause-no_line c = λ is request line.
    let asked = asked_from (argument_texts c.args.arguments.now) request line in
    not_entered (out-ArgMatches c.in-Ok.matches).subcommand _ _ (c.in-Ok.ensures.matches ∙ asked.found) c.in_default.ensures.rows

pub returns-in-Ok-Some-clause-ok : goal.returns-in-Ok-Some-clause-ok
returns-in-Ok-Some-clause-ok c =
    let command = c.in-Some.command.now in
    let rows = rows_of (found_of c.in-Some.values.now) in
    let entered = entered_as (out-ArgMatches c.in-Ok.matches).subcommand command rows c.in-Some.ensures.name c.in-Some.ensures.rows in
    asked_to (argument_texts c.args.arguments.now) (texts_utf8 c.args.arguments.now) c.in-Ok.ensures.exact command rows (sym c.in-Ok.ensures.matches ∙ entered)
    (plain_request c.in-Ok-Some.request) (rw c.in-Ok-Some.field-0-is at c.in-Ok-Some.ensures.some)

pub returns-in-Ok-None-clause-no_line : goal.returns-in-Ok-None-clause-no_line
returns-in-Ok-None-clause-no_line c = λ is.
    let command = c.in-Some.command.now in
    let rows = rows_of (found_of c.in-Some.values.now) in
    let entered = entered_as (out-ArgMatches c.in-Ok.matches).subcommand command rows c.in-Some.ensures.name c.in-Some.ensures.rows in
    none_asked (argument_texts c.args.arguments.now) command rows (sym c.in-Ok.ensures.matches ∙ entered) (rw c.in-Ok-None.field-0-is at c.in-Ok-None.ensures.none)
