-- A subcommand of this name is no other command.
use Rattle.clap.specs.Words.{Text, found_of, rows_of}
use Rattle.clap.specs.declared.parser.matches.ArgMatches.TheViews.{out-ArgMatches}
use Rattle.rv_words.specs.command.Command.{SaysCommand}
use Rattle.rv_words.proofs.OfCommand.Options.{call_alone, end_alone, says_entered, serve_alone}
use Rattle.std.proofs.Common.{subst}
use Rattle.rv_words.proofs.command.command_of.Goals as goal

pub returns-in-serve-clause-none : goal.returns-in-serve-clause-none
returns-in-serve-clause-none c none command said =
    let options = rows_of (found_of c.in_ok-name.options.now) in
    let given = serve_alone options command (subst (λ (n : Text). SaysCommand (n, options) command)
    c.in-serve.is
    (says_entered (out-ArgMatches c.args.matches.now).subcommand c.in_ok-name.name.now options
    c.in_ok-name.ensures.name c.in_ok-name.ensures.rows command said)) in
    c.serve_of.ensures.none none given.0 given.1 given.2 given.3 given.4

pub returns-in-call-clause-none : goal.returns-in-call-clause-none
returns-in-call-clause-none c none command said =
    let options = rows_of (found_of c.in_ok-name.options.now) in
    let given = call_alone options command (subst (λ (n : Text). SaysCommand (n, options) command)
    c.in-call.is
    (says_entered (out-ArgMatches c.args.matches.now).subcommand c.in_ok-name.name.now options
    c.in_ok-name.ensures.name c.in_ok-name.ensures.rows command said)) in
    c.call_of.ensures.none none given.0 given.1 given.2 given.3 given.4 given.5

pub returns-in-end-clause-none : goal.returns-in-end-clause-none
returns-in-end-clause-none c none command said =
    let options = rows_of (found_of c.in_ok-name.options.now) in
    let given = end_alone options command (subst (λ (n : Text). SaysCommand (n, options) command)
    c.in-end.is
    (says_entered (out-ArgMatches c.args.matches.now).subcommand c.in_ok-name.name.now options
    c.in_ok-name.ensures.name c.in_ok-name.ensures.rows command said)) in
    c.end_of.ensures.none none given.0 given.1 given.2 given.3
