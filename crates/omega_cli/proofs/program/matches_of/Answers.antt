-- `matches_of`: the program is a simple command, so that `clap` finds exactly what its words say.
use Rattle.std.proofs.Common.{◌≡◌, IfOk, List, map, refl, subst, true}
use Rattle.clap.specs.Words.{App, FailsBy, HasMatchesOf, Text, fault_of, is_simple, is_simple_and_free, subcommand_of, subcommand_rows_of}
use Rattle.omega_cli.specs.Program.{program}
use Rattle.omega_cli.proofs.Adding.{if_ok_wider}
use Rattle.omega_cli.proofs.program.matches_of.Goals as goal

simple : is_simple program ≡ true
simple = refl

simple_and_free : is_simple_and_free program ≡ true
simple_and_free = refl

pub returns-clause-found : goal.returns-clause-found
returns-clause-found c =
    let words : List Text = map (λ word. word.now) c.args.words.now in
    if_ok_wider c.try_get_matches_from.result (HasMatchesOf program words) (λ found. subcommand_rows_of found ≡ subcommand_of program words)
    (λ found matches. (matches simple).1)
    (subst (λ (app : App). IfOk c.try_get_matches_from.result (HasMatchesOf app words)) c.in_ok-whole.ensures c.try_get_matches_from.ensures.matches)

pub returns-clause-kinds : goal.returns-clause-kinds
returns-clause-kinds c =
    let words : List Text = map (λ word. word.now) c.args.words.now in
    subst (λ (app : App). is_simple_and_free app ≡ true → FailsBy (fault_of app words) c.try_get_matches_from.result) c.in_ok-whole.ensures
    c.try_get_matches_from.ensures.kinds simple_and_free
