-- `request_of_words`: what the subcommand that `clap` found requests is that of its name and its rows.
use Rattle.std.proofs.Common.{◌≡◌, Some, rules, subst, sym, inl, IfOk, Option, List, ℕ}
use Rattle.std.proofs.lemmas.Result.{IfOk-weaker}
use Rattle.clap.specs.Words.{Row, found_of, rows_of, subcommand_rows_of}
use Rattle.omega_cli.specs.Found.{IsRequestFound}
use Rattle.omega_cli.proofs.words.request_of_words.Goals as goal

pub returns-in-Some-subcommand_named-clause-request : goal.returns-in-Some-subcommand_named-clause-request
returns-in-Some-subcommand_named-clause-request c =
    let found : subcommand_rows_of c.args.found.now ≡ Some (c.in-Some.name.now, rows_of (found_of c.in-Some.matches.now)) = search rules in
    subst (λ (found : Option (List ℕ × List Row)). IfOk c.request_of_matches.result (IsRequestFound found)) (sym found)
    (IfOk-weaker c.request_of_matches.result _ _
    (λ request is. inl (c.in-Some-subcommand_named.subcommand, c.in-Some-subcommand_named.ensures.some, is))
    c.request_of_matches.ensures.request)
