-- What adding options and subcommands makes of a command.
use Rattle.std.proofs.Common.{◌≡◌, ◌&&◌, ◌++◌, ◌∙◌, Bool, List, [], ◌∷◌, Result, Ok, Err, IfOk, true, false, not, refl, append_assoc}
use Rattle.std.proofs.lemmas.List.{append-nil}
use Rattle.clap.specs.Words.{App, Rule, with_rule}
use Rattle.omega_cli.specs.private.building.Building.{shape_for, with_rules}
use Rattle.omega_cli_command.specs.declared.subcommand.Subcommand.{Subcommand}
use Rattle.omega_cli_command.specs.declared.subcommand.Subcommand.TheVariants.{Accepts, Automaton, Canon, Check, Complement, Contained, Draw, Empty, Equal, Game, Join, Ltl, Meet, Realize, Satisfies, Show, Solve, Trim, Verify}

-- what holds of the value is said in other words
pub if_ok_wider : {T E : Type 0} (result : Result T E) (Holds Others : T → Type 0) → ((value : T) → Holds value → Others value)
    → IfOk result Holds → IfOk result Others
if_ok_wider (Ok value) Holds Others wider holds = wider value holds
if_ok_wider (Err error) Holds Others wider holds = tt

-- of a command that is plain no option is for all subcommands
pub third_fails : (first second third rest : Bool) → (first && (not second && (not third && rest))) ≡ true → third ≡ false
third_fails first second false rest all = refl
third_fails true false true rest all = absurd (cc all)
third_fails true true true rest all = absurd (cc all)
third_fails false second true rest all = absurd (cc all)

-- each subcommand is plain
pub is_plain : (subcommand : Subcommand) → (shape_for subcommand).is_plain ≡ true
is_plain Show = refl
is_plain Check = refl
is_plain Canon = refl
is_plain Solve = refl
is_plain Verify = refl
is_plain Empty = refl
is_plain Game = refl
is_plain Automaton = refl
is_plain Accepts = refl
is_plain Contained = refl
is_plain Equal = refl
is_plain Satisfies = refl
is_plain Meet = refl
is_plain Join = refl
is_plain Complement = refl
is_plain Trim = refl
is_plain Ltl = refl
is_plain Realize = refl
is_plain Draw = refl

-- the options come after those that the command has
pub rules_added : (app : App) (rules : List Rule) → (with_rules app rules).top ≡ record app.top { rules = app.top.rules ++ rules }
rules_added app [] = rw (append-nil app.top.rules) refl
rules_added app (rule ∷ rules) = rules_added (with_rule app rule) rules ∙ rw append_assoc refl
