-- What options say of formats, and what they leave open if they say nothing.
use Rattle.std.proofs.Common.{◌≡◌, ◌≢◌, Bool, true, false, List, Option, None, Some, inl, inr, refl, ℕ}
use Rattle.omega_cli_command.specs.Formats.{AsksOfAny, LeavesFormat}
use Rattle.omega_cli_command.specs.Implied.{ImpliesFormat, SpeaksOf}
use Rattle.omega_cli_command.specs.Options.{text_of}
use Rattle.omega_cli_command.specs.Values.{GivesFlag}
use Rattle.omega_cli_command.specs.declared.format.Format.{Format}
use Rattle.omega_cli_command.specs.declared.format.Format.TheVariants.{Aiger, Hoa, Pg}
use Rattle.omega_cli_command.specs.declared.one_text.OneText.TheVariants as one
use Rattle.omega_cli_command.specs.declared.options.OptionName.TheVariants as name
use Rattle.omega_cli_command.specs.declared.options.Options.{Options}
use Rattle.omega_cli_command.specs.declared.subcommand.Subcommand.{Subcommand}
use Rattle.omega_cli_command.specs.declared.subcommand.Subcommand.TheVariants as sub
use Rattle.omega_cli_command.specs.private.Implied.{DrawsNothingOfGame}

-- options that imply no format and do not give it speak of none
pub silent : (subcommand : Subcommand) (options : Options) → ImpliesFormat subcommand options None
    → text_of name.Format options ≡ None → (format : Format) → SpeaksOf subcommand options format → ⊥
silent subcommand options (inl given) none = absurd (given none)
silent subcommand options (inr nothing) none = nothing

-- what is not given is not there
absent : (text : Option (List ℕ)) → (text ≢ None → ⊥) → text ≡ None
absent None given = refl
absent (Some text) given = absurd (given (λ none. cc))

-- a flag that is not set is false
cleared : (text : Option (List ℕ)) (flag : Bool) → GivesFlag text flag → (GivesFlag text true → ⊥) → GivesFlag text false
cleared text true given unset = absurd (unset given)
cleared text false given unset = given

-- `canon` asks for the canonical text of any format, if the format is left to a text
pub canon_of_any : (options : Options) (min binary : Bool) → ImpliesFormat sub.Canon options None
    → GivesFlag (text_of name.Min options) min → GivesFlag (text_of name.Binary options) binary → LeavesFormat options
    → AsksOfAny sub.Canon options one.Canon
canon_of_any options min binary settled has_min has_binary leaves =
    let nothing = silent sub.Canon options settled leaves.0 in (
      refl,
      absent _ (λ given. nothing Pg (name.From, inl (refl, inl refl), given)),
      cleared _ min has_min (λ set. nothing Pg (name.Min, inl (refl, inr refl), set)),
      cleared _ binary has_binary (λ set. nothing Aiger (name.Binary, (refl, refl), set)),
    )

-- `draw` asks for a drawing of a game or an automaton, if the format is left to a text
pub draws_anything : (options : Options) (legend lasso : Bool) → ImpliesFormat sub.Draw options None
    → GivesFlag (text_of name.Legend options) legend → GivesFlag (text_of name.Lasso options) lasso → LeavesFormat options
    → AsksOfAny sub.Draw options one.DrawGame
draws_anything options legend lasso settled has_legend has_lasso leaves =
    let nothing = silent sub.Draw options settled leaves.0 in
    let no_from : text_of name.From options ≡ None =
    absent _ (λ given. nothing Pg (name.From, inr (inl (refl, inr (inr (inr (inl refl))))), given)) in
    let no_depth : text_of name.Depth options ≡ None =
    absent _ (λ given. nothing Pg (name.Depth, inr (inl (refl, inr (inr (inr (inr refl))))), given)) in (
      refl,
      (
        absent _ (λ given. nothing Pg (name.Solution, inr (inl (refl, inl refl)), given)),
        absent _ (λ given. nothing Pg (name.Walk, inr (inl (refl, inr (inl refl))), given)),
        cleared _ legend has_legend (λ set. nothing Pg (name.Legend, inr (inl (refl, inr (inr (inl refl)))), set)),
      ),
      (rw no_from tt, rw no_depth tt, λ depth. depth),
      cleared _ lasso has_lasso (λ set. nothing Hoa (name.Lasso, inl (refl, refl), set)),
    )

-- nothing speaks of games if none of their options is given
pub silent_of_games : (subcommand : Subcommand) (options : Options) → (GivesFlag (text_of name.Lenient options) true → ⊥)
    → (subcommand ≡ sub.Canon → (text_of name.From options ≡ None) × (GivesFlag (text_of name.Min options) true → ⊥))
    → (subcommand ≡ sub.Draw → DrawsNothingOfGame options) → SpeaksOf subcommand options Pg → ⊥
silent_of_games subcommand options lenient canon draw (option, inl (is_canon, inl is), used) = (rw is at used) (canon is_canon).0
silent_of_games subcommand options lenient canon draw (option, inl (is_canon, inr is), used) = (canon is_canon).1 (rw is at used)
silent_of_games subcommand options lenient canon draw (option, inr (inl (is_draw, inl is)), used) = (rw is at used) (draw is_draw).0
silent_of_games subcommand options lenient canon draw (option, inr (inl (is_draw, inr (inl is))), used) =
    (rw is at used) (draw is_draw).1
silent_of_games subcommand options lenient canon draw (option, inr (inl (is_draw, inr (inr (inl is)))), used) =
    (draw is_draw).2 (rw is at used)
silent_of_games subcommand options lenient canon draw (option, inr (inl (is_draw, inr (inr (inr (inl is))))), used) =
    (rw is at used) (draw is_draw).3
silent_of_games subcommand options lenient canon draw (option, inr (inl (is_draw, inr (inr (inr (inr is))))), used) =
    (rw is at used) (draw is_draw).4
silent_of_games subcommand options lenient canon draw (option, inr (inr (has, is)), used) = lenient (rw is at used)

-- nothing speaks of automata if no lasso is drawn, and none are counted
pub silent_of_automata : (subcommand : Subcommand) (options : Options)
    → (subcommand ≡ sub.Draw → GivesFlag (text_of name.Lasso options) true → ⊥)
    → (subcommand ≡ sub.Check → text_of name.AtLeast options ≡ None) → SpeaksOf subcommand options Hoa → ⊥
silent_of_automata subcommand options lasso count (option, inl (is_draw, is), used) = lasso is_draw (rw is at used)
silent_of_automata subcommand options lasso count (option, inr (is_check, is), used) = (rw is at used) (count is_check)

-- nothing speaks of circuits if nothing is written in binary
pub silent_of_circuits : (subcommand : Subcommand) (options : Options)
    → (subcommand ≡ sub.Canon → GivesFlag (text_of name.Binary options) true → ⊥) → SpeaksOf subcommand options Aiger → ⊥
silent_of_circuits subcommand options binary (option, (is_canon, is), used) = binary is_canon (rw is at used)

-- nothing speaks of any format if it speaks of none of the three
pub silent_of_all : (subcommand : Subcommand) (options : Options) → (SpeaksOf subcommand options Pg → ⊥)
    → (SpeaksOf subcommand options Hoa → ⊥) → (SpeaksOf subcommand options Aiger → ⊥)
    → (format : Format) → SpeaksOf subcommand options format → ⊥
silent_of_all subcommand options games automata circuits Pg = games
silent_of_all subcommand options games automata circuits Hoa = automata
silent_of_all subcommand options games automata circuits Aiger = circuits
