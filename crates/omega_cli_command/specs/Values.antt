-- What the texts of options mean, and what is given by an option that may be left out.
use Rattle.std.specs.Prelude.{◌≡◌, ◌≤◌, Bool, true, false, List, Option, Some, None, ℕ, codes}
use Rattle.std.specs.Str.Parse.{IsNumeral, digits_value}
use Rattle.omega_game_values.specs.declared.player.Player.{Player}
use Rattle.omega_game_values.specs.Player.{player_number}
use Rattle.omega_text.specs.Limits.{most_number}
use Rattle.omega_cli_command.specs.Limits.{most_budget, most_effort}
use Rattle.omega_cli_command.specs.declared.format.Format.{Format}
use Rattle.omega_cli_command.specs.declared.format.Format.TheVariants.{Aiger, Hoa, Pg}
use Rattle.omega_cli_command.specs.declared.searcher_name.SearcherName.{SearcherName}
use Rattle.omega_cli_command.specs.declared.searcher_name.SearcherName.TheVariants.{Tangles, Zielonka}

-- ---- what the text of an option means

-- the text is decimal digits and nothing else, and its number is from the least to the greatest
pub record IsNumberText (least most : ℕ) (text : List ℕ) (number : ℕ) : Type 0 where
  pub digits : IsNumeral 10 text
  pub value : digits_value 10 text ≡ number
  pub from : least ≤ number
  pub within : number ≤ most

-- the number of a player
abbrev pub IsPlayerText : List ℕ → Player → Type 0
IsPlayerText text player = IsNumberText 0 1 text (player_number player)

-- the name of a format that is offered
abbrev pub format_name : Format → List ℕ
format_name Pg = codes "pg"
format_name Hoa = codes "hoa"
format_name Aiger = codes "aiger"

abbrev pub IsFormatText : List ℕ → Format → Type 0
IsFormatText text format = text ≡ format_name format

-- the name of a searcher that is offered
abbrev pub IsSearcherText : List ℕ → SearcherName → Type 0
IsSearcherText text Zielonka = text ≡ codes "zielonka"
IsSearcherText text Tangles = text ≡ codes "tangles"

-- what `clap` says of a flag
abbrev pub IsTruthText : List ℕ → Bool → Type 0
IsTruthText text true = text ≡ codes "true"
IsTruthText text false = text ≡ codes "false"

-- ---- what an option gives

-- an option that may be left out
abbrev pub Gives : {T : Type 0} → (List ℕ → T → Type 0) → Option (List ℕ) → Option T → Type 0
Gives reads None None = Unit {0}
Gives reads None (Some value) = ⊥
Gives reads (Some text) None = ⊥
Gives reads (Some text) (Some value) = reads text value

-- the budget: by default the greatest
abbrev pub GivesBudget : Option (List ℕ) → ℕ → Type 0
GivesBudget None budget = budget ≡ most_budget
GivesBudget (Some text) budget = IsNumberText 0 most_budget text budget

-- the effort: by default 1
abbrev pub GivesEffort : Option (List ℕ) → ℕ → Type 0
GivesEffort None effort = effort ≡ 1
GivesEffort (Some text) effort = IsNumberText 1 most_effort text effort

-- the least number of automata: by default 0
abbrev pub GivesAtLeast : Option (List ℕ) → ℕ → Type 0
GivesAtLeast None at_least = at_least ≡ 0
GivesAtLeast (Some text) at_least = IsNumberText 0 most_number text at_least

-- a flag: by default it is not set
abbrev pub GivesFlag : Option (List ℕ) → Bool → Type 0
GivesFlag None flag = flag ≡ false
GivesFlag (Some text) flag = IsTruthText text flag
