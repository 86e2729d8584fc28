-- How the game of `solve --search` is searched, and what the search leaves.
use Rattle.std.specs.Prelude.{◌≡◌, List, Option, None, Result, IsOk, ℕ, option_map}
use Rattle.omega_text.specs.declared.refusal.Refusal.{Refusal}
use Rattle.omega_answers_game.specs.declared.Searcher.{Searcher}
use Rattle.omega_answers_game.specs.declared.Searcher.TheVariants as searcher
use Rattle.omega_answers_game.specs.declared.solve.searching.Searching.{Searching}
use Rattle.omega_answers_game.specs.solve.Searching.{IsSearched, MaySearch, unsearched}
use Rattle.omega_cli_command.specs.declared.command.Command.{Command}
use Rattle.omega_cli_command.specs.declared.command.Command.TheVariants as command
use Rattle.omega_cli_command.specs.declared.one_text.OneText.{OneText}
use Rattle.omega_cli_command.specs.declared.one_text.OneText.TheVariants.{Search}
use Rattle.omega_cli_command.specs.declared.searcher_name.SearcherName.{SearcherName}
use Rattle.omega_cli_command.specs.declared.searcher_name.SearcherName.TheVariants as named
use Rattle.omega_io.specs.declared.exit.Exit.{Exit}
use Rattle.omega_io.specs.declared.refused.Refused.{Refused}
use Rattle.omega_run.specs.Results.{plain}

-- the searcher of this name
abbrev pub searcher_named : SearcherName → Searcher
searcher_named named.Zielonka = searcher.Zielonka
searcher_named named.Tangles = searcher.Tangles

-- a search that is to be made: by the searcher of this name alone, or by both if none is named
abbrev pub searching_by : Option SearcherName → (effort : ℕ) → Searching
searching_by name effort = unsearched (option_map searcher_named name) effort

-- what a search left for this answer or refusal of a command: if a game is searched for an answer, the turns of the
-- searchers are added to what was to be searched; no other command has any
abbrev pub AreTurnsOf : OneText → Result (Exit × List ℕ) Refusal → Searching → Type 0
AreTurnsOf (Search from by effort) made left = MaySearch (searching_by by effort) left
    × (IsOk made → IsSearched (searching_by by effort) left)
AreTurnsOf other made left = left.turns ≡ None

-- the same of a command of any texts
abbrev pub AreTurnsFor : Command → Result (Exit × List ℕ) Refused → Searching → Type 0
AreTurnsFor (command.OneText one) made left = AreTurnsOf one (plain made) left
AreTurnsFor other made left = left.turns ≡ None
