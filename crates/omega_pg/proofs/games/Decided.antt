-- Each text describes a game or has a refusal.
use Rattle.std.proofs.Common.{◌≡◌, ℕ, ◌≤◌, ◌⊎◌, inl, inr, false, Some, None, List, length, refl, subst, All}
use Rattle.std.specs.List.{AllByRecursion, flat_map}
use Rattle.omega_text.specs.Limits.{most_text}
use Rattle.omega_text.specs.declared.refusal.Refusal.{Refusal}
use Rattle.omega_text.specs.declared.refusal.Refusal.TheVariants.{Game, Text}
use Rattle.omega_game_values.specs.Building.{IsWellFormed, game_fault_of, fault_with}
use Rattle.omega_game_values.specs.Game.{Node}
use Rattle.omega_game_values.specs.Laws.{GamesExist, GamesKeepLimits}
use Rattle.omega_pg.specs.game.Grammar.{RawGame, header_symbols, node_symbols, game_syntax}
use Rattle.omega_pg.specs.game.Laws.{TextsAreReadOrRefused}
use Rattle.omega_pg.specs.game.Refusing.{IsRefusal, fault_in, is_header_small}
use Rattle.omega_pg.specs.private.reader.Symbols.{symbols_of}
use Rattle.omega_text.specs.Syntax.{IsDecidable, IsTextOf, TextsAreReadOrFaulty}
use Rattle.omega_pg.specs.game.Text.{IsGameText}
use Rattle.omega_pg.proofs.games.Built.{Covers-from_test, header_fits}
use Rattle.omega_pg.proofs.reader.Deciding.{decided_from_run}
use Rattle.omega_pg.proofs.games.Grammar.{decides_games}
use Rattle.omega_pg.proofs.games.WellFormed.{IsSound, sound_back, sound_symbols, specs_well_formed}

-- what is written within the limit is read or refused
decided_raw : GamesExist → GamesKeepLimits → (source : List ℕ) (raw : RawGame) → length source ≤ most_text → IsTextOf game_syntax source raw
    → ((game : List Node) × IsGameText source game) ⊎ ((refusal : Refusal) × IsRefusal source refusal)
decided_raw exist keep source raw short writes =
    elim (fault_in raw)
    as (λ o. fault_in raw ≡ o → ((game : List Node) × IsGameText source game) ⊎ ((refusal : Refusal) × IsRefusal source refusal)) [
      | Some fault ↦ λ e. inr (Game fault, record { short = short; raw = raw; writes = writes; fault_there = e })
      | None ↦ λ e.
          let sound : AllByRecursion IsSound (symbols_of writes.lexemes) = sound_symbols source 0 writes.cut.end writes.lexemes writes.cut.cuts in
          let well : All IsWellFormed raw.specs = specs_well_formed raw.specs writes.text.continued
          (sound_back (header_symbols raw.header) (flat_map node_symbols raw.specs) (subst (AllByRecursion IsSound) writes.text.spelled sound)) in
          let fits : is_header_small raw.header raw.specs ≡ false = header_fits (is_header_small raw.header raw.specs) raw.specs e in
          let faultless : game_fault_of raw.specs ≡ None = subst (λ small. fault_with small raw.specs ≡ None) fits e in
          let found = exist raw.specs writes.text.specified well faultless in
          inl (
            found.0,
            record {
              short = short;
              raw = raw;
              writes = writes;
              rearranged = found.1;
              covers = Covers-from_test raw.header raw.specs fits;
              limits = keep raw.specs found.0 found.1 well faultless;
            },
          )
    ]
    refl

-- each text is read or refused
pub texts_decided : (IsDecidable game_syntax → TextsAreReadOrFaulty game_syntax) → GamesExist → GamesKeepLimits → TextsAreReadOrRefused
texts_decided read_or exist keep source =
    elim (read_or (decided_from_run decides_games) source)
    as (λ _. ((game : List Node) × IsGameText source game) ⊎ ((refusal : Refusal) × IsRefusal source refusal)) [
      | inl text ↦ decided_raw exist keep source text.1.0 text.0 text.1.1
      | inr faulty ↦ inr (Text faulty.0, faulty.1)
    ]
