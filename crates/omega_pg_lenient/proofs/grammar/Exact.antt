-- Lenient texts: one game or one refusal, and never both.
use Rattle.std.proofs.Common.{◌≡◌, ℕ, ◌≤◌, ◌⊎◌, inl, inr, Option, Some, None, List, length, refl, ap, sym, ◌∙◌, subst, arith, All}
use Rattle.std.specs.List.{AllByRecursion}
use Rattle.omega_text.specs.Cut.{CutsAreOne}
use Rattle.omega_text.specs.Limits.{most_text}
use Rattle.omega_text.specs.Syntax.{IsDecidable, IsTextFault, IsTextOf, TextFaultsAreOne, TextsAreReadOrFaulty, TextsHaveNoFault}
use Rattle.omega_text.specs.declared.refusal.Refusal.{Refusal}
use Rattle.omega_text.specs.declared.refusal.Refusal.TheVariants.{Automaton, Circuit, Game, Io, Memory, Task, Text}
use Rattle.omega_text.specs.declared.refusal.text.TextFault.{TextFault}
use Rattle.omega_text.specs.declared.refusal.game.GameFault.{GameFault}
use Rattle.omega_game_values.specs.Building.{IsGameOf, IsWellFormed, game_fault_of}
use Rattle.omega_game_values.specs.Game.{Node}
use Rattle.omega_game_values.specs.Laws.{GamesExist, GamesHaveNoFault, GamesKeepLimits, SpecificationsHaveOneGame}
use Rattle.omega_game_values.specs.declared.node_spec.NodeSpec.{NodeSpec}
use Rattle.omega_pg_lenient.specs.Format.{lenient_format}
use Rattle.omega_pg_lenient.specs.Grammar.{lenient_syntax}
use Rattle.omega_pg_lenient.specs.Laws.{LenientGamesAreNotRefused, LenientGamesAreOne, LenientRefusalsAreOne, LenientTextsAreReadOrRefused}
use Rattle.omega_pg_lenient.specs.Plain.{plain_text}
use Rattle.omega_pg_lenient.specs.Refusing.{RefusesLenient}
use Rattle.omega_pg_lenient.specs.Text.{IsLenientGameText}
use Rattle.omega_pg_lenient.proofs.grammar.Decided.{decides_lenient}
use Rattle.omega_pg.proofs.reader.Deciding.{decided_from_run, texts_one}
use Rattle.omega_pg_lenient.proofs.grammar.Symbols.{symbols_of}
use Rattle.omega_pg_lenient.proofs.grammar.Kept.{some_specs}
use Rattle.omega_pg_lenient.proofs.grammar.WellFormed.{IsSound, sound_symbols, spelled_well_formed}
use Rattle.omega_pg_lenient.proofs.texts.Plain.{places_kept}

-- a plain text is within the limit exactly if the text is
plain_short : (source : List ℕ) → length source ≤ most_text → length (plain_text source) ≤ most_text
plain_short source short = omega (arith, short, places_kept source)

short_plain : (source : List ℕ) → length (plain_text source) ≤ most_text → length source ≤ most_text
short_plain source short = omega (arith, short, places_kept source)

-- a text describes at most one game
pub games_one : CutsAreOne lenient_format → SpecificationsHaveOneGame → LenientGamesAreOne
games_one cuts determined source one other a b =
    determined b.specs one other
    (subst (λ specs. IsGameOf specs one) (texts_one decides_lenient cuts (plain_text source) a.specs b.specs a.spells b.spells) a.rearranged) b.rearranged

-- a text of the grammar has no fault of texts
no_text_fault : TextsHaveNoFault lenient_syntax → (source : List ℕ) (specs : List NodeSpec) (fault : TextFault) → length source ≤ most_text
    → IsTextOf lenient_syntax (plain_text source) specs → IsTextFault lenient_syntax (plain_text source) fault → ⊥
no_text_fault none source specs fault short text faulty = none (plain_text source) specs fault (plain_short source short) text faulty

-- a text that describes a game has no refusal
pub games_apart : CutsAreOne lenient_format → TextsHaveNoFault lenient_syntax → GamesHaveNoFault → LenientGamesAreNotRefused
games_apart cuts none faultless source game (Text fault) text refused = no_text_fault none source text.specs fault text.short text.spells refused
games_apart cuts none faultless source game (Game fault) text refused =
    let same : text.specs ≡ refused.specs = texts_one decides_lenient cuts (plain_text source) text.specs refused.specs text.spells refused.spells in
    let clash : ◌≡◌ {A = Option GameFault} (Some fault) None =
    sym refused.fault_there ∙ ap game_fault_of (sym same) ∙ faultless text.specs game text.rearranged text.limits in
    cc
games_apart cuts none faultless source game (Automaton fault) text refused = refused
games_apart cuts none faultless source game (Circuit fault) text refused = refused
games_apart cuts none faultless source game (Task fault) text refused = refused
games_apart cuts none faultless source game Memory text refused = refused
games_apart cuts none faultless source game Io text refused = refused

-- a text has at most one refusal
pub refusals_one : CutsAreOne lenient_format → TextFaultsAreOne lenient_syntax → TextsHaveNoFault lenient_syntax → LenientRefusalsAreOne
refusals_one cuts same none source (Text a) (Text b) x y = ap (λ fault. Text fault) (same (plain_text source) a b x y)
refusals_one cuts same none source (Text a) (Game b) x y = absurd (no_text_fault none source y.specs a y.short y.spells x)
refusals_one cuts same none source (Game a) (Text b) x y = absurd (no_text_fault none source x.specs b x.short x.spells y)
refusals_one cuts same none source (Game a) (Game b) x y =
    let specs : x.specs ≡ y.specs = texts_one decides_lenient cuts (plain_text source) x.specs y.specs x.spells y.spells in
    let faults : ◌≡◌ {A = Option GameFault} (Some a) (Some b) = sym x.fault_there ∙ ap game_fault_of specs ∙ y.fault_there in
    cc
refusals_one cuts same none source (Automaton a) other x y = absurd x
refusals_one cuts same none source (Circuit a) other x y = absurd x
refusals_one cuts same none source (Task a) other x y = absurd x
refusals_one cuts same none source Memory other x y = absurd x
refusals_one cuts same none source Io other x y = absurd x
refusals_one cuts same none source (Text a) (Automaton b) x y = absurd y
refusals_one cuts same none source (Text a) (Circuit b) x y = absurd y
refusals_one cuts same none source (Text a) (Task b) x y = absurd y
refusals_one cuts same none source (Text a) Memory x y = absurd y
refusals_one cuts same none source (Text a) Io x y = absurd y
refusals_one cuts same none source (Game a) (Automaton b) x y = absurd y
refusals_one cuts same none source (Game a) (Circuit b) x y = absurd y
refusals_one cuts same none source (Game a) (Task b) x y = absurd y
refusals_one cuts same none source (Game a) Memory x y = absurd y
refusals_one cuts same none source (Game a) Io x y = absurd y

-- what is spelled within the limit is read or refused
decided_specs : GamesExist → GamesKeepLimits → (source : List ℕ) (specs : List NodeSpec) → length source ≤ most_text
    → IsTextOf lenient_syntax (plain_text source) specs
    → ((game : List Node) × IsLenientGameText source game) ⊎ ((refusal : Refusal) × RefusesLenient source refusal)
decided_specs exist keep source specs short text =
    elim (game_fault_of specs)
    as (λ o. game_fault_of specs ≡ o → ((game : List Node) × IsLenientGameText source game) ⊎ ((refusal : Refusal) × RefusesLenient source refusal)) [
      | Some fault ↦ λ e. inr (Game fault, record { short = short; specs = specs; spells = text; fault_there = e })
      | None ↦ λ e.
          let spelled = text.text in
          let sound : AllByRecursion IsSound (symbols_of text.lexemes) = sound_symbols (plain_text source) 0 text.cut.end text.lexemes text.cut.cuts in
          let well : All IsWellFormed specs = subst (All IsWellFormed) (sym spelled.completes)
          (spelled_well_formed (symbols_of text.lexemes) spelled.opening spelled.written spelled.spelled sound) in
          let found = exist specs (some_specs (symbols_of text.lexemes) specs spelled) well e in
          inl (
            found.0,
            record {
              short = short;
              specs = specs;
              spells = text;
              rearranged = found.1;
              limits = keep specs found.0 found.1 well e;
            },
          )
    ]
    refl

-- each text is read or refused
pub texts_decided : (IsDecidable lenient_syntax → TextsAreReadOrFaulty lenient_syntax) → GamesExist → GamesKeepLimits → LenientTextsAreReadOrRefused
texts_decided read_or exist keep source =
    elim (read_or (decided_from_run decides_lenient) (plain_text source))
    as (λ _. ((game : List Node) × IsLenientGameText source game) ⊎ ((refusal : Refusal) × RefusesLenient source refusal)) [
      | inl text ↦ decided_specs exist keep source text.1.0 (short_plain source text.0) text.1.1
      | inr faulty ↦ inr (Text faulty.0, faulty.1)
    ]
