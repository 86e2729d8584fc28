-- Game texts: one game or one refusal, and never both.
use Rattle.std.proofs.Common.{◌≡◌, ℕ, ◌≤◌, false, Option, Some, None, List, [], ◌∷◌, nat_lt, refl, ap, sym, ◌∙◌, subst}
use Rattle.std.specs.List.{list_any}
use Rattle.std.proofs.lemmas.Bool.{le-ltb, or_from}
use Rattle.std.proofs.lemmas.List.Elements.{All-head, All-tail}
use Rattle.omega_text.specs.Cut.{CutsAreOne}
use Rattle.omega_text.specs.Syntax.{TextFaultsAreOne, TextsHaveNoFault}
use Rattle.omega_text.specs.pg.Format.{pg_format}
use Rattle.omega_text.specs.declared.refusal.Refusal.TheVariants.{Automaton, Circuit, Game, Io, Memory, Task, Text}
use Rattle.omega_text.specs.declared.refusal.game.GameFault.{GameFault}
use Rattle.omega_game_values.specs.Building.{IsGameOf, game_fault_of, fault_with}
use Rattle.omega_game_values.specs.Laws.{GamesHaveNoFault, SpecificationsHaveOneGame}
use Rattle.omega_game_values.specs.declared.node_spec.NodeSpec.{NodeSpec}
use Rattle.omega_pg.specs.game.Grammar.{RawGame, game_syntax}
use Rattle.omega_pg.specs.game.Laws.{GamesAreNotRefused, GamesOfTextsAreOne, GameRefusalsAreOne}
use Rattle.omega_pg.specs.game.Refusing.{fault_in, is_header_small}
use Rattle.omega_pg.specs.game.Text.{Covers}
use Rattle.omega_pg.proofs.reader.Deciding.{texts_one}
use Rattle.omega_pg.proofs.games.Grammar.{decides_games}

-- a text describes at most one game
pub games_one : CutsAreOne pg_format → SpecificationsHaveOneGame → GamesOfTextsAreOne
games_one cuts determined source one other a b =
    determined b.raw.specs one other
    (subst (λ (raw : RawGame). IsGameOf raw.specs one) (texts_one decides_games cuts source a.raw b.raw a.writes b.writes) a.rearranged) b.rearranged

-- a header that covers the identifiers is not too small
small_from_Covers : (header : Option ℕ) (specs : List NodeSpec) → Covers header specs → is_header_small header specs ≡ false
small_from_Covers None specs covers = refl
small_from_Covers (Some n) [] covers = refl
small_from_Covers (Some n) (spec ∷ specs) covers =
    or_from (nat_lt n spec.id) (list_any (λ (one : NodeSpec). nat_lt n one.id) specs)
    (le-ltb n spec.id (All-head (λ (one : NodeSpec). one.id ≤ n) spec specs covers))
    (small_from_Covers (Some n) specs (All-tail (λ (one : NodeSpec). one.id ≤ n) spec specs covers))

-- without a fault of the specifications, after a header that covers them, there is none
fault_in-none : (raw : RawGame) → game_fault_of raw.specs ≡ None → Covers raw.header raw.specs → fault_in raw ≡ None
fault_in-none raw e covers =
    subst (λ small. fault_with small raw.specs ≡ None) (sym (small_from_Covers raw.header raw.specs covers)) e

-- a text that describes a game has no refusal
pub games_apart : CutsAreOne pg_format → TextsHaveNoFault game_syntax → GamesHaveNoFault → GamesAreNotRefused
games_apart cuts none faultless source game (Text fault) text refused =
    none source text.raw fault text.short text.writes refused
games_apart cuts none faultless source game (Game fault) text refused =
    let same : text.raw ≡ refused.raw = texts_one decides_games cuts source text.raw refused.raw text.writes refused.writes in
    let no_fault : fault_in text.raw ≡ None = fault_in-none text.raw (faultless text.raw.specs game text.rearranged text.limits) text.covers in
    let clash : ◌≡◌ {A = Option GameFault} (Some fault) None = sym refused.fault_there ∙ ap fault_in (sym same) ∙ no_fault in
    cc
games_apart cuts none faultless source game (Automaton fault) text refused = refused
games_apart cuts none faultless source game (Circuit fault) text refused = refused
games_apart cuts none faultless source game (Task fault) text refused = refused
games_apart cuts none faultless source game Memory text refused = refused
games_apart cuts none faultless source game Io text refused = refused

-- a text has at most one refusal
pub refusals_one : CutsAreOne pg_format → TextFaultsAreOne game_syntax → TextsHaveNoFault game_syntax → GameRefusalsAreOne
refusals_one cuts same none source (Text a) (Text b) x y = ap (λ fault. Text fault) (same source a b x y)
refusals_one cuts same none source (Text a) (Game b) x y = absurd (none source y.raw a y.short y.writes x)
refusals_one cuts same none source (Game a) (Text b) x y = absurd (none source x.raw b x.short x.writes y)
refusals_one cuts same none source (Game a) (Game b) x y =
    let raws : x.raw ≡ y.raw = texts_one decides_games cuts source x.raw y.raw x.writes y.writes in
    let faults : ◌≡◌ {A = Option GameFault} (Some a) (Some b) = sym x.fault_there ∙ ap fault_in raws ∙ y.fault_there in
    cc
refusals_one cuts same none source (Automaton a) other x y = absurd x
refusals_one cuts same none source (Circuit a) other x y = absurd x
refusals_one cuts same none source (Task a) other x y = absurd x
refusals_one cuts same none source Memory other x y = absurd x
refusals_one cuts same none source Io other x y = absurd x
refusals_one cuts same none source (Text a) (Automaton b) x y = absurd y
refusals_one cuts same none source (Text a) (Circuit b) x y = absurd y
refusals_one cuts same none source (Text a) (Task b) x y = absurd y
refusals_one cuts same none source (Text a) Memory x y = absurd y
refusals_one cuts same none source (Text a) Io x y = absurd y
refusals_one cuts same none source (Game a) (Automaton b) x y = absurd y
refusals_one cuts same none source (Game a) (Circuit b) x y = absurd y
refusals_one cuts same none source (Game a) (Task b) x y = absurd y
refusals_one cuts same none source (Game a) Memory x y = absurd y
refusals_one cuts same none source (Game a) Io x y = absurd y
