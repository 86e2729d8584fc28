-- The grammar of game texts as an automaton over symbols, whose states keep what was read.
use Rattle.std.specs.Prelude.{◌≡◌, ℕ, ◌<◌, ◌≤◌, ◌==◌, ◌||◌, Bool, true, false, Option, Some, None}
use Rattle.std.specs.Prelude.{List, [], ◌∷◌, ◌++◌, length, nat_lt, option_map, if◌then◌else◌}
use Rattle.omega_game_values.specs.Building.{with_last, with_name, with_successor}
use Rattle.omega_text.specs.Limits.{most_number}
use Rattle.omega_game_values.specs.declared.node_spec.NodeSpec.{NodeSpec}
use Rattle.omega_game_values.specs.declared.player.Player.{Player}
use Rattle.omega_game_values.specs.declared.player.Player.TheVariants.{One, Zero}
use Rattle.omega_pg.specs.private.reader.Run.{run_by}
use Rattle.omega_pg.specs.Symbols.{PgSymbol, comma, name, number, parity, paritysol, semicolon}
use Rattle.omega_pg.specs.declared.game.stage.GameStage.{GameStage}
use Rattle.omega_pg.specs.declared.game.stage.GameStage.TheVariants.{Comma, Ended, Headed, Identifier, Listed}
use Rattle.omega_pg.specs.declared.game.stage.GameStage.TheVariants.{Named, Number, Owner}
use Rattle.omega_pg.specs.declared.game.stage.GameStage.TheVariants.{Priority, Start, Word}

-- what was read so far: the stage, the header's number, the specifications, and whether an identifier is above that
-- number
pub record GameReaderState : Type 0 where
  pub stage : GameStage
  pub header : Option ℕ
  pub specs : List NodeSpec
  pub header_too_small : Bool

-- the state before the first symbol
abbrev pub initial : GameReaderState
initial = record { stage = Start; header = None; specs = []; header_too_small = false }

-- the state at another stage
abbrev pub to_stage : GameStage → GameReaderState → GameReaderState
to_stage stage state = record state { stage = stage }

-- the player that has a number, if there is one
abbrev pub player_of : ℕ → Option Player
player_of n = if n == 0 then Some Zero else (if n == 1 then Some One else None)

-- an identifier is above the number of a header
abbrev pub is_above : Option ℕ → ℕ → Bool
is_above None id = false
is_above (Some n) id = nat_lt n id

-- a specification that has begun, with its first successor
abbrev pub begun : ℕ → ℕ → Player → ℕ → NodeSpec
begun id priority owner first = record {
  id = id;
  priority = priority;
  owner = owner;
  successors = first ∷ [];
  name = None;
}

-- the state with one specification more
abbrev pub with_node : NodeSpec → GameReaderState → GameReaderState
with_node spec state = record {
  stage = Listed;
  header = state.header;
  specs = state.specs ++ spec ∷ [];
  header_too_small = state.header_too_small || is_above state.header spec.id;
}

-- the state with its last specification changed
abbrev pub with_change : GameStage → (NodeSpec → NodeSpec) → GameReaderState → GameReaderState
with_change stage change state = record state { stage = stage; specs = with_last change state.specs }

-- the state after the number of an owner, if a player has it
abbrev pub after_owner : GameReaderState → ℕ → ℕ → ℕ → Option GameReaderState
after_owner state id priority n =
    option_map (λ owner. to_stage (Owner id priority owner) state) (player_of n)

-- the state after a number
abbrev pub after_number : GameStage → GameReaderState → ℕ → Option GameReaderState
after_number Start state n = Some (to_stage (Identifier n) state)
after_number Word state n = Some (to_stage (Number n) state)
after_number (Number header) state n = None
after_number Headed state n = Some (to_stage (Identifier n) state)
after_number Ended state n = Some (to_stage (Identifier n) state)
after_number (Identifier id) state n = Some (to_stage (Priority id n) state)
after_number (Priority id priority) state n = after_owner state id priority n
after_number (Owner id priority owner) state n = Some (with_node (begun id priority owner n) state)
after_number Listed state n = None
after_number Comma state n = Some (with_change Listed (with_successor n) state)
after_number Named state n = None

-- the state after the word `parity`
abbrev pub after_word : GameStage → GameReaderState → Option GameReaderState
after_word Start state = Some (to_stage Word state)
after_word _ state = None

-- the state after a semicolon
abbrev pub after_semicolon : GameStage → GameReaderState → Option GameReaderState
after_semicolon (Number n) state = Some (record state { stage = Headed; header = Some n })
after_semicolon Listed state = Some (to_stage Ended state)
after_semicolon Named state = Some (to_stage Ended state)
after_semicolon _ state = None

-- the state after a comma
abbrev pub after_comma : GameStage → GameReaderState → Option GameReaderState
after_comma Listed state = Some (to_stage Comma state)
after_comma _ state = None

-- the state after a name
abbrev pub after_name : GameStage → GameReaderState → List ℕ → Option GameReaderState
after_name Listed state bytes = Some (with_change Named (with_name bytes) state)
after_name _ state bytes = None

-- the state after a symbol, or none if no text of the grammar goes on with it
abbrev pub step : GameReaderState → PgSymbol → Option GameReaderState
step state (number n) = after_number state.stage state n
step state parity = after_word state.stage state
step state paritysol = None
step state semicolon = after_semicolon state.stage state
step state comma = after_comma state.stage state
step state (name bytes) = after_name state.stage state bytes

-- the state after symbols
abbrev pub run : GameReaderState → List PgSymbol → Option GameReaderState
run = run_by step

-- at a stage the numbers that it keeps are within the limit, and an open specification is there
abbrev pub IsReadyAt : GameStage → List NodeSpec → Type 0
IsReadyAt Start specs = Unit {0}
IsReadyAt Word specs = Unit {0}
IsReadyAt (Number n) specs = Unit {0}
IsReadyAt Headed specs = Unit {0}
IsReadyAt Ended specs = 0 < length specs
IsReadyAt (Identifier id) specs = id ≤ most_number
IsReadyAt (Priority id priority) specs = (id ≤ most_number) × (priority ≤ most_number)
IsReadyAt (Owner id priority owner) specs = (id ≤ most_number) × (priority ≤ most_number)
IsReadyAt Listed specs = 0 < length specs
IsReadyAt Comma specs = 0 < length specs
IsReadyAt Named specs = 0 < length specs

-- this holds of the stage and the specifications of a state
abbrev pub IsReady : GameReaderState → Type 0
IsReady state = IsReadyAt state.stage state.specs

-- the symbols lead from the first state to this one, which is ready
abbrev pub IsReachedBy : List PgSymbol → GameReaderState → Type 0
IsReachedBy symbols state = (run initial symbols ≡ Some state) × IsReady state

-- a call took a symbol, and its new state is the next one; or it refused it, and there is no next one
abbrev pub Takes : Bool → Option GameReaderState → GameReaderState → Type 0
Takes true next new = (next ≡ Some new) × IsReady new
Takes false next new = next ≡ None
