-- The grammar of lenient texts as an automaton over symbols, whose states keep what was read.
use Rattle.std.specs.Prelude.{◌≡◌, ℕ, ◌<◌, ◌≤◌, ◌==◌, Bool, true, false, Option, Some}
use Rattle.std.specs.Prelude.{None, List, [], ◌∷◌, ◌++◌, length, option_map, if◌then◌else◌}
use Rattle.omega_game_values.specs.Building.{unnamed_spec, with_last, with_name, with_successor}
use Rattle.omega_text.specs.Limits.{most_number}
use Rattle.omega_game_values.specs.declared.node_spec.NodeSpec.{NodeSpec}
use Rattle.omega_game_values.specs.declared.player.Player.{Player}
use Rattle.omega_game_values.specs.declared.player.Player.TheVariants.{One, Zero}
use Rattle.omega_pg_lenient.specs.DeadEnds.{losing_priority}
use Rattle.omega_pg_lenient.specs.Symbols.{LenientSymbol, comma, name, number}
use Rattle.omega_pg_lenient.specs.Symbols.{parity, paritysol, semicolon, start}
use Rattle.omega_pg.specs.private.reader.Run.{run_by}
use Rattle.omega_pg_lenient.specs.declared.stage.LenientStage.{LenientStage}
use Rattle.omega_pg_lenient.specs.declared.stage.LenientStage.TheVariants.{Comma, Ended, HeaderNumber}
use Rattle.omega_pg_lenient.specs.declared.stage.LenientStage.TheVariants.{HeaderWord, Identifier, Listed}
use Rattle.omega_pg_lenient.specs.declared.stage.LenientStage.TheVariants.{Named, Opening, Owner}
use Rattle.omega_pg_lenient.specs.declared.stage.LenientStage.TheVariants.{Priority, StartNumber, StartWord}

-- what was read so far: the stage and the completed specifications
pub record LenientState : Type 0 where
  pub stage : LenientStage
  pub specs : List NodeSpec

-- the state before the first symbol
abbrev pub initial : LenientState
initial = record { stage = Opening false false; specs = [] }

-- the state at another stage
abbrev pub to_stage : LenientStage → LenientState → LenientState
to_stage stage state = record state { stage = stage }

-- the player that has a number, if there is one
abbrev pub player_of : ℕ → Option Player
player_of n = if n == 0 then Some Zero else (if n == 1 then Some One else None)

-- a completed dead end without a name
abbrev pub dead_end : ℕ → Player → NodeSpec
dead_end id owner = unnamed_spec id (losing_priority owner) owner (id ∷ [])

-- the state with one specification more
abbrev pub with_node : LenientStage → NodeSpec → LenientState → LenientState
with_node stage spec state = record { stage = stage; specs = state.specs ++ spec ∷ [] }

-- the state with its last specification changed
abbrev pub with_change : LenientStage → (NodeSpec → NodeSpec) → LenientState → LenientState
with_change stage change state = record { stage = stage; specs = with_last change state.specs }

-- the state after the number of an owner, if a player has it
abbrev pub after_owner : LenientState → ℕ → ℕ → ℕ → Option LenientState
after_owner state id priority n =
    option_map (λ owner. to_stage (Owner id priority owner) state) (player_of n)

-- the state after a number
abbrev pub after_number : LenientStage → LenientState → ℕ → Option LenientState
after_number (Opening headed started) state n = Some (to_stage (Identifier n) state)
after_number (HeaderWord started) state n = Some (to_stage (HeaderNumber started) state)
after_number (HeaderNumber started) state n = None
after_number (StartWord headed) state n = Some (to_stage (StartNumber headed) state)
after_number (StartNumber headed) state n = None
after_number Ended state n = Some (to_stage (Identifier n) state)
after_number (Identifier id) state n = Some (to_stage (Priority id n) state)
after_number (Priority id priority) state n = after_owner state id priority n
after_number (Owner id priority owner) state n =
    Some (with_node Listed (unnamed_spec id priority owner (n ∷ [])) state)
after_number Listed state n = None
after_number Comma state n = Some (with_change Listed (with_successor n) state)
after_number Named state n = None

-- the state after the word `parity`
abbrev pub after_parity : LenientStage → LenientState → Option LenientState
after_parity (Opening false started) state = Some (to_stage (HeaderWord started) state)
after_parity _ state = None

-- the state after the word `start`
abbrev pub after_start : LenientStage → LenientState → Option LenientState
after_start (Opening headed false) state = Some (to_stage (StartWord headed) state)
after_start _ state = None

-- the state after a semicolon
abbrev pub after_semicolon : LenientStage → LenientState → Option LenientState
after_semicolon (HeaderNumber started) state = Some (to_stage (Opening true started) state)
after_semicolon (StartNumber headed) state = Some (to_stage (Opening headed true) state)
after_semicolon (Owner id priority owner) state = Some (with_node Ended (dead_end id owner) state)
after_semicolon Listed state = Some (to_stage Ended state)
after_semicolon Named state = Some (to_stage Ended state)
after_semicolon _ state = None

-- the state after a comma
abbrev pub after_comma : LenientStage → LenientState → Option LenientState
after_comma Listed state = Some (to_stage Comma state)
after_comma _ state = None

-- the state after a name
abbrev pub after_name : LenientStage → LenientState → List ℕ → Option LenientState
after_name (Owner id priority owner) state bytes =
    Some (with_change Named (with_name bytes) (with_node Named (dead_end id owner) state))
after_name Listed state bytes = Some (with_change Named (with_name bytes) state)
after_name _ state bytes = None

-- the state after a symbol, or none if no text of the grammar goes on with it
abbrev pub step : LenientState → LenientSymbol → Option LenientState
step state (number n) = after_number state.stage state n
step state parity = after_parity state.stage state
step state paritysol = None
step state start = after_start state.stage state
step state semicolon = after_semicolon state.stage state
step state comma = after_comma state.stage state
step state (name bytes) = after_name state.stage state bytes

-- the state after symbols
abbrev pub run : LenientState → List LenientSymbol → Option LenientState
run = run_by step

-- a text may end here
abbrev pub MayEnd : LenientStage → Type 0
MayEnd (Owner id priority owner) = Unit {0}
MayEnd Listed = Unit {0}
MayEnd Named = Unit {0}
MayEnd Ended = Unit {0}
MayEnd _ = ⊥

-- the specifications of a text that ends at a stage, where a last dead end may be open
abbrev pub ended_specs : LenientStage → List NodeSpec → List NodeSpec
ended_specs (Owner id priority owner) specs = specs ++ dead_end id owner ∷ []
ended_specs _ specs = specs

-- at a stage the numbers that it keeps are within the limit, and an open specification is there
abbrev pub IsReadyAt : LenientStage → List NodeSpec → Type 0
IsReadyAt (Opening headed started) specs = Unit {0}
IsReadyAt (HeaderWord started) specs = Unit {0}
IsReadyAt (HeaderNumber started) specs = Unit {0}
IsReadyAt (StartWord headed) specs = Unit {0}
IsReadyAt (StartNumber headed) specs = Unit {0}
IsReadyAt Ended specs = 0 < length specs
IsReadyAt (Identifier id) specs = id ≤ most_number
IsReadyAt (Priority id priority) specs = (id ≤ most_number) × (priority ≤ most_number)
IsReadyAt (Owner id priority owner) specs = (id ≤ most_number) × (priority ≤ most_number)
IsReadyAt Listed specs = 0 < length specs
IsReadyAt Comma specs = 0 < length specs
IsReadyAt Named specs = 0 < length specs

-- this holds of the stage and the specifications of a state
abbrev pub IsReady : LenientState → Type 0
IsReady state = IsReadyAt state.stage state.specs

-- the symbols lead from the first state to this one, which is ready
abbrev pub IsReachedBy : List LenientSymbol → LenientState → Type 0
IsReachedBy symbols state = (run initial symbols ≡ Some state) × IsReady state

-- a call took a symbol, and its new state is the next one; or it refused it, and there is no next one
abbrev pub Takes : Bool → Option LenientState → LenientState → Type 0
Takes true next new = (next ≡ Some new) × IsReady new
Takes false next new = next ≡ None
