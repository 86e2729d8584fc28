-- The automaton runs over each spelling, and keeps what it says.
use Rattle.std.proofs.Common.{◌≡◌, ℕ, ◌<◌, Bool, false, append-nil, Option, Some, None, List, [], ◌∷◌, ◌++◌, length, refl, ap, sym, ◌∙◌, append_assoc, arith, All, ◌||◌}
use Rattle.std.specs.List.{flat_map}
use Rattle.std.proofs.lemmas.List.Elements.{All-head, All-tail}
use Rattle.omega_game_values.specs.Building.{with_name, with_successor}
use Rattle.omega_game_values.specs.declared.node_spec.NodeSpec.{NodeSpec}
use Rattle.omega_game_values.specs.declared.player.Player.{Player}
use Rattle.omega_game_values.specs.declared.player.Player.TheVariants.{One, Zero}
use Rattle.omega_pg.specs.private.game.reader.Automaton.{GameReaderState, begun, initial, is_above, run}
use Rattle.omega_pg.specs.game.Grammar.{RawGame, SpellsGame, header_symbols, name_symbols, node_symbols, successor_symbols}
use Rattle.omega_pg.specs.Symbols.{PgSymbol, comma, number, semicolon}
use Rattle.omega_game_values.specs.Player.{player_number}
use Rattle.omega_pg.specs.declared.game.stage.GameStage.{GameStage}
use Rattle.omega_pg.specs.declared.game.stage.GameStage.TheVariants.{Ended, Identifier, Listed, Owner, Priority}
use Rattle.omega_pg.proofs.games.Changes.{with_last_push}

-- a state with these parts
abbrev pub at : GameStage → Option ℕ → List NodeSpec → Bool → GameReaderState
at stage header specs small = record { stage = stage; header = header; specs = specs; header_too_small = small }

-- further successors are added to the last specification
run_successors : (header : Option ℕ) (small : Bool) (specs : List NodeSpec) (spec : NodeSpec) (others : List ℕ) (rest : List PgSymbol)
    → run (at Listed header (specs ++ spec ∷ []) small) (flat_map (λ id. comma ∷ number id ∷ []) others ++ rest)
    ≡ run (at Listed header (specs ++ record spec { successors = spec.successors ++ others } ∷ []) small) rest
run_successors header small specs spec [] rest =
    ap (λ successors. run (at Listed header (specs ++ record spec { successors = successors } ∷ []) small) rest) (sym (append-nil spec.successors))
run_successors header small specs spec (id ∷ others) rest =
    ap (λ list. run (at Listed header list small) (flat_map (λ id. comma ∷ number id ∷ []) others ++ rest)) (with_last_push (with_successor id) specs spec)
    ∙ run_successors header small specs (with_successor id spec) others rest
    ∙ ap (λ successors. run (at Listed header (specs ++ record spec { successors = successors } ∷ []) small) rest) (append_assoc spec.successors (id ∷ []) others)

-- a name and the semicolon end the last specification
run_end : (header : Option ℕ) (small : Bool) (specs : List NodeSpec) (spec : NodeSpec) (called : Option (List ℕ)) (rest : List PgSymbol)
    → spec.name ≡ None
    → run (at Listed header (specs ++ spec ∷ []) small) ((name_symbols called ++ semicolon ∷ []) ++ rest)
    ≡ run (at Ended header (specs ++ record spec { name = called } ∷ []) small) rest
run_end header small specs spec None rest e =
    ap (λ called. run (at Ended header (specs ++ record spec { name = called } ∷ []) small) rest) e
run_end header small specs spec (Some bytes) rest e =
    ap (λ list. run (at Ended header list small) rest) (with_last_push (with_name bytes) specs spec)

-- the symbols of a node add its specification
run_open : (header : Option ℕ) (small : Bool) (specs : List NodeSpec) (id priority : ℕ) (owner : Player) (successors : List ℕ) (called : Option (List ℕ)) (rest : List PgSymbol)
    → 0 < length successors
    → run (at (Owner id priority owner) header specs small) ((successor_symbols successors ++ (name_symbols called ++ semicolon ∷ [])) ++ rest)
    ≡ run (at Ended header (specs ++ record { id = id; priority = priority; owner = owner; successors = successors; name = called } ∷ []) (small || is_above header id)) rest
run_open header small specs id priority owner [] called rest h = absurd (omega (arith, h))
run_open header small specs id priority owner (first ∷ others) called rest h =
    ap (λ symbols. run (at Listed header (specs ++ begun id priority owner first ∷ []) (small || is_above header id)) symbols)
    (append_assoc (flat_map (λ id. comma ∷ number id ∷ []) others) (name_symbols called ++ semicolon ∷ []) rest)
    ∙ run_successors header (small || is_above header id) specs (begun id priority owner first) others ((name_symbols called ++ semicolon ∷ []) ++ rest)
    ∙ run_end header (small || is_above header id) specs (record { id = id; priority = priority; owner = owner; successors = first ∷ others; name = None }) called rest refl

run_owner : (header : Option ℕ) (small : Bool) (specs : List NodeSpec) (id priority : ℕ) (owner : Player) (symbols : List PgSymbol)
    → run (at (Priority id priority) header specs small) (number (player_number owner) ∷ symbols)
    ≡ run (at (Owner id priority owner) header specs small) symbols
run_owner header small specs id priority Zero symbols = refl
run_owner header small specs id priority One symbols = refl

pub run_node : (header : Option ℕ) (small : Bool) (specs : List NodeSpec) (spec : NodeSpec) (rest : List PgSymbol)
    → 0 < length spec.successors
    → run (at (Identifier spec.id) header specs small) (number spec.priority ∷ number (player_number spec.owner)
    ∷ ((successor_symbols spec.successors ++ (name_symbols spec.name ++ semicolon ∷ [])) ++ rest))
    ≡ run (at Ended header (specs ++ spec ∷ []) (small || is_above header spec.id)) rest
run_node header small specs spec rest h =
    run_owner header small specs spec.id spec.priority spec.owner _
    ∙ run_open header small specs spec.id spec.priority spec.owner spec.successors spec.name rest h

-- a run ended after nodes, and kept these
pub record Keeps (state : GameReaderState) (symbols : List PgSymbol) (header : Option ℕ) (specs : List NodeSpec) : Type 0 where
  pub small : Bool
  pub runs : run state symbols ≡ Some (at Ended header specs small)

-- the symbols of nodes add their specifications
run_nodes : (header : Option ℕ) (small : Bool) (specs more : List NodeSpec)
    → All (λ spec. 0 < length spec.successors) more
    → Keeps (at Ended header specs small) (flat_map node_symbols more) header (specs ++ more)
run_nodes header small specs [] h = record { small = small; runs = ap (λ list. Some (at Ended header list small)) (sym (append-nil specs)) }
run_nodes header small specs (spec ∷ more) h =
    let tail = run_nodes header (small || is_above header spec.id) (specs ++ spec ∷ []) more (All-tail (λ spec. 0 < length spec.successors) spec more h) in
    record {
      small = tail.small;
      runs = run_node header small specs spec (flat_map node_symbols more) (All-head (λ spec. 0 < length spec.successors) spec more h)
          ∙ tail.runs
          ∙ ap (λ list. Some (at Ended header list tail.small)) (append_assoc specs (spec ∷ []) more);
    }

-- a spelling is run from the beginning
run_spelling : (header : Option ℕ) (specs : List NodeSpec) → 0 < length specs → All (λ spec. 0 < length spec.successors) specs
    → Keeps initial (header_symbols header ++ flat_map node_symbols specs) header specs
run_spelling header [] h all = absurd (omega (arith, h))
run_spelling None (spec ∷ more) h all =
    let tail = run_nodes None (false || is_above None spec.id) (spec ∷ []) more (All-tail (λ spec. 0 < length spec.successors) spec more all) in
    record {
      small = tail.small;
      runs = run_node None false [] spec (flat_map node_symbols more) (All-head (λ spec. 0 < length spec.successors) spec more all) ∙ tail.runs;
    }
run_spelling (Some n) (spec ∷ more) h all =
    let tail = run_nodes (Some n) (false || is_above (Some n) spec.id) (spec ∷ []) more (All-tail (λ spec. 0 < length spec.successors) spec more all) in
    record {
      small = tail.small;
      runs = run_node (Some n) false [] spec (flat_map node_symbols more) (All-head (λ spec. 0 < length spec.successors) spec more all) ∙ tail.runs;
    }

-- each text of the grammar is run, and kept
pub run_text : (symbols : List PgSymbol) (raw : RawGame) → SpellsGame symbols raw → Keeps initial symbols raw.header raw.specs
run_text symbols raw text =
    let found = run_spelling raw.header raw.specs text.specified text.continued in
    record { small = found.small; runs = ap (run initial) text.spelled ∙ found.runs }
