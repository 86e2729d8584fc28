-- The automaton runs over each spelling, and keeps what it says.
use Rattle.std.proofs.Common.{◌≡◌, ℕ, ◌<◌, Bool, false, append-nil, Option, Some, None, List, [], ◌∷◌, ◌++◌, length, map, refl, ap, sym, ◌∙◌, append_assoc, arith}
use Rattle.std.specs.List.{flat_map}
use Rattle.omega_game_values.specs.Building.{unnamed_spec, with_name, with_successor}
use Rattle.omega_game_values.specs.Player.{player_number}
use Rattle.omega_game_values.specs.declared.node_spec.NodeSpec.{NodeSpec}
use Rattle.omega_game_values.specs.declared.player.Player.{Player}
use Rattle.omega_game_values.specs.declared.player.Player.TheVariants.{One, Zero}
use Rattle.omega_pg_lenient.specs.DeadEnds.{completed}
use Rattle.omega_pg_lenient.specs.Grammar.{IsOpening, first_node, header, name_symbols, node_symbols, nothing, successor_symbols}
use Rattle.omega_pg_lenient.specs.Symbols.{LenientSymbol, comma, number, parity, semicolon, start}
use Rattle.omega_pg_lenient.specs.private.Automaton.{dead_end, initial, run}
use Rattle.omega_pg_lenient.specs.declared.stage.LenientStage.TheVariants.{Ended, Listed, Opening, Owner, Priority}
use Rattle.omega_pg_lenient.proofs.grammar.Changes.{with_last_push}
use Rattle.omega_pg_lenient.proofs.grammar.Shown.{at}

-- an opening leads to the stage before the nodes
run_opening : (headed started : Bool) (opening rest : List LenientSymbol) → IsOpening headed started opening
    → run initial (opening ++ rest) ≡ run (at (Opening headed started) []) rest
run_opening _ _ _ rest nothing = refl
run_opening _ _ _ rest (header started symbols n opens) =
    ap (run initial) (append_assoc symbols (parity ∷ number n ∷ semicolon ∷ []) rest)
    ∙ run_opening false started symbols (parity ∷ number n ∷ semicolon ∷ rest) opens
run_opening _ _ _ rest (first_node headed symbols n opens) =
    ap (run initial) (append_assoc symbols (start ∷ number n ∷ semicolon ∷ []) rest)
    ∙ run_opening headed false symbols (start ∷ number n ∷ semicolon ∷ rest) opens

-- further successors are added to the last specification
run_successors : (specs : List NodeSpec) (spec : NodeSpec) (others : List ℕ) (rest : List LenientSymbol)
    → run (at Listed (specs ++ spec ∷ [])) (flat_map (λ id. comma ∷ number id ∷ []) others ++ rest)
    ≡ run (at Listed (specs ++ record spec { successors = spec.successors ++ others } ∷ [])) rest
run_successors specs spec [] rest =
    ap (λ successors. run (at Listed (specs ++ record spec { successors = successors } ∷ [])) rest) (sym (append-nil spec.successors))
run_successors specs spec (id ∷ others) rest =
    ap (λ list. run (at Listed list) (flat_map (λ id. comma ∷ number id ∷ []) others ++ rest)) (with_last_push (with_successor id) specs spec)
    ∙ run_successors specs (with_successor id spec) others rest
    ∙ ap (λ successors. run (at Listed (specs ++ record spec { successors = successors } ∷ [])) rest) (append_assoc spec.successors (id ∷ []) others)

-- a name and the semicolon end the last specification
run_end : (specs : List NodeSpec) (spec : NodeSpec) (called : Option (List ℕ)) (rest : List LenientSymbol) → spec.name ≡ None
    → run (at Listed (specs ++ spec ∷ [])) ((name_symbols called ++ semicolon ∷ []) ++ rest)
    ≡ run (at Ended (specs ++ record spec { name = called } ∷ [])) rest
run_end specs spec None rest unnamed = ap (λ called. run (at Ended (specs ++ record spec { name = called } ∷ [])) rest) unnamed
run_end specs spec (Some bytes) rest unnamed =
    ap (λ list. run (at Ended list) rest) (with_last_push (with_name bytes) specs spec)

-- the symbols of a node after its owner add its specification
run_open : (specs : List NodeSpec) (id priority : ℕ) (owner : Player) (successors : List ℕ) (called : Option (List ℕ)) (rest : List LenientSymbol)
    → run (at (Owner id priority owner) specs) ((successor_symbols successors ++ (name_symbols called ++ semicolon ∷ [])) ++ rest)
    ≡ run (at Ended (specs ++ completed (record { id = id; priority = priority; owner = owner; successors = successors; name = called }) ∷ [])) rest
run_open specs id priority owner [] None rest = refl
run_open specs id priority owner [] (Some bytes) rest =
    ap (λ list. run (at Ended list) rest) (with_last_push (with_name bytes) specs (dead_end id owner))
run_open specs id priority owner (first ∷ others) called rest =
    ap (λ symbols. run (at Listed (specs ++ unnamed_spec id priority owner (first ∷ []) ∷ [])) symbols)
    (append_assoc (flat_map (λ id. comma ∷ number id ∷ []) others) (name_symbols called ++ semicolon ∷ []) rest)
    ∙ run_successors specs (unnamed_spec id priority owner (first ∷ [])) others ((name_symbols called ++ semicolon ∷ []) ++ rest)
    ∙ run_end specs (unnamed_spec id priority owner (first ∷ others)) called rest refl

run_owner : (specs : List NodeSpec) (id priority : ℕ) (owner : Player) (symbols : List LenientSymbol)
    → run (at (Priority id priority) specs) (number (player_number owner) ∷ symbols) ≡ run (at (Owner id priority owner) specs) symbols
run_owner specs id priority Zero symbols = refl
run_owner specs id priority One symbols = refl

-- the symbols of a node add its specification
run_node : (specs : List NodeSpec) (spec : NodeSpec) (rest : List LenientSymbol)
    → run (at Ended specs) (node_symbols spec ++ rest) ≡ run (at Ended (specs ++ completed spec ∷ [])) rest
run_node specs spec rest =
    run_owner specs spec.id spec.priority spec.owner _
    ∙ run_open specs spec.id spec.priority spec.owner spec.successors spec.name rest

-- so do those of many nodes
run_nodes : (specs more : List NodeSpec) → run (at Ended specs) (flat_map node_symbols more) ≡ Some (at Ended (specs ++ map completed more))
run_nodes specs [] = ap (λ list. Some (at Ended list)) (sym (append-nil specs))
run_nodes specs (spec ∷ more) =
    run_node specs spec (flat_map node_symbols more)
    ∙ run_nodes (specs ++ completed spec ∷ []) more
    ∙ ap (λ list. Some (at Ended list)) (append_assoc specs (completed spec ∷ []) (map completed more))

-- after an opening a node begins as after another node
run_first : (headed started : Bool) (written : List NodeSpec) → 0 < length written
    → run (at (Opening headed started) []) (flat_map node_symbols written) ≡ run (at Ended []) (flat_map node_symbols written)
run_first headed started [] some = absurd (omega (arith, some))
run_first headed started (spec ∷ more) some = refl

-- an opening and nodes are run to the end of the last
pub run_whole : (headed started : Bool) (opening : List LenientSymbol) (written : List NodeSpec) → IsOpening headed started opening → 0 < length written
    → run initial (opening ++ flat_map node_symbols written) ≡ Some (at Ended (map completed written))
run_whole headed started opening written opens some =
    run_opening headed started opening (flat_map node_symbols written) opens
    ∙ run_first headed started written some
    ∙ run_nodes [] written
