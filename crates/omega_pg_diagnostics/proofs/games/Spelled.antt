-- What is read of each spelling of a game text is what is written.
use Rattle.std.proofs.Common.{◌≡◌, ℕ, append-nil, Option, Some, None, List, [], ◌∷◌, ◌++◌, map, refl, ap, sym, ◌∙◌, append_assoc}
use Rattle.std.specs.List.{flat_map}
use Rattle.omega_pg_diagnostics.specs.GameCauses.{listed_pairs, specified_ids}
use Rattle.omega_pg_diagnostics.specs.private.WrittenGame.{Keeps, Written, nothing, run}
use Rattle.omega_pg_diagnostics.specs.declared.written_game.NextGameNumber.{NextGameNumber}
use Rattle.omega_pg_diagnostics.specs.declared.written_game.NextGameNumber.TheVariants.{Identifier, Successor}
use Rattle.omega_game_values.specs.declared.node_spec.NodeSpec.{NodeSpec}
use Rattle.omega_pg.specs.Symbols.{PgSymbol, comma, number, semicolon}
use Rattle.omega_pg.specs.game.Grammar.{RawGame, game_symbols, header_symbols, name_symbols, node_symbols, successor_symbols}

-- what was read, by its parts
abbrev pub at : NextGameNumber → Option ℕ → List ℕ → List (ℕ × ℕ) → Written
at next header ids listed = record { next = next; header = header; ids = ids; listed = listed }

-- each successor after a node
abbrev pairs : ℕ → List ℕ → List (ℕ × ℕ)
pairs node successors = map (λ successor. (node, successor)) successors

-- further successors are read
run_others : (header : Option ℕ) (ids : List ℕ) (listed : List (ℕ × ℕ)) (node : ℕ) (others : List ℕ) (rest : List PgSymbol)
    → run (at (Successor node) header ids listed) (flat_map (λ id. comma ∷ number id ∷ []) others ++ rest)
    ≡ run (at (Successor node) header ids (listed ++ pairs node others)) rest
run_others header ids listed node [] rest =
    ap (λ list. run (at (Successor node) header ids list) rest) (sym (append-nil listed))
run_others header ids listed node (id ∷ others) rest =
    run_others header ids (listed ++ (node, id) ∷ []) node others rest
    ∙ ap (λ list. run (at (Successor node) header ids list) rest) (append_assoc listed ((node, id) ∷ []) (pairs node others))

-- a name and the semicolon are read
run_end : (header : Option ℕ) (ids : List ℕ) (listed : List (ℕ × ℕ)) (node : ℕ) (called : Option (List ℕ)) (rest : List PgSymbol)
    → run (at (Successor node) header ids listed) ((name_symbols called ++ semicolon ∷ []) ++ rest)
    ≡ run (at Identifier header ids listed) rest
run_end header ids listed node None rest = refl
run_end header ids listed node (Some bytes) rest = refl

-- the successors of a node and its end are read
run_successors : (header : Option ℕ) (ids : List ℕ) (listed : List (ℕ × ℕ)) (node : ℕ) (successors : List ℕ) (called : Option (List ℕ)) (rest : List PgSymbol)
    → run (at (Successor node) header ids listed) ((successor_symbols successors ++ (name_symbols called ++ semicolon ∷ [])) ++ rest)
    ≡ run (at Identifier header ids (listed ++ pairs node successors)) rest
run_successors header ids listed node [] called rest =
    run_end header ids listed node called rest
    ∙ ap (λ list. run (at Identifier header ids list) rest) (sym (append-nil listed))
run_successors header ids listed node (first ∷ others) called rest =
    ap (λ symbols. run (at (Successor node) header ids (listed ++ (node, first) ∷ [])) symbols)
    (append_assoc (flat_map (λ id. comma ∷ number id ∷ []) others) (name_symbols called ++ semicolon ∷ []) rest)
    ∙ run_others header ids (listed ++ (node, first) ∷ []) node others ((name_symbols called ++ semicolon ∷ []) ++ rest)
    ∙ ap (λ list. run (at (Successor node) header ids list) ((name_symbols called ++ semicolon ∷ []) ++ rest)) (append_assoc listed ((node, first) ∷ []) (pairs node others))
    ∙ run_end header ids (listed ++ pairs node (first ∷ others)) node called rest

-- a node is read
run_node : (header : Option ℕ) (ids : List ℕ) (listed : List (ℕ × ℕ)) (spec : NodeSpec) (rest : List PgSymbol)
    → run (at Identifier header ids listed) (node_symbols spec ++ rest)
    ≡ run (at Identifier header (ids ++ spec.id ∷ []) (listed ++ pairs spec.id spec.successors)) rest
run_node header ids listed spec rest = run_successors header (ids ++ spec.id ∷ []) listed spec.id spec.successors spec.name rest

-- nodes are read
run_nodes : (header : Option ℕ) (ids : List ℕ) (listed : List (ℕ × ℕ)) (specs : List NodeSpec)
    → run (at Identifier header ids listed) (flat_map node_symbols specs)
    ≡ at Identifier header (ids ++ specified_ids specs) (listed ++ listed_pairs specs)
run_nodes header ids listed [] =
    ap (λ list. at Identifier header list listed) (sym (append-nil ids))
    ∙ ap (λ list. at Identifier header (ids ++ []) list) (sym (append-nil listed))
run_nodes header ids listed (spec ∷ specs) =
    run_node header ids listed spec (flat_map node_symbols specs)
    ∙ run_nodes header (ids ++ spec.id ∷ []) (listed ++ pairs spec.id spec.successors) specs
    ∙ ap (λ list. at Identifier header list ((listed ++ pairs spec.id spec.successors) ++ listed_pairs specs)) (append_assoc ids (spec.id ∷ []) (specified_ids specs))
    ∙ ap (λ list. at Identifier header (ids ++ specified_ids (spec ∷ specs)) list) (append_assoc listed (pairs spec.id spec.successors) (listed_pairs specs))

-- a header, if there is one, and nodes are read
run_text : (header : Option ℕ) (specs : List NodeSpec)
    → run nothing (header_symbols header ++ flat_map node_symbols specs) ≡ at Identifier header (specified_ids specs) (listed_pairs specs)
run_text None specs = run_nodes None [] [] specs
run_text (Some n) specs = run_nodes (Some n) [] [] specs

-- what is read of a text is what is written
pub read_is_kept : (raw : RawGame) (written : Written) → written ≡ run nothing (game_symbols raw) → Keeps raw written
read_is_kept raw written read =
    let all = read ∙ run_text raw.header raw.specs in
    record { header = ap (λ (w : Written). w.header) all; ids = ap (λ (w : Written). w.ids) all; listed = ap (λ (w : Written). w.listed) all }
