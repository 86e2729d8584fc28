-- What a state shows: the symbols that lead to it.
use Rattle.std.proofs.Common.{◌≡◌, ℕ, ◌<◌, length-append, Bool, true, false, append-nil, Some, None, List, [], ◌∷◌, ◌++◌, length, map, refl, ap, sym, ◌∙◌, subst, append_assoc, arith, IfSome}
use Rattle.std.specs.Prelude.{option_map}
use Rattle.std.specs.List.{flat_map}
use Rattle.std.proofs.lemmas.List.{map-append}
use Rattle.std.proofs.lemmas.List.Concat.{flat_map-append}
use Rattle.omega_game_values.specs.Building.{unnamed_spec, with_last, with_name, with_successor}
use Rattle.omega_game_values.specs.Player.{player_number}
use Rattle.omega_game_values.specs.declared.node_spec.NodeSpec.{NodeSpec}
use Rattle.omega_pg_lenient.specs.DeadEnds.{completed, completed_by}
use Rattle.omega_pg_lenient.specs.Grammar.{IsOpening, first_node, header, name_symbols, node_symbols, successor_symbols}
use Rattle.omega_pg_lenient.specs.Symbols.{LenientSymbol, comma, name, number, parity, paritysol, semicolon, start}
use Rattle.omega_pg_lenient.specs.private.Automaton.{LenientState, after_comma, after_name, after_number, after_parity, after_semicolon, after_start, dead_end, player_of, step, to_stage}
use Rattle.omega_pg_lenient.specs.declared.stage.LenientStage.{LenientStage}
use Rattle.omega_pg_lenient.specs.declared.stage.LenientStage.TheVariants.{Comma, Ended, HeaderNumber, HeaderWord, Identifier, Listed, Named, Opening, Owner, Priority, StartNumber, StartWord}
use Rattle.omega_pg_lenient.proofs.grammar.Changes.{with_last_push}
use Rattle.omega_pg_lenient.proofs.grammar.Players.{player_of-number}

-- a state with these parts
abbrev pub at : LenientStage → List NodeSpec → LenientState
at stage specs = record { stage = stage; specs = specs }

-- the symbols are an opening and whole nodes, which are completed to these
pub record IsWhole (specs : List NodeSpec) (symbols : List LenientSymbol) : Type 0 where
  pub headed : Bool
  pub started : Bool
  pub opening : List LenientSymbol
  pub opens : IsOpening headed started opening
  pub written : List NodeSpec
  pub spelled : symbols ≡ opening ++ flat_map node_symbols written
  pub completes : specs ≡ map completed written

-- an opening, and then these symbols of a statement
pub record IsStatement (headed started : Bool) (specs : List NodeSpec) (begun symbols : List LenientSymbol) : Type 0 where
  pub empty : specs ≡ []
  pub before : List LenientSymbol
  pub opens : IsOpening headed started before
  pub shown : symbols ≡ before ++ begun

-- whole nodes, and then these symbols of another
pub record IsBegun (specs : List NodeSpec) (begun symbols : List LenientSymbol) : Type 0 where
  pub before : List LenientSymbol
  pub whole : IsWhole specs before
  pub shown : symbols ≡ before ++ begun

-- the symbols of a node without its name and its end
abbrev pub front : NodeSpec → List LenientSymbol
front spec = number spec.id ∷ number spec.priority ∷ number (player_number spec.owner) ∷ successor_symbols spec.successors

-- whole nodes, and then a node with successors and without a name, and these symbols
pub record IsListed (specs : List NodeSpec) (more symbols : List LenientSymbol) : Type 0 where
  pub done : List NodeSpec
  pub before : List LenientSymbol
  pub whole : IsWhole done before
  pub last : NodeSpec
  pub continued : 0 < length last.successors
  pub unnamed : last.name ≡ None
  pub split : specs ≡ done ++ last ∷ []
  pub shown : symbols ≡ before ++ (front last ++ more)

-- whole nodes, and at least one
abbrev pub AreNodes : List NodeSpec → List LenientSymbol → Type 0
AreNodes specs symbols = (0 < length specs) × IsWhole specs symbols

-- the symbols lead to a stage with these specifications
abbrev pub ShowsAt : LenientStage → List NodeSpec → List LenientSymbol → Type 0
ShowsAt (Opening headed started) specs symbols = (specs ≡ []) × IsOpening headed started symbols
ShowsAt (HeaderWord started) specs symbols = IsStatement false started specs (parity ∷ []) symbols
ShowsAt (HeaderNumber started) specs symbols = (n : ℕ) × IsStatement false started specs (parity ∷ number n ∷ []) symbols
ShowsAt (StartWord headed) specs symbols = IsStatement headed false specs (start ∷ []) symbols
ShowsAt (StartNumber headed) specs symbols = (n : ℕ) × IsStatement headed false specs (start ∷ number n ∷ []) symbols
ShowsAt Ended specs symbols = AreNodes specs symbols
ShowsAt (Identifier id) specs symbols = IsBegun specs (number id ∷ []) symbols
ShowsAt (Priority id priority) specs symbols = IsBegun specs (number id ∷ number priority ∷ []) symbols
ShowsAt (Owner id priority owner) specs symbols = IsBegun specs (number id ∷ number priority ∷ number (player_number owner) ∷ []) symbols
ShowsAt Listed specs symbols = IsListed specs [] symbols
ShowsAt Comma specs symbols = IsListed specs (comma ∷ []) symbols
ShowsAt Named specs symbols = AreNodes specs (symbols ++ semicolon ∷ [])

-- the symbols lead to the state
abbrev pub Shows : LenientState → List LenientSymbol → Type 0
Shows state symbols = ShowsAt state.stage state.specs symbols

-- with successors nothing is completed
completed_by-live : (successors : List ℕ) (spec : NodeSpec) → 0 < length successors → completed_by successors spec ≡ spec
completed_by-live [] spec some = absurd (omega (arith, some))
completed_by-live (first ∷ others) spec some = refl

-- an opening alone
whole_opening : (headed started : Bool) (specs : List NodeSpec) (symbols : List LenientSymbol) → specs ≡ [] → IsOpening headed started symbols → IsWhole specs symbols
whole_opening headed started specs symbols empty opens = record {
  headed = headed;
  started = started;
  opening = symbols;
  opens = opens;
  written = [];
  spelled = sym (append-nil symbols);
  completes = empty;
}

-- one node more
whole_push : (specs : List NodeSpec) (before : List LenientSymbol) (spec : NodeSpec) → IsWhole specs before
    → IsWhole (specs ++ completed spec ∷ []) (before ++ node_symbols spec)
whole_push specs before spec whole = record {
  headed = whole.headed;
  started = whole.started;
  opening = whole.opening;
  opens = whole.opens;
  written = whole.written ++ spec ∷ [];
  spelled = ap (λ list. list ++ node_symbols spec) whole.spelled
      ∙ append_assoc whole.opening (flat_map node_symbols whole.written) (node_symbols spec)
      ∙ ap (λ list. whole.opening ++ list)
      (sym (flat_map-append node_symbols whole.written (spec ∷ []) ∙ ap (λ list. flat_map node_symbols whole.written ++ list) (append-nil (node_symbols spec))));
  completes = ap (λ list. list ++ completed spec ∷ []) whole.completes ∙ sym (map-append completed whole.written (spec ∷ []));
}

-- nodes with one more, said of equal specifications and symbols
nodes_push : (specs all : List NodeSpec) (before symbols : List LenientSymbol) (spec : NodeSpec) → IsWhole specs before
    → all ≡ specs ++ completed spec ∷ [] → symbols ≡ before ++ node_symbols spec → AreNodes all symbols
nodes_push specs all before symbols spec whole is_all is_symbols = (
  omega (arith, ap length is_all, length-append specs (completed spec ∷ [])),
  subst (λ list. IsWhole list symbols) (sym is_all) (subst (IsWhole (specs ++ completed spec ∷ [])) (sym is_symbols) (whole_push specs before spec whole)),
)

-- one symbol more
shown_push : (before begun symbols : List LenientSymbol) (symbol : LenientSymbol) → symbols ≡ before ++ begun
    → symbols ++ symbol ∷ [] ≡ before ++ (begun ++ symbol ∷ [])
shown_push before begun symbols symbol shown = ap (λ list. list ++ symbol ∷ []) shown ∙ append_assoc before begun (symbol ∷ [])

begun_push : (specs : List NodeSpec) (begun symbols : List LenientSymbol) (symbol : LenientSymbol) → IsBegun specs begun symbols
    → IsBegun specs (begun ++ symbol ∷ []) (symbols ++ symbol ∷ [])
begun_push specs begun symbols symbol shows = record {
  before = shows.before;
  whole = shows.whole;
  shown = shown_push shows.before begun symbols symbol shows.shown;
}

statement_push : (headed started : Bool) (specs : List NodeSpec) (begun symbols : List LenientSymbol) (symbol : LenientSymbol)
    → IsStatement headed started specs begun symbols → IsStatement headed started specs (begun ++ symbol ∷ []) (symbols ++ symbol ∷ [])
statement_push headed started specs begun symbols symbol shows = record {
  empty = shows.empty;
  before = shows.before;
  opens = shows.opens;
  shown = shown_push shows.before begun symbols symbol shows.shown;
}

-- a node begins after whole nodes
begun_first : (specs : List NodeSpec) (symbols : List LenientSymbol) (n : ℕ) → IsWhole specs symbols → IsBegun specs (number n ∷ []) (symbols ++ number n ∷ [])
begun_first specs symbols n whole = record { before = symbols; whole = whole; shown = refl }

-- one successor more is written after a comma
successor_symbols-push : (successors : List ℕ) (id : ℕ) → 0 < length successors
    → successor_symbols (successors ++ id ∷ []) ≡ successor_symbols successors ++ comma ∷ number id ∷ []
successor_symbols-push [] id h = absurd (omega (arith, h))
successor_symbols-push (first ∷ others) id h = ap (λ list. number first ∷ list) (flat_map-append (λ id. comma ∷ number id ∷ []) others (id ∷ []))

-- what a number leads to is shown
number_shown : (stage : LenientStage) (specs : List NodeSpec) (symbols : List LenientSymbol) (n : ℕ) → ShowsAt stage specs symbols
    → IfSome (after_number stage (at stage specs) n) (λ next. Shows next (symbols ++ number n ∷ []))
number_shown (Opening headed started) specs symbols n shows = begun_first specs symbols n (whole_opening headed started specs symbols shows.0 shows.1)
number_shown (HeaderWord started) specs symbols n shows = (n, statement_push false started specs (parity ∷ []) symbols (number n) shows)
number_shown (HeaderNumber started) specs symbols n shows = tt
number_shown (StartWord headed) specs symbols n shows = (n, statement_push headed false specs (start ∷ []) symbols (number n) shows)
number_shown (StartNumber headed) specs symbols n shows = tt
number_shown Ended specs symbols n shows = begun_first specs symbols n shows.1
number_shown (Identifier id) specs symbols n shows = begun_push specs (number id ∷ []) symbols (number n) shows
number_shown (Priority id priority) specs symbols n shows =
    elim (player_of n)
    as (λ o. IfSome o (λ owner. player_number owner ≡ n)
    → IfSome (option_map (λ owner. to_stage (Owner id priority owner) (at (Priority id priority) specs)) o) (λ next. Shows next (symbols ++ number n ∷ []))) [
      | None ↦ λ e. tt
      | Some owner ↦ λ e. subst (λ m. IsBegun specs (number id ∷ number priority ∷ number m ∷ []) (symbols ++ number n ∷ [])) (sym e)
          (begun_push specs (number id ∷ number priority ∷ []) symbols (number n) shows)
    ]
    (player_of-number n)
number_shown (Owner id priority owner) specs symbols n shows = record {
  done = specs;
  before = shows.before;
  whole = shows.whole;
  last = unnamed_spec id priority owner (n ∷ []);
  continued = omega arith;
  unnamed = refl;
  split = refl;
  shown = shown_push shows.before (number id ∷ number priority ∷ number (player_number owner) ∷ []) symbols (number n) shows.shown;
}
number_shown Listed specs symbols n shows = tt
number_shown Comma specs symbols n shows =
    let last = shows.last in
    record {
      done = shows.done;
      before = shows.before;
      whole = shows.whole;
      last = with_successor n last;
      continued = omega (arith, shows.continued, length-append last.successors (n ∷ []));
      unnamed = shows.unnamed;
      split = ap (with_last (with_successor n)) shows.split ∙ with_last_push (with_successor n) shows.done last;
      shown = shown_push shows.before (front last ++ comma ∷ []) symbols (number n) shows.shown
          ∙ ap (λ list. shows.before ++ number last.id ∷ number last.priority ∷ number (player_number last.owner) ∷ list)
          (append_assoc (successor_symbols last.successors) (comma ∷ []) (number n ∷ [])
          ∙ sym (successor_symbols-push last.successors n shows.continued)
          ∙ sym (append-nil (successor_symbols (last.successors ++ n ∷ []))));
    }
number_shown Named specs symbols n shows = tt

-- what the word `parity` leads to is shown
parity_shown : (stage : LenientStage) (specs : List NodeSpec) (symbols : List LenientSymbol) → ShowsAt stage specs symbols
    → IfSome (after_parity stage (at stage specs)) (λ next. Shows next (symbols ++ parity ∷ []))
parity_shown (Opening false started) specs symbols shows = record { empty = shows.0; before = symbols; opens = shows.1; shown = refl }
parity_shown (Opening true started) specs symbols shows = tt
parity_shown _ specs symbols shows = tt

-- what the word `start` leads to is shown
start_shown : (stage : LenientStage) (specs : List NodeSpec) (symbols : List LenientSymbol) → ShowsAt stage specs symbols
    → IfSome (after_start stage (at stage specs)) (λ next. Shows next (symbols ++ start ∷ []))
start_shown (Opening headed false) specs symbols shows = record { empty = shows.0; before = symbols; opens = shows.1; shown = refl }
start_shown (Opening headed true) specs symbols shows = tt
start_shown _ specs symbols shows = tt

-- what a semicolon leads to is shown
pub semicolon_shown : (stage : LenientStage) (specs : List NodeSpec) (symbols : List LenientSymbol) → ShowsAt stage specs symbols
    → IfSome (after_semicolon stage (at stage specs)) (λ next. Shows next (symbols ++ semicolon ∷ []))
semicolon_shown (Opening headed started) specs symbols shows = tt
semicolon_shown (HeaderWord started) specs symbols shows = tt
semicolon_shown (HeaderNumber started) specs symbols shows =
    let statement = shows.1 in (
      statement.empty,
      subst (IsOpening true started) (sym (shown_push statement.before (parity ∷ number shows.0 ∷ []) symbols semicolon statement.shown))
          (header started statement.before shows.0 statement.opens),
    )
semicolon_shown (StartWord headed) specs symbols shows = tt
semicolon_shown (StartNumber headed) specs symbols shows =
    let statement = shows.1 in (
      statement.empty,
      subst (IsOpening headed true) (sym (shown_push statement.before (start ∷ number shows.0 ∷ []) symbols semicolon statement.shown))
          (first_node headed statement.before shows.0 statement.opens),
    )
semicolon_shown Ended specs symbols shows = tt
semicolon_shown (Identifier id) specs symbols shows = tt
semicolon_shown (Priority id priority) specs symbols shows = tt
semicolon_shown (Owner id priority owner) specs symbols shows =
    nodes_push specs (specs ++ dead_end id owner ∷ []) shows.before (symbols ++ semicolon ∷ []) (unnamed_spec id priority owner []) shows.whole refl
    (shown_push shows.before (number id ∷ number priority ∷ number (player_number owner) ∷ []) symbols semicolon shows.shown)
semicolon_shown Listed specs symbols shows =
    let last = shows.last in
    nodes_push shows.done specs shows.before (symbols ++ semicolon ∷ []) last shows.whole
    (shows.split ∙ ap (λ spec. shows.done ++ spec ∷ []) (sym (completed_by-live last.successors last shows.continued)))
    (shown_push shows.before (front last ++ []) symbols semicolon shows.shown
    ∙ ap (λ list. shows.before ++ (list ++ semicolon ∷ [])) (append-nil (front last))
    ∙ ap (λ called. shows.before ++ (front last ++ (name_symbols called ++ semicolon ∷ []))) (sym shows.unnamed))
semicolon_shown Comma specs symbols shows = tt
semicolon_shown Named specs symbols shows = shows

-- what a comma leads to is shown
comma_shown : (stage : LenientStage) (specs : List NodeSpec) (symbols : List LenientSymbol) → ShowsAt stage specs symbols
    → IfSome (after_comma stage (at stage specs)) (λ next. Shows next (symbols ++ comma ∷ []))
comma_shown Listed specs symbols shows = record {
  done = shows.done;
  before = shows.before;
  whole = shows.whole;
  last = shows.last;
  continued = shows.continued;
  unnamed = shows.unnamed;
  split = shows.split;
  shown = shown_push shows.before (front shows.last ++ []) symbols comma shows.shown
      ∙ ap (λ list. shows.before ++ (list ++ comma ∷ [])) (append-nil (front shows.last));
}
comma_shown _ specs symbols shows = tt

-- two symbols more
shown_twice : (before begun symbols : List LenientSymbol) (one other : LenientSymbol) → symbols ≡ before ++ begun
    → (symbols ++ one ∷ []) ++ other ∷ [] ≡ before ++ (begun ++ one ∷ other ∷ [])
shown_twice before begun symbols one other shown =
    append_assoc symbols (one ∷ []) (other ∷ [])
    ∙ ap (λ list. list ++ one ∷ other ∷ []) shown
    ∙ append_assoc before begun (one ∷ other ∷ [])

-- what a name leads to is shown
name_shown : (stage : LenientStage) (specs : List NodeSpec) (symbols : List LenientSymbol) (bytes : List ℕ) → ShowsAt stage specs symbols
    → IfSome (after_name stage (at stage specs) bytes) (λ next. Shows next (symbols ++ name bytes ∷ []))
name_shown (Owner id priority owner) specs symbols bytes shows =
    nodes_push specs (with_last (with_name bytes) (specs ++ dead_end id owner ∷ [])) shows.before ((symbols ++ name bytes ∷ []) ++ semicolon ∷ [])
    (with_name bytes (unnamed_spec id priority owner [])) shows.whole
    (with_last_push (with_name bytes) specs (dead_end id owner))
    (shown_twice shows.before (number id ∷ number priority ∷ number (player_number owner) ∷ []) symbols (name bytes) semicolon shows.shown)
name_shown Listed specs symbols bytes shows =
    let last = shows.last in
    nodes_push shows.done (with_last (with_name bytes) specs) shows.before ((symbols ++ name bytes ∷ []) ++ semicolon ∷ [])
    (with_name bytes last) shows.whole
    (ap (with_last (with_name bytes)) shows.split
    ∙ with_last_push (with_name bytes) shows.done last
    ∙ ap (λ spec. shows.done ++ spec ∷ []) (sym (completed_by-live last.successors (with_name bytes last) shows.continued)))
    (shown_twice shows.before (front last ++ []) symbols (name bytes) semicolon shows.shown
    ∙ ap (λ list. shows.before ++ (list ++ name bytes ∷ semicolon ∷ [])) (append-nil (front last)))
name_shown _ specs symbols bytes shows = tt

-- what a symbol leads to is shown
pub step_shown : (state : LenientState) (symbols : List LenientSymbol) (symbol : LenientSymbol) → Shows state symbols
    → IfSome (step state symbol) (λ next. Shows next (symbols ++ symbol ∷ []))
step_shown state symbols (number n) shows = number_shown state.stage state.specs symbols n shows
step_shown state symbols parity shows = parity_shown state.stage state.specs symbols shows
step_shown state symbols paritysol shows = tt
step_shown state symbols start shows = start_shown state.stage state.specs symbols shows
step_shown state symbols semicolon shows = semicolon_shown state.stage state.specs symbols shows
step_shown state symbols comma shows = comma_shown state.stage state.specs symbols shows
step_shown state symbols (name bytes) shows = name_shown state.stage state.specs symbols bytes shows
