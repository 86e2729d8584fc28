-- What a state shows: the symbols that lead to it.
use Rattle.std.proofs.Common.{◌≡◌, ℕ, ◌<◌, nat_lt, length-append, Bool, append-nil, Option, Some, None, List, [], ◌∷◌, ◌++◌, length, refl, ap, sym, ◌∙◌, subst, append_assoc, arith, All, IfSome, ◌||◌}
use Rattle.std.proofs.Math.Bool.{or-false}
use Rattle.std.specs.Prelude.{option_map}
use Rattle.std.specs.List.{flat_map, list_any}
use Rattle.std.proofs.lemmas.List.Concat.{flat_map-append}
use Rattle.std.proofs.lemmas.List.Elements.{All-push, All-nil}
use Rattle.std.proofs.lemmas.List.Folds.{list_any-append}
use Rattle.omega_game_values.specs.Building.{with_last, with_name, with_successor}
use Rattle.omega_game_values.specs.declared.node_spec.NodeSpec.{NodeSpec}
use Rattle.omega_pg.proofs.games.Players.{player_of-number}
use Rattle.omega_pg.specs.private.game.reader.Automaton.{GameReaderState, after_comma, after_name, after_number, after_semicolon, after_word, begun, is_above, player_of, step, to_stage}
use Rattle.omega_pg.specs.game.Grammar.{header_symbols, name_symbols, node_symbols, successor_symbols}
use Rattle.omega_pg.specs.game.Refusing.{is_header_small}
use Rattle.omega_pg.specs.Symbols.{PgSymbol, comma, name, number, parity, paritysol, semicolon}
use Rattle.omega_game_values.specs.Player.{player_number}
use Rattle.omega_pg.specs.declared.game.stage.GameStage.{GameStage}
use Rattle.omega_pg.specs.declared.game.stage.GameStage.TheVariants.{Comma, Ended, Headed, Identifier, Listed, Named, Number, Owner, Priority, Start, Word}
use Rattle.omega_pg.proofs.games.Changes.{with_last_push}
use Rattle.omega_pg.proofs.games.Spelled.{at}

-- a specification has a successor
abbrev pub IsContinued : NodeSpec → Type 0
IsContinued spec = 0 < length spec.successors

-- the symbols of a header and whole nodes
abbrev pub spelled : Option ℕ → List NodeSpec → List PgSymbol
spelled header specs = header_symbols header ++ flat_map node_symbols specs

-- the symbols of a node without its name and its end
abbrev pub front : NodeSpec → List PgSymbol
front spec = number spec.id ∷ number spec.priority ∷ number (player_number spec.owner) ∷ successor_symbols spec.successors

-- whole nodes, and then these symbols
pub record IsAfter (header : Option ℕ) (specs : List NodeSpec) (begun symbols : List PgSymbol) : Type 0 where
  pub continued : All IsContinued specs
  pub shown : symbols ≡ spelled header specs ++ begun

-- whole nodes, and then a node that is open, shown like this
pub record IsOpen (header : Option ℕ) (specs : List NodeSpec) (shows : NodeSpec → List PgSymbol) (symbols : List PgSymbol) : Type 0 where
  pub done : List NodeSpec
  pub last : NodeSpec
  pub split : specs ≡ done ++ last ∷ []
  pub before : All IsContinued done
  pub continued : IsContinued last
  pub shown : symbols ≡ spelled header done ++ shows last

-- the last node has no name yet
pub record IsUnnamed (header : Option ℕ) (specs : List NodeSpec) (shows : NodeSpec → List PgSymbol) (symbols : List PgSymbol) : Type 0 where
  pub opened : IsOpen header specs shows symbols
  pub unnamed : opened.last.name ≡ None

-- nothing but the beginning of a header
pub record IsHeader (header : Option ℕ) (specs : List NodeSpec) (begun symbols : List PgSymbol) : Type 0 where
  pub none : header ≡ None
  pub empty : specs ≡ []
  pub shown : symbols ≡ begun

abbrev pub ShowsAt : GameStage → Option ℕ → List NodeSpec → List PgSymbol → Type 0
ShowsAt Start header specs symbols = IsHeader header specs [] symbols
ShowsAt Word header specs symbols = IsHeader header specs (parity ∷ []) symbols
ShowsAt (Number n) header specs symbols = IsHeader header specs (parity ∷ number n ∷ []) symbols
ShowsAt Headed header specs symbols = (specs ≡ []) × IsAfter header specs [] symbols
ShowsAt Ended header specs symbols = (0 < length specs) × IsAfter header specs [] symbols
ShowsAt (Identifier id) header specs symbols = IsAfter header specs (number id ∷ []) symbols
ShowsAt (Priority id priority) header specs symbols = IsAfter header specs (number id ∷ number priority ∷ []) symbols
ShowsAt (Owner id priority owner) header specs symbols = IsAfter header specs (number id ∷ number priority ∷ number (player_number owner) ∷ []) symbols
ShowsAt Listed header specs symbols = IsUnnamed header specs front symbols
ShowsAt Comma header specs symbols = IsUnnamed header specs (λ spec. front spec ++ comma ∷ []) symbols
ShowsAt Named header specs symbols = IsOpen header specs (λ spec. front spec ++ name_symbols spec.name) symbols

-- the symbols lead to the state
pub record Shows (state : GameReaderState) (symbols : List PgSymbol) : Type 0 where
  pub there : ShowsAt state.stage state.header state.specs symbols
  pub small : state.header_too_small ≡ is_header_small state.header state.specs

-- one specification more is below the header's number if it or one of the others is
is_header_small-push : (header : Option ℕ) (specs : List NodeSpec) (spec : NodeSpec)
    → is_header_small header (specs ++ spec ∷ []) ≡ (is_header_small header specs || is_above header spec.id)
is_header_small-push None specs spec = refl
is_header_small-push (Some n) specs spec =
    list_any-append (λ (one : NodeSpec). nat_lt n one.id) specs (spec ∷ [])
    ∙ ap (λ b. list_any (λ (one : NodeSpec). nat_lt n one.id) specs || b) (or-false (nat_lt n spec.id))

-- one successor more is written after a comma
successor_symbols-push : (successors : List ℕ) (id : ℕ) → 0 < length successors
    → successor_symbols (successors ++ id ∷ []) ≡ successor_symbols successors ++ comma ∷ number id ∷ []
successor_symbols-push [] id h = absurd (omega (arith, h))
successor_symbols-push (first ∷ others) id h = ap (λ list. number first ∷ list) (flat_map-append (λ id. comma ∷ number id ∷ []) others (id ∷ []))

-- one node more is written after the others
spelled-push : (header : Option ℕ) (specs : List NodeSpec) (spec : NodeSpec)
    → spelled header (specs ++ spec ∷ []) ≡ spelled header specs ++ node_symbols spec
spelled-push header specs spec =
    ap (λ list. header_symbols header ++ list) (flat_map-append node_symbols specs (spec ∷ []) ∙ ap (λ list. flat_map node_symbols specs ++ list) (append-nil (node_symbols spec)))
    ∙ sym (append_assoc (header_symbols header) (flat_map node_symbols specs) (node_symbols spec))

-- one symbol more after whole nodes
IsAfter-push : (header : Option ℕ) (specs : List NodeSpec) (begun symbols : List PgSymbol) (symbol : PgSymbol)
    → IsAfter header specs begun symbols → IsAfter header specs (begun ++ symbol ∷ []) (symbols ++ symbol ∷ [])
IsAfter-push header specs begun symbols symbol shown = record {
  continued = shown.continued;
  shown = ap (λ list. list ++ symbol ∷ []) shown.shown ∙ append_assoc (spelled header specs) begun (symbol ∷ []);
}

-- a change of the last specification that keeps its identifier
is_header_small-change : (header : Option ℕ) (specs done : List NodeSpec) (last : NodeSpec) (change : NodeSpec → NodeSpec)
    → specs ≡ done ++ last ∷ [] → (change last).id ≡ last.id
    → is_header_small header specs ≡ is_header_small header (with_last change specs)
is_header_small-change header specs done last change split same =
    ap (is_header_small header) split
    ∙ is_header_small-push header done last
    ∙ ap (λ id. is_header_small header done || is_above header id) (sym same)
    ∙ sym (is_header_small-push header done (change last))
    ∙ sym (ap (is_header_small header) (ap (with_last change) split ∙ with_last_push change done last))

-- what a number leads to is shown
number_shown : (stage : GameStage) (header : Option ℕ) (specs : List NodeSpec) (small : Bool) (symbols : List PgSymbol) (n : ℕ)
    → Shows (at stage header specs small) symbols
    → IfSome (after_number stage (at stage header specs small) n) (λ next. Shows next (symbols ++ number n ∷ []))
number_shown Start header specs small symbols n shows = record {
  there = record {
    continued = subst (λ list. All IsContinued list) (sym shows.there.empty) (All-nil IsContinued);
    shown = cc;
  };
  small = shows.small;
}
number_shown Word header specs small symbols n shows = record {
  there = record { none = shows.there.none; empty = shows.there.empty; shown = ap (λ list. list ++ number n ∷ []) shows.there.shown };
  small = shows.small;
}
number_shown (Number m) header specs small symbols n shows = tt
number_shown Headed header specs small symbols n shows = record {
  there = IsAfter-push header specs [] symbols (number n) shows.there.1;
  small = shows.small;
}
number_shown Ended header specs small symbols n shows = record {
  there = IsAfter-push header specs [] symbols (number n) shows.there.1;
  small = shows.small;
}
number_shown (Identifier id) header specs small symbols n shows = record {
  there = IsAfter-push header specs (number id ∷ []) symbols (number n) shows.there;
  small = shows.small;
}
number_shown (Priority id priority) header specs small symbols n shows =
    elim (player_of n)
    as (λ o. IfSome o (λ owner. player_number owner ≡ n)
    → IfSome (option_map (λ owner. to_stage (Owner id priority owner) (at (Priority id priority) header specs small)) o) (λ next. Shows next (symbols ++ number n ∷ []))) [
      | None ↦ λ e. tt
      | Some owner ↦ λ e. record {
        there = subst (λ m. IsAfter header specs (number id ∷ number priority ∷ number m ∷ []) (symbols ++ number n ∷ [])) (sym e)
            (IsAfter-push header specs (number id ∷ number priority ∷ []) symbols (number n) shows.there);
        small = shows.small;
      }
    ]
    (player_of-number n)
number_shown (Owner id priority owner) header specs small symbols n shows = record {
  there = record {
    opened = record {
      done = specs;
      last = begun id priority owner n;
      split = refl;
      before = shows.there.continued;
      continued = omega arith;
      shown = (IsAfter-push header specs (number id ∷ number priority ∷ number (player_number owner) ∷ []) symbols (number n) shows.there).shown;
    };
    unnamed = refl;
  };
  small = ap (λ b. b || is_above header id) shows.small ∙ sym (is_header_small-push header specs (begun id priority owner n));
}
number_shown Listed header specs small symbols n shows = tt
number_shown Comma header specs small symbols n shows =
    let opened = shows.there.opened in
    let last = opened.last in
    record {
      there = record {
        opened = record {
          done = opened.done;
          last = with_successor n last;
          split = ap (with_last (with_successor n)) opened.split ∙ with_last_push (with_successor n) opened.done last;
          before = opened.before;
          continued = omega (arith, opened.continued, length-append last.successors (n ∷ []));
          shown = ap (λ list. list ++ number n ∷ []) opened.shown
              ∙ append_assoc (spelled header opened.done) (front last ++ comma ∷ []) (number n ∷ [])
              ∙ ap (λ list. spelled header opened.done ++ number last.id ∷ number last.priority ∷ number (player_number last.owner) ∷ list)
              (append_assoc (successor_symbols last.successors) (comma ∷ []) (number n ∷ []) ∙ sym (successor_symbols-push last.successors n opened.continued));
        };
        unnamed = shows.there.unnamed;
      };
      small = shows.small ∙ is_header_small-change header specs opened.done last (with_successor n) opened.split refl;
    }
number_shown Named header specs small symbols n shows = tt

-- what the word `parity` leads to is shown
word_shown : (stage : GameStage) (header : Option ℕ) (specs : List NodeSpec) (small : Bool) (symbols : List PgSymbol)
    → Shows (at stage header specs small) symbols
    → IfSome (after_word stage (at stage header specs small)) (λ next. Shows next (symbols ++ parity ∷ []))
word_shown Start header specs small symbols shows = record {
  there = record { none = shows.there.none; empty = shows.there.empty; shown = ap (λ list. list ++ parity ∷ []) shows.there.shown };
  small = shows.small;
}
word_shown _ header specs small symbols shows = tt

-- an open node that ends is a node more
ended_shown : (header : Option ℕ) (specs : List NodeSpec) (shows : NodeSpec → List PgSymbol) (symbols : List PgSymbol) (opened : IsOpen header specs shows symbols)
    → shows opened.last ++ semicolon ∷ [] ≡ node_symbols opened.last
    → (0 < length specs) × IsAfter header specs [] (symbols ++ semicolon ∷ [])
ended_shown header specs shows symbols opened ends = (
  omega (arith, ap length opened.split, length-append opened.done (opened.last ∷ [])),
  record {
    continued = subst (All IsContinued) (sym opened.split) (All-push IsContinued opened.done opened.last opened.before opened.continued);
    shown = ap (λ list. list ++ semicolon ∷ []) opened.shown
        ∙ append_assoc (spelled header opened.done) (shows opened.last) (semicolon ∷ [])
        ∙ ap (λ list. spelled header opened.done ++ list) ends
        ∙ sym (spelled-push header opened.done opened.last)
        ∙ ap (spelled header) (sym opened.split)
        ∙ sym (append-nil (spelled header specs));
  },
)

-- what a semicolon leads to is shown
semicolon_shown : (stage : GameStage) (header : Option ℕ) (specs : List NodeSpec) (small : Bool) (symbols : List PgSymbol)
    → Shows (at stage header specs small) symbols
    → IfSome (after_semicolon stage (at stage header specs small)) (λ next. Shows next (symbols ++ semicolon ∷ []))
semicolon_shown Start header specs small symbols shows = tt
semicolon_shown Word header specs small symbols shows = tt
semicolon_shown (Number n) header specs small symbols shows = record {
  there = (
    shows.there.empty,
    record {
      continued = subst (All IsContinued) (sym shows.there.empty) (All-nil IsContinued);
      shown = ap (λ list. list ++ semicolon ∷ []) shows.there.shown
          ∙ ap (λ nodes. parity ∷ number n ∷ semicolon ∷ (flat_map node_symbols nodes ++ [])) (sym shows.there.empty);
    },
  );
  small = shows.small ∙ ap (λ h. is_header_small h specs) shows.there.none ∙ sym (ap (is_header_small (Some n)) shows.there.empty);
}
semicolon_shown Headed header specs small symbols shows = tt
semicolon_shown Ended header specs small symbols shows = tt
semicolon_shown (Identifier id) header specs small symbols shows = tt
semicolon_shown (Priority id priority) header specs small symbols shows = tt
semicolon_shown (Owner id priority owner) header specs small symbols shows = tt
semicolon_shown Listed header specs small symbols shows =
    let last = shows.there.opened.last in
    record {
      there = ended_shown header specs front symbols shows.there.opened
          (ap (λ called. front last ++ (name_symbols called ++ semicolon ∷ [])) (sym shows.there.unnamed));
      small = shows.small;
    }
semicolon_shown Comma header specs small symbols shows = tt
semicolon_shown Named header specs small symbols shows =
    let last = shows.there.last in
    record {
      there = ended_shown header specs (λ spec. front spec ++ name_symbols spec.name) symbols shows.there
          (append_assoc (front last) (name_symbols last.name) (semicolon ∷ []));
      small = shows.small;
    }

-- what a comma leads to is shown
comma_shown : (stage : GameStage) (header : Option ℕ) (specs : List NodeSpec) (small : Bool) (symbols : List PgSymbol)
    → Shows (at stage header specs small) symbols
    → IfSome (after_comma stage (at stage header specs small)) (λ next. Shows next (symbols ++ comma ∷ []))
comma_shown Listed header specs small symbols shows =
    let opened = shows.there.opened in
    record {
      there = record {
        opened = record {
          done = opened.done;
          last = opened.last;
          split = opened.split;
          before = opened.before;
          continued = opened.continued;
          shown = ap (λ list. list ++ comma ∷ []) opened.shown ∙ append_assoc (spelled header opened.done) (front opened.last) (comma ∷ []);
        };
        unnamed = shows.there.unnamed;
      };
      small = shows.small;
    }
comma_shown _ header specs small symbols shows = tt

-- what a name leads to is shown
name_shown : (stage : GameStage) (header : Option ℕ) (specs : List NodeSpec) (small : Bool) (symbols : List PgSymbol) (bytes : List ℕ)
    → Shows (at stage header specs small) symbols
    → IfSome (after_name stage (at stage header specs small) bytes) (λ next. Shows next (symbols ++ name bytes ∷ []))
name_shown Listed header specs small symbols bytes shows =
    let opened = shows.there.opened in
    let last = opened.last in
    record {
      there = record {
        done = opened.done;
        last = with_name bytes last;
        split = ap (with_last (with_name bytes)) opened.split ∙ with_last_push (with_name bytes) opened.done last;
        before = opened.before;
        continued = opened.continued;
        shown = ap (λ list. list ++ name bytes ∷ []) opened.shown ∙ append_assoc (spelled header opened.done) (front last) (name bytes ∷ []);
      };
      small = shows.small ∙ is_header_small-change header specs opened.done last (with_name bytes) opened.split refl;
    }
name_shown _ header specs small symbols bytes shows = tt

-- what a symbol leads to is shown
pub step_shown : (state : GameReaderState) (symbols : List PgSymbol) (symbol : PgSymbol) → Shows state symbols
    → IfSome (step state symbol) (λ next. Shows next (symbols ++ symbol ∷ []))
step_shown state symbols (number n) shows = number_shown state.stage state.header state.specs state.header_too_small symbols n shows
step_shown state symbols parity shows = word_shown state.stage state.header state.specs state.header_too_small symbols shows
step_shown state symbols paritysol shows = tt
step_shown state symbols semicolon shows = semicolon_shown state.stage state.header state.specs state.header_too_small symbols shows
step_shown state symbols comma shows = comma_shown state.stage state.header state.specs state.header_too_small symbols shows
step_shown state symbols (name bytes) shows = name_shown state.stage state.header state.specs state.header_too_small symbols bytes shows
