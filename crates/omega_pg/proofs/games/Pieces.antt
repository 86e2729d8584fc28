-- Pieces of a game text, joined, and where they lead a reader.
use Rattle.std.proofs.Common.{◌≡◌, ℕ, suc, ◌+◌, ◌<◌, ◌≤◌, Result, Ok, Err, IfOk, Some, List, [], ◌∷◌, ◌++◌, length, length-append, drop, get_or, true, refl, ap, sym, ◌∙◌, subst, arith, inl, inr, add-one, add-zero, drop-cons}
use Rattle.std.proofs.lemmas.List.{map-append}
use Rattle.std.proofs.lemmas.List.Elements.{All-nil}
use Rattle.omega_text.specs.Bytes.{is_white}
use Rattle.omega_text.specs.Lexeme.{Lexeme, lexeme_at}
use Rattle.omega_text.specs.Reading.{TakesRun}
use Rattle.omega_text.specs.pg.Cut.{Follows}
use Rattle.omega_text.specs.pg.Format.{pg_format}
use Rattle.omega_text.specs.pg.Forms.{IsSign, Spells}
use Rattle.omega_text.specs.declared.pg.kind.PgKind.{PgKind}
use Rattle.omega_text.specs.declared.pg.kind.PgKind.TheVariants.{Comma, Number, Semicolon}
use Rattle.omega_text.specs.declared.refusal.Refusal.{Refusal}
use Rattle.omega_text.proofs.formats.Cutting.{cuts_join}
use Rattle.omega_text.proofs.pg_texts.Written.{sign_longest, written_follows}
use Rattle.omega_game_values.specs.Building.{with_last, with_successor}
use Rattle.omega_game_values.specs.Player.{player_number}
use Rattle.omega_game_values.specs.declared.node_spec.NodeSpec.{NodeSpec}
use Rattle.omega_game_values.specs.declared.player.Player.{Player}
use Rattle.omega_game_values.specs.declared.player.Player.TheVariants.{One, Zero}
use Rattle.omega_pg.specs.Symbols.{PgSymbol, comma, number, semicolon, pg_symbol_of, symbol}
use Rattle.omega_pg.specs.private.reader.Symbols.{symbols_of}
use Rattle.omega_pg.specs.private.game.reader.Automaton.{GameReaderState, IsReachedBy, IsReady, IsReadyAt, begun, initial, run, step, to_stage, with_node}
use Rattle.omega_pg.specs.private.game.reader.Pieces.{BeginsNode, IsPiece, LeadsOn}
use Rattle.omega_pg.specs.declared.game.stage.GameStage.{GameStage}
use Rattle.omega_pg.specs.declared.game.stage.GameStage.TheVariants.{Comma as CommaStage, Ended, Headed, Identifier, Listed, Named, Number as NumberStage, Owner, Priority, Start, Word}
use Rattle.omega_pg.proofs.games.Changes.{length_with_last}
use Rattle.omega_pg.proofs.reader.Runs.{run_by_on}

-- the symbols of the head of a node
abbrev pub head_symbols : ℕ → ℕ → Player → ℕ → List PgSymbol
head_symbols id priority owner first = number id ∷ number priority ∷ number (player_number owner) ∷ number first ∷ []

-- nothing is between a place and itself
nothing : (source : List ℕ) (from : ℕ) → from ≤ length source → IsPiece source from from []
nothing source from within = record { lexemes = []; cuts = refl; spelled = refl; forward = omega arith; within = within }

-- a piece after a piece
pub piece_on : (source : List ℕ) (from middle to : ℕ) (front back : List PgSymbol) → IsPiece source from middle front → IsPiece source middle to back
    → IsPiece source from to (front ++ back)
piece_on source from middle to front back one other = record {
  lexemes = one.lexemes ++ other.lexemes;
  cuts = cuts_join pg_format source from middle to one.lexemes other.lexemes one.cuts other.cuts;
  spelled = map-append pg_symbol_of one.lexemes other.lexemes ∙ (λ i. one.spelled i ++ other.spelled i);
  forward = omega (arith, one.forward, other.forward);
  within = other.within;
}

-- a number
pub number_piece : (source : List ℕ) (from : ℕ) (lexeme : Lexeme PgKind) → Follows source from lexeme → lexeme.kind ≡ Number → IsPiece source from lexeme.span.end (number lexeme.value ∷ [])
number_piece source from lexeme follows is = record {
  lexemes = lexeme ∷ [];
  cuts = (follows, refl);
  spelled = ap (λ kind. symbol kind lexeme.value lexeme.text ∷ []) is;
  forward = omega (arith, follows.gap.forward, follows.token.nonempty);
  within = follows.within;
}

-- the numbers with which a node begins
pub head_piece : (source : List ℕ) (from one two three to : ℕ) (id priority number-of first : ℕ) (owner : Player)
    → IsPiece source from one (number id ∷ []) → IsPiece source one two (number priority ∷ []) → IsPiece source two three (number number-of ∷ [])
    → IsPiece source three to (number first ∷ []) → player_number owner ≡ number-of → IsPiece source from to (head_symbols id priority owner first)
head_piece source from one two three to id priority number-of first owner a b c d is =
    subst (λ n. IsPiece source from to (number id ∷ number priority ∷ number n ∷ number first ∷ [])) (sym is)
    (piece_on source from one to (number id ∷ []) (number priority ∷ number number-of ∷ number first ∷ []) a
    (piece_on source one two to (number priority ∷ []) (number number-of ∷ number first ∷ []) b
    (piece_on source two three to (number number-of ∷ []) (number first ∷ []) c d)))

-- the rest from a byte on
from_byte : (source : List ℕ) (at byte : ℕ) → at < length source → get_or source at 0 ≡ byte → drop at source ≡ byte ∷ drop (at + 1) source
from_byte source at byte inside is =
    subst (λ n. drop at source ≡ byte ∷ drop n source) (sym (add-one at)) (drop-cons source at 0 inside ∙ ap (λ b. b ∷ drop (suc at) source) is)

module _ (source : List ℕ) (at : ℕ) (inside : at < length source) where
  -- a sign
  sign_piece : (kind : PgKind) (byte : ℕ) → get_or source at 0 ≡ byte → IsSign (byte ∷ []) → Spells kind 0 (byte ∷ [])
      → IsPiece source at (at + 1) (symbol kind 0 (byte ∷ []) ∷ [])
  sign_piece kind byte is sign spells =
      let rest = drop (at + 1) source in
      let follows : Follows source at (lexeme_at at kind 0 (byte ∷ [])) =
      subst (λ place. Follows source at (lexeme_at place kind 0 (byte ∷ []))) (add-zero at)
      (written_follows source [] (byte ∷ []) rest at kind 0 (from_byte source at byte inside is) (omega arith)
      (All-nil (λ b. is_white b ≡ true)) (omega arith) spells (sign_longest (byte ∷ []) rest sign)) in
      record {
        lexemes = lexeme_at at kind 0 (byte ∷ []) ∷ [];
        cuts = (follows, refl);
        spelled = refl;
        forward = omega arith;
        within = omega arith;
      }

  -- a semicolon
  pub semicolon_piece : get_or source at 0 ≡ 59 → IsPiece source at (at + 1) (semicolon ∷ [])
  semicolon_piece is = sign_piece Semicolon 59 is (inl refl) (refl, refl)

  -- a comma
  pub comma_piece : get_or source at 0 ≡ 44 → IsPiece source at (at + 1) (comma ∷ [])
  comma_piece is = sign_piece Comma 44 is (inr refl) (refl, refl)

-- after a successor a specification is open
pub open_ready : (state : GameReaderState) → state.stage ≡ Listed → IsReady state → 0 < length state.specs
open_ready state listed ready = subst (λ stage. IsReadyAt stage state.specs) listed ready

-- nothing leads nowhere
pub leads_nowhere : (source : List ℕ) (from : ℕ) (state : GameReaderState) → from ≤ length source → IsReady state → LeadsOn source from from state state
leads_nowhere source from state within ready = record { symbols = []; piece = nothing source from within; runs = refl; ready = ready }

-- a way that goes on with another
pub leads_on : (source : List ℕ) (from middle to : ℕ) (one other last : GameReaderState) → LeadsOn source from middle one other → LeadsOn source middle to other last
    → LeadsOn source from to one last
leads_on source from middle to one other last first second = record {
  symbols = first.symbols ++ second.symbols;
  piece = piece_on source from middle to first.symbols second.symbols first.piece second.piece;
  runs = run_by_on step one other first.symbols second.symbols first.runs ∙ second.runs;
  ready = second.ready;
}

-- a further successor
pub successor_leads : (source : List ℕ) (from to : ℕ) (state : GameReaderState) (specs : List NodeSpec) (id : ℕ) → state.stage ≡ Listed → IsReady state
    → specs ≡ with_last (with_successor id) state.specs → IsPiece source from to (comma ∷ number id ∷ []) → LeadsOn source from to state (record state { specs = specs })
successor_leads source from to state specs id listed ready is piece = record {
  symbols = comma ∷ number id ∷ [];
  piece = piece;
  runs = subst
      (λ stage. run (record state { stage = stage }) (comma ∷ number id ∷ []) ≡ Some (record state { stage = stage; specs = with_last (with_successor id) state.specs }))
      (sym listed) refl
      ∙ ap (λ list. Some (record state { specs = list })) (sym is);
  ready = subst (λ stage. IsReadyAt stage specs) (sym listed)
      (omega (arith, open_ready state listed ready, length_with_last (with_successor id) state.specs, ap length is));
}

-- the semicolon of a node
pub semicolon_leads : (source : List ℕ) (from to : ℕ) (state : GameReaderState) → state.stage ≡ Listed → IsReady state
    → IsPiece source from to (semicolon ∷ []) → LeadsOn source from to state (to_stage Ended state)
semicolon_leads source from to state listed ready piece = record {
  symbols = semicolon ∷ [];
  piece = piece;
  runs = subst (λ stage. run (record state { stage = stage }) (semicolon ∷ []) ≡ Some (to_stage Ended state)) (sym listed) refl;
  ready = open_ready state listed ready;
}

-- from where a node may begin, they add it
run_head : (stage : GameStage) (state : GameReaderState) (id priority : ℕ) (owner : Player) (first : ℕ) → BeginsNode stage
    → run (to_stage stage state) (head_symbols id priority owner first) ≡ Some (with_node (begun id priority owner first) state)
run_head Start state id priority Zero first begins = refl
run_head Start state id priority One first begins = refl
run_head Headed state id priority Zero first begins = refl
run_head Headed state id priority One first begins = refl
run_head Ended state id priority Zero first begins = refl
run_head Ended state id priority One first begins = refl
run_head Word state id priority owner first begins = absurd begins
run_head (NumberStage n) state id priority owner first begins = absurd begins
run_head (Identifier n) state id priority owner first begins = absurd begins
run_head (Priority n m) state id priority owner first begins = absurd begins
run_head (Owner n m o) state id priority owner first begins = absurd begins
run_head Listed state id priority owner first begins = absurd begins
run_head CommaStage state id priority owner first begins = absurd begins
run_head Named state id priority owner first begins = absurd begins

-- the head of a node
pub head_leads : (source : List ℕ) (from to : ℕ) (old new : GameReaderState) (id priority : ℕ) (owner : Player) (first : ℕ) → BeginsNode old.stage
    → new ≡ with_node (begun id priority owner first) old → IsPiece source from to (head_symbols id priority owner first) → LeadsOn source from to old new
head_leads source from to old new id priority owner first begins is piece = record {
  symbols = head_symbols id priority owner first;
  piece = piece;
  runs = run_head old.stage old id priority owner first begins ∙ ap Some (sym is);
  ready = subst IsReady (sym is) (omega (arith, length-append old.specs (begun id priority owner first ∷ [])));
}

-- tokens that lead on from where others led are a run that is taken
run_reached : (source : List ℕ) (from to : ℕ) (state next : GameReaderState) (lexemes : List (Lexeme PgKind)) → LeadsOn source from to state next → IsReachedBy (symbols_of lexemes) state
    → TakesRun pg_format (λ all. IsReachedBy (symbols_of all) next) source from to lexemes
run_reached source from to state next lexemes leads reached = record {
  run = leads.piece.lexemes;
  cuts = leads.piece.cuts;
  all_taken = (
    ap (run initial) (map-append pg_symbol_of lexemes leads.piece.lexemes)
        ∙ run_by_on step initial state (symbols_of lexemes) (symbols_of leads.piece.lexemes) reached.0
        ∙ ap (run state) leads.piece.spelled
        ∙ leads.runs,
    leads.ready,
  );
}

-- the same of a call
pub run_reached_all : (Self : Type 0) (result : Result ℕ Refusal) (source : List ℕ) (from : ℕ) (state next : GameReaderState)
    → IfOk result (λ to. LeadsOn source from to state next)
    → IfOk result (λ to. (start : Self) (lexemes : List (Lexeme PgKind)) → IsReachedBy (symbols_of lexemes) state
    → TakesRun pg_format (λ all. IsReachedBy (symbols_of all) next) source from to lexemes)
run_reached_all Self (Ok to) source from state next leads = λ start lexemes reached. run_reached source from to state next lexemes leads reached
run_reached_all Self (Err refusal) source from state next leads = tt

-- such a call leads forward, within the text
pub run_forward : (result : Result ℕ Refusal) (source : List ℕ) (from : ℕ) (state next : GameReaderState)
    → IfOk result (λ to. LeadsOn source from to state next) → IfOk result (λ to. from ≤ to)
run_forward (Ok to) source from state next leads = leads.piece.forward
run_forward (Err refusal) source from state next leads = tt

pub run_inside : (result : Result ℕ Refusal) (source : List ℕ) (from : ℕ) (state next : GameReaderState)
    → IfOk result (λ to. LeadsOn source from to state next) → IfOk result (λ to. to ≤ length source)
run_inside (Ok to) source from state next leads = leads.piece.within
run_inside (Err refusal) source from state next leads = tt
