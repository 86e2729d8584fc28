-- What is built of the specifications of a text.
use Rattle.std.proofs.Common.{◌≡◌, ℕ, ◌<◌, ◌≤◌, nat_lt, inl, inr, Bool, true, false, Option, Some, None, List, [], ◌∷◌, length, refl, sym, ◌∙◌, subst, Result, Ok, Err, IfOk, IfErr}
use Rattle.omega_text.specs.declared.refusal.Refusal.{Refusal}
use Rattle.omega_text.specs.declared.refusal.Refusal.TheVariants.{Automaton, Circuit, Game, Io, Memory, Task, Text}
use Rattle.std.specs.Prelude.{if◌then◌else◌}
use Rattle.std.specs.List.{list_any}
use Rattle.std.proofs.lemmas.Bool.{ltb-false, or_parts}
use Rattle.std.proofs.lemmas.List.Elements.{All-cons, All-nil}
use Rattle.omega_text.specs.declared.refusal.game.GameFault.{GameFault}
use Rattle.omega_game_values.specs.Building.{IsGameOf, has_duplicate, has_undefined, fault_with}
use Rattle.omega_game_values.specs.Game.{IsWithinLimits, Node}
use Rattle.omega_game_values.specs.declared.node_spec.NodeSpec.{NodeSpec}
use Rattle.omega_pg.specs.private.game.reader.Automaton.{IsReachedBy, IsReadyAt, GameReaderState}
use Rattle.omega_pg.specs.private.game.reader.Built.{IsBuiltRefusal}
use Rattle.omega_pg.specs.game.Grammar.{game_syntax}
use Rattle.omega_text.specs.Reading.{IsReadText}
use Rattle.omega_text.specs.Cases.{never, or_memory, or_text}
use Rattle.omega_text.specs.pg.Format.{pg_format}
use Rattle.omega_pg.specs.game.Refusing.{IsReadRefusal, is_header_small}
use Rattle.omega_pg.specs.private.reader.Symbols.{symbols_of}
use Rattle.omega_text.specs.Syntax.{IsTextFault, IsTextOf, TokensComplete}
use Rattle.omega_pg.specs.game.Text.{Covers, IsGameText}
use Rattle.omega_pg.specs.declared.game.stage.GameStage.TheVariants.{Ended}
use Rattle.omega_pg.proofs.reader.Deciding.{ended_from_run}
use Rattle.omega_pg.proofs.games.Grammar.{SpellsGame-from_run, decides_games, raw_of, small_from_run}

-- the text was read, and its tokens lead to this state
abbrev pub LeadsTo : List ℕ → GameReaderState → Type 0
LeadsTo source state = IsReadText pg_format (λ lexemes. IsReachedBy (symbols_of lexemes) state) (TokensComplete game_syntax) source

-- a text that was read led to the end of a node
pub read_ended : (source : List ℕ) (state : GameReaderState) → LeadsTo source state → state.stage ≡ Ended
read_ended source state read = ended_from_run decides_games (symbols_of read.lexemes) state read.complete.0 read.all_taken.0 read.complete.1

-- so it has a node
pub read_specified : (source : List ℕ) (state : GameReaderState) → LeadsTo source state → 0 < length state.specs
read_specified source state read = subst (λ stage. IsReadyAt stage state.specs) (read_ended source state read) read.all_taken.1

-- and it is of what was kept
text_kept : (source : List ℕ) (state : GameReaderState) → LeadsTo source state → IsTextOf game_syntax source (raw_of state)
text_kept source state read = record {
  lexemes = read.lexemes;
  cut = read.cut;
  text = SpellsGame-from_run (symbols_of read.lexemes) state read.all_taken.0 (read_ended source state read);
}

-- the refusal of a text that was not read
pub refused_unread : (source : List ℕ) (refusal : Refusal) → or_text (IsTextFault game_syntax source) (or_memory never) refusal → IsReadRefusal source refusal
refused_unread source (Text fault) refused = inr refused
refused_unread source (Game fault) refused = absurd refused
refused_unread source (Automaton fault) refused = absurd refused
refused_unread source (Circuit fault) refused = absurd refused
refused_unread source (Task fault) refused = absurd refused
refused_unread source Memory refused = inl refl
refused_unread source Io refused = absurd refused

-- the refusal of what was kept is the text's
refused_built : (source : List ℕ) (state : GameReaderState) (refusal : Refusal) → LeadsTo source state
    → IsBuiltRefusal state.header_too_small state.specs refusal → IsReadRefusal source refusal
refused_built source state (Text fault) read refused = absurd refused
refused_built source state (Game fault) read refused = inr (record {
  short = read.short;
  raw = raw_of state;
  writes = text_kept source state read;
  fault_there = subst (λ small. fault_with small state.specs ≡ Some fault) (small_from_run (symbols_of read.lexemes) state read.all_taken.0) refused;
})
refused_built source state (Automaton fault) read refused = absurd refused
refused_built source state (Circuit fault) read refused = absurd refused
refused_built source state (Task fault) read refused = absurd refused
refused_built source state Memory read refused = inl refl
refused_built source state Io read refused = absurd refused

-- after a header that is too small there is a fault
header_faulty : (duplicate undefined : Bool) (x y z : GameFault)
    → (if duplicate then Some x else if undefined then Some y else Some z) ≡ None → ⊥
header_faulty true undefined x y z e = cc
header_faulty false true x y z e = cc
header_faulty false false x y z e = cc

-- so without a fault the header is not too small
pub header_fits : (small : Bool) (specs : List NodeSpec) → fault_with small specs ≡ None → small ≡ false
header_fits false specs e = refl
header_fits true specs e = absurd (header_faulty (has_duplicate specs) (has_undefined specs) _ _ _ e)

-- a header that is not too small covers the identifiers
pub Covers-from_test : (header : Option ℕ) (specs : List NodeSpec) → is_header_small header specs ≡ false → Covers header specs
Covers-from_test None specs e = tt
Covers-from_test (Some n) [] e = All-nil (λ spec. spec.id ≤ n)
Covers-from_test (Some n) (spec ∷ specs) e =
    let parts = or_parts (nat_lt n spec.id) (list_any (λ one. nat_lt n one.id) specs) e in
    All-cons (λ spec. spec.id ≤ n) spec specs (ltb-false n spec.id parts.0) (Covers-from_test (Some n) specs parts.1)

-- the game of what was kept is the text's
IsGameText-built : (source : List ℕ) (state : GameReaderState) (game : List Node) → LeadsTo source state
    → IsGameOf state.specs game → IsWithinLimits game → fault_with state.header_too_small state.specs ≡ None → IsGameText source game
IsGameText-built source state game read rearranged limits faultless = record {
  short = read.short;
  raw = raw_of state;
  writes = text_kept source state read;
  rearranged = rearranged;
  covers = Covers-from_test state.header state.specs
      (sym (small_from_run (symbols_of read.lexemes) state read.all_taken.0) ∙ header_fits state.header_too_small state.specs faultless);
  limits = limits;
}

-- the two, of what a call gave
pub refused_built_all : (source : List ℕ) (state : GameReaderState) (result : Result (List Node) Refusal) → LeadsTo source state
    → IfErr result (IsBuiltRefusal state.header_too_small state.specs) → IfErr result (IsReadRefusal source)
refused_built_all source state (Ok game) read refused = tt
refused_built_all source state (Err refusal) read refused = refused_built source state refusal read refused

pub IsGameText-built_all : (source : List ℕ) (state : GameReaderState) (result : Result (List Node) Refusal) → LeadsTo source state
    → IfOk result (IsGameOf state.specs) → IfOk result IsWithinLimits → IfOk result (λ _. fault_with state.header_too_small state.specs ≡ None)
    → IfOk result (IsGameText source)
IsGameText-built_all source state (Ok game) read rearranged limits faultless = IsGameText-built source state game read rearranged limits faultless
IsGameText-built_all source state (Err refusal) read rearranged limits faultless = tt
