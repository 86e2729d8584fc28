-- What is built of the specifications of a lenient text.
use Rattle.std.proofs.Common.{◌≡◌, ℕ, ◌<◌, ◌≤◌, inl, inr, List, length, refl, ap, sym, subst, arith, Result, Ok, Err, IfOk, IfErr}
use Rattle.std.proofs.lemmas.List.{length-map}
use Rattle.omega_text.specs.Cases.{never, or_memory, or_text}
use Rattle.omega_text.specs.Limits.{most_text}
use Rattle.omega_text.specs.Reading.{IsReadText}
use Rattle.omega_text.specs.Syntax.{IsTextFault, IsTextOf, TokensComplete}
use Rattle.omega_text.specs.declared.refusal.Refusal.{Refusal}
use Rattle.omega_text.specs.declared.refusal.Refusal.TheVariants.{Automaton, Circuit, Game, Io, Memory, Task, Text}
use Rattle.omega_game_values.specs.Building.{IsBuildRefusal, IsGameOf}
use Rattle.omega_game_values.specs.Game.{IsWithinLimits, Node}
use Rattle.omega_game_values.specs.declared.node_spec.NodeSpec.{NodeSpec}
use Rattle.omega_pg_lenient.specs.DeadEnds.{completed}
use Rattle.omega_pg_lenient.specs.Format.{lenient_format}
use Rattle.omega_pg_lenient.specs.Grammar.{SpellsLenient, lenient_syntax}
use Rattle.omega_pg_lenient.specs.Plain.{plain_text}
use Rattle.omega_pg_lenient.specs.Refusing.{IsLenientReadRefusal}
use Rattle.omega_pg_lenient.specs.Symbols.{LenientSymbol}
use Rattle.omega_pg_lenient.specs.Text.{IsLenientGameText}
use Rattle.omega_pg_lenient.specs.private.Automaton.{IsReachedBy, IsReady, LenientState}
use Rattle.omega_pg.proofs.reader.Deciding.{ended_from_run}
use Rattle.omega_pg_lenient.proofs.grammar.Symbols.{symbols_of}
use Rattle.omega_pg_lenient.proofs.grammar.Decided.{SpellsLenient-from_run, decides_lenient, specs_of}

-- the plain text was read, and its tokens lead to this state
abbrev pub LeadsTo : List ℕ → LenientState → Type 0
LeadsTo plain state = IsReadText lenient_format (λ lexemes. IsReachedBy (symbols_of lexemes) state) (TokensComplete lenient_syntax) plain

-- a reader may rely on the state
pub read_ready : (plain : List ℕ) (state : LenientState) → LeadsTo plain state → IsReady state
read_ready plain state read = read.all_taken.1

-- what was kept is spelled
read_spelled : (plain : List ℕ) (state : LenientState) (read : LeadsTo plain state) → SpellsLenient (symbols_of read.lexemes) (specs_of state)
read_spelled plain state read =
    SpellsLenient-from_run (symbols_of read.lexemes) state read.all_taken.0
    (ended_from_run decides_lenient (symbols_of read.lexemes) state read.complete.0 read.all_taken.0 read.complete.1)

-- what is spelled has a node
pub some_specs : (symbols : List LenientSymbol) (specs : List NodeSpec) → SpellsLenient symbols specs → 0 < length specs
some_specs symbols specs text =
    omega (arith, text.specified, ap length text.completes, length-map {B = NodeSpec} text.written completed)

-- so there is a node
pub read_specified : (plain : List ℕ) (state : LenientState) (specs : List NodeSpec) → LeadsTo plain state → specs ≡ specs_of state → 0 < length specs
read_specified plain state specs read is =
    omega (arith, ap length is, some_specs (symbols_of read.lexemes) (specs_of state) (read_spelled plain state read))

-- and the text is of it
text_kept : (plain : List ℕ) (state : LenientState) → LeadsTo plain state → IsTextOf lenient_syntax plain (specs_of state)
text_kept plain state read = record { lexemes = read.lexemes; cut = read.cut; text = read_spelled plain state read }

-- what is said of the specifications that were kept is said of the text
text_of : (source plain : List ℕ) (state : LenientState) (specs : List NodeSpec) → plain ≡ plain_text source → LeadsTo plain state → specs ≡ specs_of state
    → IsTextOf lenient_syntax (plain_text source) specs
text_of source plain state specs is_plain read is =
    subst (λ text. IsTextOf lenient_syntax text specs) is_plain (subst (IsTextOf lenient_syntax plain) (sym is) (text_kept plain state read))

-- the refusal of a plain text that was not read
unread : (source : List ℕ) (refusal : Refusal) → or_text (IsTextFault lenient_syntax (plain_text source)) (or_memory never) refusal
    → IsLenientReadRefusal source refusal
unread source (Text fault) refused = inr refused
unread source (Game fault) refused = absurd refused
unread source (Automaton fault) refused = absurd refused
unread source (Circuit fault) refused = absurd refused
unread source (Task fault) refused = absurd refused
unread source Memory refused = inl refl
unread source Io refused = absurd refused

pub refused_unread : (source plain : List ℕ) (refusal : Refusal) → plain ≡ plain_text source
    → or_text (IsTextFault lenient_syntax plain) (or_memory never) refusal → IsLenientReadRefusal source refusal
refused_unread source plain refusal is refused =
    unread source refusal (subst (λ text. or_text (IsTextFault lenient_syntax text) (or_memory never) refusal) is refused)

-- the refusal of what was kept is the text's
refused_built : (source : List ℕ) (specs : List NodeSpec) (refusal : Refusal) → length source ≤ most_text → IsTextOf lenient_syntax (plain_text source) specs
    → IsBuildRefusal specs refusal → IsLenientReadRefusal source refusal
refused_built source specs (Text fault) short text refused = absurd refused
refused_built source specs (Game fault) short text refused = inr (record { short = short; specs = specs; spells = text; fault_there = refused })
refused_built source specs (Automaton fault) short text refused = absurd refused
refused_built source specs (Circuit fault) short text refused = absurd refused
refused_built source specs (Task fault) short text refused = absurd refused
refused_built source specs Memory short text refused = inl refl
refused_built source specs Io short text refused = absurd refused

-- the two, of what a call gave
pub refused_built_all : (source plain : List ℕ) (state : LenientState) (specs : List NodeSpec) (result : Result (List Node) Refusal)
    → length source ≤ most_text → plain ≡ plain_text source → LeadsTo plain state → specs ≡ specs_of state
    → IfErr result (IsBuildRefusal specs) → IfErr result (IsLenientReadRefusal source)
refused_built_all source plain state specs (Ok game) short is_plain read is refused = tt
refused_built_all source plain state specs (Err refusal) short is_plain read is refused =
    refused_built source specs refusal short (text_of source plain state specs is_plain read is) refused

pub game_built_all : (source plain : List ℕ) (state : LenientState) (specs : List NodeSpec) (result : Result (List Node) Refusal)
    → length source ≤ most_text → plain ≡ plain_text source → LeadsTo plain state → specs ≡ specs_of state
    → IfOk result (IsGameOf specs) → IfOk result IsWithinLimits → IfOk result (IsLenientGameText source)
game_built_all source plain state specs (Ok game) short is_plain read is rearranged limits = record {
  short = short;
  specs = specs;
  spells = text_of source plain state specs is_plain read is;
  rearranged = rearranged;
  limits = limits;
}
game_built_all source plain state specs (Err refusal) short is_plain read is rearranged limits = tt
