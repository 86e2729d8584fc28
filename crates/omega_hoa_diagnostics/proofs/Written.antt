-- What is read again of a text in which an automaton is written.
use Rattle.std.proofs.Common.{◌≡◌, ℕ, Result, Ok, Err, IfErr, IsOkUnless, List, [], ◌∷◌, refl, subst}
use Rattle.omega_hoa_expression.specs.Unread.{AgreeThroughNext, IsUnread}
use Rattle.omega_hoa_syntax.specs.Grammar.{BeginsAutomaton, ReadsAutomaton, ReadsNoAutomaton, ReadsNoOther}
use Rattle.omega_hoa_syntax.specs.declared.raw_automaton.RawAutomaton.{RawAutomaton}
use Rattle.omega_text.specs.Cut.{CutsAreOne, IsCut}
use Rattle.omega_text.specs.Lexeme.{Lexeme}
use Rattle.omega_text.specs.hoa.Format.{hoa_format}
use Rattle.omega_text.specs.declared.hoa.kind.HoaKind.{HoaKind}
use Rattle.omega_text.specs.declared.refusal.Refusal.{Refusal}
use Rattle.omega_text.specs.declared.refusal.Refusal.TheVariants.{Automaton, Circuit, Game, Io, Memory, Task, Text}
use Rattle.omega_text.specs.declared.refusal.text.TextFault.TheVariants.{Lex, Number, Syntax, TooLong}
use Rattle.omega_hoa_diagnostics.specs.AutomatonCauses.{WritesAutomaton}

-- the tokens of a text are those of the automaton that is written in it
pub tokens_read : (text : List ℕ) (tokens : List (Lexeme HoaKind)) (raw : RawAutomaton) → CutsAreOne hoa_format → IsCut hoa_format text tokens
    → WritesAutomaton text raw → ReadsAutomaton tokens raw []
tokens_read text tokens raw one cut writes =
    subst (λ lexemes. ReadsAutomaton lexemes raw []) (one text writes.lexemes tokens writes.cut cut) writes.written

-- what is read is what is written
pub read_is_written : (text : List ℕ) (tokens rest : List (Lexeme HoaKind)) (raw other : RawAutomaton) → CutsAreOne hoa_format → IsCut hoa_format text tokens
    → ReadsNoOther tokens raw rest → WritesAutomaton text other → raw ≡ other
read_is_written text tokens rest raw other one cut only writes = (only other [] (tokens_read text tokens other one cut writes)).0

-- tokens agree with themselves
agrees : (tokens : List (Lexeme HoaKind)) → AgreeThroughNext tokens tokens
agrees [] = refl
agrees (next ∷ rest) = (rest, refl)

-- tokens of an automaton are read, if memory suffices
pub read_or_memory : (tokens : List (Lexeme HoaKind)) (count : ℕ) (raw : RawAutomaton) (result : Result RawAutomaton Refusal) → ReadsAutomaton tokens raw []
    → IfErr result (IsUnread ReadsNoAutomaton BeginsAutomaton tokens count) → IsOkUnless result Memory
read_or_memory tokens count raw (Ok read) reads why = tt
read_or_memory tokens count raw (Err (Text (Lex at))) reads why = absurd why
read_or_memory tokens count raw (Err (Text (Number at))) reads why = absurd why
read_or_memory tokens count raw (Err (Text (Syntax at))) reads why =
    absurd (why.unread why.left (agrees why.left) raw [] (subst (λ lexemes. ReadsAutomaton lexemes raw []) why.split reads))
read_or_memory tokens count raw (Err (Text TooLong)) reads why = absurd why
read_or_memory tokens count raw (Err (Game fault)) reads why = absurd why
read_or_memory tokens count raw (Err (Circuit fault)) reads why = absurd why
read_or_memory tokens count raw (Err (Automaton fault)) reads why = absurd why
read_or_memory tokens count raw (Err (Task fault)) reads why = absurd why
read_or_memory tokens count raw (Err Memory) reads why = refl
read_or_memory tokens count raw (Err Io) reads why = absurd why
