-- The line that says why an automaton text means no automaton.
use Rattle.std.specs.Prelude.{◌≡◌, ◌≤◌, ℕ, List, [], Option, Some, None, length}
use Rattle.omega_text.specs.Cut.{IsCut}
use Rattle.omega_text.specs.Lexeme.{Lexeme}
use Rattle.omega_text.specs.Limits.{most_text}
use Rattle.omega_text.specs.hoa.Format.{hoa_format}
use Rattle.omega_text.specs.declared.hoa.kind.HoaKind.{HoaKind}
use Rattle.omega_text.specs.declared.refusal.automaton.AutomatonFault.{AutomatonFault}
use Rattle.omega_text.specs.declared.refusal.automaton.AutomatonFault.TheVariants.{AcceptanceAtom, Alias}
use Rattle.omega_text.specs.declared.refusal.automaton.AutomatonFault.TheVariants.{Expansion, ImplicitCount}
use Rattle.omega_text.specs.declared.refusal.automaton.AutomatonFault.TheVariants.{MissingAcceptance}
use Rattle.omega_text.specs.declared.refusal.automaton.AutomatonFault.TheVariants.{MixedLabels, Proposition}
use Rattle.omega_text.specs.declared.refusal.automaton.AutomatonFault.TheVariants.{RepeatedHeader, SetRange}
use Rattle.omega_text.specs.declared.refusal.automaton.AutomatonFault.TheVariants.{StateRange, StateTwice}
use Rattle.omega_text.specs.declared.refusal.automaton.AutomatonFault.TheVariants.{TooDeep, UnknownHeader}
use Rattle.omega_text.specs.declared.refusal.automaton.AutomatonFault.TheVariants.{Version}
use Rattle.omega_hoa_syntax.specs.declared.raw_automaton.RawAutomaton.{RawAutomaton}
use Rattle.omega_hoa_automaton.specs.Faults.{automaton_fault_of}
use Rattle.omega_hoa.specs.Segment.{IsRawOf}
use Rattle.omega_hoa_diagnostics.specs.Aliases.{alias_line}
use Rattle.omega_hoa_diagnostics.specs.Sets.{set_range_line}
use Rattle.omega_hoa_diagnostics.specs.States.{state_range_line, state_twice_line}

-- the line about a fault of an automaton that is written; no line is about the faults 20 to 23, 26, and 29 to 33
abbrev pub fault_line : RawAutomaton → AutomatonFault → List ℕ
fault_line raw Version = []
fault_line raw RepeatedHeader = []
fault_line raw MissingAcceptance = []
fault_line raw UnknownHeader = []
fault_line raw StateRange = state_range_line raw
fault_line raw SetRange = set_range_line raw
fault_line raw Proposition = []
fault_line raw Alias = alias_line raw
fault_line raw StateTwice = state_twice_line raw
fault_line raw MixedLabels = []
fault_line raw ImplicitCount = []
fault_line raw AcceptanceAtom = []
fault_line raw TooDeep = []
fault_line raw Expansion = []

-- the line about a fault, or no line without one
abbrev pub line_for : RawAutomaton → Option AutomatonFault → List ℕ
line_for raw None = []
line_for raw (Some fault) = fault_line raw fault

-- the bytes are a text of the grammar, within the limit, of one automaton that is written so
pub record WritesAutomaton (text : List ℕ) (raw : RawAutomaton) : Type 0 where
  pub short : length text ≤ most_text
  pub lexemes : List (Lexeme HoaKind)
  pub cut : IsCut hoa_format text lexemes
  pub written : IsRawOf lexemes raw

-- the line for a text: that about the fault of what is written, or no line if the bytes are no text of one automaton
pub record IsAutomatonCause (text line : List ℕ) : Type 0 where
  pub written : (raw : RawAutomaton) → WritesAutomaton text raw
      → line ≡ line_for raw (automaton_fault_of raw)
  pub unwritten : ((raw : RawAutomaton) → WritesAutomaton text raw → ⊥) → line ≡ []
