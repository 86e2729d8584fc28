-- The faults in the order in which they are tested: those before aliases, those between aliases and deep expressions,
-- and the others.
use Rattle.std.specs.Prelude.{◌≡◌, Bool, ◌||◌, List, [], ◌∷◌, Option, None, Some}
use Rattle.std.specs.Prelude.{find, if◌then◌else◌, is_none, nat_lt, sum_by}
use Rattle.std.specs.Option.{option_or}
use Rattle.omega_text.specs.Cases.{never, or_automaton, or_memory}
use Rattle.omega_text.specs.declared.refusal.Refusal.{Refusal}
use Rattle.omega_text.specs.declared.refusal.automaton.AutomatonFault.{AutomatonFault}
use Rattle.omega_text.specs.declared.refusal.automaton.AutomatonFault.TheVariants.{AcceptanceAtom, Alias}
use Rattle.omega_text.specs.declared.refusal.automaton.AutomatonFault.TheVariants.{Expansion, ImplicitCount}
use Rattle.omega_text.specs.declared.refusal.automaton.AutomatonFault.TheVariants.{MissingAcceptance}
use Rattle.omega_text.specs.declared.refusal.automaton.AutomatonFault.TheVariants.{MixedLabels, Proposition}
use Rattle.omega_text.specs.declared.refusal.automaton.AutomatonFault.TheVariants.{RepeatedHeader, SetRange}
use Rattle.omega_text.specs.declared.refusal.automaton.AutomatonFault.TheVariants.{StateRange, StateTwice}
use Rattle.omega_text.specs.declared.refusal.automaton.AutomatonFault.TheVariants.{TooDeep, UnknownHeader}
use Rattle.omega_text.specs.declared.refusal.automaton.AutomatonFault.TheVariants.{Version}
use Rattle.omega_hoa_syntax.specs.declared.raw_automaton.RawAutomaton.{RawAutomaton}
use Rattle.omega_hoa_syntax.specs.declared.raw_state.RawState.{RawState}
use Rattle.omega_hoa_automaton.specs.Faults.{applies, is_deep, is_large, label_total}
use Rattle.omega_hoa_automaton.specs.Limits.{most_total_size}
use Rattle.omega_hoa_automaton.specs.declared.judging.findings.Findings.{Findings}
use Rattle.omega_hoa_automaton.specs.declared.making.definitions.Definitions.{Definitions}
use Rattle.omega_hoa_automaton.specs.private.layout.Findings.{labels_pass}

-- the least fault before that of aliases
abbrev pub early_fault : RawAutomaton → Option AutomatonFault
early_fault raw = find (applies raw) (Version ∷ RepeatedHeader ∷ MissingAcceptance ∷ UnknownHeader
    ∷ StateRange ∷ SetRange ∷ Proposition ∷ [])

-- the least fault after that of aliases and before those of depth and size
abbrev pub late_fault : RawAutomaton → Option AutomatonFault
late_fault raw = find (applies raw) (StateTwice ∷ MixedLabels ∷ ImplicitCount ∷ AcceptanceAtom ∷ [])

-- whether an acceptance, a definition or a label is too deep
abbrev pub is_any_deep : Definitions → List RawState → Bool → Bool
is_any_deep definitions states acceptance =
    acceptance || (definitions.deep || labels_pass is_deep definitions.aliases states)

-- whether a definition or a label is too large, or all labels together
abbrev pub is_any_large : Definitions → List RawState → Bool
is_any_large definitions states =
    (definitions.large || labels_pass is_large definitions.aliases states)
    || nat_lt most_total_size (sum_by (label_total definitions.aliases) states)

-- the least fault from that of aliases on, if no definition has it: by the labels, the least of those up to depth, and
-- whether an acceptance is too deep
abbrev pub last_fault : Definitions → List RawState → Option AutomatonFault → Bool
    → Option AutomatonFault
last_fault definitions states late acceptance =
    if labels_pass is_none definitions.aliases states then Some Alias
    else option_or late
    (if is_any_deep definitions states acceptance then Some TooDeep
    else (if is_any_large definitions states then Some Expansion else None))

-- a refusal by that fault, or want of memory
abbrev pub IsLastFault : Definitions → List RawState → Option AutomatonFault
    → Bool → Refusal → Type 0
IsLastFault definitions states late acceptance = or_automaton
    (λ fault. last_fault definitions states late acceptance ≡ Some fault) (or_memory never)

-- the same by what is found of the labels
abbrev pub fault_found : Definitions → Findings → Option AutomatonFault → Bool
    → Option AutomatonFault
fault_found definitions found late acceptance = if found.undefined then Some Alias
    else option_or late (if acceptance || (definitions.deep || found.deep) then Some TooDeep
    else (if (definitions.large || found.large) || nat_lt most_total_size found.size then Some Expansion
    else None))
