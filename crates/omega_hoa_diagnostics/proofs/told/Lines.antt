-- The line about the fault for which a text is refused, and that there is one.
use Rattle.std.proofs.Common.{◌≡◌, ℕ, true, Option, Some, None, is_some, List, [], ap, sym, ◌∙◌}
use Rattle.std.specs.List.{AllByRecursion}
use Rattle.omega_text.specs.declared.refusal.automaton.AutomatonFault.{AutomatonFault}
use Rattle.omega_text.specs.declared.refusal.automaton.AutomatonFault.TheVariants.{AcceptanceAtom, Alias, Expansion, ImplicitCount, MissingAcceptance, MixedLabels, Proposition, RepeatedHeader, SetRange, StateRange, StateTwice, TooDeep, UnknownHeader, Version}
use Rattle.omega_hoa_syntax.specs.Grammar.{IsRawItem, IsRawState}
use Rattle.omega_hoa_syntax.specs.declared.raw_automaton.RawAutomaton.{RawAutomaton}
use Rattle.omega_hoa_automaton.specs.Faults.{applies, automaton_fault_of, set_count, state_count}
use Rattle.omega_hoa_automaton.specs.Laws.{FaultsAreLeast, MeaningsAreThere}
use Rattle.omega_hoa.specs.Laws.{AutomataAreUnrefused, AutomataFillSegments, RefusalsAreOne}
use Rattle.omega_hoa_diagnostics.specs.Aliases.{AliasMention, alias_mentions, defined, first_wrong_alias, used, wrong_alias_line}
use Rattle.omega_hoa_diagnostics.specs.AutomatonCauses.{fault_line, line_for}
use Rattle.omega_hoa_diagnostics.specs.Finding.{line_about}
use Rattle.omega_hoa_diagnostics.specs.Laws.{CausesAreOfRefusals, has_line}
use Rattle.omega_hoa_diagnostics.specs.Sets.{first_set_beyond, no_set_line}
use Rattle.omega_hoa_diagnostics.specs.States.{first_state_beyond, first_state_twice, no_state_line, twice_line}
use Rattle.omega_hoa_diagnostics.specs.declared.sets.SetMention.{SetMention}
use Rattle.omega_hoa_diagnostics.specs.declared.sets.SetMention.TheVariants.{Acceptance, Mark}
use Rattle.omega_hoa_diagnostics.specs.declared.states.StateMention.{StateMention}
use Rattle.omega_hoa_diagnostics.specs.declared.states.StateMention.TheVariants.{Edge, Number, Start}
use Rattle.omega_hoa_diagnostics.proofs.Texts.{refused_for}
use Rattle.omega_hoa_diagnostics.proofs.told.Aliases.{alias_is_found}
use Rattle.omega_hoa_diagnostics.proofs.told.Numbers.{set_is_found, state_is_found}
use Rattle.omega_hoa_diagnostics.proofs.told.Repeats.{twice_is_found}

-- what is found has a line
line_there : {X : Type 0} (line : X → List ℕ) (found : Option X) → ((x : X) → line x ≡ [] → ⊥) → is_some found ≡ true → line_about line found ≡ [] → ⊥
line_there line None full some none = absurd (cc)
line_there line (Some x) full some none = full x none

state_line_full : (count : ℕ) (mention : StateMention) → no_state_line count mention ≡ [] → ⊥
state_line_full count (Start state) none = cc
state_line_full count (Number state) none = cc
state_line_full count (Edge source target) none = cc

set_line_full : (count : ℕ) (mention : SetMention) → no_set_line count mention ≡ [] → ⊥
set_line_full count (Acceptance set) none = cc
set_line_full count (Mark state set) none = cc

alias_line_full : (mention : AliasMention) → wrong_alias_line mention ≡ [] → ⊥
alias_line_full (used name) none = cc
alias_line_full (defined name) none = cc

twice_line_full : (state : ℕ) → twice_line state ≡ [] → ⊥
twice_line_full state none = cc

-- a fault that applies and has a line has one
line_is_there : (raw : RawAutomaton) (fault : AutomatonFault) → AllByRecursion IsRawItem raw.items → AllByRecursion IsRawState raw.states
    → applies raw fault ≡ true → has_line fault ≡ true → fault_line raw fault ≡ [] → ⊥
line_is_there raw Version items states is has none = absurd (cc)
line_is_there raw RepeatedHeader items states is has none = absurd (cc)
line_is_there raw MissingAcceptance items states is has none = absurd (cc)
line_is_there raw UnknownHeader items states is has none = absurd (cc)
line_is_there raw StateRange items states is has none =
    line_there (no_state_line (state_count raw)) (first_state_beyond raw) (state_line_full (state_count raw)) (state_is_found raw items states is) none
line_is_there raw SetRange items states is has none =
    line_there (no_set_line (set_count raw)) (first_set_beyond raw) (set_line_full (set_count raw)) (set_is_found raw is) none
line_is_there raw Proposition items states is has none = absurd (cc)
line_is_there raw Alias items states is has none =
    line_there wrong_alias_line (first_wrong_alias [] (alias_mentions raw)) alias_line_full (alias_is_found raw is) none
line_is_there raw StateTwice items states is has none =
    line_there twice_line (first_state_twice raw.states) twice_line_full (twice_is_found raw is) none
line_is_there raw MixedLabels items states is has none = absurd (cc)
line_is_there raw ImplicitCount items states is has none = absurd (cc)
line_is_there raw AcceptanceAtom items states is has none = absurd (cc)
line_is_there raw TooDeep items states is has none = absurd (cc)
line_is_there raw Expansion items states is has none = absurd (cc)

-- the line for a text is about the fault for which the text is refused
pub causes_of_refusals : AutomataFillSegments → AutomataAreUnrefused → RefusalsAreOne → MeaningsAreThere → FaultsAreLeast → CausesAreOfRefusals
causes_of_refusals fill unrefused one there least text line fault why cause =
    let refused = refused_for text fault fill unrefused one there why in
    let has : automaton_fault_of refused.raw ≡ Some fault = refused.has refused.raw refused.writes in
    let about : line ≡ fault_line refused.raw fault = cause.written refused.raw refused.writes ∙ ap (line_for refused.raw) has in
    record {
      raw = refused.raw;
      writes = refused.writes;
      about = about;
      there = λ told none.
          line_is_there refused.raw fault refused.writes.written.items refused.writes.written.states (least refused.raw fault has).0 told (sym about ∙ none);
    }
