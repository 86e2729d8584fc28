-- The fault of an automaton that is written, found in order.
use Rattle.std.proofs.Common.{◌≡◌, Bool, true, false, cond, ◌||◌, List, [], ◌∷◌, ◌++◌, map, Option, Some, None, nat_lt, is_none, refl, ap, sym, ◌∙◌}
use Rattle.std.specs.List.{find, list_any}
use Rattle.std.specs.Option.{option_or}
use Rattle.std.specs.Str.{bytes_eq}
use Rattle.omega_text.specs.declared.refusal.automaton.AutomatonFault.{AutomatonFault}
use Rattle.omega_text.specs.declared.refusal.automaton.AutomatonFault.TheVariants.{AcceptanceAtom, Alias, Expansion, ImplicitCount, MissingAcceptance, MixedLabels, Proposition, RepeatedHeader, SetRange, StateRange, StateTwice, TooDeep, UnknownHeader, Version}
use Rattle.omega_hoa_label_text.specs.Expanding.{Defined, Entry, entries_of}
use Rattle.omega_hoa_expression.specs.Limits.{most_depth}
use Rattle.omega_hoa_acceptance.specs.Raw.{raw_acc_depth}
use Rattle.omega_hoa_syntax.specs.declared.raw_automaton.RawAutomaton.{RawAutomaton}
use Rattle.omega_hoa_syntax.specs.declared.raw_item.RawItem.{RawItem}
use Rattle.omega_hoa_syntax.specs.declared.raw_state.RawState.{RawState}
use Rattle.omega_hoa_automaton.specs.Automaton.{has_repeat}
use Rattle.omega_hoa_automaton.specs.Faults.{applies, definitions_of, automaton_fault_of, has_deep_expression, has_large_expression, has_wrong_alias, passes}
use Rattle.omega_hoa_automaton.specs.Items.{Accepted, acceptance_in}
use Rattle.omega_hoa_automaton.specs.declared.making.definitions.Definitions.{Definitions}
use Rattle.omega_hoa_automaton.specs.private.layout.Definitions.{AreNoted, has_wrong_definition}
use Rattle.omega_hoa_automaton.specs.private.layout.Order.{early_fault, is_any_deep, is_any_large, last_fault, late_fault}
use Rattle.omega_hoa_automaton.specs.private.layout.Findings.{labels_pass}

-- what is found among some and others is found among the first, or else among the others
find-append : {X : Type 0} (test : X → Bool) (xs ys : List X) → find test (xs ++ ys) ≡ option_or (find test xs) (find test ys)
find-append test [] ys = refl
find-append test (x ∷ xs) ys = by_test (test x) (find-append test xs ys)
  where
    by_test : (b : Bool) → find test (xs ++ ys) ≡ option_or (find test xs) (find test ys)
        → cond b (Some x) (find test (xs ++ ys)) ≡ option_or (cond b (Some x) (find test xs)) (find test ys)
    by_test true rest = refl
    by_test false rest = rest

-- the faults before that of aliases
abbrev early : List AutomatonFault
early = Version ∷ RepeatedHeader ∷ MissingAcceptance ∷ UnknownHeader ∷ StateRange ∷ SetRange ∷ Proposition ∷ []

-- the faults between aliases and depth
abbrev late : List AutomatonFault
late = StateTwice ∷ MixedLabels ∷ ImplicitCount ∷ AcceptanceAtom ∷ []

-- the fault: an early one, or else that of aliases, or else a late one, or else depth, or else size
in_order : (raw : RawAutomaton)
    → automaton_fault_of raw ≡ option_or (early_fault raw) (cond (has_wrong_alias raw) (Some Alias) (option_or (late_fault raw)
    (cond (has_deep_expression raw) (Some TooDeep) (cond (has_large_expression raw) (Some Expansion) None))))
in_order raw =
    find-append (applies raw) early (Alias ∷ late ++ TooDeep ∷ Expansion ∷ [])
    ∙ ap (λ o. option_or (early_fault raw) (cond (has_wrong_alias raw) (Some Alias) o)) (find-append (applies raw) late (TooDeep ∷ Expansion ∷ []))

-- one of three, if the first two fail
or_third : (a b c : Bool) → (a || b) ≡ false → (a || (b || c)) ≡ c
or_third true b c h = absurd (let no : ⊥ = cc in no)
or_third false true c h = absurd (let no : ⊥ = cc in no)
or_third false false c h = refl

-- whether an alias is wrong, if no definition is
alias_wrong : (raw : RawAutomaton) (aliases : List Defined) → aliases ≡ definitions_of raw → has_wrong_definition (definitions_of raw) ≡ false
    → has_wrong_alias raw ≡ labels_pass is_none aliases raw.states
unfolding has_wrong_alias
alias_wrong raw aliases is sound = or_third _ _ _ sound ∙ ap (λ x. labels_pass is_none x raw.states) (sym is)

-- whether an expression is too deep
deep_is : (raw : RawAutomaton) (definitions : Definitions) (acceptance : Bool) → AreNoted (definitions_of raw) definitions
    → acceptance ≡ list_any (λ (item : RawItem). passes (λ (accepted : Accepted). nat_lt most_depth (raw_acc_depth accepted.formula)) (acceptance_in item)) raw.items
    → has_deep_expression raw ≡ is_any_deep definitions raw.states acceptance
unfolding has_deep_expression
deep_is raw definitions acceptance all is = rw (is, all.deep, all.aliases) refl

-- whether an expression is too large
large_is : (raw : RawAutomaton) (definitions : Definitions) → AreNoted (definitions_of raw) definitions
    → has_large_expression raw ≡ is_any_large definitions raw.states
unfolding has_large_expression
large_is raw definitions all = rw (all.large, all.aliases) refl

-- the fault if none of the early ones applies and no definition is wrong
last_is : (raw : RawAutomaton) (definitions : Definitions) (later : Option AutomatonFault) (acceptance : Bool) → early_fault raw ≡ None
    → AreNoted (definitions_of raw) definitions → later ≡ late_fault raw
    → acceptance ≡ list_any (λ (item : RawItem). passes (λ (accepted : Accepted). nat_lt most_depth (raw_acc_depth accepted.formula)) (acceptance_in item)) raw.items
    → automaton_fault_of raw ≡ last_fault definitions raw.states later acceptance
last_is raw definitions later acceptance none all after is =
    in_order raw
    ∙ rw (none, alias_wrong raw definitions.aliases all.aliases all.sound, deep_is raw definitions acceptance all is, large_is raw definitions all, after) refl

-- the same of the fault that was found
pub last_as : (raw : RawAutomaton) (definitions : Definitions) (states : List RawState) (later fault : Option AutomatonFault) (acceptance : Bool)
    → early_fault raw ≡ None → AreNoted (definitions_of raw) definitions → states ≡ raw.states → later ≡ late_fault raw
    → acceptance ≡ list_any (λ (item : RawItem). passes (λ (accepted : Accepted). nat_lt most_depth (raw_acc_depth accepted.formula)) (acceptance_in item)) raw.items
    → fault ≡ last_fault definitions states later acceptance → automaton_fault_of raw ≡ fault
last_as raw definitions states later fault acceptance none all same after is found =
    last_is raw definitions later acceptance none all after is ∙ (ap (λ x. last_fault definitions x later acceptance) (sym same) ∙ sym found)

-- one of three, if one of the first two holds
or_some : (a b c : Bool) → (a || b) ≡ true → (a || (b || c)) ≡ true
or_some true b c h = refl
or_some false true c h = refl
or_some false false c h = absurd (let no : ⊥ = cc in no)

-- a wrong definition is a wrong alias
definition_wrong : (raw : RawAutomaton) → has_wrong_definition (definitions_of raw) ≡ true → has_wrong_alias raw ≡ true
unfolding has_wrong_alias
definition_wrong raw wrong =
    or_some (has_repeat bytes_eq (map (λ (x : Defined). x.name) (definitions_of raw)))
    (list_any (λ (entry : Entry). is_none entry.meaning) (entries_of [] (definitions_of raw)))
    (labels_pass is_none (definitions_of raw) raw.states) wrong

-- the fault if none of the early ones applies and some definition is wrong
pub alias_is : (raw : RawAutomaton) → early_fault raw ≡ None → has_wrong_definition (definitions_of raw) ≡ true → automaton_fault_of raw ≡ Some Alias
alias_is raw none wrong = in_order raw ∙ rw (none, definition_wrong raw wrong) refl
