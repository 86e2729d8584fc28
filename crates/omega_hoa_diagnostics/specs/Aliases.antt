-- Aliases that are used where they are not defined, or defined twice.
use Rattle.std.specs.Prelude.{ℕ, Bool, not, if◌then◌else◌, Option, Some}
use Rattle.std.specs.Prelude.{None, List, [], ◌∷◌, ◌++◌, codes, map}
use Rattle.std.specs.List.{flat_map, list_any}
use Rattle.std.specs.Str.{bytes_eq}
use Rattle.omega_hoa_label_text.specs.Expanding.{Defined}
use Rattle.omega_hoa_label.specs.Raw.{RawLabelTree, alias, conjunction, constant}
use Rattle.omega_hoa_label.specs.Raw.{disjunction, group, negation, proposition}
use Rattle.omega_hoa_syntax.specs.declared.raw_automaton.RawAutomaton.{RawAutomaton}
use Rattle.omega_hoa_syntax.specs.declared.raw_state.RawState.{RawState}
use Rattle.omega_hoa_automaton.specs.Faults.{definitions_of}
use Rattle.omega_hoa_diagnostics.specs.Finding.{line_about}

-- what a text says of an alias: a label uses its name, or an item defines it
pub data AliasMention : Type 0 where
  used : List ℕ → AliasMention
  defined : List ℕ → AliasMention

-- the aliases of a label from left to right, each as often as it occurs
abbrev pub label_aliases : RawLabelTree → List (List ℕ)
label_aliases (constant value) = []
label_aliases (proposition number) = []
label_aliases (alias name) = name ∷ []
label_aliases (negation part) = label_aliases part
label_aliases (conjunction left right) = label_aliases left ++ label_aliases right
label_aliases (disjunction left right) = label_aliases left ++ label_aliases right
label_aliases (group part) = label_aliases part

-- the uses in a label, or none without a label
abbrev pub uses_in : Option RawLabelTree → List AliasMention
uses_in None = []
uses_in (Some label) = map used (label_aliases label)

-- what an item says of aliases: it uses those of its definition, and then defines its own
abbrev pub definition_mentions : Defined → List AliasMention
definition_mentions definition = uses_in (Some definition.body) ++ defined definition.name ∷ []

-- the uses in the labels of a state of the body and of its edges
abbrev pub state_mentions : RawState → List AliasMention
state_mentions state = uses_in state.label ++ flat_map (λ edge. uses_in edge.label) state.edges

-- what a text says of aliases, in its order
abbrev pub alias_mentions : RawAutomaton → List AliasMention
alias_mentions raw =
    flat_map definition_mentions (definitions_of raw) ++ flat_map state_mentions raw.states

-- a name is among these
abbrev pub is_among : List ℕ → List (List ℕ) → Bool
is_among name names = list_any (bytes_eq name) names

-- a mention is wrong where these names are defined: it uses another, or defines one of them again
abbrev pub is_wrong : List (List ℕ) → AliasMention → Bool
is_wrong names (used name) = not (is_among name names)
is_wrong names (defined name) = is_among name names

-- the names that are defined after a mention
abbrev pub names_after : List (List ℕ) → AliasMention → List (List ℕ)
names_after names (used name) = names
names_after names (defined name) = names ++ name ∷ []

-- the first of mentions that is wrong, where these names are defined before them
abbrev pub first_wrong_alias : List (List ℕ) → List AliasMention → Option AliasMention
first_wrong_alias names [] = None
first_wrong_alias names (mention ∷ mentions) = if is_wrong names mention then Some mention
    else first_wrong_alias (names_after names mention) mentions

-- the line about an alias that is used where it is not defined, or defined twice
abbrev pub wrong_alias_line : AliasMention → List ℕ
wrong_alias_line (used name) = codes "omega: alias " ++ (name ++ codes " is not defined\n")
wrong_alias_line (defined name) = codes "omega: alias " ++ (name ++ codes " is defined twice\n")

-- the line about the first of these
abbrev pub alias_line : RawAutomaton → List ℕ
alias_line raw = line_about wrong_alias_line (first_wrong_alias [] (alias_mentions raw))
