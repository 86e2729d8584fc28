-- The lines of the header in the canonical text of an automaton, in their order.
use Rattle.std.specs.Prelude.{ℕ, Option, Some, None, List, [], ◌∷◌, ◌++◌, length, codes, decimal}
use Rattle.std.specs.List.{flat_map}
use Rattle.omega_hoa_acceptance.specs.Acceptance.{AccTree}
use Rattle.omega_hoa_expression.specs.Writing.{truth_text}
use Rattle.omega_hoa_acceptance.specs.Writing.{acc_text}
use Rattle.omega_hoa_acceptance.specs.declared.name.AccName.{AccName}
use Rattle.omega_hoa_acceptance.specs.declared.name.Parameter.{Parameter}
use Rattle.omega_hoa_acceptance.specs.declared.name.Parameter.TheVariants as parameter
use Rattle.omega_hoa_automaton.specs.Automaton.{Description}
use Rattle.omega_hoa_automaton.specs.declared.header.Header.{Header}
use Rattle.omega_hoa_automaton.specs.declared.tool.Tool.{Tool}
use Rattle.omega_hoa_syntax.specs.declared.header_value.HeaderValue.{HeaderValue}
use Rattle.omega_hoa_syntax.specs.declared.header_value.HeaderValue.TheVariants as value
use Rattle.omega_canon.specs.Parts.{conjunction, quoted_string, spaced, string_part, strings, words}

-- `tool:` with its strings, if there is one
abbrev pub tool_line : Option Tool → List ℕ
tool_line None = []
tool_line (Some tool) =
    codes "tool:" ++ (spaced (quoted_string tool.name) ++ (string_part tool.version ++ codes "\n"))

-- `name:` with its string, if there is one
abbrev pub name_line : Option (List ℕ) → List ℕ
name_line None = []
name_line (Some bytes) = codes "name:" ++ (spaced (quoted_string bytes) ++ codes "\n")

-- `States:` and the count
abbrev pub states_line : ℕ → List ℕ
states_line count = codes "States: " ++ (decimal count ++ codes "\n")

-- `Start:` and the states of one initial choice
abbrev pub start_line : List ℕ → List ℕ
start_line states = codes "Start: " ++ (conjunction states ++ codes "\n")

-- `AP:` with the count and the names of the propositions
abbrev pub propositions_line : List (List ℕ) → List ℕ
propositions_line names = codes "AP: " ++ (decimal (length names) ++ (strings names ++ codes "\n"))

-- a parameter of an acceptance name, a space before it
abbrev pub parameter_part : Parameter → List ℕ
parameter_part (parameter.Boolean truth) = spaced (truth_text truth)
parameter_part (parameter.Number number) = spaced (decimal number)
parameter_part (parameter.Word bytes) = spaced bytes

-- `acc-name:` with its parameters, if there is one
abbrev pub acc_name_line : Option AccName → List ℕ
acc_name_line None = []
acc_name_line (Some name) = codes "acc-name:"
    ++ (spaced name.name ++ (flat_map parameter_part name.parameters ++ codes "\n"))

-- `Acceptance:`, the count of sets and the formula
abbrev pub acceptance_line : ℕ → AccTree → List ℕ
acceptance_line sets formula =
    codes "Acceptance: " ++ (decimal sets ++ (spaced (acc_text formula).bytes ++ codes "\n"))

-- `properties:` with all identifiers, if there are any
abbrev pub properties_line : List (List ℕ) → List ℕ
properties_line [] = []
properties_line (first ∷ others) = codes "properties:" ++ (words (first ∷ others) ++ codes "\n")

-- a value of a header that the format leaves open, a space before it
abbrev pub value_part : HeaderValue → List ℕ
value_part (value.Boolean truth) = spaced (truth_text truth)
value_part (value.Number number) = spaced (decimal number)
value_part (value.Text bytes) = spaced (quoted_string bytes)
value_part (value.Word bytes) = spaced bytes

-- a header that the format leaves open, with its values
abbrev pub unknown_line : Header → List ℕ
unknown_line header = header.name ++ (codes ":" ++ (flat_map value_part header.values ++ codes "\n"))

-- all lines before the body
abbrev pub header_text : Description → List ℕ
header_text a = codes "HOA: v1\n"
    ++ (tool_line a.tool ++ (name_line a.name ++ (states_line a.states ++ (flat_map start_line a.starts
    ++ (propositions_line a.propositions ++ (acc_name_line a.acc_name ++ (acceptance_line a.sets
    a.acceptance ++ (properties_line a.properties ++ flat_map unknown_line a.unknown))))))))
