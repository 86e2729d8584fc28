-- What an automaton keeps if its canonical text is one: identifiers, strings and numbers that a text can have
-- (docs/formats.md, HOA tokens).
use Rattle.std.specs.Prelude.{◌≡◌, ℕ, ◌<◌, ◌≤◌, List, IfSome, length}
use Rattle.std.specs.List.{AllByRecursion}
use Rattle.omega_text.specs.Forms.{IsWord}
use Rattle.omega_text.specs.Limits.{most_number}
use Rattle.omega_text.specs.declared.hoa.kind.HoaKind.TheVariants as kind
use Rattle.omega_text.specs.hoa.Forms.{IsForm, IsQuotable}
use Rattle.omega_hoa_label.specs.Writing.{NumbersFit}
use Rattle.omega_hoa_acceptance.specs.Writing.{SetsFit}
use Rattle.omega_hoa_acceptance.specs.declared.name.AccName.{AccName}
use Rattle.omega_hoa_acceptance.specs.declared.name.Parameter.{Parameter}
use Rattle.omega_hoa_acceptance.specs.declared.name.Parameter.TheVariants as parameter
use Rattle.omega_hoa_syntax.specs.Grammar.{header_named}
use Rattle.omega_hoa_syntax.specs.declared.header.name.HeaderKind.TheVariants as named
use Rattle.omega_hoa_syntax.specs.declared.header_value.HeaderValue.{HeaderValue}
use Rattle.omega_hoa_syntax.specs.declared.header_value.HeaderValue.TheVariants as value
use Rattle.omega_hoa_automaton.specs.Automaton.{Description}
use Rattle.omega_hoa_automaton.specs.declared.edge.Edge.{Edge}
use Rattle.omega_hoa_automaton.specs.declared.header.Header.{Header}
use Rattle.omega_hoa_automaton.specs.declared.state.State.{State}
use Rattle.omega_hoa_automaton.specs.declared.tool.Tool.{Tool}

-- a number that a text can have
abbrev pub IsWritableNumber : ℕ → Type 0
IsWritableNumber number = number ≤ most_number

-- an identifier
abbrev pub IsIdentifier : List ℕ → Type 0
IsIdentifier bytes = IsForm kind.Identifier bytes

-- states joined by `&`: at least one
pub record AreJoined (states : List ℕ) : Type 0 where
  pub listed : 0 < length states
  pub fit : AllByRecursion IsWritableNumber states

-- a tool
pub record IsWritableTool (tool : Tool) : Type 0 where
  pub name : IsQuotable tool.name
  pub version : IfSome tool.version IsQuotable

-- a parameter of the name of an acceptance
abbrev pub IsWritableParameter : Parameter → Type 0
IsWritableParameter (parameter.Boolean truth) = Unit {0}
IsWritableParameter (parameter.Number number) = IsWritableNumber number
IsWritableParameter (parameter.Word bytes) = IsIdentifier bytes

-- the name of an acceptance
pub record IsWritableName (name : AccName) : Type 0 where
  pub name_is : IsIdentifier name.name
  pub parameters : AllByRecursion IsWritableParameter name.parameters

-- a value of a header that the format leaves open
abbrev pub IsWritableValue : HeaderValue → Type 0
IsWritableValue (value.Boolean truth) = Unit {0}
IsWritableValue (value.Number number) = IsWritableNumber number
IsWritableValue (value.Text bytes) = IsQuotable bytes
IsWritableValue (value.Word bytes) = IsIdentifier bytes

-- a header that the format leaves open: its name is a word, and none that the format knows
pub record IsWritableHeader (header : Header) : Type 0 where
  pub word : IsWord header.name
  pub unknown : header_named header.name ≡ named.Unknown
  pub values : AllByRecursion IsWritableValue header.values

-- an edge
pub record IsWritableEdge (edge : Edge) : Type 0 where
  pub label : IfSome edge.label NumbersFit
  pub targets : AreJoined edge.targets
  pub marks : AllByRecursion IsWritableNumber edge.marks

-- a state and its edges
pub record IsWritableState (state : State) : Type 0 where
  pub label : IfSome state.label NumbersFit
  pub number : IsWritableNumber state.number
  pub name : IfSome state.name IsQuotable
  pub marks : AllByRecursion IsWritableNumber state.marks
  pub edges : AllByRecursion IsWritableEdge state.edges

-- an automaton
pub record IsWritableAutomaton (a : Description) : Type 0 where
  pub tool : IfSome a.tool IsWritableTool
  pub name : IfSome a.name IsQuotable
  pub states : IsWritableNumber a.states
  pub starts : AllByRecursion AreJoined a.starts
  pub count : IsWritableNumber (length a.propositions)
  pub propositions : AllByRecursion IsQuotable a.propositions
  pub acc_name : IfSome a.acc_name IsWritableName
  pub sets : IsWritableNumber a.sets
  pub acceptance : SetsFit a.acceptance
  pub properties : AllByRecursion IsIdentifier a.properties
  pub unknown : AllByRecursion IsWritableHeader a.unknown
  pub defined : AllByRecursion IsWritableState a.defined
