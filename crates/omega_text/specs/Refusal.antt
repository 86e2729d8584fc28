-- The number, the name and the place of each refusal.
use Rattle.std.specs.Prelude.{ℕ, List, Option, Some, None, codes}
use Rattle.omega_text.specs.declared.refusal.Refusal.{Refusal}
use Rattle.omega_text.specs.declared.refusal.Refusal.TheVariants.{Automaton, Circuit, Game, Io, Memory, Task, Text}
use Rattle.omega_text.specs.declared.refusal.text.TextFault.{TextFault}
use Rattle.omega_text.specs.declared.refusal.text.TextFault.TheVariants.{Lex, Number, Syntax, TooLong}
use Rattle.omega_text.specs.declared.refusal.game.GameFault.{GameFault}
use Rattle.omega_text.specs.declared.refusal.game.GameFault.TheVariants.{DuplicateNode, HeaderTooSmall}
use Rattle.omega_text.specs.declared.refusal.game.GameFault.TheVariants.{TooManyEdges, TooManyNodes}
use Rattle.omega_text.specs.declared.refusal.game.GameFault.TheVariants.{UndefinedSuccessor}
use Rattle.omega_text.specs.declared.refusal.automaton.AutomatonFault.{AutomatonFault}
use Rattle.omega_text.specs.declared.refusal.automaton.AutomatonFault.TheVariants.{AcceptanceAtom, Alias}
use Rattle.omega_text.specs.declared.refusal.automaton.AutomatonFault.TheVariants.{Expansion, ImplicitCount}
use Rattle.omega_text.specs.declared.refusal.automaton.AutomatonFault.TheVariants.{MissingAcceptance}
use Rattle.omega_text.specs.declared.refusal.automaton.AutomatonFault.TheVariants.{MixedLabels, Proposition}
use Rattle.omega_text.specs.declared.refusal.automaton.AutomatonFault.TheVariants.{RepeatedHeader, SetRange}
use Rattle.omega_text.specs.declared.refusal.automaton.AutomatonFault.TheVariants.{StateRange, StateTwice}
use Rattle.omega_text.specs.declared.refusal.automaton.AutomatonFault.TheVariants.{TooDeep, UnknownHeader}
use Rattle.omega_text.specs.declared.refusal.automaton.AutomatonFault.TheVariants.{Version}
use Rattle.omega_text.specs.declared.refusal.circuit.CircuitFault.{CircuitFault}
use Rattle.omega_text.specs.declared.refusal.circuit.CircuitFault.TheVariants.{Cycle, Defined, LiteralRange}
use Rattle.omega_text.specs.declared.refusal.circuit.CircuitFault.TheVariants.{Name, Properties, Reset, Symbol}
use Rattle.omega_text.specs.declared.refusal.circuit.CircuitFault.TheVariants.{Undefined, Variables}
use Rattle.omega_text.specs.declared.refusal.task.TaskFault.{TaskFault}
use Rattle.omega_text.specs.declared.refusal.task.TaskFault.TheVariants.{BadSolution, Budget, Controllable}
use Rattle.omega_text.specs.declared.refusal.task.TaskFault.TheVariants.{NotDeterministic, NotParity}
use Rattle.omega_text.specs.declared.refusal.task.TaskFault.TheVariants.{TooLarge, TooManyPropositions}
use Rattle.omega_text.specs.declared.refusal.task.TaskFault.TheVariants.{TooWide, UniversalBranch}
use Rattle.omega_text.specs.declared.refusal.task.TaskFault.TheVariants.{Unjudged, UnknownNode}

-- the number of a fault of a text
abbrev pub text_number : TextFault → ℕ
text_number (Lex at) = 1
text_number (Number at) = 2
text_number (Syntax at) = 3
text_number TooLong = 4

-- the name of a fault of a text
abbrev pub text_name : TextFault → List ℕ
text_name (Lex at) = codes "Lex"
text_name (Number at) = codes "Number"
text_name (Syntax at) = codes "Syntax"
text_name TooLong = codes "TooLong"

-- the place of a fault of a text
abbrev pub text_place : TextFault → Option ℕ
text_place (Lex at) = Some at
text_place (Number at) = Some at
text_place (Syntax at) = Some at
text_place TooLong = None

-- the number of a fault of specifications of a game
abbrev pub game_number : GameFault → ℕ
game_number DuplicateNode = 10
game_number UndefinedSuccessor = 11
game_number HeaderTooSmall = 12
game_number TooManyNodes = 13
game_number TooManyEdges = 14

-- the name of a fault of specifications of a game
abbrev pub game_name : GameFault → List ℕ
game_name DuplicateNode = codes "DuplicateNode"
game_name UndefinedSuccessor = codes "UndefinedSuccessor"
game_name HeaderTooSmall = codes "HeaderTooSmall"
game_name TooManyNodes = codes "TooManyNodes"
game_name TooManyEdges = codes "TooManyEdges"

-- the number of a fault of an automaton
abbrev pub automaton_number : AutomatonFault → ℕ
automaton_number Version = 20
automaton_number RepeatedHeader = 21
automaton_number MissingAcceptance = 22
automaton_number UnknownHeader = 23
automaton_number StateRange = 24
automaton_number SetRange = 25
automaton_number Proposition = 26
automaton_number Alias = 27
automaton_number StateTwice = 28
automaton_number MixedLabels = 29
automaton_number ImplicitCount = 30
automaton_number AcceptanceAtom = 31
automaton_number TooDeep = 32
automaton_number Expansion = 33

-- the name of a fault of an automaton
abbrev pub automaton_name : AutomatonFault → List ℕ
automaton_name Version = codes "Version"
automaton_name RepeatedHeader = codes "RepeatedHeader"
automaton_name MissingAcceptance = codes "MissingAcceptance"
automaton_name UnknownHeader = codes "UnknownHeader"
automaton_name StateRange = codes "StateRange"
automaton_name SetRange = codes "SetRange"
automaton_name Proposition = codes "Proposition"
automaton_name Alias = codes "Alias"
automaton_name StateTwice = codes "StateTwice"
automaton_name MixedLabels = codes "MixedLabels"
automaton_name ImplicitCount = codes "ImplicitCount"
automaton_name AcceptanceAtom = codes "AcceptanceAtom"
automaton_name TooDeep = codes "TooDeep"
automaton_name Expansion = codes "Expansion"

-- the number of a fault of a task
abbrev pub task_number : TaskFault → ℕ
task_number NotParity = 40
task_number UniversalBranch = 41
task_number TooManyPropositions = 42
task_number TooWide = 50
task_number Budget = 51
task_number BadSolution = 53
task_number UnknownNode = 54
task_number TooLarge = 55
task_number (NotDeterministic state) = 56
task_number Controllable = 58
task_number Unjudged = 59

-- the name of a fault of a task
abbrev pub task_name : TaskFault → List ℕ
task_name NotParity = codes "NotParity"
task_name UniversalBranch = codes "UniversalBranch"
task_name TooManyPropositions = codes "TooManyPropositions"
task_name TooWide = codes "TooWide"
task_name Budget = codes "Budget"
task_name BadSolution = codes "BadSolution"
task_name UnknownNode = codes "UnknownNode"
task_name TooLarge = codes "TooLarge"
task_name (NotDeterministic state) = codes "NotDeterministic"
task_name Controllable = codes "Controllable"
task_name Unjudged = codes "Unjudged"

-- the number that a fault of a task has: that of a state
abbrev pub task_place : TaskFault → Option ℕ
task_place NotParity = None
task_place UniversalBranch = None
task_place TooManyPropositions = None
task_place TooWide = None
task_place Budget = None
task_place BadSolution = None
task_place UnknownNode = None
task_place TooLarge = None
task_place (NotDeterministic state) = Some state
task_place Controllable = None
task_place Unjudged = None

-- the number of a fault of a circuit
abbrev pub circuit_number : CircuitFault → ℕ
circuit_number Variables = 70
circuit_number LiteralRange = 71
circuit_number Defined = 72
circuit_number Undefined = 73
circuit_number Cycle = 74
circuit_number Reset = 75
circuit_number Symbol = 76
circuit_number Properties = 77
circuit_number Name = 78

-- the name of a fault of a circuit
abbrev pub circuit_name : CircuitFault → List ℕ
circuit_name Variables = codes "Variables"
circuit_name LiteralRange = codes "LiteralRange"
circuit_name Defined = codes "Defined"
circuit_name Undefined = codes "Undefined"
circuit_name Cycle = codes "Cycle"
circuit_name Reset = codes "Reset"
circuit_name Symbol = codes "Symbol"
circuit_name Properties = codes "Properties"
circuit_name Name = codes "Name"

-- the one number of a refusal
abbrev pub number_of : Refusal → ℕ
number_of (Text fault) = text_number fault
number_of (Game fault) = game_number fault
number_of (Automaton fault) = automaton_number fault
number_of (Task fault) = task_number fault
number_of Memory = 60
number_of Io = 61
number_of (Circuit fault) = circuit_number fault

-- the one name of a refusal
abbrev pub name_of : Refusal → List ℕ
name_of (Text fault) = text_name fault
name_of (Game fault) = game_name fault
name_of (Automaton fault) = automaton_name fault
name_of (Task fault) = task_name fault
name_of Memory = codes "Memory"
name_of Io = codes "Io"
name_of (Circuit fault) = circuit_name fault

-- the place of a refusal, which only refusals of tokens and of the grammar have, or the number of its state
abbrev pub place_of : Refusal → Option ℕ
place_of (Text fault) = text_place fault
place_of (Game fault) = None
place_of (Automaton fault) = None
place_of (Task fault) = task_place fault
place_of Memory = None
place_of Io = None
place_of (Circuit fault) = None
