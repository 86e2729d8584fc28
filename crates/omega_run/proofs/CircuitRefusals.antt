-- What refuses to write a circuit for a formula is no read and no write that failed.
use Rattle.std.proofs.Common.{◌≡◌, List, ℕ, inl, inr}
use Rattle.omega_text.specs.declared.refusal.Refusal.{Refusal}
use Rattle.omega_text.specs.declared.refusal.Refusal.TheVariants.{Automaton, Circuit, Game, Io, Memory, Task, Text}
use Rattle.omega_text.specs.declared.refusal.automaton.AutomatonFault.{AutomatonFault}
use Rattle.omega_text.specs.declared.refusal.automaton.AutomatonFault.TheVariants as automata
use Rattle.omega_text.specs.declared.refusal.task.TaskFault.{TaskFault}
use Rattle.omega_text.specs.declared.refusal.task.TaskFault.TheVariants as tasks
use Rattle.omega_text.specs.declared.refusal.text.TextFault.{TextFault}
use Rattle.omega_text.specs.declared.refusal.text.TextFault.TheVariants as texts
use Rattle.omega_io.specs.declared.exit.Exit.{Exit}
use Rattle.omega_io.specs.declared.refused.Refused.{Refused}
use Rattle.omega_answers_circuit.specs.ControllerCircuit as drawn
use Rattle.omega_answers_circuit.specs.FormulaCircuit as formula
use Rattle.omega_answers_circuit.specs.OwnCircuit as own
use Rattle.omega_answers_circuit.specs.declared.circuit_form.CircuitForm.{CircuitForm}
use Rattle.omega_answers_synth.specs.FormulaRefusing.{IsFormulaRealizeRefusal}
use Rattle.omega_answers_synth.specs.Outputs.{NameLists}
use Rattle.omega_answers_synth.specs.private.Own.{unread_for_size}

-- what is said of a text of the program that is not read
no_unread : (found : Refusal) → ¬ (Io ≡ unread_for_size found)
no_unread (Text fault) e = go fault e
  where
    go : (fault : TextFault) → ¬ (Io ≡ unread_for_size (Text fault))
    go (texts.Lex at) e = cc
    go (texts.Number at) e = cc
    go (texts.Syntax at) e = cc
    go texts.TooLong e = cc
no_unread (Automaton fault) e = go fault e
  where
    go : (fault : AutomatonFault) → ¬ (Io ≡ unread_for_size (Automaton fault))
    go automata.Version e = cc
    go automata.RepeatedHeader e = cc
    go automata.MissingAcceptance e = cc
    go automata.UnknownHeader e = cc
    go automata.StateRange e = cc
    go automata.SetRange e = cc
    go automata.Proposition e = cc
    go automata.Alias e = cc
    go automata.StateTwice e = cc
    go automata.MixedLabels e = cc
    go automata.ImplicitCount e = cc
    go automata.AcceptanceAtom e = cc
    go automata.TooDeep e = cc
    go automata.Expansion e = cc
no_unread (Game fault) e = cc
no_unread (Circuit fault) e = cc
no_unread (Task fault) e = cc
no_unread Memory e = cc
no_unread Io e = cc

-- what is said of a circuit of the program that is not judged
no_unjudged_refusal : (found : Refusal) → ¬ (Io ≡ own.unjudged_refusal found)
no_unjudged_refusal (Task fault) e = go fault e
  where
    go : (fault : TaskFault) → ¬ (Io ≡ own.unjudged_refusal (Task fault))
    go tasks.NotParity e = cc
    go tasks.UniversalBranch e = cc
    go tasks.TooManyPropositions e = cc
    go tasks.TooWide e = cc
    go tasks.Budget e = cc
    go tasks.BadSolution e = cc
    go tasks.UnknownNode e = cc
    go tasks.TooLarge e = cc
    go (tasks.NotDeterministic state) e = cc
    go tasks.Controllable e = cc
    go tasks.Unjudged e = cc
no_unjudged_refusal (Text fault) e = cc
no_unjudged_refusal (Automaton fault) e = cc
no_unjudged_refusal (Game fault) e = cc
no_unjudged_refusal (Circuit fault) e = cc
no_unjudged_refusal Memory e = cc
no_unjudged_refusal Io e = cc

no_unjudged : (Answers : Exit → List ℕ → Type 0) (Refuses : Refused → Type 0) → ¬ own.IsUnjudged Answers Refuses Io
no_unjudged Answers Refuses (own.answered_no output answers is) = cc
no_unjudged Answers Refuses (own.not_answered refused refuses is) = no_unjudged_refusal refused.refusal is

no_none : (names : List (List ℕ)) (text : List ℕ) → ¬ drawn.IsNoneOver names text Io
no_none names text (drawn.not_read found refused is) = no_unread found is
no_none names text (drawn.over_others a read other is) = cc

no_undrawn : (names : List (List ℕ)) (controller : List ℕ) → ¬ drawn.IsUndrawnOver names controller Io
no_undrawn names controller (inl none) = no_none names controller none
no_undrawn names controller (inr encoding) = encoding

-- a circuit for a formula
pub no_formula_circuit : (form : CircuitForm) (text : List ℕ) (lists : NameLists) → ¬ IsFormulaRealizeRefusal text lists Io
    → ¬ formula.IsFormulaCircuitRefusal form text lists Io
no_formula_circuit form text lists none (formula.not_realized refused) = none refused
no_formula_circuit form text lists none (formula.undrawn u) = no_undrawn _ u.controller u.undrawn.holds
no_formula_circuit form text lists none (formula.unjudged circuit made unjudged) = no_unjudged _ _ unjudged
