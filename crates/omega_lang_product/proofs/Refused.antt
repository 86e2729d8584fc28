-- Refusals of the parts of a product are refusals of the product, and those of its graph too.
use Rattle.std.specs.Prelude.{Result, Ok, Err, IfErr}
use Rattle.omega_text.specs.Cases.{never, or_memory, or_task}
use Rattle.omega_text.specs.declared.refusal.Refusal.{Refusal}
use Rattle.omega_text.specs.declared.refusal.task.TaskFault.{TaskFault}
use Rattle.omega_text.specs.declared.refusal.task.TaskFault.TheVariants.{BadSolution, Budget, Controllable, NotDeterministic, NotParity, TooLarge, TooManyPropositions, TooWide, UniversalBranch, Unjudged, UnknownNode}
use Rattle.omega_hoa_automaton.specs.Automaton.{Description}
use Rattle.omega_lang_product.specs.Refusing.{HaveNoBranch, IsGraphTooLarge, IsPairsFault, IsProductTooLarge, large_graph}
use Rattle.omega_lang_product.specs.private.Faults.{IsGraphFault, IsJoinFault, IsProductFault}
use Rattle.omega_hoa_edges.specs.Fitting.{IsLarge}
use Rattle.omega_hoa_edges.proofs.Refusals.{large_task, task_weaker}

-- a part that is too large makes the graph so, or the product
pub large_in_graph : (one other : Description) (P : Type 0) → (P → IsGraphTooLarge one other) → (refusal : Refusal) → IsLarge P refusal
    → or_task (IsGraphFault one other) (or_memory never) refusal
large_in_graph one other P weaker refusal h = large_task P (IsGraphFault one other) weaker refusal h

pub large_in_product : (one other : Description) (P : Type 0) → (P → IsProductTooLarge one other) → (refusal : Refusal) → IsLarge P refusal
    → or_task (IsProductFault one other) (or_memory never) refusal
large_in_product one other P weaker refusal h = large_task P (IsProductFault one other) weaker refusal h

-- a fault by one reason is a fault by another
fault_weaker : (P Q : Type 0) (one other : Description) → (P → Q) → (fault : TaskFault) → IsJoinFault P one other fault → IsJoinFault Q one other fault
fault_weaker P Q one other weaker NotParity h = h
fault_weaker P Q one other weaker UniversalBranch h = h
fault_weaker P Q one other weaker TooManyPropositions h = h
fault_weaker P Q one other weaker TooWide h = h
fault_weaker P Q one other weaker Budget h = h
fault_weaker P Q one other weaker BadSolution h = h
fault_weaker P Q one other weaker UnknownNode h = h
fault_weaker P Q one other weaker Controllable h = h
fault_weaker P Q one other weaker Unjudged h = h
fault_weaker P Q one other weaker TooLarge h = weaker h
fault_weaker P Q one other weaker (NotDeterministic state) h = h

-- what refuses the graph refuses the product
pub graph_in_product : (one other : Description) (refusal : Refusal) → or_task (IsGraphFault one other) (or_memory never) refusal
    → or_task (IsProductFault one other) (or_memory never) refusal
graph_in_product one other refusal h =
    task_weaker (IsGraphFault one other) (IsProductFault one other) (fault_weaker (IsGraphTooLarge one other) (IsProductTooLarge one other) one other large_graph) refusal h

-- without universal branching the fault of a part is that of the whole
plain_fault : (large : Type 0) (one other : Description) → HaveNoBranch one other → (fault : TaskFault) → IsJoinFault large one other fault → IsPairsFault large one other fault
plain_fault large one other plain NotParity h = h
plain_fault large one other plain UniversalBranch h = absurd h
plain_fault large one other plain TooManyPropositions h = (plain, h)
plain_fault large one other plain TooWide h = h
plain_fault large one other plain Budget h = h
plain_fault large one other plain BadSolution h = h
plain_fault large one other plain UnknownNode h = h
plain_fault large one other plain Controllable h = h
plain_fault large one other plain Unjudged h = h
plain_fault large one other plain TooLarge h = (plain, h)
plain_fault large one other plain (NotDeterministic state) h = h

-- and so is that of what is returned
pub plain_err : {T : Type 0} (large : Type 0) (one other : Description) (result : Result T Refusal) → HaveNoBranch one other
    → IfErr result (or_task (IsJoinFault large one other) (or_memory never)) → IfErr result (or_task (IsPairsFault large one other) (or_memory never))
plain_err large one other (Ok x) plain h = tt
plain_err large one other (Err e) plain h = task_weaker (IsJoinFault large one other) (IsPairsFault large one other) (plain_fault large one other plain) e h
