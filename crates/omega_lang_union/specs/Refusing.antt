-- The refusal of a union: `UniversalBranch`, or else `TooLarge`, only if it would pass a limit. Want of memory may come
-- at each step.
use Rattle.std.specs.Prelude.{◌≡◌, ◌||◌, ◌<◌, true, length}
use Rattle.omega_text.specs.Cases.{never, or_memory, or_task}
use Rattle.omega_text.specs.Limits.{most_number}
use Rattle.omega_text.specs.declared.refusal.Refusal.{Refusal}
use Rattle.omega_text.specs.declared.refusal.task.TaskFault.{TaskFault}
use Rattle.omega_text.specs.declared.refusal.task.TaskFault.TheVariants.{TooLarge, UniversalBranch}
use Rattle.omega_hoa_automaton.specs.Automaton.{Description, edge_count}
use Rattle.omega_hoa_automaton.specs.Branching.{has_universal_branching}
use Rattle.omega_hoa_automaton.specs.Limits.{most_propositions}
use Rattle.omega_hoa_edges.specs.Limits.{most_edges, most_states}
use Rattle.omega_lang_product.specs.Refusing.{HaveNoBranch}
use Rattle.omega_lang_trim.specs.Refusing.{PassesLimit}
use Rattle.omega_lang_union.specs.Union.{IsUnion}

-- why a union is too large: it has too many states, edges, sets or propositions, or its acceptance or a label is too
-- deep as a text writes it, or it breaks another limit of automata
pub data IsOversized (union : Description) : Type 0 where
  many_states : most_states < union.states → IsOversized union
  many_edges : most_edges < edge_count union → IsOversized union
  many_sets : most_number < union.sets → IsOversized union
  many_names : most_propositions < length union.propositions → IsOversized union
  passes_limit : PassesLimit union → IsOversized union

-- the union of two automata is too large
abbrev pub IsUnionTooLarge : Description → Description → Type 0
IsUnionTooLarge one other = (union : Description) × IsUnion one other union × IsOversized union

-- `UniversalBranch` if a start or an edge of one of the two lists several states, otherwise `TooLarge`
abbrev pub IsUnionFault : Description → Description → TaskFault → Type 0
IsUnionFault one other UniversalBranch =
    (has_universal_branching one || has_universal_branching other) ≡ true
IsUnionFault one other TooLarge = HaveNoBranch one other × IsUnionTooLarge one other
IsUnionFault one other fault = ⊥

-- the refusal of a union
abbrev pub IsUnionRefusal : Description → Description → Refusal → Type 0
IsUnionRefusal one other = or_task (IsUnionFault one other) (or_memory never)
