-- The law of verdicts on tables.
use Rattle.std.specs.Prelude.{ℕ, List}
use Rattle.omega_hoa_acceptance.specs.Acceptance.{AccTree}
use Rattle.omega_hoa_automaton.specs.Automaton.{Description}
use Rattle.omega_graph.specs.declared.edge.Edge.{Edge}
use Rattle.omega_lang_runs.specs.Verdict.{IsVerdict}
use Rattle.omega_lang_runs.specs.declared.verdict.Verdict.{Verdict}
use Rattle.omega_lang_lasso_search.specs.TableLassos.{IsTableVerdict}
use Rattle.omega_lang_lasso_search.specs.Tabled.{AllAreUsable, IsTabled}

-- a verdict on a table is one on each automaton that has this table and usable edges alone
abbrev pub TableVerdictsAreOfAutomata : Type 0
TableVerdictsAreOfAutomata =
    (starts : List ℕ) (ends : List Edge) (marks : List (List ℕ)) (formula : AccTree)
    (a : Description) (verdict : Verdict) → IsTabled starts ends marks formula a → AllAreUsable a
    → IsTableVerdict starts ends marks formula verdict → IsVerdict a verdict
