-- The drawing of an automaton, and of an automaton with a lasso.
-- States that nothing defines are drawn if an arrow leads to them.
use Rattle.std.specs.Prelude.{ℕ, ◌==◌, Bool, if◌then◌else◌, List, ◌++◌, codes, decimal, length}
use Rattle.std.specs.List.{flat_map}
use Rattle.omega_hoa_acceptance.specs.Writing.{acc_text}
use Rattle.omega_hoa_automaton.specs.Automaton.{Description}
use Rattle.omega_hoa_dot.specs.Arrows.{edges_text}
use Rattle.omega_hoa_dot.specs.Roles.{role_of}
use Rattle.omega_hoa_dot.specs.States.{drawn_state}
use Rattle.omega_hoa_dot.specs.declared.role.Role.{Role}
use Rattle.omega_hoa_dot.specs.declared.role.Role.TheVariants.{Plain}
use Rattle.omega_text.specs.Labels.{name_label_line}
use Rattle.omega_text.specs.Numbered.{numbered}

-- the front of the graph: from left to right, and above it the automaton's name, if it has one,
-- and its acceptance formula
abbrev pub front : Description → List ℕ
front a = codes "digraph automaton {\n  rankdir=LR;\n  labelloc=t;\n  label=\""
    ++ (name_label_line a.name ++ ((acc_text a.acceptance).bytes ++ codes "\\n\";\n"))

-- the end of the line of a point, which is invisible if its initial choice lists a single state
abbrev pub point_end : Bool → List ℕ
point_end single =
    if single then codes " [shape=point, style=invis];\n" else codes " [shape=point];\n"

-- the point that the start arrows of an initial choice leave
abbrev pub start_point : ℕ → List ℕ → List ℕ
start_point number states = codes "  start" ++ (decimal number ++ point_end (length states == 1))

-- an arrow from the point of an initial choice to a state
abbrev pub start_arrow : ℕ → ℕ → List ℕ
start_arrow number state =
    codes "  start" ++ (decimal number ++ (codes " -> " ++ (decimal state ++ codes ";\n")))

-- an initial choice
abbrev pub start_text : ℕ → List ℕ → List ℕ
start_text number states = start_point number states ++ flat_map (start_arrow number) states

-- the drawing of an automaton whose edges have these roles by number
abbrev pub automaton_drawing : Description → (ℕ → Role) → List ℕ
automaton_drawing a role =
    front a ++ (numbered start_text 0 a.starts ++ (flat_map (drawn_state a.propositions) a.defined
    ++ (edges_text a.propositions role 0 a.defined ++ codes "}\n")))

-- the drawing of an automaton
abbrev pub drawing_of_automaton : Description → List ℕ
drawing_of_automaton a = automaton_drawing a (λ number. Plain)

-- the drawing of an automaton with a lasso, whose stem and cycle are lists of numbers of edges
abbrev pub drawing_of_lasso : Description → List ℕ → List ℕ → List ℕ
drawing_of_lasso a stem cycle = automaton_drawing a (role_of stem cycle)
