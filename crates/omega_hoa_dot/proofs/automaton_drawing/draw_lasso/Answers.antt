-- `draw_lasso`: its parts are the drawing.
use Rattle.std.proofs.Common.{[], ◌++◌, ap, codes, ◌∙◌}
use Rattle.std.specs.List.{flat_map}
use Rattle.omega_hoa_dot.specs.Arrows.{edges_text}
use Rattle.omega_hoa_dot.specs.States.{drawn_state}
use Rattle.omega_hoa_dot.specs.AutomatonDrawing.{front, start_text}
use Rattle.omega_text.specs.Numbered.{numbered}
use Rattle.omega_hoa_dot.specs.Roles.{role_of}
use Rattle.omega_hoa_dot.proofs.Bodies.{roles_drawn}
use Rattle.omega_hoa_dot.proofs.Lines.{following}
use Rattle.omega_hoa_dot.proofs.automaton_drawing.draw_lasso.Goals as goal

pub returns-clause-text : goal.returns-clause-text
returns-clause-text c =
    following [] (front c.args.automaton.now) _ (c.in_ok-write_front.ensures.ok ∙ ap (λ list. list ++ front c.args.automaton.now) c.in_ok-out.ensures.items)
    (following c.write_front.new.out.items (numbered start_text 0 c.args.automaton.now.starts) _ c.in_ok-write_starts.ensures.ok
    (following c.write_starts.new.out.items (flat_map (drawn_state c.args.automaton.now.propositions) c.args.automaton.now.defined) _ c.in_ok-write_states.ensures.ok
    (following c.write_states.new.out.items (edges_text c.args.automaton.now.propositions (role_of c.args.stem.now c.args.cycle.now) 0 c.args.automaton.now.defined) (codes "}\n")
    (c.in_ok-write_edges.ensures.ok
    ∙ ap (λ list. c.write_states.new.out.items ++ list)
    (roles_drawn c.args.automaton.now c.args.stem.now c.args.cycle.now c.edge_count.result c.in_ok-roles.roles.items c.as_slice.result.now c.in_ok-roles.ensures.roles
    c.edge_count.ensures c.as_slice.ensures.value))
    c.in_ok-extend_from_slice.ensures.items)))
