-- `write_header`: its lines one after the other.
use Rattle.std.proofs.Common.{codes, option_map}
use Rattle.std.specs.List.{flat_map}
use Rattle.omega_canon.specs.HeaderText.{acc_name_line, acceptance_line, name_line, properties_line, propositions_line, start_line, states_line, tool_line, unknown_line}
use Rattle.omega_canon.proofs.Lines.{following}
use Rattle.omega_canon.proofs.header.write_header.Goals as goal

pub returns-clause-ok : goal.returns-clause-ok
returns-clause-ok c =
    following c.args.out.now.items (codes "HOA: v1\n") _ c.in_ok-extend_from_slice.ensures.items
    (following c.extend_from_slice.new.self.items (tool_line c.args.automaton.now.tool) _ c.in_ok-write_tool.ensures.ok
    (following c.write_tool.new.out.items (name_line (option_map (λ name. name.now) c.args.name)) _ c.in_ok-write_name.ensures.ok
    (following c.write_name.new.out.items (states_line c.args.automaton.now.states) _ c.in_ok-write_states.ensures.ok
    (following c.write_states.new.out.items (flat_map start_line c.args.automaton.now.starts) _ c.in_ok-write_starts.ensures.ok
    (following c.write_starts.new.out.items (propositions_line c.args.automaton.now.propositions) _ c.in_ok-write_propositions.ensures.ok
    (following c.write_propositions.new.out.items (acc_name_line c.args.automaton.now.acc_name) _ c.in_ok-write_acc_name.ensures.ok
    (following c.write_acc_name.new.out.items (acceptance_line c.args.automaton.now.sets c.args.automaton.now.acceptance) _ c.in_ok-write_acceptance.ensures.ok
    (following c.write_acceptance.new.out.items (properties_line c.args.automaton.now.properties) (flat_map unknown_line c.args.automaton.now.unknown)
    c.in_ok-write_properties.ensures.ok c.in_ok-write_unknown.ensures.ok))))))))
