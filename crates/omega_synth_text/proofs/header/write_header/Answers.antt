-- its lines one after the other
use Rattle.std.proofs.Common.{true, ◌++◌, codes, map, ap, sym, ◌∙◌}
use Rattle.std.specs.List.{flat_map}
use Rattle.std.proofs.lemmas.List.{append-nil}
use Rattle.omega_canon.proofs.Lines.{following}
use Rattle.omega_canon.specs.HeaderText.{acceptance_line, propositions_line, start_line, states_line, unknown_line}
use Rattle.omega_hoa_acceptance.specs.Acceptance as acc
use Rattle.omega_synth_text.specs.Winner.{controllable_item, number_of}
use Rattle.omega_synth_text.specs.private.Parts.{reached_by}
use Rattle.omega_synth_text.proofs.header.write_header.Goals as goal

pub returns-clause-text : goal.returns-clause-text
returns-clause-text c =
    following c.args.out.now.items (codes "HOA: v1\n") _ c.in_ok-extend_from_slice.ensures.items
    (following c.extend_from_slice.new.self.items (states_line (number_of (reached_by c.args.winner.now) c.args.winner.now.automaton.now.states)) _
    (c.in_ok-write_count.ensures.text ∙ ap (λ n. c.extend_from_slice.new.self.items ++ states_line n) c.requires.count)
    (following c.write_count.new.out.items
    (flat_map start_line (map (λ start. map (number_of (reached_by c.args.winner.now)) start) c.args.winner.now.automaton.now.starts)) _
    c.in_ok-write_starts.ensures.text
    (following c.write_starts.new.out.items (propositions_line c.args.winner.now.automaton.now.propositions) _
    (c.in_ok-write_propositions.ensures.text ∙ ap (λ names. c.write_starts.new.out.items ++ propositions_line names) c.propositions.ensures)
    (following c.write_propositions.new.out.items (codes "acc-name: all\n") _ c.in_ok-extend_from_slice-2.ensures.items
    (following c.extend_from_slice-2.new.self.items (acceptance_line 0 (acc.constant true)) _ c.in_ok-write_acceptance.ensures.text
    (c.in_ok-write_controllable.ensures.text
    ∙ ap (λ line. c.write_acceptance.new.out.items ++ line) (sym (append-nil (unknown_line (controllable_item c.args.winner.now.controlled.now))))))))))
