-- the kept edges, or if there are none the letter
use Rattle.std.proofs.Common.{◌≡◌, ◌++◌, ℕ, Bool, List, Option, Some, None, if◌then◌else◌, ap, sym, ◌∙◌, arith}
use Rattle.std.specs.List.{flat_map}
use Rattle.omega_hoa_automaton.specs.declared.edge.Edge.{Edge}
use Rattle.omega_hoa_label.specs.Label.{LabelTree}
use Rattle.omega_canon.specs.BodyText.{edge_line}
use Rattle.omega_synth_text.specs.Winner.{number_of, state_letter, with_letter}
use Rattle.omega_synth_text.specs.private.Parts.{edges_by, reached_by}
use Rattle.omega_synth_text.specs.declared.parts.Winner.{Winner}
use Rattle.omega_synth_text.proofs.LetterEdges.{letter_alone, letter_spared}
use Rattle.omega_synth_text.proofs.body.write_edges.Goals as goal
use Rattle.omega_synth_text.proofs.body.write_edges.Goals.{then-winner+then-len-before+in_ok-write_letter_edge, else-winner, else-winner-via-then-winner+else-len-before, else-winner-via-else-winner}

pub returns-clause-text : goal.returns-clause-text
returns-clause-text c =
    let w : Winner = c.args.winner.now in
    let before : List ℕ = c.args.out.now.items in
    let kept : List ℕ = c.write_kept_edges.new.out.items in
    let state : ℕ = c.args.state.now.number in
    let number : ℕ = number_of (reached_by w) state in
    let edges : List Edge = edges_by w c.args.state.now 0 c.args.number c.args.state.now.edges in
    let letter : LabelTree = state_letter w.inputs.now w.letters.now state in
    let lines : Option LabelTree → List ℕ = λ given. before ++ flat_map edge_line (with_letter given number edges) in
    let lettered : Bool → Option LabelTree = λ b. if b then Some letter else None in
    let written : kept ≡ before ++ flat_map edge_line edges = c.in_ok-write_kept_edges.ensures.text in
    elim c.if-winner.branch [
      | then-winner+then-len-before+in_ok-write_letter_edge joined ↦
          rw joined.out-is
          (letter_alone before kept letter number edges written
          (omega (arith, joined.len.ensures, joined.if-len-before.true, c.len-before.ensures, c.write_kept_edges.new.out.ok.0, c.args.out.now.ok.0))
          joined.write_letter_edge.new.out.items joined.in_ok-write_letter_edge.ensures.text
          ∙ ap (λ (b : Bool). lines (lettered b)) (sym joined.if-winner.true))
      | else-winner joined ↦
          rw joined.out-is
          (elim joined.else-winner.branch [
            | else-winner-via-then-winner+else-len-before spared ↦
                letter_spared before kept letter number edges written
                (λ same.
                omega (arith, same, spared.len.ensures, spared.if-len-before.false, c.len-before.ensures, c.write_kept_edges.new.out.ok.0, c.args.out.now.ok.0))
                ∙ ap (λ (b : Bool). lines (lettered b)) (sym spared.if-winner.true)
            | else-winner-via-else-winner plain ↦ written ∙ ap (λ (b : Bool). lines (lettered b)) (sym plain.if-winner.false)
          ])
    ]
