-- A letter that no edge answers, on an edge of its own: it is written exactly if nothing was written before it.
use Rattle.std.proofs.Common.{◌≡◌, ℕ, ◌+◌, ◌<◌, List, [], ◌∷◌, ◌++◌, Some, length, sym, ap, ◌∙◌, arith, append-nil, length-append}
use Rattle.std.specs.List.{flat_map}
use Rattle.omega_hoa_automaton.specs.declared.edge.Edge.{Edge}
use Rattle.omega_hoa_label.specs.Label.{LabelTree}
use Rattle.omega_canon.specs.BodyText.{edge_line}
use Rattle.omega_canon.specs.Parts.{conjunction, label_part, marks_part}
use Rattle.omega_synth_text.specs.Winner.{letter_edge, with_letter}

-- a line has at least its end
line_some : (edge : Edge) → 0 < length (edge_line edge)
line_some edge =
    let end : List ℕ = 10 ∷ [] in
    omega (
      arith,
      length-append (label_part edge.label) (conjunction edge.targets ++ (marks_part edge.marks ++ end)),
      length-append (conjunction edge.targets) (marks_part edge.marks ++ end),
      length-append (marks_part edge.marks) end,
    )

module _ (before kept : List ℕ) (letter : LabelTree) (number : ℕ) where
  -- nothing was written, so there is no edge, and the letter is written
  pub letter_alone : (edges : List Edge) → kept ≡ before ++ flat_map edge_line edges → length kept ≡ length before → (after : List ℕ)
      → after ≡ kept ++ edge_line (letter_edge letter number) → after ≡ before ++ flat_map edge_line (with_letter (Some letter) number edges)
  letter_alone [] written same after last =
      last ∙ ap (λ (xs : List ℕ). xs ++ edge_line (letter_edge letter number)) (written ∙ append-nil before)
      ∙ ap (λ (xs : List ℕ). before ++ xs) (sym (append-nil (edge_line (letter_edge letter number))))
  letter_alone (edge ∷ edges) written same after last =
      absurd (omega (
        arith,
        same,
        ap length written,
        length-append before (edge_line edge ++ flat_map edge_line edges),
        length-append (edge_line edge) (flat_map edge_line edges),
        line_some edge,
      ))

  -- something was written, so there is an edge
  pub letter_spared : (edges : List Edge) → kept ≡ before ++ flat_map edge_line edges → (length kept ≡ length before → ⊥)
      → kept ≡ before ++ flat_map edge_line (with_letter (Some letter) number edges)
  letter_spared [] written differs = absurd (differs (ap length (written ∙ append-nil before)))
  letter_spared (edge ∷ edges) written differs = written
