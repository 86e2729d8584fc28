-- Edges that are written in short mean edges that are kept in short.
use Rattle.std.proofs.Common.{◌≡◌, ℕ, Bool, false, ◌||◌, List, [], ◌∷◌, Option, None, Some, map, option_map, sum_by, unwrap_or, refl, ap, sym, ◌∙◌, arith}
use Rattle.std.specs.Prelude.{nat_le, not}
use Rattle.std.specs.List.{AllZip, list_any}
use Rattle.omega_hoa_label.specs.Raw.{RawLabelTree}
use Rattle.omega_hoa_label_text.specs.Expanding.{Defined, expansion}
use Rattle.omega_hoa_syntax.specs.declared.raw_edge.RawEdge.{RawEdge}
use Rattle.omega_hoa_syntax.specs.declared.short_edge.ShortEdge.{ShortEdge}
use Rattle.omega_hoa_syntax.specs.Edges.{lengthened}
use Rattle.omega_hoa_automaton.specs.Meaning.{AreMarksOf, IsEdgeOf}
use Rattle.omega_hoa_automaton.specs.Faults.{are_out_of_range, has_label, is_beyond, passes, size_under}
use Rattle.omega_hoa_automaton.specs.declared.judging.findings.Findings.{Findings}
use Rattle.omega_hoa_automaton.specs.declared.judging.counts.Counts.{Counts}
use Rattle.omega_hoa_automaton.specs.declared.judging.edges.EdgesFound.{EdgesFound}
use Rattle.omega_hoa_automaton.specs.private.layout.Body.{IsFoundOfEdges, IsFoundOfShort}
use Rattle.omega_hoa_automaton.specs.private.layout.Edges.{expanded}
use Rattle.omega_hoa_automaton.specs.private.layout.Findings.{AreFound}
use Rattle.omega_hoa_automaton.proofs.FindingLemmas.{found-said}

-- at most one mark is a set as it is written
single_marks : (mark : Option ℕ) → AreMarksOf (unwrap_or (option_map (λ m. m ∷ []) mark) []) (unwrap_or (option_map (λ m. m ∷ []) mark) [])
single_marks None = record { rising = λ k within. absurd (omega (arith, within)); same = λ m. (λ has. has, λ has. has) }
single_marks (Some mark) = record { rising = λ k within. absurd (omega (arith, within)); same = λ m. (λ has. has, λ has. has) }

-- edge by edge
pub shorts_meant : (definitions : List Defined) (short : List ShortEdge) → AllZip (IsEdgeOf definitions) (map lengthened short) (map expanded short)
shorts_meant definitions [] = tt
shorts_meant definitions (one ∷ more) =
    (record { label = tt; targets = refl; marks = single_marks one.mark }, shorts_meant definitions more)

-- no label passes a test
shorts_pass_none : (test : RawLabelTree → Bool) (short : List ShortEdge) → list_any (λ (edge : RawEdge). passes test edge.label) (map lengthened short) ≡ false
shorts_pass_none test [] = refl
shorts_pass_none test (one ∷ more) = shorts_pass_none test more

-- and all labels together have no nodes
shorts_without_size : (definitions : List Defined) (short : List ShortEdge) → sum_by (λ (edge : RawEdge). size_under definitions edge.label) (map lengthened short) ≡ 0
shorts_without_size definitions [] = refl
shorts_without_size definitions (one ∷ more) = shorts_without_size definitions more

-- so nothing is found of their labels
pub found-short : (definitions : List Defined) (short : List ShortEdge) (found : Findings) → AreFound (λ test. false) 0 found
    → AreFound (λ test. list_any (λ (edge : RawEdge). passes (λ label. test (expansion definitions label)) edge.label) (map lengthened short))
    (sum_by (λ (edge : RawEdge). size_under definitions edge.label) (map lengthened short)) found
found-short definitions short found nothing =
    found-said (λ test. false) _ 0 _ found (λ test. shorts_pass_none (λ label. test (expansion definitions label)) short) (shorts_without_size definitions short) nothing

-- what some of them pass
shorts_pass : (test : RawEdge → Bool) (short : List ShortEdge) → list_any test (map lengthened short) ≡ list_any (λ (edge : ShortEdge). test (lengthened edge)) short
shorts_pass test [] = refl
shorts_pass test (one ∷ more) = ap (λ b. test (lengthened one) || b) (shorts_pass test more)

shorts_lack_labels : (short : List ShortEdge) → list_any has_label (map lengthened short) ≡ false
shorts_lack_labels [] = refl
shorts_lack_labels (one ∷ more) = shorts_lack_labels more

-- so what is found of edges in compact form is found of edges
pub found-in-short : (counts : Counts) (short : List ShortEdge) (found : EdgesFound) → IsFoundOfShort counts short found → IsFoundOfEdges counts (map lengthened short) found
found-in-short counts short found is = record {
  target = is.target ∙ sym (shorts_pass (λ (edge : RawEdge). are_out_of_range counts.states edge.targets) short);
  mark = is.mark ∙ sym (shorts_pass (λ (edge : RawEdge). passes (list_any (nat_le counts.sets)) edge.marks) short);
  proposition = is.proposition ∙ sym (shorts_pass_none (is_beyond counts.propositions) short);
  labelled = is.labelled ∙ sym (shorts_lack_labels short);
  unlabelled = is.unlabelled ∙ sym (shorts_pass (λ (edge : RawEdge). not (has_label edge)) short);
}
