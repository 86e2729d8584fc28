-- What is written of a graph, one more at a time.
use Rattle.std.proofs.Common.{◌≡◌, inl, inr, ◌+◌, ℕ, true, false, List, [], ◌∷◌, ◌++◌, sym, ap, subst, ◌∙◌, arith}
use Rattle.std.specs.Prelude.{Contains}
use Rattle.std.specs.List.{AllZip, range_with_len}
use Rattle.std.proofs.lemmas.Bool.{both_ways, cases_lt}
use Rattle.std.proofs.lemmas.List.{map-id}
use Rattle.std.proofs.lemmas.List.FromFn.{map-range_with_len_more}
use Rattle.std.proofs.lemmas.List.Elements.{Contains-append_left, Contains-push, Contains-push_cases}
use Rattle.std.proofs.lemmas.Slice.Zip.{all_zipped_more}
use Rattle.omega_hoa_syntax.specs.declared.raw_state.RawState.{RawState}
use Rattle.omega_ltl_shapes.specs.Covers.{is_set}
use Rattle.omega_ltl_translation.specs.declared.graph.GraphEdge.{GraphEdge}
use Rattle.omega_ltl_translation.specs.private.Graphs.{edges_of_state}
use Rattle.omega_ltl_translation.specs.private.Written.{AddsMark, AreMarksOf, AreWrittenStates, IsWrittenState}

-- marks
pub marks_none : (late : ℕ) → AreMarksOf 0 late []
marks_none late set = (λ h. absurd (omega (arith, h.1)), λ h. absurd (omega (arith, h.0)))

pub marks_more : (late set : ℕ) (old new : List ℕ) → AreMarksOf set late old → AddsMark late set old new → AreMarksOf (set + 1) late new
marks_more late set old new are adds mark = (
  λ h. elim ((adds.exact mark).0 h) [
    | inl before ↦ (let is = (are mark).0 before in (omega (arith, is.0), is.1))
    | inr here ↦ (omega (arith, here.0), subst (λ (m : ℕ). is_set late m ≡ false) (sym here.0) here.1)
  ],
  λ h. (adds.exact mark).1 (elim (cases_lt mark set) [
    | inl before ↦ inl ((are mark).1 (before, h.1))
    | inr reached ↦ (let same : mark ≡ set = omega (arith, reached, h.0) in inr (same, subst (λ (m : ℕ). is_set late m ≡ false) same h.1))
  ]),
)

pub mark_late : (late set : ℕ) (marks : List ℕ) → is_set late set ≡ true → AddsMark late set marks marks
mark_late late set marks is = record { exact = λ mark. (λ h. inl h, λ h. elim h [ inl old ↦ old | inr here ↦ absurd (both_ways (is_set late set) here.1 is) ]) }

pub mark_put : (late set : ℕ) (marks : List ℕ) → is_set late set ≡ false → AddsMark late set marks (marks ++ set ∷ [])
mark_put late set marks not_late = record {
  exact = λ mark. (
    λ h. elim (Contains-push_cases marks set mark h) [ inl old ↦ inl old | inr same ↦ inr (sym same, not_late) ],
    λ h. elim h [
      | inl old ↦ Contains-append_left marks (set ∷ []) mark old
      | inr here ↦ subst (Contains (marks ++ set ∷ [])) (sym here.0) (Contains-push marks set)
    ],
  );
}

-- states
pub states_more : (sets : ℕ) (edges : List (List GraphEdge)) (count : ℕ) (states : List RawState) (state : RawState) → AreWrittenStates sets edges count states
    → IsWrittenState sets count (edges_of_state edges count) state → AreWrittenStates sets edges (count + 1) (states ++ state ∷ [])
states_more sets edges count states state are is =
    let plain : 0 + count ≡ count = omega arith in
    let numbers : range_with_len 0 (count + 1) ≡ range_with_len 0 count ++ count ∷ [] =
    sym (map-id (range_with_len 0 (count + 1))) ∙ map-range_with_len_more (λ (n : ℕ). n) 0 count count plain ∙ ap (λ (ns : List ℕ). ns ++ count ∷ []) (map-id (range_with_len 0 count)) in
    subst (λ (ns : List ℕ). AllZip (λ number. IsWrittenState sets number (edges_of_state edges number)) ns (states ++ state ∷ [])) (sym numbers)
    (all_zipped_more (λ number. IsWrittenState sets number (edges_of_state edges number)) (range_with_len 0 count) states count state are is)
