-- on a walk the set occurs or not, and the formula is positive in the atom
use Rattle.std.proofs.Common.{true, false, inl, inr, refl, sym, ◌∙◌}
use Rattle.std.proofs.lemmas.Bool.{cases_Bool, false≢true}
use Rattle.omega_hoa_acceptance.specs.Acceptance.{occurs}
use Rattle.omega_graph.specs.Walks.{marks_on}
use Rattle.omega_graph.proofs.Assuming.{assumed_if_holds, holds_if_assumed}
use Rattle.omega_graph.proofs.Forbidding.{avoided, avoiding, avoids}
use Rattle.omega_graph.proofs.rules.fin_is_tried_both_ways.Goals as goal

pub returns : goal.returns
returns c graph edges negated set formula = (
  λ has. elim (cases_Bool (occurs (marks_on graph has.0) negated set)) [
    | inl is ↦ inr (
      has.0,
      record {
        closed = has.1.closed;
        accepted = assumed_if_holds (marks_on graph has.0) negated set false (λ none. sym none ∙ is) formula has.1.accepted;
      },
    )
    | inr none ↦ inl (
      has.0,
      record {
        closed = avoids graph negated set edges has.0 has.1.closed none;
        accepted = assumed_if_holds (marks_on graph has.0) negated set true (λ same. refl) formula has.1.accepted;
      },
    )
  ],
  λ either. elim either [
    | inl has ↦ (
      has.0,
      record {
        closed = avoiding graph negated set edges has.0 has.1.closed;
        accepted = holds_if_assumed (marks_on graph has.0) negated set true (λ same. avoided graph negated set edges has.0 has.1.closed) formula has.1.accepted;
      },
    )
    | inr has ↦ (
      has.0,
      record {
        closed = has.1.closed;
        accepted = holds_if_assumed (marks_on graph has.0) negated set false (λ is. absurd (false≢true is)) formula has.1.accepted;
      },
    )
  ],
)
