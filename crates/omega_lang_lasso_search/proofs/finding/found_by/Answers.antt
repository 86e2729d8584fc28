-- the ends and the marks are those of the automaton
use Rattle.std.proofs.Common.{◌<◌, ℕ, List, length, map, All, sym, ap, subst, ◌∙◌}
use Rattle.std.proofs.lemmas.List.Elements.{All-weaker}
use Rattle.omega_hoa_automaton.specs.Automaton.{AreTargets}
use Rattle.omega_lang_lasso_search.specs.Tabled.{HasMarks, first_of}
use Rattle.omega_lang_lasso_search.proofs.Lassos.{lists_one}
use Rattle.omega_lang_lasso_search.proofs.Walks.{own_marks}
use Rattle.omega_lang_lasso_search.proofs.finding.found_by.Goals as goal

pub first_states-requires : goal.first_states-requires
first_states-requires c =
    subst (λ (starts : List (List ℕ)). All (λ (start : List ℕ). 0 < length start) starts) (sym c.starts.ensures)
    (All-weaker (AreTargets c.args.automaton.now) (λ (start : List ℕ). 0 < length start) (λ start targets. targets.listed) c.args.automaton.now.starts c.keeps_limits.ensures.starts)

pub returns-clause-verdict : goal.returns-clause-verdict
returns-clause-verdict c =
    let a = c.args.automaton.now in
    c.in_ok-verdict.ensures.verdict a (record {
      tabled = record {
        single = lists_one a c.keeps_limits.ensures c.requires.plain;
        starts_are = sym (c.as_slice.ensures.value ∙ c.in_ok-starts.ensures.states ∙ ap (map first_of) c.starts.ensures);
        ends_are = sym (c.as_slice-2.ensures.value ∙ c.in_ok-ends.ensures.ends);
        marks_are = subst (HasMarks a) (sym (c.as_slice-3.ensures.value ∙ c.in_ok-marks.ensures.marks)) (own_marks a);
        formula_is = sym c.acceptance.ensures;
      };
      usable = c.requires.usable;
    })
