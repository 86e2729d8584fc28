-- The lines of each kind of properties.
use Rattle.std.proofs.Common.{ℕ, List, [], drop, ap, ◌∙◌, subst}
use Rattle.std.specs.Prelude.{slice_index, sum}
use Rattle.std.proofs.lemmas.Result.{err_from_is_err_and}
use Rattle.omega_aiger.specs.Forms.{properties_then}
use Rattle.omega_aiger.specs.Layout.{Layout}
use Rattle.omega_aiger.specs.Lines.{number_lines}
use Rattle.omega_aiger.specs.private.Outcome.{GoesOn, Stops, outcome}
use Rattle.omega_circuit.specs.declared.properties.Properties.{Properties}
use Rattle.omega_aiger.proofs.Steps.{stops_after}
use Rattle.omega_aiger.proofs.Parts.{properties_with, same_properties}
use Rattle.omega_aiger.proofs.properties.properties_at.Goals as goal

pub returns-in_err-bad-clause-stops : goal.returns-in_err-bad-clause-stops
unfolding properties_then
returns-in_err-bad-clause-stops c =
    let p = err_from_is_err_and c.from_residual.result c.from_residual.ensures.1 in rw (p.1, p.2) (λ more. subst (λ (hole : ℕ). Stops c.args.text.now c.args.at (number_lines hole [] (λ bad. number_lines (slice_index c.args.counts.now 1) [] (λ constraints. number_lines (slice_index c.args.counts.now 2) [] (λ sizes. number_lines (sum sizes) [] (λ justice. number_lines (slice_index c.args.counts.now 3) [] (λ fairness. more (properties_with bad constraints sizes justice fairness))))))) c.in_err-bad.field-0.0) (c.count_of.ensures) (c.in_err-bad.ensures.stops (λ bad. number_lines (slice_index c.args.counts.now 1) [] (λ constraints. number_lines (slice_index c.args.counts.now 2) [] (λ sizes. number_lines (sum sizes) [] (λ justice. number_lines (slice_index c.args.counts.now 3) [] (λ fairness. more (properties_with bad constraints sizes justice fairness))))))))

pub returns-in_err-constraints-clause-stops : goal.returns-in_err-constraints-clause-stops
unfolding properties_then
returns-in_err-constraints-clause-stops c =
    let p = err_from_is_err_and c.from_residual-in_err-constraints.result c.from_residual-in_err-constraints.ensures.1 in rw (p.1, p.2) (λ more. stops_after c.args.text.now c.args.at c.in_ok-bad.at (properties_then c.args.counts.now more) (number_lines (slice_index c.args.counts.now 1) [] (λ constraints. number_lines (slice_index c.args.counts.now 2) [] (λ sizes. number_lines (sum sizes) [] (λ justice. number_lines (slice_index c.args.counts.now 3) [] (λ fairness. more (properties_with c.in_ok-bad.bad.items constraints sizes justice fairness)))))) (subst (λ (hole : ℕ). GoesOn c.args.text.now c.args.at (number_lines hole [] (λ bad. number_lines (slice_index c.args.counts.now 1) [] (λ constraints. number_lines (slice_index c.args.counts.now 2) [] (λ sizes. number_lines (sum sizes) [] (λ justice. number_lines (slice_index c.args.counts.now 3) [] (λ fairness. more (properties_with bad constraints sizes justice fairness))))))) c.in_ok-bad.at (let f : List ℕ → Layout = λ bad. number_lines (slice_index c.args.counts.now 1) [] (λ constraints. number_lines (slice_index c.args.counts.now 2) [] (λ sizes. number_lines (sum sizes) [] (λ justice. number_lines (slice_index c.args.counts.now 3) [] (λ fairness. more (properties_with bad constraints sizes justice fairness))))) in f c.in_ok-bad.bad.items)) (c.count_of.ensures) (c.in_ok-bad.ensures.read (λ bad. number_lines (slice_index c.args.counts.now 1) [] (λ constraints. number_lines (slice_index c.args.counts.now 2) [] (λ sizes. number_lines (sum sizes) [] (λ justice. number_lines (slice_index c.args.counts.now 3) [] (λ fairness. more (properties_with bad constraints sizes justice fairness)))))))) c.in_err-constraints.field-0.0 (subst (λ (hole : ℕ). Stops c.args.text.now c.in_ok-bad.at (number_lines hole [] (λ constraints. number_lines (slice_index c.args.counts.now 2) [] (λ sizes. number_lines (sum sizes) [] (λ justice. number_lines (slice_index c.args.counts.now 3) [] (λ fairness. more (properties_with c.in_ok-bad.bad.items constraints sizes justice fairness)))))) c.in_err-constraints.field-0.0) (c.count_of-2.ensures) (c.in_err-constraints.ensures.stops (λ constraints. number_lines (slice_index c.args.counts.now 2) [] (λ sizes. number_lines (sum sizes) [] (λ justice. number_lines (slice_index c.args.counts.now 3) [] (λ fairness. more (properties_with c.in_ok-bad.bad.items constraints sizes justice fairness))))))))

pub returns-in_err-sizes-clause-stops : goal.returns-in_err-sizes-clause-stops
unfolding properties_then
returns-in_err-sizes-clause-stops c =
    let p = err_from_is_err_and c.from_residual-in_err-sizes.result c.from_residual-in_err-sizes.ensures.1 in rw (p.1, p.2) (λ more. stops_after c.args.text.now c.args.at c.in_ok-constraints.at (properties_then c.args.counts.now more) (number_lines (slice_index c.args.counts.now 2) [] (λ sizes. number_lines (sum sizes) [] (λ justice. number_lines (slice_index c.args.counts.now 3) [] (λ fairness. more (properties_with c.in_ok-bad.bad.items c.in_ok-constraints.constraints.items sizes justice fairness))))) (subst (λ (hole : ℕ). GoesOn c.args.text.now c.args.at (number_lines hole [] (λ bad. number_lines (slice_index c.args.counts.now 1) [] (λ constraints. number_lines (slice_index c.args.counts.now 2) [] (λ sizes. number_lines (sum sizes) [] (λ justice. number_lines (slice_index c.args.counts.now 3) [] (λ fairness. more (properties_with bad constraints sizes justice fairness))))))) c.in_ok-bad.at (let f : List ℕ → Layout = λ bad. number_lines (slice_index c.args.counts.now 1) [] (λ constraints. number_lines (slice_index c.args.counts.now 2) [] (λ sizes. number_lines (sum sizes) [] (λ justice. number_lines (slice_index c.args.counts.now 3) [] (λ fairness. more (properties_with bad constraints sizes justice fairness))))) in f c.in_ok-bad.bad.items)) (c.count_of.ensures) (c.in_ok-bad.ensures.read (λ bad. number_lines (slice_index c.args.counts.now 1) [] (λ constraints. number_lines (slice_index c.args.counts.now 2) [] (λ sizes. number_lines (sum sizes) [] (λ justice. number_lines (slice_index c.args.counts.now 3) [] (λ fairness. more (properties_with bad constraints sizes justice fairness))))))) ∙ subst (λ (hole : ℕ). GoesOn c.args.text.now c.in_ok-bad.at (number_lines hole [] (λ constraints. number_lines (slice_index c.args.counts.now 2) [] (λ sizes. number_lines (sum sizes) [] (λ justice. number_lines (slice_index c.args.counts.now 3) [] (λ fairness. more (properties_with c.in_ok-bad.bad.items constraints sizes justice fairness)))))) c.in_ok-constraints.at (let f : List ℕ → Layout = λ constraints. number_lines (slice_index c.args.counts.now 2) [] (λ sizes. number_lines (sum sizes) [] (λ justice. number_lines (slice_index c.args.counts.now 3) [] (λ fairness. more (properties_with c.in_ok-bad.bad.items constraints sizes justice fairness)))) in f c.in_ok-constraints.constraints.items)) (c.count_of-2.ensures) (c.in_ok-constraints.ensures.read (λ constraints. number_lines (slice_index c.args.counts.now 2) [] (λ sizes. number_lines (sum sizes) [] (λ justice. number_lines (slice_index c.args.counts.now 3) [] (λ fairness. more (properties_with c.in_ok-bad.bad.items constraints sizes justice fairness))))))) c.in_err-sizes.field-0.0 (subst (λ (hole : ℕ). Stops c.args.text.now c.in_ok-constraints.at (number_lines hole [] (λ sizes. number_lines (sum sizes) [] (λ justice. number_lines (slice_index c.args.counts.now 3) [] (λ fairness. more (properties_with c.in_ok-bad.bad.items c.in_ok-constraints.constraints.items sizes justice fairness))))) c.in_err-sizes.field-0.0) (c.count_of-3.ensures) (c.in_err-sizes.ensures.stops (λ sizes. number_lines (sum sizes) [] (λ justice. number_lines (slice_index c.args.counts.now 3) [] (λ fairness. more (properties_with c.in_ok-bad.bad.items c.in_ok-constraints.constraints.items sizes justice fairness)))))))

pub returns-in_err-justice-clause-stops : goal.returns-in_err-justice-clause-stops
unfolding properties_then
returns-in_err-justice-clause-stops c =
    let p = err_from_is_err_and c.from_residual-in_err-justice.result c.from_residual-in_err-justice.ensures.1 in rw (p.1, p.2) (λ more. stops_after c.args.text.now c.args.at c.in_ok-sizes.at (properties_then c.args.counts.now more) (number_lines (sum c.in_ok-sizes.sizes.items) [] (λ justice. number_lines (slice_index c.args.counts.now 3) [] (λ fairness. more (properties_with c.in_ok-bad.bad.items c.in_ok-constraints.constraints.items c.in_ok-sizes.sizes.items justice fairness)))) (subst (λ (hole : ℕ). GoesOn c.args.text.now c.args.at (number_lines hole [] (λ bad. number_lines (slice_index c.args.counts.now 1) [] (λ constraints. number_lines (slice_index c.args.counts.now 2) [] (λ sizes. number_lines (sum sizes) [] (λ justice. number_lines (slice_index c.args.counts.now 3) [] (λ fairness. more (properties_with bad constraints sizes justice fairness))))))) c.in_ok-bad.at (let f : List ℕ → Layout = λ bad. number_lines (slice_index c.args.counts.now 1) [] (λ constraints. number_lines (slice_index c.args.counts.now 2) [] (λ sizes. number_lines (sum sizes) [] (λ justice. number_lines (slice_index c.args.counts.now 3) [] (λ fairness. more (properties_with bad constraints sizes justice fairness))))) in f c.in_ok-bad.bad.items)) (c.count_of.ensures) (c.in_ok-bad.ensures.read (λ bad. number_lines (slice_index c.args.counts.now 1) [] (λ constraints. number_lines (slice_index c.args.counts.now 2) [] (λ sizes. number_lines (sum sizes) [] (λ justice. number_lines (slice_index c.args.counts.now 3) [] (λ fairness. more (properties_with bad constraints sizes justice fairness))))))) ∙ subst (λ (hole : ℕ). GoesOn c.args.text.now c.in_ok-bad.at (number_lines hole [] (λ constraints. number_lines (slice_index c.args.counts.now 2) [] (λ sizes. number_lines (sum sizes) [] (λ justice. number_lines (slice_index c.args.counts.now 3) [] (λ fairness. more (properties_with c.in_ok-bad.bad.items constraints sizes justice fairness)))))) c.in_ok-constraints.at (let f : List ℕ → Layout = λ constraints. number_lines (slice_index c.args.counts.now 2) [] (λ sizes. number_lines (sum sizes) [] (λ justice. number_lines (slice_index c.args.counts.now 3) [] (λ fairness. more (properties_with c.in_ok-bad.bad.items constraints sizes justice fairness)))) in f c.in_ok-constraints.constraints.items)) (c.count_of-2.ensures) (c.in_ok-constraints.ensures.read (λ constraints. number_lines (slice_index c.args.counts.now 2) [] (λ sizes. number_lines (sum sizes) [] (λ justice. number_lines (slice_index c.args.counts.now 3) [] (λ fairness. more (properties_with c.in_ok-bad.bad.items constraints sizes justice fairness)))))) ∙ subst (λ (hole : ℕ). GoesOn c.args.text.now c.in_ok-constraints.at (number_lines hole [] (λ sizes. number_lines (sum sizes) [] (λ justice. number_lines (slice_index c.args.counts.now 3) [] (λ fairness. more (properties_with c.in_ok-bad.bad.items c.in_ok-constraints.constraints.items sizes justice fairness))))) c.in_ok-sizes.at (let f : List ℕ → Layout = λ sizes. number_lines (sum sizes) [] (λ justice. number_lines (slice_index c.args.counts.now 3) [] (λ fairness. more (properties_with c.in_ok-bad.bad.items c.in_ok-constraints.constraints.items sizes justice fairness))) in f c.in_ok-sizes.sizes.items)) (c.count_of-3.ensures) (c.in_ok-sizes.ensures.read (λ sizes. number_lines (sum sizes) [] (λ justice. number_lines (slice_index c.args.counts.now 3) [] (λ fairness. more (properties_with c.in_ok-bad.bad.items c.in_ok-constraints.constraints.items sizes justice fairness)))))) c.in_err-justice.field-0.0 (subst (λ (hole : ℕ). Stops c.args.text.now c.in_ok-sizes.at (number_lines hole [] (λ justice. number_lines (slice_index c.args.counts.now 3) [] (λ fairness. more (properties_with c.in_ok-bad.bad.items c.in_ok-constraints.constraints.items c.in_ok-sizes.sizes.items justice fairness)))) c.in_err-justice.field-0.0) (c.sum_of.ensures ∙ ap sum c.as_slice.ensures.value) (c.in_err-justice.ensures.stops (λ justice. number_lines (slice_index c.args.counts.now 3) [] (λ fairness. more (properties_with c.in_ok-bad.bad.items c.in_ok-constraints.constraints.items c.in_ok-sizes.sizes.items justice fairness))))))

pub returns-in_err-fairness-clause-stops : goal.returns-in_err-fairness-clause-stops
unfolding properties_then
returns-in_err-fairness-clause-stops c =
    let p = err_from_is_err_and c.from_residual-in_err-fairness.result c.from_residual-in_err-fairness.ensures.1 in rw (p.1, p.2) (λ more. stops_after c.args.text.now c.args.at c.in_ok-justice.at (properties_then c.args.counts.now more) (number_lines (slice_index c.args.counts.now 3) [] (λ fairness. more (properties_with c.in_ok-bad.bad.items c.in_ok-constraints.constraints.items c.in_ok-sizes.sizes.items c.in_ok-justice.justice.items fairness))) (subst (λ (hole : ℕ). GoesOn c.args.text.now c.args.at (number_lines hole [] (λ bad. number_lines (slice_index c.args.counts.now 1) [] (λ constraints. number_lines (slice_index c.args.counts.now 2) [] (λ sizes. number_lines (sum sizes) [] (λ justice. number_lines (slice_index c.args.counts.now 3) [] (λ fairness. more (properties_with bad constraints sizes justice fairness))))))) c.in_ok-bad.at (let f : List ℕ → Layout = λ bad. number_lines (slice_index c.args.counts.now 1) [] (λ constraints. number_lines (slice_index c.args.counts.now 2) [] (λ sizes. number_lines (sum sizes) [] (λ justice. number_lines (slice_index c.args.counts.now 3) [] (λ fairness. more (properties_with bad constraints sizes justice fairness))))) in f c.in_ok-bad.bad.items)) (c.count_of.ensures) (c.in_ok-bad.ensures.read (λ bad. number_lines (slice_index c.args.counts.now 1) [] (λ constraints. number_lines (slice_index c.args.counts.now 2) [] (λ sizes. number_lines (sum sizes) [] (λ justice. number_lines (slice_index c.args.counts.now 3) [] (λ fairness. more (properties_with bad constraints sizes justice fairness))))))) ∙ subst (λ (hole : ℕ). GoesOn c.args.text.now c.in_ok-bad.at (number_lines hole [] (λ constraints. number_lines (slice_index c.args.counts.now 2) [] (λ sizes. number_lines (sum sizes) [] (λ justice. number_lines (slice_index c.args.counts.now 3) [] (λ fairness. more (properties_with c.in_ok-bad.bad.items constraints sizes justice fairness)))))) c.in_ok-constraints.at (let f : List ℕ → Layout = λ constraints. number_lines (slice_index c.args.counts.now 2) [] (λ sizes. number_lines (sum sizes) [] (λ justice. number_lines (slice_index c.args.counts.now 3) [] (λ fairness. more (properties_with c.in_ok-bad.bad.items constraints sizes justice fairness)))) in f c.in_ok-constraints.constraints.items)) (c.count_of-2.ensures) (c.in_ok-constraints.ensures.read (λ constraints. number_lines (slice_index c.args.counts.now 2) [] (λ sizes. number_lines (sum sizes) [] (λ justice. number_lines (slice_index c.args.counts.now 3) [] (λ fairness. more (properties_with c.in_ok-bad.bad.items constraints sizes justice fairness)))))) ∙ subst (λ (hole : ℕ). GoesOn c.args.text.now c.in_ok-constraints.at (number_lines hole [] (λ sizes. number_lines (sum sizes) [] (λ justice. number_lines (slice_index c.args.counts.now 3) [] (λ fairness. more (properties_with c.in_ok-bad.bad.items c.in_ok-constraints.constraints.items sizes justice fairness))))) c.in_ok-sizes.at (let f : List ℕ → Layout = λ sizes. number_lines (sum sizes) [] (λ justice. number_lines (slice_index c.args.counts.now 3) [] (λ fairness. more (properties_with c.in_ok-bad.bad.items c.in_ok-constraints.constraints.items sizes justice fairness))) in f c.in_ok-sizes.sizes.items)) (c.count_of-3.ensures) (c.in_ok-sizes.ensures.read (λ sizes. number_lines (sum sizes) [] (λ justice. number_lines (slice_index c.args.counts.now 3) [] (λ fairness. more (properties_with c.in_ok-bad.bad.items c.in_ok-constraints.constraints.items sizes justice fairness))))) ∙ subst (λ (hole : ℕ). GoesOn c.args.text.now c.in_ok-sizes.at (number_lines hole [] (λ justice. number_lines (slice_index c.args.counts.now 3) [] (λ fairness. more (properties_with c.in_ok-bad.bad.items c.in_ok-constraints.constraints.items c.in_ok-sizes.sizes.items justice fairness)))) c.in_ok-justice.at (let f : List ℕ → Layout = λ justice. number_lines (slice_index c.args.counts.now 3) [] (λ fairness. more (properties_with c.in_ok-bad.bad.items c.in_ok-constraints.constraints.items c.in_ok-sizes.sizes.items justice fairness)) in f c.in_ok-justice.justice.items)) (c.sum_of.ensures ∙ ap sum c.as_slice.ensures.value) (c.in_ok-justice.ensures.read (λ justice. number_lines (slice_index c.args.counts.now 3) [] (λ fairness. more (properties_with c.in_ok-bad.bad.items c.in_ok-constraints.constraints.items c.in_ok-sizes.sizes.items justice fairness))))) c.in_err-fairness.field-0.0 (subst (λ (hole : ℕ). Stops c.args.text.now c.in_ok-justice.at (number_lines hole [] (λ fairness. more (properties_with c.in_ok-bad.bad.items c.in_ok-constraints.constraints.items c.in_ok-sizes.sizes.items c.in_ok-justice.justice.items fairness))) c.in_err-fairness.field-0.0) (c.count_of-4.ensures) (c.in_err-fairness.ensures.stops (λ fairness. more (properties_with c.in_ok-bad.bad.items c.in_ok-constraints.constraints.items c.in_ok-sizes.sizes.items c.in_ok-justice.justice.items fairness)))))

pub returns-clause-read : goal.returns-clause-read
unfolding properties_then
returns-clause-read c =
    λ more. subst (λ (hole : ℕ). GoesOn c.args.text.now c.args.at (number_lines hole [] (λ bad. number_lines (slice_index c.args.counts.now 1) [] (λ constraints. number_lines (slice_index c.args.counts.now 2) [] (λ sizes. number_lines (sum sizes) [] (λ justice. number_lines (slice_index c.args.counts.now 3) [] (λ fairness. more (properties_with bad constraints sizes justice fairness))))))) c.in_ok-bad.at (let f : List ℕ → Layout = λ bad. number_lines (slice_index c.args.counts.now 1) [] (λ constraints. number_lines (slice_index c.args.counts.now 2) [] (λ sizes. number_lines (sum sizes) [] (λ justice. number_lines (slice_index c.args.counts.now 3) [] (λ fairness. more (properties_with bad constraints sizes justice fairness))))) in f c.in_ok-bad.bad.items)) (c.count_of.ensures) (c.in_ok-bad.ensures.read (λ bad. number_lines (slice_index c.args.counts.now 1) [] (λ constraints. number_lines (slice_index c.args.counts.now 2) [] (λ sizes. number_lines (sum sizes) [] (λ justice. number_lines (slice_index c.args.counts.now 3) [] (λ fairness. more (properties_with bad constraints sizes justice fairness))))))) ∙ subst (λ (hole : ℕ). GoesOn c.args.text.now c.in_ok-bad.at (number_lines hole [] (λ constraints. number_lines (slice_index c.args.counts.now 2) [] (λ sizes. number_lines (sum sizes) [] (λ justice. number_lines (slice_index c.args.counts.now 3) [] (λ fairness. more (properties_with c.in_ok-bad.bad.items constraints sizes justice fairness)))))) c.in_ok-constraints.at (let f : List ℕ → Layout = λ constraints. number_lines (slice_index c.args.counts.now 2) [] (λ sizes. number_lines (sum sizes) [] (λ justice. number_lines (slice_index c.args.counts.now 3) [] (λ fairness. more (properties_with c.in_ok-bad.bad.items constraints sizes justice fairness)))) in f c.in_ok-constraints.constraints.items)) (c.count_of-2.ensures) (c.in_ok-constraints.ensures.read (λ constraints. number_lines (slice_index c.args.counts.now 2) [] (λ sizes. number_lines (sum sizes) [] (λ justice. number_lines (slice_index c.args.counts.now 3) [] (λ fairness. more (properties_with c.in_ok-bad.bad.items constraints sizes justice fairness)))))) ∙ subst (λ (hole : ℕ). GoesOn c.args.text.now c.in_ok-constraints.at (number_lines hole [] (λ sizes. number_lines (sum sizes) [] (λ justice. number_lines (slice_index c.args.counts.now 3) [] (λ fairness. more (properties_with c.in_ok-bad.bad.items c.in_ok-constraints.constraints.items sizes justice fairness))))) c.in_ok-sizes.at (let f : List ℕ → Layout = λ sizes. number_lines (sum sizes) [] (λ justice. number_lines (slice_index c.args.counts.now 3) [] (λ fairness. more (properties_with c.in_ok-bad.bad.items c.in_ok-constraints.constraints.items sizes justice fairness))) in f c.in_ok-sizes.sizes.items)) (c.count_of-3.ensures) (c.in_ok-sizes.ensures.read (λ sizes. number_lines (sum sizes) [] (λ justice. number_lines (slice_index c.args.counts.now 3) [] (λ fairness. more (properties_with c.in_ok-bad.bad.items c.in_ok-constraints.constraints.items sizes justice fairness))))) ∙ subst (λ (hole : ℕ). GoesOn c.args.text.now c.in_ok-sizes.at (number_lines hole [] (λ justice. number_lines (slice_index c.args.counts.now 3) [] (λ fairness. more (properties_with c.in_ok-bad.bad.items c.in_ok-constraints.constraints.items c.in_ok-sizes.sizes.items justice fairness)))) c.in_ok-justice.at (let f : List ℕ → Layout = λ justice. number_lines (slice_index c.args.counts.now 3) [] (λ fairness. more (properties_with c.in_ok-bad.bad.items c.in_ok-constraints.constraints.items c.in_ok-sizes.sizes.items justice fairness)) in f c.in_ok-justice.justice.items)) (c.sum_of.ensures ∙ ap sum c.as_slice.ensures.value) (c.in_ok-justice.ensures.read (λ justice. number_lines (slice_index c.args.counts.now 3) [] (λ fairness. more (properties_with c.in_ok-bad.bad.items c.in_ok-constraints.constraints.items c.in_ok-sizes.sizes.items justice fairness)))) ∙ subst (λ (hole : ℕ). GoesOn c.args.text.now c.in_ok-justice.at (number_lines hole [] (λ fairness. more (properties_with c.in_ok-bad.bad.items c.in_ok-constraints.constraints.items c.in_ok-sizes.sizes.items c.in_ok-justice.justice.items fairness))) c.in_ok-fairness.at (let f : List ℕ → Layout = λ fairness. more (properties_with c.in_ok-bad.bad.items c.in_ok-constraints.constraints.items c.in_ok-sizes.sizes.items c.in_ok-justice.justice.items fairness) in f c.in_ok-fairness.fairness.items)) (c.count_of-4.ensures) (c.in_ok-fairness.ensures.read (λ fairness. more (properties_with c.in_ok-bad.bad.items c.in_ok-constraints.constraints.items c.in_ok-sizes.sizes.items c.in_ok-justice.justice.items fairness)))
    ∙ ap (λ (properties : Properties). outcome (more properties) c.in_ok-fairness.at (drop c.in_ok-fairness.at c.args.text.now)) (same_properties c.in_ok-bad.bad.items c.in_ok-constraints.constraints.items c.in_ok-sizes.sizes.items c.in_ok-justice.justice.items c.in_ok-fairness.fairness.items c.from_vec.result c.from_vec-2.result c.from_vec-3.result c.from_vec-4.result c.from_vec-5.result c.from_vec.ensures c.from_vec-2.ensures c.from_vec-3.ensures c.from_vec-4.ensures c.from_vec-5.ensures)
