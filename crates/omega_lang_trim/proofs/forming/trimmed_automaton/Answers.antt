-- what is meant, and why nothing is
use Rattle.std.proofs.Common.{List, ℕ, refl, sym, ap, subst, ◌∙◌}
use Rattle.std.proofs.lemmas.Result.{IfErr-weaker, IfOk-weaker}
use Rattle.omega_hoa_automaton.specs.Automaton.{Description}
use Rattle.omega_hoa_automaton.specs.Faults.{automaton_fault_of}
use Rattle.omega_hoa_automaton.specs.Meaning.{Means}
use Rattle.omega_hoa_syntax.specs.declared.raw_automaton.RawAutomaton.{RawAutomaton}
use Rattle.omega_hoa_edges.proofs.Refusals.{large_weaker}
use Rattle.omega_lang_trim.specs.Refusing.{IsTooLarge, PassesLimit, broken_limit}
use Rattle.omega_hoa_automaton.specs.Faults.{BreaksLimit}
use Rattle.omega_lang_trim.specs.Trimmed.{trimmed}
use Rattle.omega_lang_trim.specs.Written.{written}
use Rattle.omega_lang_trim.proofs.Meant.{automaton_meant, trimmed_rises}
use Rattle.omega_lang_trim.proofs.forming.trimmed_automaton.Goals as goal

pub returns-in-Err-clause-err : goal.returns-in-Err-clause-err
returns-in-Err-clause-err c =
    let a : Description = c.args.automaton.now in
    let kept : List ℕ = c.args.kept.now.keys in
    large_weaker (PassesLimit (trimmed kept a)) (IsTooLarge a)
    (λ passes. (trimmed kept a, record { kept = kept; useful = c.requires.useful; is = refl }, passes))
    _ c.in-Err.ensures.err

pub returns-in-Ok-clause-err : goal.returns-in-Ok-clause-err
returns-in-Ok-clause-err c =
    let a : Description = c.args.automaton.now in
    let kept : List ℕ = c.args.kept.now.keys in
    IfErr-weaker c.meaning.result _ _
    (λ refusal is. large_weaker (BreaksLimit c.in-Ok.raw) (IsTooLarge a)
    (λ broken. (
      trimmed kept a,
      record { kept = kept; useful = c.requires.useful; is = refl },
      broken_limit broken.0 (ap automaton_fault_of (sym c.in-Ok.ensures.written) ∙ broken.1),
    ))
    refusal is)
    c.meaning.ensures.err

pub returns-in-Ok-clause-trimmed : goal.returns-in-Ok-clause-trimmed
returns-in-Ok-clause-trimmed c =
    let a : Description = c.args.automaton.now in
    let kept : List ℕ = c.args.kept.now.keys in
    IfOk-weaker c.meaning.result _ _
    (λ made means. record {
      kept = kept;
      useful = c.requires.useful;
      is = automaton_meant c.written_labels_mean.ensures c.written_formulas_mean.ensures (trimmed kept a) made refl refl refl
          (trimmed_rises a kept c.keeps_limits.ensures) (subst (λ (raw : RawAutomaton). Means raw made) c.in-Ok.ensures.written means);
    })
    c.meaning.ensures.means

pub returns-in-Ok-clause-written : goal.returns-in-Ok-clause-written
returns-in-Ok-clause-written c =
    let a : Description = c.args.automaton.now in
    let kept : List ℕ = c.args.kept.now.keys in
    IfOk-weaker c.meaning.result _ _
    (λ made means.
    let of_trimmed : Means (written (trimmed kept a)) made = subst (λ (raw : RawAutomaton). Means raw made) c.in-Ok.ensures.written means in
    let is = automaton_meant c.written_labels_mean.ensures c.written_formulas_mean.ensures (trimmed kept a) made refl refl refl
    (trimmed_rises a kept c.keeps_limits.ensures) of_trimmed in
    subst (λ (raw : RawAutomaton). Means raw made) (ap written (sym is)) of_trimmed)
    c.meaning.ensures.means
