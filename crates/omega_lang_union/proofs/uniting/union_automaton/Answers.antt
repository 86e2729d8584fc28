-- what is formed is the union, and why none is formed
use Rattle.std.proofs.Common.{refl, sym, ap, subst, ◌∙◌, true≢false}
use Rattle.std.proofs.lemmas.Result.{IfErr-weaker, IfOk-weaker}
use Rattle.omega_hoa_automaton.specs.Automaton.{Description}
use Rattle.omega_hoa_automaton.specs.Faults.{automaton_fault_of}
use Rattle.omega_hoa_edges.proofs.Refusals.{large_weaker, passed_on}
use Rattle.omega_lang_product.specs.Limits.{IsWithin}
use Rattle.omega_lang_trim.specs.Refusing.{broken_limit}
use Rattle.omega_hoa_automaton.specs.Faults.{BreaksLimit}
use Rattle.omega_lang_union.specs.Refusing.{IsOversized, IsUnionTooLarge, many_sets, passes_limit}
use Rattle.omega_lang_union.specs.Union.{united}
use Rattle.omega_lang_union.specs.private.Operands.{HaveManySets}
use Rattle.omega_lang_union.specs.declared.sharing.Sharing.{Sharing}
use Rattle.omega_lang_union.proofs.Formed.{few_states, large_oversized, united_meant, united_within, united_written}
use Rattle.omega_lang_union.proofs.uniting.union_automaton.Goals as goal

pub returns-in_err-sharing-clause-err : goal.returns-in_err-sharing-clause-err
returns-in_err-sharing-clause-err c =
    passed_on c.from_residual.result _ _ c.from_residual.ensures.1
    (large_weaker (HaveManySets c.args.one.now c.args.other.now) (IsUnionTooLarge c.args.one.now c.args.other.now)
    (λ many. (united many.0 c.args.one.now c.args.other.now, record { sharing = many.0; shared = many.1; is = refl }, many_sets many.2))
    _ c.in_err-sharing.ensures.err)

pub returns-then-are_large-clause-err : goal.returns-then-are_large-clause-err
returns-then-are_large-clause-err c =
    let sharing : Sharing = c.in_ok-sharing.sharing in (
      refl,
      (
        united sharing c.args.one.now c.args.other.now,
        record { sharing = sharing; shared = c.in_ok-sharing.ensures.sharing; is = refl },
        large_oversized sharing c.args.one.now c.args.other.now (c.are_large.ensures.0 c.if-are_large.true),
      ),
    )

pub raw_union-requires : goal.raw_union-requires
raw_union-requires c =
    few_states c.in_ok-sharing.sharing c.args.one.now c.args.other.now (λ large. absurd (true≢false (sym (c.are_large.ensures.1 large) ∙ c.if-are_large.false)))

pub returns-in-Err-clause-err : goal.returns-in-Err-clause-err
returns-in-Err-clause-err c =
    let sharing : Sharing = c.in_ok-sharing.sharing in
    let union : Description = united sharing c.args.one.now c.args.other.now in
    large_weaker (IsOversized union) (IsUnionTooLarge c.args.one.now c.args.other.now)
    (λ over. (union, record { sharing = sharing; shared = c.in_ok-sharing.ensures.sharing; is = refl }, over))
    _ c.in-Err.ensures.err

pub returns-in-Ok-clause-err : goal.returns-in-Ok-clause-err
returns-in-Ok-clause-err c =
    let sharing : Sharing = c.in_ok-sharing.sharing in
    let union : Description = united sharing c.args.one.now c.args.other.now in
    IfErr-weaker c.meaning.result _ _
    (λ refusal is. large_weaker (BreaksLimit c.in-Ok.raw) (IsUnionTooLarge c.args.one.now c.args.other.now)
    (λ broken. (
      union,
      record { sharing = sharing; shared = c.in_ok-sharing.ensures.sharing; is = refl },
      passes_limit (broken_limit broken.0 (ap automaton_fault_of (sym c.in-Ok.ensures.written) ∙ broken.1)),
    ))
    refusal is)
    c.meaning.ensures.err

pub returns-in-Ok-clause-union : goal.returns-in-Ok-clause-union
returns-in-Ok-clause-union c =
    IfOk-weaker c.meaning.result _ _
    (λ union means. record {
      sharing = c.in_ok-sharing.sharing;
      shared = c.in_ok-sharing.ensures.sharing;
      is = united_meant c.in_ok-sharing.sharing c.args.one.now c.args.other.now c.written_labels_mean.ensures c.written_formulas_mean.ensures c.in_ok-sharing.ensures.sharing
          c.keeps_limits.ensures c.keeps_limits-2.ensures c.in-Ok.raw union c.in-Ok.ensures.written means;
    })
    c.meaning.ensures.means

pub returns-in-Ok-clause-written : goal.returns-in-Ok-clause-written
returns-in-Ok-clause-written c =
    IfOk-weaker c.meaning.result _ _
    (λ union means.
    let is = united_meant c.in_ok-sharing.sharing c.args.one.now c.args.other.now c.written_labels_mean.ensures c.written_formulas_mean.ensures c.in_ok-sharing.ensures.sharing
    c.keeps_limits.ensures c.keeps_limits-2.ensures c.in-Ok.raw union c.in-Ok.ensures.written means in
    united_written c.in_ok-sharing.sharing c.args.one.now c.args.other.now c.in-Ok.raw union c.in-Ok.ensures.written is means)
    c.meaning.ensures.means

pub returns-in-Ok-clause-within : goal.returns-in-Ok-clause-within
returns-in-Ok-clause-within c =
    IfOk-weaker c.meaning.result _ _
    (λ union means.
    let is = united_meant c.in_ok-sharing.sharing c.args.one.now c.args.other.now c.written_labels_mean.ensures c.written_formulas_mean.ensures c.in_ok-sharing.ensures.sharing
    c.keeps_limits.ensures c.keeps_limits-2.ensures c.in-Ok.raw union c.in-Ok.ensures.written means in
    subst IsWithin (sym is)
    (united_within c.in_ok-sharing.sharing c.args.one.now c.args.other.now (λ large. absurd (true≢false (sym (c.are_large.ensures.1 large) ∙ c.if-are_large.false))) c.in_ok-sharing.ensures.few))
    c.meaning.ensures.means
