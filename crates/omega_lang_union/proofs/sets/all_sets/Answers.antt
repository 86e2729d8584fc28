-- automata that are not alike have their own sets
use Rattle.std.proofs.Common.{◌<◌, inr, refl, sym, ◌∙◌, true≢false}
use Rattle.std.proofs.lemmas.Result.{IfErr-weaker}
use Rattle.omega_text.specs.Limits.{most_number}
use Rattle.omega_hoa_edges.proofs.Refusals.{large_weaker}
use Rattle.omega_lang_union.specs.Sharing.{separate_sets}
use Rattle.omega_lang_union.specs.private.Operands.{HaveManySets}
use Rattle.omega_lang_union.proofs.sets.all_sets.Goals as goal

pub returns-clause-err : goal.returns-clause-err
returns-clause-err c =
    IfErr-weaker c.separate_sharing.result _ _
    (λ refusal is. large_weaker (most_number < (separate_sets c.args.one.now c.args.other.now).sets) (HaveManySets c.args.one.now c.args.other.now)
    (λ many. (
      separate_sets c.args.one.now c.args.other.now,
      inr (λ alike. absurd (true≢false (sym (c.are_alike.ensures.1 alike) ∙ c.if-are_alike.false)), refl),
      many,
    ))
    refusal is)
    c.separate_sharing.ensures.err
