-- A bit that is set in both words of a block shows it, and if there is none in any block, they can't.
use Rattle.std.proofs.Common.{arith, refl, ◌∙◌}
use Rattle.std.proofs.lemmas.Bool.{false≢true}
use Rattle.omega_hoa_satisfiable.proofs.LaneLiterals.{literal-truths}
use Rattle.omega_hoa_satisfiable.proofs.WideTables.{none-shared, shared-block, table-truths}
use Rattle.omega_hoa_satisfiable.proofs.wide_table.WideTable.meets_literals.Goals as goal

pub returns-then-bits_in_both-ne0 : goal.returns-then-bits_in_both-ne0
returns-then-bits_in_both-ne0 c =
    λ one another is low are. (
      λ _. shared-block one another _ _ c.loop-block.block c.bits_in_both.result (table-truths one c.args.self.now is)
          (literal-truths another c.args.literals c.low_lanes-lanes.result low are (omega arith) (omega arith) c.low_lanes-lanes.ensures)
          c.loop-block-test.true
          (c.bits_in_both.ensures ∙ rw (c.word_at-word.ensures, c.as_slice.ensures.value, c.lanes_in.ensures) refl)
          c.bits_in_both.type_inv c.if-bits_in_both-ne0.true,
      λ _. refl,
    )

pub returns : goal.returns
returns c =
    λ one another is low are. (
      λ none. absurd (false≢true none),
      λ satisfied.
          absurd (none-shared one another _ _ (table-truths one c.args.self.now is)
          (literal-truths another c.args.literals c.low_lanes-lanes.result low are (omega arith) (omega arith) c.low_lanes-lanes.ensures)
          (λ block within. c.loop-block.invariant block (omega (arith, within, c.loop-block-test.false))) satisfied),
    )
