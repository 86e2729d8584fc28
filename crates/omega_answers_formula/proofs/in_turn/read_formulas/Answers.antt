-- `read_formulas`: one more text is read, or it is the first that is refused.
use Rattle.std.proofs.Common.{◌+◌, take, arith}
use Rattle.omega_ltl_text.specs.Text.{IsFormulaTextRefusal}
use Rattle.omega_answers_formula.specs.InTurn.{IsFirstUnread}
use Rattle.omega_answers_formula.specs.declared.refused_formulas.About.TheVariants.{Formula}
use Rattle.omega_answers_formula.proofs.InTurn.{numbered_at, read_next, refused_of}
use Rattle.omega_answers_formula.proofs.in_turn.read_formulas.Goals as goal

pub loop-place-preserved : goal.loop-place-preserved
loop-place-preserved c =
    read_next c.args.texts.now c.loop-place.place c.index-texts-place.result c.loop-place.read.items c.read_more.new.read.items
    (omega (arith, c.loop-place-test.true)) c.index-texts-place.is c.loop-place.invariant c.in_default.ensures.read

pub returns-in-Err-clause-refused : goal.returns-in-Err-clause-refused
returns-in-Err-clause-refused c =
    refused_of (IsFirstUnread c.args.texts.now) (λ number refusal. ⊥) (λ refusal. ⊥) (Formula (c.loop-place.place + 1))
    (IsFormulaTextRefusal c.index-texts-place.result)
    (λ refusal is. record {
      before = take c.loop-place.place c.args.texts.now;
      text = c.index-texts-place.result;
      numbered = numbered_at c.args.texts.now c.loop-place.place c.index-texts-place.result (omega (arith, c.loop-place-test.true)) c.index-texts-place.is;
      formulas = c.loop-place.read.items;
      read = c.loop-place.invariant;
      refused = is;
    })
    c.in-Err.refusal c.in-Err.ensures.refused c.of.result c.of.ensures
