-- Formulas that are asked of the items of a stream.
use Rattle.std.proofs.Common.{◌≡◌, ℕ, ◌<◌, Bool, List, Option, None, Some, take, length, get_or}
use Rattle.std.specs.List.{AllZip}
use Rattle.omega_text.specs.declared.refusal.Refusal.{Refusal}
use Rattle.omega_hoa.specs.Stream.{IsStreamText}
use Rattle.omega_hoa.specs.declared.item.Item.{Item}
use Rattle.omega_io.specs.declared.exit.Exit.{Exit}
use Rattle.omega_ltl_formula.specs.Table.{NumberedFormula}
use Rattle.omega_answers_formula.specs.Formula.{IsFormulaOfText}
use Rattle.omega_answers_formula.specs.InTurn.{IsAbout, IsAskingRefused, IsFirstRefused}
use Rattle.omega_answers_formula.specs.SatisfiesStream.{AnswersFormula, AreItemsRefused, AreSatisfiesStreamRefused, IsEachAnswered, IsItemRefused, RefusesFormula}
use Rattle.omega_answers_formula.specs.declared.refused_formulas.About.{About}
use Rattle.omega_answers_formula.specs.declared.refused_formulas.About.TheVariants.{Formula, Input, Question}
use Rattle.omega_answers_formula.specs.declared.refused_formulas.RefusedFormulas.{RefusedFormulas}
use Rattle.omega_answers_formula.proofs.InTurn.{numbered_at}

-- a formula is refused with this item, and those before it are answered
pub refused_at : (explain : Bool) (formulas : List NumberedFormula) (items : List Item) (place : ℕ) (item : Item) (exit : Exit) (output : List ℕ)
    → place < length items → item ≡ get_or items place item → IsEachAnswered explain formulas (take place items) exit output
    → (refused : RefusedFormulas) → IsAskingRefused (AnswersFormula explain item) (RefusesFormula item) formulas refused
    → AreItemsRefused explain formulas items refused
refused_at explain formulas items place item exit output below is answered refused asked = go refused.about refused.refusal asked
  where
    go : (about : Option About) (refusal : Refusal)
        → IsAbout (λ number refusal. ⊥) (IsFirstRefused (AnswersFormula explain item) (RefusesFormula item) formulas) (λ refusal. ⊥) about refusal
        → AreItemsRefused explain formulas items (record { refusal = refusal; about = about })
    go None refusal first = first
    go (Some (Formula number)) refusal first = absurd first
    go (Some Input) refusal first = absurd first
    go (Some (Question number)) refusal first =
        let numbered = numbered_at items place item below is in
        record {
          before = take place items;
          item = item;
          rest = numbered.rest;
          split = numbered.split;
          exit = exit;
          output = output;
          answered = answered;
          refused = first;
        }

-- the same of the texts that are read so
pub refused_items : (texts : List (List ℕ)) (text : List ℕ) (explain : Bool) (formulas : List NumberedFormula) (items : List Item)
    → AllZip IsFormulaOfText texts formulas → IsStreamText text items → (refused : RefusedFormulas) → AreItemsRefused explain formulas items refused
    → AreSatisfiesStreamRefused texts text explain refused
refused_items texts text explain formulas items read of_text refused is = go refused.about refused.refusal is
  where
    go : (about : Option About) (refusal : Refusal)
        → IsAbout (λ number refusal. ⊥) (IsItemRefused explain formulas items) (λ refusal. ⊥) about refusal
        → AreSatisfiesStreamRefused texts text explain (record { refusal = refusal; about = about })
    go None refusal is = is
    go (Some (Formula number)) refusal is = absurd is
    go (Some Input) refusal is = absurd is
    go (Some (Question number)) refusal is =
        record { file = formulas; file_read = read; input = items; input_read = of_text; holds = is }
