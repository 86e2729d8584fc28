-- The answers of `satisfies --stream` for the texts of formulas and that of a stream of automata: for each of its
-- items, in turn, the answers to all formulas; and the refusals.
use Rattle.std.specs.Prelude.{◌≡◌, ◌++◌, ◌∷◌, Bool, List, codes, ℕ}
use Rattle.std.specs.List.{AllZip}
use Rattle.omega_text.specs.declared.refusal.Refusal.{Refusal}
use Rattle.omega_text.specs.declared.refusal.Refusal.TheVariants.{Memory}
use Rattle.omega_hoa.specs.Stream.{IsStreamRefusal, IsStreamText}
use Rattle.omega_hoa.specs.declared.item.Item.{Item}
use Rattle.omega_hoa.specs.declared.item.Item.TheVariants.{Aborted, Automaton}
use Rattle.omega_io.specs.declared.exit.Exit.{Exit}
use Rattle.omega_io.specs.declared.exit.Exit.TheVariants.{Done}
use Rattle.omega_answers.specs.TwoTexts.{OfBoth}
use Rattle.omega_answers_stream.specs.Counting.{automata_in}
use Rattle.omega_ltl_formula.specs.Table.{NumberedFormula}
use Rattle.omega_ltl_satisfaction.specs.Refusing.{IsSatisfactionRefusal}
use Rattle.omega_answers_formula.specs.Formula.{IsFormulaOfText}
use Rattle.omega_answers_formula.specs.InTurn.{AreAnswered, IsFirstRefused, IsFirstUnread, IsInputUnread}
use Rattle.omega_answers_formula.specs.InTurn.{IsRefusedBy}
use Rattle.omega_answers_formula.specs.Satisfies.{IsSatisfactionVerdict}
use Rattle.omega_answers_formula.specs.declared.refused_formulas.RefusedFormulas.{RefusedFormulas}

-- ---- an item

-- the answer to a formula: what is written of the formula and the automaton is right; for an aborted segment it is the
-- line `aborted`, and no `no`
abbrev pub AnswersFormula : (explain : Bool) → Item → NumberedFormula → Exit → List ℕ → Type 0
AnswersFormula explain (Automaton a) formula exit output =
    IsSatisfactionVerdict formula a explain exit output
AnswersFormula explain Aborted formula exit output = (exit ≡ Done) × (output ≡ codes "aborted\n")

-- the refusal of a formula: that with the automaton; for an aborted segment only memory is wanting
abbrev pub RefusesFormula : Item → NumberedFormula → Refusal → Type 0
RefusesFormula (Automaton a) formula refusal = IsSatisfactionRefusal a formula refusal
RefusesFormula Aborted formula refusal = refusal ≡ Memory

-- ---- all items

-- for each item the formulas are answered, one after the other
abbrev pub IsEachAnswered : (explain : Bool) → List NumberedFormula → List Item → Exit
    → List ℕ → Type 0
IsEachAnswered explain formulas =
    AreAnswered (λ item. AreAnswered (AnswersFormula explain item) formulas)

-- the same, and so many of the items are automata
abbrev pub AreItemsAnswered : (explain : Bool) → List NumberedFormula → List Item → Exit
    → List ℕ → (automata : ℕ) → Type 0
AreItemsAnswered explain formulas items exit output automata =
    IsEachAnswered explain formulas items exit output × (automata ≡ automata_in items)

-- with an item the formula with this number is refused, the first that is; for the items before it, all are answered
pub record IsItemRefused (explain : Bool) (formulas : List NumberedFormula) (items : List Item)
    (number : ℕ) (refusal : Refusal) : Type 0 where
  pub before : List Item
  pub item : Item
  pub rest : List Item
  pub split : items ≡ before ++ item ∷ rest
  pub exit : Exit
  pub output : List ℕ
  pub answered : IsEachAnswered explain formulas before exit output
  pub refused : IsFirstRefused (AnswersFormula explain item) (RefusesFormula item) formulas number refusal

-- a formula is refused with an item, or memory is wanting
abbrev pub AreItemsRefused : (explain : Bool) → List NumberedFormula → List Item
    → RefusedFormulas → Type 0
AreItemsRefused explain formulas items =
    IsRefusedBy (λ number refusal. ⊥) (IsItemRefused explain formulas items) (λ refusal. ⊥)

-- ---- texts

-- the answers of `satisfies --stream` for so many automata: the texts are those of formulas and of a stream
abbrev pub AreSatisfiesStreamAnswers : (formulas : List (List ℕ)) → (text : List ℕ)
    → (explain : Bool) → Exit → List ℕ → (automata : ℕ) → Type 0
AreSatisfiesStreamAnswers formulas text explain exit output automata =
    OfBoth (AllZip IsFormulaOfText formulas) (IsStreamText text)
    (λ read items. AreItemsAnswered explain read items exit output automata)

-- the refusal of `satisfies --stream`: that of the first formula's text that is refused, or else that of the stream's
-- text, or else that of the first item with which a formula is refused, and of the first formula that is
abbrev pub AreSatisfiesStreamRefused : (formulas : List (List ℕ)) → (text : List ℕ)
    → (explain : Bool) → RefusedFormulas → Type 0
AreSatisfiesStreamRefused formulas text explain =
    IsRefusedBy (IsFirstUnread formulas)
    (λ number refusal. OfBoth (AllZip IsFormulaOfText formulas) (IsStreamText text)
    (λ read items. IsItemRefused explain read items number refusal))
    (IsInputUnread (IsStreamRefusal text) formulas)
