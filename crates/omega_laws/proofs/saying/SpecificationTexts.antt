-- What `realize` and `verify --specification` answer of texts.
use Rattle.std.proofs.Common.{◌≡◌, ◌↔◌, List, ℕ, codes, refl, sym, ap, ◌∙◌}
use Rattle.std.specs.List.{list_any}
use Rattle.omega_hoa_automaton.specs.Automaton.{Description}
use Rattle.omega_hoa.specs.Alone.{IsAutomatonText}
use Rattle.omega_io.specs.Answer.{IsYes}
use Rattle.omega_io.specs.declared.exit.Exit.{Exit}
use Rattle.omega_io.specs.declared.exit.Exit.TheVariants.{Done, No}
use Rattle.omega_synth_check.specs.CounterJudging.{IsCounterStrategyFor}
use Rattle.omega_synth_check.specs.Judging.{IsControllerFor}
use Rattle.omega_synth_controllers.specs.Controllable.{IsStated, is_controllable_item}
use Rattle.omega_answers_synth.specs.FormulaWinner.{verdict_line}
use Rattle.omega_answers_synth.specs.Laws.{ControllerAnswersAreExact, CounterAnswersAreExact, RealizeAnswersAreExact, TellsWhoWins, WinnerAnswersAreExact}
use Rattle.omega_laws.specs.Describes.{Describes}
use Rattle.omega_laws.specs.SpecificationTexts.{ControllerTextsAreJudged, CounterTextsAreJudged, RealizedTextsAreExact, SaysWhoWinsText, WinnersOfTextsAreExact}
use Rattle.omega_laws.proofs.saying.Alike.{PartsAreOne, same_controlled, same_countered, same_parted, same_specified, same_system, same_winner, turned}
use Rattle.omega_laws.proofs.saying.Described.{HaveSameParts, described}

-- what is told of the automaton that was read is told of each that the text describes
told_of_all : PartsAreOne → (text : List ℕ) (exit : Exit) (a : Description) (controlled : List ℕ) → IsAutomatonText text a → IsStated a controlled
    → TellsWhoWins a controlled exit → SaysWhoWinsText text exit
told_of_all parts text exit a controlled own stated told =
    let here : Describes text a = described text a own in
    record {
      described = (a, here);
      of_all = λ b there.
          (let same : HaveSameParts a b = parts text a b here there in
          record {
            controlled = controlled;
            stated = record {
              item = ap (list_any is_controllable_item) (sym same.unknown) ∙ stated.item;
              controlled = same_controlled a b same controlled stated.controlled;
            };
            wins = same_winner a b same controlled exit told;
          });
    }

pub realized_exact : PartsAreOne → RealizeAnswersAreExact → RealizedTextsAreExact
realized_exact parts exact decided text output exit answer =
    let told = exact decided text output exit answer.automaton answer.holds.controlled answer answer.read answer.holds.stated.controlled in
    (told_of_all parts text exit answer.automaton answer.holds.controlled answer.read answer.holds.stated told.0, line exit told.1 told.2)
  where
    line : (exit : Exit) → (exit ≡ Done) ↔ (output ≡ codes "realizable\n") → (exit ≡ No) ↔ (output ≡ codes "unrealizable\n") → output ≡ verdict_line exit
    line Done win lose = win.0 refl
    line No win lose = lose.0 refl

pub winners_exact : PartsAreOne → WinnerAnswersAreExact → WinnersOfTextsAreExact
winners_exact parts exact decided text output exit answer =
    told_of_all parts text exit answer.automaton answer.holds.controlled answer.read answer.holds.stated
    (exact decided text output exit answer.automaton answer.holds.controlled answer answer.read answer.holds.stated.controlled)

pub controllers_exact : PartsAreOne → ControllerAnswersAreExact → ControllerTextsAreJudged
controllers_exact parts exact decided file input output explain exit answer =
    let a : Description = answer.file in
    let c : Description = answer.input in
    let here : Describes file a = described file a answer.file_read in
    let there : Describes input c = described input c answer.input_read in
    let parted = answer.holds.parted in
    let controlled : List ℕ = answer.holds.controlled in
    let known : IsYes exit output ↔ IsControllerFor a c controlled =
    exact decided file input output explain exit a c controlled answer answer.file_read answer.input_read parted.own in
    record {
      described = ((a, here), (c, there));
      of_all = λ b d one other.
          (let same : HaveSameParts a b = parts file a b here one in
          let also : HaveSameParts c d = parts input c d there other in
          record {
            controlled = controlled;
            parted = same_parted a b c d same also controlled parted;
            exact = (
              λ yes. same_specified a b c d same also controlled (known.0 yes),
              λ for. known.1 (same_specified b a d c (turned a b same) (turned c d also) controlled for),
            );
          });
    }

pub counter_strategies_exact : PartsAreOne → CounterAnswersAreExact → CounterTextsAreJudged
counter_strategies_exact parts exact file input output explain exit answer =
    let a : Description = answer.file in
    let c : Description = answer.input in
    let here : Describes file a = described file a answer.file_read in
    let there : Describes input c = described input c answer.input_read in
    let names : List (List ℕ) = answer.holds.names in
    let known : IsYes exit output ↔ IsCounterStrategyFor a c names =
    exact file input output explain exit a c names answer answer.file_read answer.input_read answer.holds.parted in
    record {
      described = ((a, here), (c, there));
      of_all = λ b d one other.
          (let same : HaveSameParts a b = parts file a b here one in
          let also : HaveSameParts c d = parts input c d there other in
          record {
            names = names;
            parted = same_system a b c d same also names answer.holds.parted;
            exact = (
              λ yes. same_countered a b c d same also names (known.0 yes),
              λ for. known.1 (same_countered b a d c (turned a b same) (turned c d also) names for),
            );
          });
    }
