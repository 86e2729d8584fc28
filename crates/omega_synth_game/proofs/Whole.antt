-- An edge answers a letter exactly if its whole label can be true there.
use Rattle.std.proofs.Common.{◌≡◌, ◌↔◌, inl, inr, ℕ, ◌<◌, Bool, List, length, get_or, Some, Result, Ok, Err, ap, ◌∙◌, subst}
use Rattle.std.specs.Prelude.{IfErr, IfOk, IsTrue}
use Rattle.std.proofs.lemmas.Option.{get_or_from_slice_get, slice_get_within}
use Rattle.omega_text.specs.declared.refusal.Refusal.{Refusal}
use Rattle.omega_text.specs.declared.refusal.Refusal.TheVariants.{Automaton, Circuit, Game, Io, Memory, Task, Text}
use Rattle.omega_hoa_label.specs.Label.{LabelTree}
use Rattle.omega_hoa_satisfiable.specs.Undecided.{IsUndecidedLabel}
use Rattle.omega_hoa_automaton.specs.Automaton.{BodyEdge, Description, edge_at}
use Rattle.omega_hoa_automaton.specs.declared.edge.Edge.{Edge}
use Rattle.omega_hoa_automaton.specs.declared.state.State.{State}
use Rattle.omega_hoa_edges.specs.Fitting.{IsUnfit}
use Rattle.omega_hoa_edges.specs.Labels.{label_at, valuation_label}
use Rattle.omega_hoa_edges.proofs.Bits.{valuation_held, valuation_true}
use Rattle.omega_lang_runs.specs.Laws.{EdgesAreTakenWhereTrue, IsIndexLabel}
use Rattle.omega_lang_runs.specs.Places.{EdgeStandsAt}
use Rattle.omega_lang_runs.specs.Words.{index_in}
use Rattle.omega_lang_runs.specs.declared.place.EdgePlace.{EdgePlace}
use Rattle.omega_synth_controllers.specs.Controllers.{Answers}
use Rattle.omega_synth_game.specs.Answering.{CanAnswer, IsAnswerRefusal, restricted, whole_label}
use Rattle.omega_synth_game.specs.Letters.{holds_in}

is_index_label : (a : Description) (number : ℕ) → IsIndexLabel a number (valuation_label (index_in a.defined number) (length a.propositions))
is_index_label a number held =
    (valuation_held held (index_in a.defined number) (length a.propositions), valuation_true held (index_in a.defined number) (length a.propositions))

pub answers_is : EdgesAreTakenWhereTrue → (a : Description) (controlled : List ℕ) (number : ℕ) (given : ℕ → Bool) (edge : BodyEdge)
    → edge_at a number ≡ Some edge → CanAnswer controlled (whole_label a number edge) given ↔ Answers a controlled number given
answers_is law a controlled number given edge numbered =
    let index_label : LabelTree = valuation_label (index_in a.defined number) (length a.propositions) in (
      λ can. record {
        letter = can.letter;
        agrees = can.agrees;
        taken = (law a number edge index_label can.letter numbered (is_index_label a number)).1 can.holds;
      },
      λ answer. record {
        letter = answer.letter;
        agrees = answer.agrees;
        holds = (law a number edge index_label answer.letter numbered (is_index_label a number)).0 answer.taken;
      },
    )

module _ (a : Description) (number : ℕ) (place : EdgePlace) (stands : EdgeStandsAt a number place) where
  pub state_within : place.state < length a.defined
  state_within = slice_get_within a.defined place.state stands.state stands.state_there

  pub state_is : (d : State) → get_or a.defined place.state d ≡ stands.state
  state_is d = get_or_from_slice_get a.defined place.state stands.state d stands.state_there

  pub edge_within : place.index < length stands.state.edges
  edge_within = slice_get_within stands.state.edges place.index stands.edge stands.edge_there

  pub edge_is : (d : Edge) → get_or stands.state.edges place.index d ≡ stands.edge
  edge_is d = get_or_from_slice_get stands.state.edges place.index stands.edge d stands.edge_there

  abbrev pub body : BodyEdge
  body = record { source = stands.state; edge = stands.edge }

  -- the label that is made is the whole label
  pub label_is : (label : LabelTree) (state : State) (edge : Edge) → state ≡ stands.state → edge ≡ stands.edge
      → label ≡ label_at (length a.propositions) state place.index edge → label ≡ whole_label a number body
  label_is label state edge state_same edge_same is =
      is
      ∙ ap (λ (s : State). label_at (length a.propositions) s place.index edge) state_same
      ∙ ap (λ (e : Edge). label_at (length a.propositions) stands.state place.index e) edge_same
      ∙ ap (λ i. label_at (length a.propositions) stands.state i stands.edge) stands.index_is

  pub answers_judged : EdgesAreTakenWhereTrue → (controlled letter : List ℕ) (r : Result Bool Refusal) (label : LabelTree)
      → label ≡ whole_label a number body → IfOk r (λ possible. IsTrue possible ↔ CanAnswer controlled label (holds_in letter))
      → IfOk r (λ answers. IsTrue answers ↔ Answers a controlled number (holds_in letter))
  answers_judged law controlled letter (Ok possible) label is judged =
      let whole : IsTrue possible ↔ CanAnswer controlled (whole_label a number body) (holds_in letter) =
      subst (λ (t : LabelTree). IsTrue possible ↔ CanAnswer controlled t (holds_in letter)) is judged in
      let both = answers_is law a controlled number (holds_in letter) body stands.numbered in
      (λ yes. both.0 (whole.0 yes), λ answer. whole.1 (both.1 answer))
  answers_judged law controlled letter (Err refusal) label is judged = tt

  pub unanswered : (controlled letter : List ℕ) (r : Result Bool Refusal) (label : LabelTree) → label ≡ whole_label a number body
      → IfErr r (IsUndecidedLabel (restricted controlled letter label)) → IfErr r (IsAnswerRefusal a controlled letter number)
  unanswered controlled letter (Ok possible) label is refused = tt
  unanswered controlled letter (Err refusal) label is refused =
      go refusal (subst (λ (t : LabelTree). IsUndecidedLabel (restricted controlled letter t) refusal) is refused)
    where
      go : (e : Refusal) → IsUndecidedLabel (restricted controlled letter (whole_label a number body)) e → IsAnswerRefusal a controlled letter number e
      go (Task fault) hard = (body, stands.numbered, inr hard)
      go Memory hard = hard
      go (Text fault) hard = absurd hard
      go (Game fault) hard = absurd hard
      go (Circuit fault) hard = absurd hard
      go (Automaton fault) hard = absurd hard
      go Io hard = absurd hard

  pub unfit_unanswered : (controlled letter : List ℕ) (e : Refusal) (label : LabelTree) → label ≡ whole_label a number body → IsUnfit label e
      → IsAnswerRefusal a controlled letter number e
  unfit_unanswered controlled letter e label is unfit = go e (subst (λ (t : LabelTree). IsUnfit t e) is unfit)
    where
      go : (e : Refusal) → IsUnfit (whole_label a number body) e → IsAnswerRefusal a controlled letter number e
      go (Task fault) large = (body, stands.numbered, inl large)
      go Memory large = large
      go (Text fault) large = absurd large
      go (Game fault) large = absurd large
      go (Circuit fault) large = absurd large
      go (Automaton fault) large = absurd large
      go Io large = absurd large
