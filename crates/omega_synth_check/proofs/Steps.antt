-- Steps of an edge at its place.
use Rattle.std.proofs.Common.{◌≡◌, ℕ, ◌<◌, Bool, false, List, ◌∷◌, [], length, get_or, Option, None, Some, sym, ap, refl, ◌∙◌, subst, arith}
use Rattle.std.proofs.lemmas.Option.{same_Some}
use Rattle.omega_hoa_label.specs.Label.{LabelTree}
use Rattle.omega_hoa_automaton.specs.Automaton.{BodyEdge, Description, IsAutomaton}
use Rattle.omega_hoa_automaton.specs.Branching.{has_universal_branching}
use Rattle.omega_lang_runs.specs.Lasso.{IsStep, IsUsable, label_of}
use Rattle.omega_lang_runs.specs.Places.{EdgeStandsAt}
use Rattle.omega_lang_runs.specs.Words.{Allows, CanBeTaken}
use Rattle.omega_lang_runs.specs.declared.place.EdgePlace.{EdgePlace}
use Rattle.omega_lang_runs.proofs.SingleTargets.{EntersOne, enters_one}
use Rattle.omega_synth_controllers.specs.Controllers.{Answers}
use Rattle.omega_synth_game.specs.Making.{IsLeaving}

single_same : (x y : ℕ) (xs : List ℕ) → xs ≡ x ∷ [] → xs ≡ y ∷ [] → x ≡ y
single_same x y xs first second = ap (λ list. get_or list 0 0) (sym first ∙ second)

-- an edge leads from a state to one state
pub one_step : (a : Description) (state number x y : ℕ) → IsStep a state number x → IsStep a state number y → x ≡ y
one_step a state number x y first second =
    let same : second.edge ≡ first.edge = same_Some second.edge first.edge (sym second.numbered ∙ first.numbered) in
    single_same x y first.edge.edge.targets first.enters (ap (λ (e : BodyEdge). e.edge.targets) (sym same) ∙ second.enters)

-- a step leaves its state
pub step_leaves : (a : Description) (state number next : ℕ) → IsStep a state number next → IsLeaving a state number
step_leaves a state number next step = record { edge = step.edge; numbered = step.numbered; leaves = step.leaves }

-- an edge that can be taken is usable
usable_from : (a : Description) (number : ℕ) (label : Option LabelTree) (held : ℕ → Bool) (edge : BodyEdge) → label_of edge ≡ label
    → Allows a number label held → IsUsable edge
usable_from a number None held edge is allowed = rw is tt
usable_from a number (Some label) held edge is allowed = rw is (held, allowed)

-- an edge that leaves a state and answers a letter leads on
pub answer_steps : (a : Description) → IsAutomaton a → has_universal_branching a ≡ false → (controlled : List ℕ) (state number : ℕ) (given : ℕ → Bool)
    → IsLeaving a state number → Answers a controlled number given → (next : ℕ) × IsStep a state number next
answer_steps a automaton plain controlled state number given leaver answers =
    let taken : CanBeTaken a number answers.letter = answers.taken in
    let one : EntersOne a.states leaver.edge = enters_one a automaton plain number leaver.edge leaver.numbered in (
      one.target,
      record {
        edge = leaver.edge;
        numbered = leaver.numbered;
        usable = subst IsUsable (same_Some taken.edge leaver.edge (sym taken.numbered ∙ leaver.numbered))
            (usable_from a number (label_of taken.edge) answers.letter taken.edge refl taken.allowed);
        leaves = leaver.leaves;
        enters = one.enters;
      },
    )

module _ (a : Description) (automaton : IsAutomaton a) (plain : has_universal_branching a ≡ false) (number : ℕ) (place : EdgePlace)
    (stands : EdgeStandsAt a number place) where
  abbrev pub body : BodyEdge
  body = record { source = stands.state; edge = stands.edge }

  -- an edge that is usable leads to its target
  pub step_of : IsUsable body → (target : ℕ) → target ≡ get_or stands.edge.targets 0 0 → (state : ℕ) → IsLeaving a state number → IsStep a state number target
  step_of usable target is state leaver =
      let one : EntersOne a.states body = enters_one a automaton plain number body stands.numbered in
      let same : body ≡ leaver.edge = same_Some body leaver.edge (sym stands.numbered ∙ leaver.numbered) in
      record {
        edge = body;
        numbered = stands.numbered;
        usable = usable;
        leaves = ap (λ (e : BodyEdge). e.source.number) same ∙ leaver.leaves;
        enters = one.enters ∙ ap (λ t. t ∷ []) (sym (is ∙ ap (λ (list : List ℕ). get_or list 0 0) one.enters));
      }

  -- and one that leads somewhere is usable
  pub usable_of : (state next : ℕ) → IsStep a state number next → IsUsable body
  usable_of state next step = subst IsUsable (same_Some step.edge body (sym step.numbered ∙ stands.numbered)) step.usable

  pub target_there : 0 < length stands.edge.targets
  target_there =
      let one : EntersOne a.states body = enters_one a automaton plain number body stands.numbered in
      omega (arith, ap length one.enters)
