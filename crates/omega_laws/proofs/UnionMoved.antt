-- The moves of an automaton are those of a union in its part.
use Rattle.std.proofs.Common.{◌≡◌, ℕ, ◌+◌, ◌<◌, Bool, List, [], ◌∷◌, ◌++◌, length, map, Contains, append_assoc, sym, ap, subst, ◌∙◌, refl}
use Rattle.std.proofs.lemmas.List.{map-append}
use Rattle.std.proofs.lemmas.List.Elements.{All-contains}
use Rattle.omega_hoa_label.specs.Label.{truth}
use Rattle.omega_hoa_automaton.specs.Automaton.{Description, IsAutomaton}
use Rattle.omega_hoa_automaton.specs.declared.edge.Edge.{Edge}
use Rattle.omega_hoa_automaton.specs.declared.state.State.{State}
use Rattle.omega_hoa_edges.specs.AutomatonLabels.{state_at}
use Rattle.omega_hoa_edges.specs.Labels.{label_at}
use Rattle.omega_lang_product.specs.Joining.{number_among}
use Rattle.omega_lang_product.proofs.Membership.{Contains-here}
use Rattle.omega_lang_runs.specs.Lasso.{IsStep}
use Rattle.omega_lang_runs.proofs.Kept.{edge_kept}
use Rattle.omega_lang_union.specs.Parts.{Part, edge_in, moved, state_in}
use Rattle.omega_lang_union.specs.Sharing.{guard_sets}
use Rattle.omega_lang_product.proofs.Valuations.{truth_relabelled}
use Rattle.omega_lang_word_laws.proofs.parting.Moves.{IsMove, IsMoveOf}
use Rattle.omega_laws.proofs.Edges.{IsEdgeFrom, edge_from, edge_there, label_same}

-- the marks of an edge in a part
abbrev pub marks_in : Part → List ℕ → List ℕ
marks_in part marks = moved part.sets marks ++ guard_sets part.guard

-- a step enters a state of the automaton
pub enters_low : (x : Description) → IsAutomaton x → (from number to : ℕ) → IsStep x from number to → to < x.states
enters_low x automaton from number to step =
    let kept = edge_kept x automaton number step.edge step.numbered in
    All-contains (λ (n : ℕ). n < x.states) step.edge.edge.targets to kept.1.targets.below
    (subst (λ (targets : List ℕ). Contains targets to) (sym step.enters) (Contains-here to []))

-- moved numbers that are one number
pub record IsOneMoved (before : ℕ) (numbers : List ℕ) (to : ℕ) : Type 0 where
  pub number : ℕ
  pub alone : numbers ≡ number ∷ []
  pub is : to ≡ before + number

pub one_moved : (before : ℕ) (numbers : List ℕ) (to : ℕ) → moved before numbers ≡ to ∷ [] → IsOneMoved before numbers to
one_moved before [] to are = absurd (none are)
  where
    none : ◌≡◌ {A = List ℕ} [] (to ∷ []) → ⊥
    none e = cc
one_moved before (number ∷ []) to are = record { number = number; alone = refl; is = sym (first are) }
  where
    first : (before + number) ∷ [] ≡ to ∷ [] → before + number ≡ to
    first e = cc
one_moved before (number ∷ more ∷ numbers) to are = absurd (many are)
  where
    many : (before + number) ∷ (before + more) ∷ map (λ (n : ℕ). before + n) numbers ≡ to ∷ [] → ⊥
    many e = cc

module _ (x u : Description) (part : Part) (counted : length part.places ≡ length x.propositions)
    (there : (number : ℕ) → number < x.states → state_at u (part.states + number) ≡ state_in part (state_at x number)) where
  -- what an automaton sees of the propositions that hold
  abbrev pub seen : (ℕ → Bool) → ℕ → Bool
  seen held p = held (number_among part.places p)

  label_true : (state : State) (held : ℕ → Bool) (index : ℕ) (edge : Edge)
      → truth held (label_at (length u.propositions) (state_in part state) index (edge_in part state index edge)) ≡ truth (seen held) (label_at (length x.propositions) state index edge)
  label_true state held index edge =
      ap (truth held) (label_same part state (length u.propositions) index edge)
      ∙ truth_relabelled part.places held (label_at (length part.places) state index edge)
      ∙ ap (λ (count : ℕ). truth (seen held) (label_at count state index edge)) counted

  marked : (of_state of_edge : List ℕ) → marks_in part (of_state ++ of_edge) ≡ moved part.sets of_state ++ (moved part.sets of_edge ++ guard_sets part.guard)
  marked of_state of_edge =
      ap (λ (marks : List ℕ). marks ++ guard_sets part.guard) (map-append (λ (n : ℕ). part.sets + n) of_state of_edge)
      ∙ append_assoc (moved part.sets of_state) (moved part.sets of_edge) (guard_sets part.guard)

  -- a move in the part
  pub move_on : (from : ℕ) (held : ℕ → Bool) (to : ℕ) (marks : List ℕ) → from < x.states → IsMove x from (seen held) to marks
      → IsMove u (part.states + from) held (part.states + to) (marks_in part marks)
  move_on from held to marks below move =
      let state : State = state_at x from in
      subst (λ (s : State). IsMoveOf (length u.propositions) s held (part.states + to) (marks_in part marks)) (sym (there from below))
      (record {
        index = move.index;
        edge = edge_in part state move.index move.edge;
        there = edge_there part state move.index move.edge move.there;
        holds = label_true state held move.index move.edge ∙ move.holds;
        enters = ap (moved part.states) move.enters;
        marked = ap (marks_in part) move.marked ∙ marked state.marks move.edge.marks;
      })

  -- and a move of the union, as one of the automaton
  pub record IsMovedFrom (from : ℕ) (held : ℕ → Bool) (to : ℕ) (marks : List ℕ) : Type 0 where
    pub old_to : ℕ
    pub to_is : to ≡ part.states + old_to
    pub old_marks : List ℕ
    pub marks_are : marks ≡ marks_in part old_marks
    pub move : IsMove x from (seen held) old_to old_marks

  pub move_back : (from : ℕ) (held : ℕ → Bool) (to : ℕ) (marks : List ℕ) → from < x.states → IsMove u (part.states + from) held to marks → IsMovedFrom from held to marks
  move_back from held to marks below move' =
      let state : State = state_at x from in
      let move : IsMoveOf (length u.propositions) (state_in part state) held to marks =
      subst (λ (s : State). IsMoveOf (length u.propositions) s held to marks) (there from below) move' in
      let old : IsEdgeFrom part state move.index move.edge = edge_from part state move.index move.edge move.there in
      let target : IsOneMoved part.states old.old.targets to = one_moved part.states old.old.targets to (sym (ap (λ (e : Edge). e.targets) old.is) ∙ move.enters) in
      record {
        old_to = target.number;
        to_is = target.is;
        old_marks = state.marks ++ old.old.marks;
        marks_are = move.marked ∙ ap (λ (e : Edge). moved part.sets state.marks ++ e.marks) old.is ∙ sym (marked state.marks old.old.marks);
        move = record {
          index = move.index;
          edge = old.old;
          there = old.at;
          holds = sym (label_true state held move.index old.old)
              ∙ ap (λ (e : Edge). truth held (label_at (length u.propositions) (state_in part state) move.index e)) (sym old.is)
              ∙ move.holds;
          enters = target.alone;
          marked = refl;
        };
      }
