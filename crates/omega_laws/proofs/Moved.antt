-- Moves of an automaton are those of the trimmed one between states that stay.
use Rattle.std.proofs.Common.{◌≡◌, ℕ, ◌+◌, Bool, true, false, ◌&&◌, List, [], ◌∷◌, ◌++◌, length, map, Some, Contains, refl, sym, ap, subst, ◌∙◌, arith}
use Rattle.std.specs.List.{list_all}
use Rattle.omega_hoa_label.specs.Label.{truth}
use Rattle.omega_hoa_automaton.specs.Automaton.{Description}
use Rattle.omega_hoa_automaton.specs.declared.edge.Edge.{Edge}
use Rattle.omega_hoa_automaton.specs.declared.state.State.{State}
use Rattle.omega_hoa_edges.specs.AutomatonLabels.{state_at}
use Rattle.omega_hoa_edges.specs.Labels.{label_at}
use Rattle.omega_lang_trim.specs.Trimmed.{edge_kept, edge_stays, keeps_labels, new_number, state_kept, stays, trimmed}
use Rattle.omega_lang_word_laws.proofs.parting.Moves.{IsMove, IsMoveOf}
use Rattle.omega_laws.proofs.Members.{HasOld, IsKeptAt, IsOf, kept_at, kept_of, label_same, old_of, state_moved, stays_from, stays_has}

module _ (kept : List ℕ) (a : Description) where
  abbrev count : ℕ
  count = length a.propositions

  abbrev trim : Description
  trim = trimmed kept a

  -- a move between two states that stay
  pub move_on : (from to : ℕ) (held : ℕ → Bool) (marks : List ℕ) → Contains kept from → Contains kept to → IsMove a from held to marks
      → IsMove trim (new_number kept from) held (new_number kept to) marks
  move_on from to held marks has_from has_to move =
      let state : State = state_at a from in
      let goes : edge_stays kept move.edge ≡ true =
      ap (list_all (stays kept)) move.enters ∙ ap (λ (b : Bool). b && true) (stays_from kept to has_to) in
      let at : IsKeptAt kept (keeps_labels kept state) count state 0 state.edges move.index move.edge =
      kept_at kept (keeps_labels kept state) count state 0 state.edges move.index move.edge move.there goes in
      let zero : 0 + move.index ≡ move.index = omega arith in
      let edge : Edge = edge_kept kept (keeps_labels kept state) count state move.index move.edge in
      subst (λ (s : State). IsMoveOf count s held (new_number kept to) marks) (sym (state_moved kept count a.defined from has_from))
      (record {
        index = at.place;
        edge = edge;
        there = at.there ∙ ap (λ (i : ℕ). Some (edge_kept kept (keeps_labels kept state) count state i move.edge)) zero;
        holds = ap (truth held) (label_same kept count state move.index at.place move.edge at.same) ∙ move.holds;
        enters = ap (map (new_number kept)) move.enters;
        marked = move.marked;
      })

  -- a move of the trimmed automaton, and what it was
  pub record IsMovedFrom (from : ℕ) (held : ℕ → Bool) (to : ℕ) (marks : List ℕ) : Type 0 where
    pub old_from : ℕ
    pub has_from : Contains kept old_from
    pub from_is : new_number kept old_from ≡ from
    pub old_to : ℕ
    pub has_to : Contains kept old_to
    pub to_is : new_number kept old_to ≡ to
    pub move : IsMove a old_from held old_to marks

  -- a target that is one state and stays
  record OneTarget (targets : List ℕ) (to : ℕ) : Type 0 where
    pub target : ℕ
    pub alone : targets ≡ target ∷ []
    pub has : Contains kept target
    pub is : new_number kept target ≡ to

  one_target : (targets : List ℕ) (to : ℕ) → list_all (stays kept) targets ≡ true → map (new_number kept) targets ≡ to ∷ [] → OneTarget targets to
  one_target [] to stay are = absurd (none are)
    where
      none : ◌≡◌ {A = List ℕ} [] (to ∷ []) → ⊥
      none e = cc
  one_target (target ∷ []) to stay are = record {
    target = target;
    alone = refl;
    has = stays_has kept target (front (stays kept target) stay);
    is = first are;
  }
    where
      front : (b : Bool) → (b && true) ≡ true → b ≡ true
      front true is = refl
      front false is = is

      first : new_number kept target ∷ [] ≡ to ∷ [] → new_number kept target ≡ to
      first e = cc
  one_target (target ∷ other ∷ targets) to stay are = absurd (more are)
    where
      more : new_number kept target ∷ new_number kept other ∷ map (new_number kept) targets ≡ to ∷ [] → ⊥
      more e = cc

  move_of : (old : ℕ) → Contains kept old → (held : ℕ → Bool) (to : ℕ) (marks : List ℕ)
      → IsMoveOf count (state_kept kept count (state_at a old)) held to marks → IsMovedFrom (new_number kept old) held to marks
  move_of old has held to marks move =
      let state : State = state_at a old in
      let of : IsOf kept (keeps_labels kept state) count state 0 state.edges move.index move.edge =
      kept_of kept (keeps_labels kept state) count state 0 state.edges move.index move.edge move.there in
      let zero : 0 + of.index ≡ of.index = omega arith in
      let is : move.edge ≡ edge_kept kept (keeps_labels kept state) count state of.index of.old =
      of.is ∙ ap (λ (i : ℕ). edge_kept kept (keeps_labels kept state) count state i of.old) zero in
      let target : OneTarget of.old.targets to =
      one_target of.old.targets to of.stays_there (sym (ap (λ (e : Edge). e.targets) is) ∙ move.enters) in
      record {
        old_from = old;
        has_from = has;
        from_is = refl;
        old_to = target.target;
        has_to = target.has;
        to_is = target.is;
        move = record {
          index = of.index;
          edge = of.old;
          there = of.at;
          holds = ap (truth held)
              (sym (label_same kept count state of.index move.index of.old of.same) ∙ ap (label_at count (state_kept kept count state) move.index) (sym is))
              ∙ move.holds;
          enters = target.alone;
          marked = move.marked ∙ ap (λ (e : Edge). state.marks ++ e.marks) is;
        };
      }

  pub move_back : (from : ℕ) (held : ℕ → Bool) (to : ℕ) (marks : List ℕ) → IsMove trim from held to marks → IsMovedFrom from held to marks
  move_back from held to marks move =
      let old : HasOld kept from = old_of kept count a.defined from move.index move.edge move.there in
      let here : IsMove trim (new_number kept old.old) held to marks = subst (λ n. IsMove trim n held to marks) (sym old.is) move in
      subst (λ n. IsMovedFrom n held to marks) old.is
      (move_of old.old old.has held to marks
      (subst (λ (s : State). IsMoveOf count s held to marks) (state_moved kept count a.defined old.old old.has) here))
