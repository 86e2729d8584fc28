-- What a deterministic automaton keeps: one target of each edge, and one start or none.
use Rattle.std.proofs.Common.{◌≡◌, ℕ, suc, ◌<◌, ◌⊎◌, ◌↔◌, inl, inr, Bool, true, false, ◌||◌, List, [], ◌∷◌, length, nat_lt, slice_get, Some, Contains, refl, sym, ap, subst, ◌∙◌, arith, true≢false}
use Rattle.std.specs.Prelude.{IsTrue, slice_index_or}
use Rattle.std.specs.List.{list_any}
use Rattle.std.proofs.lemmas.List.Elements.{All-contains}
use Rattle.omega_hoa_automaton.specs.Automaton.{AreTargets, Description, IsAutomaton}
use Rattle.omega_hoa_automaton.specs.Branching.{state_branches}
use Rattle.omega_hoa_automaton.specs.declared.edge.Edge.{Edge}
use Rattle.omega_lang_runs.specs.Lasso.{IsStart}
use Rattle.omega_hoa_edges.specs.Determinism.{IsDeterministic}
use Rattle.omega_hoa_edges.specs.AutomatonLabels.{state_at}
use Rattle.omega_lang_complement.specs.Written.{NeedsSink}
use Rattle.omega_hoa_edges.proofs.Full.{any_at}
use Rattle.omega_lang_word_laws.proofs.parting.Apart.{edge_of, get_Contains}
use Rattle.omega_lang_word_laws.proofs.parting.Numbered.{state_there}

pub none_at : {X : Type 0} (p : X → Bool) (xs : List X) (k : ℕ) (x : X) → list_any p xs ≡ false → slice_get xs k ≡ Some x → p x ≡ false
none_at p xs k x none e = go (p x) refl
  where
    go : (b : Bool) → p x ≡ b → b ≡ false
    go true is = absurd (true≢false (sym (any_at p xs k x e is) ∙ none))
    go false is = refl

pub one_target : (states : List ℕ) → 0 < length states → nat_lt 1 (length states) ≡ false → (state : ℕ) × (states ≡ state ∷ [])
one_target [] some few = absurd (omega arith)
one_target (x ∷ []) some few = (x, refl)
one_target (x ∷ y ∷ rest) some few = absurd (true≢false (sym (more (length rest)) ∙ few))
  where
    more : (n : ℕ) → nat_lt 1 (suc (suc n)) ≡ true
    more n = grind arith

pub or_parts : (a b : Bool) → (a || b) ≡ false → (a ≡ false) × (b ≡ false)
or_parts true b e = absurd (true≢false e)
or_parts false b e = (refl, e)

-- a state of the complement in which a word can go on
abbrev pub IsGood : Description → Bool → ℕ → Type 0
IsGood a sink n = (n < a.states) ⊎ ((n ≡ a.states) × (sink ≡ true))

module _ (a : Description) (is_a : IsAutomaton a) (deterministic : IsDeterministic a) where
  plain : (list_any (λ (start : List ℕ). nat_lt 1 (length start)) a.starts ≡ false) × (list_any state_branches a.defined ≡ false)
  plain = or_parts (list_any (λ (start : List ℕ). nat_lt 1 (length start)) a.starts) (list_any state_branches a.defined) deterministic.plain

  -- an edge has one target
  pub target_of : (n index : ℕ) (edge : Edge) → slice_get (state_at a n).edges index ≡ Some edge → (target : ℕ) × (edge.targets ≡ target ∷ [])
  target_of n index edge at =
      let there = state_there a.defined n index edge at in
      let state_plain : list_any (λ (e : Edge). nat_lt 1 (length e.targets)) (state_at a n).edges ≡ false =
      none_at state_branches a.defined there.0 (state_at a n) plain.1 there.1 in
      one_target edge.targets (edge_of a is_a n index edge at).1.targets.listed
      (none_at (λ (e : Edge). nat_lt 1 (length e.targets)) (state_at a n).edges index edge state_plain at)

  -- where the complement begins
  pub record Beginning (sink : Bool) : Type 0 where
    pub state : ℕ
    pub good : IsGood a sink state
    pub begins : slice_index_or a.starts 0 (a.states ∷ []) ≡ state ∷ []
    pub inside : state < a.states → IsStart a state

  pub beginning : (sink : Bool) → IsTrue sink ↔ NeedsSink a → Beginning sink
  beginning sink needed = go a.starts refl
    where
      go : (starts : List (List ℕ)) → a.starts ≡ starts → Beginning sink
      go [] e = record {
        state = a.states;
        good = inr (refl, needed.1 (inl e));
        begins = ap (λ (ss : List (List ℕ)). slice_index_or ss 0 (a.states ∷ [])) e;
        inside = λ less. absurd (omega (arith, less));
      }
      go (start ∷ rest) e =
          let at : slice_get a.starts 0 ≡ Some start = ap (λ (ss : List (List ℕ)). slice_get ss 0) e in
          let targets : AreTargets a start = All-contains (AreTargets a) a.starts start is_a.starts (get_Contains a.starts 0 start at) in
          let one = one_target start targets.listed (none_at (λ (s : List ℕ). nat_lt 1 (length s)) a.starts 0 start plain.0 at) in
          record {
            state = one.0;
            good = inl (All-contains (λ (m : ℕ). m < a.states) start one.0 targets.below
                (subst (λ (s : List ℕ). Contains s one.0) (sym one.1) (0, omega arith, refl)));
            begins = ap (λ (ss : List (List ℕ)). slice_index_or ss 0 (a.states ∷ [])) e ∙ one.1;
            inside = λ less. subst (λ (s : List ℕ). Contains a.starts s) one.1 (get_Contains a.starts 0 start at);
          }
