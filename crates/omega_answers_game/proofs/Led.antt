-- Leaders given edge by edge, and group by group.
use Rattle.std.proofs.Common.{◌≡◌, ◌⊎◌, ℕ, ◌+◌, ◌<◌, ◌≤◌, inl, inr, List, [], ◌∷◌, Contains, get_or, length, set, take, refl, sym, ap, subst, ◌∙◌, arith}
use Rattle.std.specs.List.{range_with_len}
use Rattle.std.proofs.lemmas.Bool.{cases_eq, cases_lt}
use Rattle.std.proofs.lemmas.List.{get_or-set_other, get_or-set_same, take_more}
use Rattle.std.proofs.lemmas.List.Elements.{Contains-append_left, Contains-push, Contains-push_cases}
use Rattle.std.proofs.lemmas.List.FromFn.{get_or-range_with_len, length-range_with_len}
use Rattle.omega_graph.specs.Components.{edge_component_at}
use Rattle.omega_graph.specs.Graph.{Shape, ends_at}
use Rattle.omega_game_values.proofs.elements.Membership.{Contains-nothing}
use Rattle.omega_answers_game.specs.private.Groups.{AreLed, GetOneLeader, IsEntered, IsLeast, IsLed}

module _ (shape : Shape) where
  -- no edge enters
  pub entered_none : (state : ℕ) → IsEntered shape [] state → ⊥
  entered_none state entered = Contains-nothing entered.edge entered.has

  module _ (group : List ℕ) (k : ℕ) (below : k < length group) where
    -- one edge more
    entered_more : (state : ℕ) → IsEntered shape (take k group) state → IsEntered shape (take (k + 1) group) state
    entered_more state entered = record {
      edge = entered.edge;
      has = subst (λ (xs : List ℕ). Contains xs entered.edge) (sym (take_more group k 0 below)) (Contains-append_left (take k group) (get_or group k 0 ∷ []) entered.edge entered.has);
      enters = entered.enters;
    }

    entered_last : IsEntered shape (take (k + 1) group) (ends_at shape (get_or group k 0)).to
    entered_last = record {
      edge = get_or group k 0;
      has = subst (λ (xs : List ℕ). Contains xs (get_or group k 0)) (sym (take_more group k 0 below)) (Contains-push (take k group) (get_or group k 0));
      enters = refl;
    }

    entered_cases : (state : ℕ) → IsEntered shape (take (k + 1) group) state → IsEntered shape (take k group) state ⊎ ((ends_at shape (get_or group k 0)).to ≡ state)
    entered_cases state entered =
        elim (Contains-push_cases (take k group) (get_or group k 0) entered.edge (subst (λ (xs : List ℕ). Contains xs entered.edge) (take_more group k 0 below) entered.has)) [
          | inl before ↦ inl (record { edge = entered.edge; has = before; enters = entered.enters })
          | inr same ↦ inr (ap (λ (edge : ℕ). (ends_at shape edge).to) same ∙ entered.enters)
        ]

    -- the least of one state more
    pub least_more : (least least' : ℕ) → least' ≤ least → least' ≤ (ends_at shape (get_or group k 0)).to
        → ((other : ℕ) → IsEntered shape (take k group) other → least ≤ other) → (other : ℕ) → IsEntered shape (take (k + 1) group) other → least' ≤ other
    least_more least least' lower lower' before other entered = elim (entered_cases other entered) [
      | inl old ↦ omega (arith, lower, before other old)
      | inr same ↦ omega (arith, lower', same)
    ]

    -- one state more led
    pub led_more : (leader : ℕ) (before after : List ℕ) → length after ≡ length before → (ends_at shape (get_or group k 0)).to < length before
        → ((state : ℕ) → state < length before → IsLed shape (take k group) leader before after state)
        → (state : ℕ) → state < length before → IsLed shape (take (k + 1) group) leader before (set after (ends_at shape (get_or group k 0)).to leader) state
    led_more leader before after count inside led state within = elim (cases_eq state (ends_at shape (get_or group k 0)).to) [
      | inl same ↦ inl (
        subst (IsEntered shape (take (k + 1) group)) (sym same) entered_last,
        ap (λ (s : ℕ). get_or (set after (ends_at shape (get_or group k 0)).to leader) s 0) same ∙ get_or-set_same after (ends_at shape (get_or group k 0)).to leader 0 (omega (arith, count, inside)),
      )
      | inr other ↦
          let kept : get_or (set after (ends_at shape (get_or group k 0)).to leader) state 0 ≡ get_or after state 0 = get_or-set_other after (ends_at shape (get_or group k 0)).to state leader 0 other in
          elim (led state within) [
            | inl entered ↦ inl (entered_more state entered.0, kept ∙ entered.1)
            | inr free ↦ inr (
              λ entered. elim (entered_cases state entered) [
                | inl old ↦ free.0 old
                | inr same ↦ other (sym same)
              ],
              kept ∙ free.1,
            )
          ]
    ]

  -- before the first edge nothing is led
  pub led_none : (leader : ℕ) (before : List ℕ) (state : ℕ) → IsLed shape (take 0 []) leader before before state
  led_none leader before state = inr (entered_none state, refl)

  module _ (groups : List (List ℕ)) where
    -- before the first group each state is its own leader
    pub led_start : (leaders : List ℕ) → leaders ≡ range_with_len 0 shape.states → AreLed shape groups 0 leaders
    led_start leaders own = record {
      count = ap length own ∙ length-range_with_len 0 shape.states;
      led = λ state below. inr (record {
        apart = λ index none. absurd (omega arith);
        own =
            let at : get_or (range_with_len 0 shape.states) state 0 ≡ state = omega (arith, get_or-range_with_len 0 shape.states state 0 below) in
            ap (λ (xs : List ℕ). get_or xs state 0) own ∙ at;
      });
    }

    -- one group more
    pub led_group : (index : ℕ) (before after : List ℕ) → AreLed shape groups index before → GetOneLeader shape (edge_component_at groups index) before after
        → AreLed shape groups (index + 1) after
    led_group index before after so_far one = record {
      count = one.count ∙ so_far.count;
      led = λ state below. elim (one.led state (omega (arith, below, so_far.count))) [
        | inl entered ↦ inl (record {
          index = index;
          below = omega arith;
          entered = entered.0;
          least = subst (IsLeast shape (edge_component_at groups index)) (sym entered.1) one.least;
        })
        | inr free ↦ elim (so_far.led state below) [
          | inl old ↦ inl (record {
            index = old.index;
            below = omega (arith, old.below);
            entered = old.entered;
            least = subst (IsLeast shape (edge_component_at groups old.index)) (sym free.1) old.least;
          })
          | inr alone ↦ inr (record {
            apart = λ i within entered. elim (cases_lt i index) [
              | inl less ↦ alone.apart i less entered
              | inr more ↦
                  let same : i ≡ index = omega (arith, within, more) in
                  free.0 (subst (λ (n : ℕ). IsEntered shape (edge_component_at groups n) state) same entered)
            ];
            own = free.1 ∙ alone.own;
          })
        ]
      ];
    }
