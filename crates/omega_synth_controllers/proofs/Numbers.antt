-- The edge of a number stands at its index in the state that it leaves, and this state is the one of its number.
use Rattle.std.proofs.Common.{◌≡◌, ◌==◌, ℕ, zero, suc, ◌-◌, ◌<◌, ◌≤◌, ◌⊎◌, inl, inr, Bool, true, false, nat_eq, nat_lt, if◌then◌else◌, List, [], ◌∷◌, length, map, slice_get, Option, Some, None, option_map, refl, sym, ap, subst, ◌∙◌, arith, eqb-true, eq-eqb, true≢false}
use Rattle.std.specs.List.{flat_map, list_any}
use Rattle.std.proofs.lemmas.Bool.{cases_lt, lt-ltb, or_parts}
use Rattle.std.proofs.lemmas.List.{length-map}
use Rattle.std.proofs.lemmas.Option.{slice_get-map}
use Rattle.omega_hoa_automaton.specs.Automaton.{BodyEdge, edges_from, has_repeat}
use Rattle.omega_hoa_automaton.specs.declared.edge.Edge.{Edge}
use Rattle.omega_hoa_automaton.specs.declared.state.State.{State}
use Rattle.omega_lang_runs.specs.Words.{index_in}
use Rattle.omega_lang_runs.proofs.Standing.{left_part, right_part}
use Rattle.omega_hoa_edges.specs.AutomatonLabels.{state_among}
use Rattle.omega_hoa_edges.proofs.Full.{any_at}

pub same_some : {X : Type 0} (x y : X) → Some x ≡ Some y → x ≡ y
same_some x y e = cc

pub never_some : {X : Type 0} (x : X) → None ≡ Some x → ⊥
never_some x e = cc

-- the edge of a number is one of a state, at its index
pub record IsFound (states : List State) (number : ℕ) (found : BodyEdge) : Type 0 where
  pub place : ℕ
  pub source_is : slice_get states place ≡ Some found.source
  pub edge_is : slice_get found.source.edges (index_in states number) ≡ Some found.edge

not_below : (k n : ℕ) → n ≤ k → nat_lt k n ≡ false
not_below k n least = grind arith

pub edge_found : (states : List State) (number : ℕ) (found : BodyEdge) → slice_get (flat_map edges_from states) number ≡ Some found → IsFound states number found
edge_found [] number found e = absurd (never_some found e)
edge_found (state ∷ states) number found e = go (cases_lt number (length state.edges)) (edge_found states (number - length state.edges) found)
  where
    long : length (edges_from state) ≡ length state.edges
    long = length-map state.edges (λ (edge : Edge). record { source = state; edge = edge })

    here : number < length state.edges → (o : Option Edge) → slice_get state.edges number ≡ o → option_map (λ (edge : Edge). record { source = state; edge = edge }) o ≡ Some found
        → IsFound (state ∷ states) number found
    here below None at some = absurd (never_some found some)
    here below (Some edge) at some =
        subst (IsFound (state ∷ states) number) (same_some (record { source = state; edge = edge }) found some)
        (record {
          place = 0;
          source_is = refl;
          edge_is = ap (λ b. slice_get state.edges (if b then number else index_in states (number - length state.edges))) (lt-ltb number (length state.edges) below) ∙ at;
        })

    go : (number < length state.edges) ⊎ (length state.edges ≤ number)
        → (slice_get (flat_map edges_from states) (number - length state.edges) ≡ Some found → IsFound states (number - length state.edges) found)
        → IsFound (state ∷ states) number found
    go (inl below) rest =
        here below (slice_get state.edges number) refl
        (sym (slice_get-map (λ (edge : Edge). record { source = state; edge = edge }) state.edges number)
        ∙ sym (left_part (edges_from state) (flat_map edges_from states) number (omega (arith, below, long))) ∙ e)
    go (inr past) rest =
        let later : IsFound states (number - length state.edges) found =
        rest (ap (λ n. slice_get (flat_map edges_from states) (number - n)) (sym long)
        ∙ sym (right_part (edges_from state) (flat_map edges_from states) number (omega (arith, past, long))) ∙ e) in
        record {
          place = suc later.place;
          source_is = later.source_is;
          edge_is = ap (λ b. slice_get found.source.edges (if b then number else index_in states (number - length state.edges))) (not_below number (length state.edges) past) ∙ later.edge_is;
        }

-- a state is the one of its number, where no two have one
pub state_is : (states : List State) (place : ℕ) (state : State) → has_repeat nat_eq (map (λ (s : State). s.number) states) ≡ false → slice_get states place ≡ Some state
    → state_among states state.number ≡ state
state_is [] place state once e = absurd (never_some state e)
state_is (first ∷ states) zero state once e =
    let same : first ≡ state = same_some first state e in
    ap (λ b. if b then first else state_among states state.number) (eq-eqb first.number state.number (ap (λ (s : State). s.number) same)) ∙ same
state_is (first ∷ states) (suc place) state once e = go (first.number == state.number) refl (state_is states place state parts.1 e)
  where
    parts : (list_any (λ later. nat_eq later first.number) (map (λ (s : State). s.number) states) ≡ false) × (has_repeat nat_eq (map (λ (s : State). s.number) states) ≡ false)
    parts = or_parts (list_any (λ later. nat_eq later first.number) (map (λ (s : State). s.number) states)) (has_repeat nat_eq (map (λ (s : State). s.number) states)) once

    among : slice_get (map (λ (s : State). s.number) states) place ≡ Some state.number
    among = slice_get-map (λ (s : State). s.number) states place ∙ ap (option_map (λ (s : State). s.number)) e

    go : (b : Bool) → (first.number == state.number) ≡ b → state_among states state.number ≡ state
        → (if first.number == state.number then first else state_among states state.number) ≡ state
    go true is rest =
        absurd (true≢false (sym (any_at (λ later. nat_eq later first.number) (map (λ (s : State). s.number) states) place state.number among
        (eq-eqb state.number first.number (sym (eqb-true first.number state.number is)))) ∙ parts.0))
    go false is rest = ap (λ b. if b then first else state_among states state.number) is ∙ rest
