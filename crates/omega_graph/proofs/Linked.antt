-- Links of a list, made from its front to its end.
use Rattle.std.proofs.Common.{◌≡◌, ℕ, ◌+◌, ◌<◌, ◌⊎◌, inl, inr, List, [], ◌∷◌, ◌++◌, length, set, get_or, replicate, sym, ◌∙◌, ap, arith, get_or-set_same, get_or-set_other}
use Rattle.std.proofs.lemmas.Bool.{cases_eq}
use Rattle.std.proofs.lemmas.List.{length-set, length_push, get_or_append_left, get_or_push, get_or-replicate, length-replicate}
use Rattle.omega_graph.specs.private.Links.{AreLinks, last_before}
use Rattle.omega_graph.proofs.Linking.{last_here, last_there, last_none}

-- the links of the states below an index
pub record LinkedSoFar (states : List ℕ) (count index : ℕ) (last before : List ℕ) : Type 0 where
  pub counted : length last ≡ count
  pub even : length before ≡ index
  pub last_is : (state : ℕ) → state < count → get_or last state 0 ≡ last_before states state index
  pub before_is : (i : ℕ) → i < index → get_or before i 0 ≡ last_before states (get_or states i 0) i

-- of none
pub linked_none : (states : List ℕ) (count : ℕ) (last before : List ℕ) → last ≡ replicate count 0 → before ≡ [] → LinkedSoFar states count 0 last before
linked_none states count last before clear empty = record {
  counted = ap length clear ∙ length-replicate count 0;
  even = ap length empty;
  last_is = λ state below. ap (λ (xs : List ℕ). get_or xs state 0) clear ∙ get_or-replicate count state 0 0 below ∙ sym (last_none states state);
  before_is = λ i below. absurd (omega arith);
}

-- of one more
pub linked_more : (states : List ℕ) (count index : ℕ) (last before last' before' : List ℕ) → LinkedSoFar states count index last before
    → get_or states index 0 < count → before' ≡ before ++ get_or last (get_or states index 0) 0 ∷ [] → last' ≡ set last (get_or states index 0) (index + 1)
    → LinkedSoFar states count (index + 1) last' before'
linked_more states count index last before last' before' so_far below pushed put = record {
  counted = ap length put ∙ length-set last state (index + 1) ∙ so_far.counted;
  even = ap length pushed ∙ length_push before (get_or last state 0) ∙ ap (λ (n : ℕ). n + 1) so_far.even;
  last_is = λ other inside. ap (λ (xs : List ℕ). get_or xs other 0) put ∙ now other inside (cases_eq other state);
  before_is = λ i within. ap (λ (xs : List ℕ). get_or xs i 0) pushed ∙ behind i within (cases_eq i index);
}
  where
    state : ℕ
    state = get_or states index 0

    now : (other : ℕ) → other < count → (other ≡ state) ⊎ (other ≡ state → ⊥) → get_or (set last state (index + 1)) other 0 ≡ last_before states other (index + 1)
    now other inside (inl same) =
        let within : state < length last = omega (arith, so_far.counted) in
        ap (λ (s : ℕ). get_or (set last state (index + 1)) s 0) same ∙ get_or-set_same last state (index + 1) 0 within
        ∙ sym (last_here states other index (sym same))
    now other inside (inr apart) =
        get_or-set_other last state other (index + 1) 0 apart ∙ so_far.last_is other inside ∙ sym (last_there states other index (λ is. apart (sym is)))

    behind : (i : ℕ) → i < index + 1 → (i ≡ index) ⊎ (i ≡ index → ⊥) → get_or (before ++ get_or last state 0 ∷ []) i 0 ≡ last_before states (get_or states i 0) i
    behind i within (inl same) =
        get_or_push before (get_or last state 0) 0 i (so_far.even ∙ sym same) ∙ so_far.last_is state below
        ∙ ap (λ (n : ℕ). last_before states (get_or states n 0) n) (sym same)
    behind i within (inr apart) =
        get_or_append_left before (get_or last state 0 ∷ []) 0 i (omega (arith, so_far.even)) ∙ so_far.before_is i (omega arith)

-- of all
pub linked_all : (states : List ℕ) (count index : ℕ) (last before : List ℕ) → index ≡ length states → LinkedSoFar states count index last before → AreLinks states count last before
linked_all states count index last before end so_far = record {
  counted = so_far.counted;
  even = so_far.even ∙ end;
  last_is = λ state below. so_far.last_is state below ∙ ap (last_before states state) end;
  before_is = λ i within. so_far.before_is i (omega (arith, end));
}
