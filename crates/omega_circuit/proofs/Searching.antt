-- A search for an order of gates, gate by gate.
use Rattle.std.proofs.Common.{◌≡◌, ◌≢◌, ◌⊎◌, inl, inr, ℕ, zero, suc, ◌+◌, ◌-◌, ◌<◌, ◌≤◌, Bool, true, false, not, cond, List, [], ◌∷◌, ◌++◌, length, get_or, take, set, All, refl, sym, ap, ◌∙◌, subst, arith}
use Rattle.std.specs.List.{Contains, count_by}
use Rattle.std.proofs.lemmas.Bool.{cases_eq, cases_lt, false≢true}
use Rattle.std.proofs.lemmas.List.{get_or-set_other, get_or-set_same, get_or-take, get_or_append_left, get_or_default, get_or_push, length-set, length-take, length_push, take-append-le, take_at}
use Rattle.std.proofs.lemmas.List.Sums.{sum_by-set}
use Rattle.std.proofs.lemmas.List.Elements.{All-push, All-take, Contains-append_left, Contains-push}
use Rattle.omega_circuit.specs.private.Numbers.{gate_at}
use Rattle.omega_circuit.specs.private.Orders.{IsCyclic, IsLook, IsLookAtGate, IsOrder, IsReady, IsSearch, IsSettled, Rises, StaysFound, Uses, flag_at}
use Rattle.omega_circuit.specs.declared.gate.Gate.{Gate}
use Rattle.omega_circuit.specs.declared.gate_order.Look.{Look}
use Rattle.omega_circuit.specs.declared.gate_order.Look.TheVariants.{Open, Settled, Waiting}
use Rattle.omega_circuit.proofs.Places.{contained_at}

-- what a flag is after a gate was marked
pub marked_before : (flags : List Bool) (k m : ℕ) → m ≢ k → flag_at (set flags k true) m ≡ flag_at flags m
marked_before flags k m apart = get_or-set_other flags k m true false apart

pub marked_now : (flags : List Bool) (k m : ℕ) → m ≡ k → k < length flags → flag_at (set flags k true) m ≡ true
marked_now flags k m is within = ap (flag_at (set flags k true)) is ∙ get_or-set_same flags k true false within

-- what is marked stays marked
pub stays_found : (flags : List Bool) (k : ℕ) → k < length flags → StaysFound flags (set flags k true)
stays_found flags k within m there = go (cases_eq m k)
  where
    go : (m ≡ k) ⊎ (m ≢ k) → flag_at (set flags k true) m ≡ true
    go (inl same) = marked_now flags k m same within
    go (inr apart) = marked_before flags k m apart ∙ there

-- one flag less is false
pub fewer : (flags : List Bool) (k : ℕ) → k < length flags → flag_at flags k ≡ false → count_by not (set flags k true) + 1 ≡ count_by not flags
fewer flags k within waits =
    let change = sum_by-set (λ (b : Bool). cond (not b) 1 0) flags k true false within in
    let weight : Bool → ℕ = λ b. cond (not b) 1 0 in
    let one : weight (flag_at flags k) ≡ 1 = ap weight waits in
    omega (arith, change, one)

-- a search that found nothing yet
pub begun : (first : ℕ) (nets : List Gate) (found left : List Bool) (path order : List ℕ) → length found ≡ length nets → length left ≡ length nets
    → All (λ flag. flag ≡ false) found → All (λ flag. flag ≡ false) left → path ≡ [] → order ≡ [] → IsSearch first nets found left path order
begun first nets found left path order found_long left_long no_found no_left no_path no_order = record {
  found_long = found_long;
  left_long = left_long;
  sorted = subst (IsOrder first nets) (sym no_order) (record { within = λ k d within. absurd (omega (arith, within)); ready = λ j within. absurd (omega (arith, within)) });
  ordered = λ k within marked. absurd (false≢true (sym (no_left k false (omega (arith, left_long, within))) ∙ marked));
  on_path = λ k within marked unleft. absurd (false≢true (sym (no_found k false (omega (arith, found_long, within))) ∙ marked));
  path_within = subst (All (λ k. k < length nets)) (sym no_path) (λ k d within. absurd (omega (arith, within)));
  path_uses = λ i within. absurd (let e : length path ≡ 0 = ap length no_path in omega (arith, e, within));
}

module _ (first : ℕ) (nets : List Gate) (found left : List Bool) (path order : List ℕ) (is : IsSearch first nets found left path order) where
  -- a gate is found that the last of the path uses, if there is one
  pub entered : (k : ℕ) → k < length nets → (0 < length path → Uses first (gate_at nets (get_or path (length path - 1) 0)) k)
      → IsSearch first nets (set found k true) left (path ++ k ∷ []) order
  entered k within used = record {
    found_long = length-set found k true ∙ is.found_long;
    left_long = is.left_long;
    sorted = is.sorted;
    ordered = is.ordered;
    on_path = λ m small marked unleft. on_path m small marked unleft (cases_eq m k);
    path_within = All-push (λ m. m < length nets) path k is.path_within within;
    path_uses = λ i more. path_uses i more (cases_lt (i + 1) (length path));
  }
    where
      on_path : (m : ℕ) → m < length nets → flag_at (set found k true) m ≡ true → flag_at left m ≡ false → (m ≡ k) ⊎ (m ≢ k) → Contains (path ++ k ∷ []) m
      on_path m small marked unleft (inl same) = subst (Contains (path ++ k ∷ [])) (sym same) (Contains-push path k)
      on_path m small marked unleft (inr apart) = Contains-append_left path (k ∷ []) m (is.on_path m small (sym (marked_before found k m apart) ∙ marked) unleft)

      path_uses : (i : ℕ) → i + 1 < length (path ++ k ∷ []) → (i + 1 < length path) ⊎ (length path ≤ i + 1)
          → Uses first (gate_at nets (get_or (path ++ k ∷ []) i 0)) (get_or (path ++ k ∷ []) (i + 1) 0)
      path_uses i more (inl inside) =
          subst (λ n. Uses first (gate_at nets n) (get_or (path ++ k ∷ []) (i + 1) 0)) (sym (get_or_append_left path (k ∷ []) 0 i (omega (arith, inside))))
          (subst (Uses first (gate_at nets (get_or path i 0))) (sym (get_or_append_left path (k ∷ []) 0 (i + 1) inside)) (is.path_uses i inside))
      path_uses i more (inr end) =
          let long = length_push path k in
          let last : length path ≡ i + 1 = omega (arith, long, more, end) in
          let place : length path - 1 ≡ i = omega (arith, last) in
          subst (λ n. Uses first (gate_at nets n) (get_or (path ++ k ∷ []) (i + 1) 0)) (sym (get_or_append_left path (k ∷ []) 0 i (omega (arith, last))))
          (subst (Uses first (gate_at nets (get_or path i 0))) (sym (get_or_push path k 0 (i + 1) last))
          (subst (λ n. Uses first (gate_at nets (get_or path n 0)) k) place (used (omega (arith, last)))))

  -- an operand that is settled in the search is so in the order
  settled : (literal : ℕ) → IsLook first found left literal Settled → IsSettled first order literal
  settled literal (inl none) = inl none
  settled literal (inr gate) = inr (gate.0, gate.1, is.ordered gate.0 (omega (arith, gate.2, is.left_long)) gate.3)

  -- the last gate of the path is left, if what it uses is settled
  pub gone : (k : ℕ) → 0 < length path → get_or path (length path - 1) 0 ≡ k → IsLook first found left (gate_at nets k).left Settled
      → IsLook first found left (gate_at nets k).right Settled → IsSearch first nets found (set left k true) (take (length path - 1) path) (order ++ k ∷ [])
  gone k some last one other = record {
    found_long = is.found_long;
    left_long = length-set left k true ∙ is.left_long;
    sorted = record {
      within = All-push (λ m. m < length nets) order k is.sorted.within inside;
      ready = λ j small. ready j small (cases_lt j (length order));
    };
    ordered = λ m small marked. ordered m small marked (cases_eq m k);
    on_path = λ m small marked unleft. on_path m small marked unleft (cases_eq m k);
    path_within = All-take (λ m. m < length nets) (length path - 1) path is.path_within;
    path_uses = path_uses;
  }
    where
      short : length (take (length path - 1) path) ≡ length path - 1
      short = let e = length-take (length path - 1) path in omega (arith, e)

      inside : k < length nets
      inside = subst (λ m. m < length nets) last (is.path_within (length path - 1) 0 (omega (arith, some)))

      ready : (j : ℕ) → j < length (order ++ k ∷ []) → (j < length order) ⊎ (length order ≤ j)
          → IsReady first (take j (order ++ k ∷ [])) (gate_at nets (get_or (order ++ k ∷ []) j 0))
      ready j small (inl before) =
          subst (λ m. IsReady first (take j (order ++ k ∷ [])) (gate_at nets m)) (sym (get_or_append_left order (k ∷ []) 0 j before))
          (subst (λ (done : List ℕ). IsReady first done (gate_at nets (get_or order j 0))) (sym (take-append-le j order (k ∷ []) (omega (arith, before)))) (is.sorted.ready j before))
      ready j small (inr end) =
          let long = length_push order k in
          let here : length order ≡ j = omega (arith, long, small, end) in
          subst (λ m. IsReady first (take j (order ++ k ∷ [])) (gate_at nets m)) (sym (get_or_push order k 0 j here))
          (subst (λ (done : List ℕ). IsReady first done (gate_at nets k)) (sym (take_at order (k ∷ []) j here))
          (record { left = settled (gate_at nets k).left one; right = settled (gate_at nets k).right other }))

      ordered : (m : ℕ) → m < length nets → flag_at (set left k true) m ≡ true → (m ≡ k) ⊎ (m ≢ k) → Contains (order ++ k ∷ []) m
      ordered m small marked (inl same) = subst (Contains (order ++ k ∷ [])) (sym same) (Contains-push order k)
      ordered m small marked (inr apart) = Contains-append_left order (k ∷ []) m (is.ordered m small (sym (marked_before left k m apart) ∙ marked))

      before_last : (m : ℕ) → m ≢ k → Contains path m → Contains (take (length path - 1) path) m
      before_last m apart there =
          let at = contained_at path m there in
          front at.0 at.1 at.2 (cases_lt at.0 (length path - 1))
        where
          front : (i : ℕ) → i < length path → get_or path i 0 ≡ m → (i < length path - 1) ⊎ (length path - 1 ≤ i) → Contains (take (length path - 1) path) m
          front i within is_m (inl before) =
              (i, omega (arith, before, short), get_or-take (length path - 1) path i m before ∙ get_or_default path i m 0 within ∙ is_m)
          front i within is_m (inr end) =
              let place : i ≡ length path - 1 = omega (arith, within, end) in
              absurd (apart (sym is_m ∙ ap (λ n. get_or path n 0) place ∙ last))

      on_path : (m : ℕ) → m < length nets → flag_at found m ≡ true → flag_at (set left k true) m ≡ false → (m ≡ k) ⊎ (m ≢ k)
          → Contains (take (length path - 1) path) m
      on_path m small marked unleft (inl same) = absurd (false≢true (sym unleft ∙ marked_now left k m same (omega (arith, inside, is.left_long))))
      on_path m small marked unleft (inr apart) = before_last m apart (is.on_path m small marked (sym (marked_before left k m apart) ∙ unleft))

      path_uses : (i : ℕ) → i + 1 < length (take (length path - 1) path)
          → Uses first (gate_at nets (get_or (take (length path - 1) path) i 0)) (get_or (take (length path - 1) path) (i + 1) 0)
      path_uses i more =
          subst (λ n. Uses first (gate_at nets n) (get_or (take (length path - 1) path) (i + 1) 0)) (sym (get_or-take (length path - 1) path i 0 (omega (arith, more, short))))
          (subst (Uses first (gate_at nets (get_or path i 0))) (sym (get_or-take (length path - 1) path (i + 1) 0 (omega (arith, more, short))))
          (is.path_uses i (omega (arith, more, short))))

  -- numbers that rise don't rise along the path
  along : (number : ℕ → ℕ) → Rises first nets number → (i more : ℕ) → i + more < length path → number (get_or path (i + more) 0) ≤ number (get_or path i 0)
  along number rises i zero inside = let e : i + 0 ≡ i = omega arith in subst (λ n. number (get_or path n 0) ≤ number (get_or path i 0)) (sym e) (omega arith)
  along number rises i (suc more) inside =
      let before = along number rises i more (omega (arith, inside)) in
      let next : (i + more) + 1 ≡ i + suc more = omega arith in
      let step = rises (get_or path (i + more) 0) (get_or path ((i + more) + 1) 0) (is.path_within (i + more) 0 (omega (arith, inside))) (is.path_uses (i + more) (omega (arith, inside))) in
      let low : number (get_or path (i + suc more) 0) < number (get_or path (i + more) 0) = subst (λ n. number (get_or path n 0) < number (get_or path (i + more) 0)) next step in
      omega (arith, before, low)

  -- the last gate of the path uses one on the path
  pub closed : (k used : ℕ) → 0 < length path → get_or path (length path - 1) 0 ≡ k → Uses first (gate_at nets k) used → used < length found → flag_at found used ≡ true
      → flag_at left used ≡ false → IsCyclic first nets
  closed k used some last uses small marked unleft number rises =
      let at = contained_at path used (is.on_path used (omega (arith, small, is.found_long)) marked unleft) in
      let more : at.0 + (length path - 1 - at.0) ≡ length path - 1 = omega (arith, at.1) in
      let inside : k < length nets = subst (λ m. m < length nets) last (is.path_within (length path - 1) 0 (omega (arith, some))) in
      let down : number (get_or path (length path - 1) 0) ≤ number (get_or path at.0 0) =
      subst (λ n. number (get_or path n 0) ≤ number (get_or path at.0 0)) more (along number rises at.0 (length path - 1 - at.0) (omega (arith, at.1))) in
      let low : number k ≤ number used = subst (λ m. number m ≤ number used) last (subst (λ m. number (get_or path (length path - 1) 0) ≤ number m) at.2 down) in
      let up : number used < number k = rises k used inside uses in
      omega (arith, low, up)

  -- if the path is empty, what is found is in the order
  pub found_in_order : (k : ℕ) → k < length nets → path ≡ [] → flag_at found k ≡ true → Contains order k
  found_in_order k within none marked = go (flag_at left k) refl
    where
      go : (b : Bool) → flag_at left k ≡ b → Contains order k
      go true is_left = is.ordered k within is_left
      go false unleft =
          let there = is.on_path k within marked unleft in
          let long : length path ≡ 0 = ap length none in
          absurd (omega (arith, long, there.1))

-- what the search does, by what it sees of the gate at the end of the path
module _ (first : ℕ) (nets : List Gate) (found left : List Bool) (path order : List ℕ) (is : IsSearch first nets found left path order)
    (k : ℕ) (some : 0 < length path) (last : get_or path (length path - 1) 0 ≡ k) (seen_found seen_left : List Bool) (same_found : seen_found ≡ found) (same_left : seen_left ≡ left)
    (net : Gate) (same : net ≡ gate_at nets k) where
  seen : (look : Look) → IsLookAtGate first seen_found seen_left net look → IsLookAtGate first found left (gate_at nets k) look
  seen look saw =
      subst (λ (g : Gate). IsLookAtGate first found left g look) same
      (subst (λ (flags : List Bool). IsLookAtGate first found flags net look) same_left
      (subst (λ (flags : List Bool). IsLookAtGate first flags seen_left net look) same_found saw))

  pub sees_open : IsLookAtGate first seen_found seen_left net Open → IsCyclic first nets
  sees_open saw =
      let look : IsLookAtGate first found left (gate_at nets k) Open = seen Open saw in
      closed first nets found left path order is k look.0 some last look.1 look.2 look.3 look.4

  pub sees_waiting : (used : ℕ) → IsLookAtGate first seen_found seen_left net (Waiting used) → (new_found new_left : List Bool) (new_path new_order : List ℕ)
      → new_found ≡ set found used true → new_left ≡ left → new_path ≡ path ++ used ∷ [] → new_order ≡ order → IsSearch first nets new_found new_left new_path new_order
  sees_waiting used saw new_found new_left new_path new_order is_found is_left is_path is_order =
      let look : IsLookAtGate first found left (gate_at nets k) (Waiting used) = seen (Waiting used) saw in
      let after : IsSearch first nets (set found used true) left (path ++ used ∷ []) order =
      entered first nets found left path order is used (omega (arith, look.1, is.found_long))
      (λ _. subst (λ n. Uses first (gate_at nets n) used) (sym last) look.0) in
      subst (λ (xs : List ℕ). IsSearch first nets new_found new_left new_path xs) (sym is_order)
      (subst (λ (xs : List ℕ). IsSearch first nets new_found new_left xs order) (sym is_path)
      (subst (λ (flags : List Bool). IsSearch first nets new_found flags (path ++ used ∷ []) order) (sym is_left)
      (subst (λ (flags : List Bool). IsSearch first nets flags left (path ++ used ∷ []) order) (sym is_found) after)))

  pub sees_settled : IsLookAtGate first seen_found seen_left net Settled → (new_found new_left : List Bool) (new_path new_order : List ℕ)
      → new_found ≡ found → new_left ≡ set left k true → new_path ≡ take (length path - 1) path → new_order ≡ order ++ k ∷ [] → IsSearch first nets new_found new_left new_path new_order
  sees_settled saw new_found new_left new_path new_order is_found is_left is_path is_order =
      let look : IsLookAtGate first found left (gate_at nets k) Settled = seen Settled saw in
      let after : IsSearch first nets found (set left k true) (take (length path - 1) path) (order ++ k ∷ []) =
      gone first nets found left path order is k some last look.0 look.1 in
      subst (λ (xs : List ℕ). IsSearch first nets new_found new_left new_path xs) (sym is_order)
      (subst (λ (xs : List ℕ). IsSearch first nets new_found new_left xs (order ++ k ∷ [])) (sym is_path)
      (subst (λ (flags : List Bool). IsSearch first nets new_found flags (take (length path - 1) path) (order ++ k ∷ [])) (sym is_left)
      (subst (λ (flags : List Bool). IsSearch first nets flags (set left k true) (take (length path - 1) path) (order ++ k ∷ [])) (sym is_found) after)))
