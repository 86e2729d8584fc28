-- Reading item after item: one more, one at which reading stops, and all.
use Rattle.std.proofs.Common.{◌≡◌, ℕ, suc, ◌+◌, ◌-◌, ◌<◌, ◌≤◌, List, [], ◌∷◌, ◌++◌, drop, sym, ap, ◌∙◌, subst, arith}
use Rattle.omega_aiger.specs.Deltas.{literal_of}
use Rattle.omega_aiger.specs.Layout.{Layout}
use Rattle.omega_aiger.specs.Lines.{gate_deltas, latch_of, next_line, next_lines, two_deltas}
use Rattle.omega_aiger.specs.private.Outcome.{GoesOn, Stops, outcome}
use Rattle.omega_aiger.proofs.Steps.{stops_after}
use Rattle.omega_circuit.specs.declared.gate.Gate.{Gate}
use Rattle.omega_circuit.specs.declared.latch.Latch.{Latch}
use Rattle.omega_text.specs.declared.refusal.Refusal.{Refusal}

-- at most that many items are left after one more
pub one_less : (count k : ℕ) → k < count → count - k ≡ suc (count - (k + 1))
one_less count k within = omega (arith, within)

module _ {X : Type 0} (text : List ℕ) (one : (X → Layout) → Layout) (lines : ℕ → List X → Layout)
    (more : (m : ℕ) (items : List X) → lines (suc m) items ≡ one (λ x. lines m (items ++ x ∷ []))) where
  -- the layout of what is left is that of one item and the others
  left : (count k : ℕ) (items : List X) → k < count → lines (count - k) items ≡ one (λ x. lines (count - (k + 1)) (items ++ x ∷ []))
  left count k items within = ap (λ m. lines m items) (one_less count k within) ∙ more (count - (k + 1)) items

  pub goes_more : (at end after count k : ℕ) (start : Layout) (items new : List X) (x : X) → k < count → GoesOn text at start end (lines (count - k) items)
      → ((next : X → Layout) → GoesOn text end (one next) after (next x)) → new ≡ items ++ x ∷ [] → GoesOn text at start after (lines (count - (k + 1)) new)
  goes_more at end after count k start items new x within before step is =
      before
      ∙ ap (λ (layout : Layout). outcome layout end (drop end text)) (left count k items within)
      ∙ step (λ y. lines (count - (k + 1)) (items ++ y ∷ []))
      ∙ ap (λ (xs : List X). outcome (lines (count - (k + 1)) xs) after (drop after text)) (sym is)

  pub stops_in : (at end count k : ℕ) (start : Layout) (items : List X) (refusal : Refusal) → k < count → GoesOn text at start end (lines (count - k) items)
      → ((next : X → Layout) → Stops text end (one next) refusal) → Stops text at start refusal
  stops_in at end count k start items refusal within before stop =
      stops_after text at end start (lines (count - k) items) before refusal
      (subst (λ (layout : Layout). Stops text end layout refusal) (sym (left count k items within)) (stop (λ y. lines (count - (k + 1)) (items ++ y ∷ []))))

  pub goes_all : (at end count k : ℕ) (start : Layout) (items : List X) → count ≤ k → GoesOn text at start end (lines (count - k) items) → GoesOn text at start end (lines 0 items)
  goes_all at end count k start items all before = before ∙ ap (λ m. outcome (lines m items) end (drop end text)) (let e : count - k ≡ 0 = omega (arith, all) in e)

-- a latch more, which has the next variable
module _ (text : List ℕ) (at end variable count k : ℕ) (start : Layout) (items : List Latch) (next : List Latch → Layout) (within : k < count)
    (before : GoesOn text at start end (next_lines (variable + k) (count - k) items next)) where
  abbrev one_latch : ℕ → ℕ → Layout
  one_latch following reset = next_lines (variable + k + 1) (count - (k + 1)) (items ++ latch_of (literal_of (variable + k)) following reset ∷ []) next

  latch_due : GoesOn text at start end (next_line (λ following reset. next_lines (variable + k + 1) (count - (k + 1)) (items ++ latch_of (literal_of (variable + k)) following reset ∷ []) next))
  latch_due = before ∙ ap (λ m. outcome (next_lines (variable + k) m items next) end (drop end text)) (one_less count k within)

  pub latch_more : (after literal following reset : ℕ) (new : List Latch) → ((f : ℕ → ℕ → Layout) → GoesOn text end (next_line f) after (f following reset)) → literal ≡ literal_of (variable + k)
      → new ≡ items ++ latch_of literal following reset ∷ [] → GoesOn text at start after (next_lines (variable + (k + 1)) (count - (k + 1)) new next)
  latch_more after literal following reset new step is_literal is =
      latch_due
      ∙ step one_latch
      ∙ ap (λ v. outcome (next_lines v (count - (k + 1)) (items ++ latch_of (literal_of (variable + k)) following reset ∷ []) next) after (drop after text)) (let e : variable + k + 1 ≡ variable + (k + 1) = omega arith in e)
      ∙ ap (λ (xs : List Latch). outcome (next_lines (variable + (k + 1)) (count - (k + 1)) xs next) after (drop after text))
      (sym (is ∙ ap (λ l. items ++ latch_of l following reset ∷ []) is_literal))

  pub latch_stops : (refusal : Refusal) → ((f : ℕ → ℕ → Layout) → Stops text end (next_line f) refusal) → Stops text at start refusal
  latch_stops refusal stop = stops_after text at end start (next_line one_latch) latch_due refusal (stop one_latch)

-- a gate more, which has the next variable
module _ (text : List ℕ) (at end variable count k literal : ℕ) (start : Layout) (items : List Gate) (next : List Gate → Layout) (within : k < count)
    (before : GoesOn text at start end (gate_deltas (variable + k) (count - k) items next)) (is_literal : literal ≡ literal_of (variable + k)) where
  abbrev one_gate : Gate → Layout
  one_gate gate = gate_deltas (variable + k + 1) (count - (k + 1)) (items ++ gate ∷ []) next

  gate_due : GoesOn text at start end (two_deltas literal (λ gate. gate_deltas (variable + k + 1) (count - (k + 1)) (items ++ gate ∷ []) next))
  gate_due =
      before ∙ ap (λ m. outcome (gate_deltas (variable + k) m items next) end (drop end text)) (one_less count k within)
      ∙ ap (λ l. outcome (two_deltas l one_gate) end (drop end text)) (sym is_literal)

  pub gate_more : (after : ℕ) (gate : Gate) (new : List Gate) → ((f : Gate → Layout) → GoesOn text end (two_deltas literal f) after (f gate))
      → new ≡ items ++ gate ∷ [] → GoesOn text at start after (gate_deltas (variable + (k + 1)) (count - (k + 1)) new next)
  gate_more after gate new step is =
      gate_due
      ∙ step one_gate
      ∙ ap (λ v. outcome (gate_deltas v (count - (k + 1)) (items ++ gate ∷ []) next) after (drop after text)) (let e : variable + k + 1 ≡ variable + (k + 1) = omega arith in e)
      ∙ ap (λ (xs : List Gate). outcome (gate_deltas (variable + (k + 1)) (count - (k + 1)) xs next) after (drop after text)) (sym is)

  pub gate_stops : (refusal : Refusal) → ((f : Gate → Layout) → Stops text end (two_deltas literal f) refusal) → Stops text at start refusal
  gate_stops refusal stop = stops_after text at end start (two_deltas literal one_gate) gate_due refusal (stop one_gate)
