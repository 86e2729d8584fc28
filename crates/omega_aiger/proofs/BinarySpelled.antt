-- The text that is written in the binary form spells the circuit: deltas, and lines of latches without their literals.
use Rattle.std.proofs.Common.{◌≡◌, ◌⊎◌, inl, inr, ℕ, zero, suc, ◌+◌, ◌-◌, ◌/◌, ◌%◌, ◌^◌, ◌<◌, ◌≤◌, ◌||◌, Bool, cond, List, [], ◌∷◌, ◌++◌, All, length, get_or, decimal, refl, sym, ap, ap₂, ◌∙◌, subst, arith, append_assoc}
use Rattle.std.specs.Prelude.{nat_lt}
use Rattle.std.specs.List.{flat_map, prefix_len}
use Rattle.std.proofs.Math.Nat.{pow-suc}
use Rattle.std.proofs.lemmas.Bool.{cases_lt, le-leb, le-ltb, lt-leb, lt-ltb, ne_eqb}
use Rattle.std.proofs.lemmas.List.{append-nil}
use Rattle.omega_aiger.specs.BinaryText.{delta_bytes, delta_text, deltas_text, next_text}
use Rattle.omega_aiger.specs.Deltas.{IsDelta, delta_value, is_high, left_operand, literal_of, no_literal, right_operand}
use Rattle.omega_aiger.specs.Layout.{Layout, Spells}
use Rattle.omega_aiger.specs.Lines.{gate_by, gate_deltas, gate_of, latch_of, next_lines}
use Rattle.omega_aiger.specs.Written.{reset_text}
use Rattle.omega_aiger.proofs.Spelled.{IsSmallLatch, later, reset_spelled}
use Rattle.omega_aiger.proofs.Splits.{no, yes}
use Rattle.omega_circuit.specs.declared.gate.Gate.{Gate}
use Rattle.omega_circuit.specs.declared.latch.Latch.{Latch}
use Rattle.omega_circuit.specs.declared.parts.CircuitParts.{CircuitParts}

abbrev no_gate : Gate
no_gate = record { literal = 0; left = 0; right = 0 }

abbrev no_latch : Latch
no_latch = record { literal = 0; next = 0; reset = 0 }

-- bytes of a number, of which the last alone has no high bit
pub record AreDeltaBytes (most n : ℕ) (bytes : List ℕ) : Type 0 where
  pub high : prefix_len is_high bytes + 1 ≡ length bytes
  pub short : length bytes ≤ most + 1
  pub value : delta_value bytes ≡ n

-- the last byte
last_byte : (most n : ℕ) → n < 128 → AreDeltaBytes most n (n ∷ [])
last_byte most n low = record {
  high = ap (λ k. k + 1) (no (is_high n) (1 + 0) 0 (lt-leb 128 n low));
  short = omega arith;
  value = omega (arith, low);
}

-- one with the high bit
high_byte : (most n : ℕ) (bytes : List ℕ) → AreDeltaBytes most (n / 128) bytes → AreDeltaBytes (suc most) n ((n % 128 + 128) ∷ bytes)
high_byte most n bytes are = record {
  high = ap (λ k. k + 1) (yes (is_high (n % 128 + 128)) (1 + prefix_len is_high bytes) 0 (le-leb 128 (n % 128 + 128) (omega arith)))
      ∙ (let h = are.high in omega (arith, h));
  short = let s = are.short in omega (arith, s);
  value = let v = are.value in omega (arith, v);
}

pub delta_bytes_are : (most n : ℕ) → n < 128 ^ (most + 1) → AreDeltaBytes most n (delta_bytes most n)
delta_bytes_are zero n low = subst (λ k. AreDeltaBytes 0 n (k ∷ [])) (let e : n ≡ n % 128 = omega (arith, low) in e) (last_byte 0 n (omega (arith, low)))
delta_bytes_are (suc most) n low = go (λ rest. delta_bytes_are most (n / 128) rest) (cases_lt n 128)
  where
    go : (n / 128 < 128 ^ (most + 1) → AreDeltaBytes most (n / 128) (delta_bytes most (n / 128))) → (n < 128) ⊎ (128 ≤ n) → AreDeltaBytes (suc most) n (delta_bytes (suc most) n)
    go later (inl small) =
        subst (AreDeltaBytes (suc most) n) (sym (yes (nat_lt n 128) (n ∷ []) ((n % 128 + 128) ∷ delta_bytes most (n / 128)) (lt-ltb n 128 small))) (last_byte (suc most) n small)
    go later (inr great) =
        let p = pow-suc 128 (most + 1) in
        let same : 128 ^ (suc most + 1) ≡ 128 ^ suc (most + 1) = ap (λ k. 128 ^ k) (let e : suc most + 1 ≡ suc (most + 1) = omega arith in e) in
        let rest : n / 128 < 128 ^ (most + 1) = omega (arith, low, p, same) in
        subst (AreDeltaBytes (suc most) n) (sym (no (nat_lt n 128) (n ∷ []) ((n % 128 + 128) ∷ delta_bytes most (n / 128)) (le-ltb n 128 great)))
        (high_byte most n (delta_bytes most (n / 128)) (later rest))

-- what is written for a delta is one, and has its value
pub delta_text_is : (n : ℕ) → n < 2 ^ 32 → IsDelta (delta_text n)
delta_text_is n small =
    let are = delta_bytes_are 4 n (omega (arith, small)) in
    record {
      high = are.high;
      short = let s = are.short in omega (arith, s);
      small = let v = are.value in omega (arith, v, small);
    }

pub delta_text_value : (n : ℕ) → n < 2 ^ 32 → delta_value (delta_text n) ≡ n
delta_text_value n small = (delta_bytes_are 4 n (omega (arith, small))).value

-- lines of latches that have the variables in order
abbrev pub AreLatchesInOrder : ℕ → List Latch → Type 0
AreLatchesInOrder variable xs = (k : ℕ) → k < length xs → (get_or xs k no_latch).literal ≡ literal_of (variable + k)

later_latches : (variable : ℕ) (x : Latch) (xs : List Latch) → AreLatchesInOrder variable (x ∷ xs) → AreLatchesInOrder (variable + 1) xs
later_latches variable x xs are k within =
    are (suc k) (omega (arith, within)) ∙ ap literal_of (let e : variable + suc k ≡ (variable + 1) + k = omega arith in e)

pub nexts_spelled : (xs : List Latch) → All IsSmallLatch xs → (variable : ℕ) → AreLatchesInOrder variable xs → (read : List Latch) (next : List Latch → Layout) (back : List ℕ) (made : CircuitParts)
    → Spells (next (read ++ xs)) back made → Spells (next_lines variable (length xs) read next) (flat_map next_text xs ++ back) made
nexts_spelled [] all variable are read next back made is = subst (λ (l : List Latch). Spells (next l) back made) (append-nil read) is
nexts_spelled (x ∷ xs) all variable are read next back made is =
    let small = all 0 x (omega arith) in
    let rest : List ℕ = flat_map next_text xs ++ back in
    let own : x.literal ≡ literal_of variable = are 0 (omega arith) ∙ ap literal_of (let e : variable + 0 ≡ variable = omega arith in e) in
    let same : x ≡ latch_of (literal_of variable) x.next x.reset = ap (λ n. latch_of n x.next x.reset) own in (
      x.next,
      reset_text x.reset ++ rest,
      small.following,
      append_assoc (next_text x) (flat_map next_text xs) back ∙ append_assoc (decimal x.next) (reset_text x.reset) rest,
      reset_spelled x.reset small.first _ rest made
          (nexts_spelled xs (later IsSmallLatch x xs all) (variable + 1) (later_latches variable x xs are) (read ++ latch_of (literal_of variable) x.next x.reset ∷ []) next back made
          (subst (λ (l : List Latch). Spells (next l) back made) (sym (append_assoc read (x ∷ []) xs) ∙ ap (λ (y : Latch). (read ++ y ∷ []) ++ xs) same) is)),
    )

-- gates whose operands are below them, and that have the variables in order
pub record IsGateInOrder (variable : ℕ) (gate : Gate) : Type 0 where
  pub own : gate.literal ≡ literal_of variable
  pub left : gate.left < gate.literal
  pub right : gate.right ≤ gate.left
  pub small : gate.literal < 2 ^ 32

abbrev pub AreGatesInOrder : ℕ → List Gate → Type 0
AreGatesInOrder variable xs = (k : ℕ) → k < length xs → IsGateInOrder (variable + k) (get_or xs k no_gate)

later_gates : (variable : ℕ) (x : Gate) (xs : List Gate) → AreGatesInOrder variable (x ∷ xs) → AreGatesInOrder (variable + 1) xs
later_gates variable x xs are k within =
    subst (λ n. IsGateInOrder n (get_or xs k no_gate)) (let e : variable + suc k ≡ (variable + 1) + k = omega arith in e) (are (suc k) (omega (arith, within)))

-- the deltas of a gate give its operands
left_again : (literal left : ℕ) → left < literal → left_operand literal (literal - left) ≡ left
left_again literal left below =
    ap₂ (λ (a b : Bool). cond (a || b) no_literal (literal - (literal - left))) (ne_eqb (literal - left) 0 (λ is. omega (arith, is, below))) (le-ltb literal (literal - left) (omega arith))
    ∙ (let e : literal - (literal - left) ≡ left = omega (arith, below) in e)

right_again : (left right : ℕ) → right ≤ left → right_operand left (left - right) ≡ right
right_again left right below =
    ap (λ (b : Bool). cond b no_literal (left - (left - right))) (le-ltb left (left - right) (omega arith))
    ∙ (let e : left - (left - right) ≡ right = omega (arith, below) in e)

gate_again : (variable : ℕ) (x : Gate) → IsGateInOrder variable x → gate_by (literal_of variable) (x.literal - x.left) (x.left - x.right) ≡ x
gate_again variable x is =
    ap (λ n. gate_by n (x.literal - x.left) (x.left - x.right)) (sym is.own)
    ∙ ap (λ n. gate_of x.literal n (right_operand n (x.left - x.right))) (left_again x.literal x.left is.left)
    ∙ ap (λ n. gate_of x.literal x.left n) (right_again x.left x.right is.right)

pub deltas_spelled : (xs : List Gate) → (variable : ℕ) → AreGatesInOrder variable xs → (read : List Gate) (next : List Gate → Layout) (back : List ℕ) (made : CircuitParts)
    → Spells (next (read ++ xs)) back made → Spells (gate_deltas variable (length xs) read next) (flat_map deltas_text xs ++ back) made
deltas_spelled [] variable are read next back made is = subst (λ (l : List Gate). Spells (next l) back made) (append-nil read) is
deltas_spelled (x ∷ xs) variable are read next back made is =
    let gate : IsGateInOrder variable x = subst (λ n. IsGateInOrder n x) (let e : variable + 0 ≡ variable = omega arith in e) (are 0 (omega arith)) in
    let one : ℕ = x.literal - x.left in
    let other : ℕ = x.left - x.right in
    let s = gate.small in
    let l = gate.left in
    let one_small : one < 2 ^ 32 = omega (arith, s) in
    let other_small : other < 2 ^ 32 = omega (arith, s, l) in
    let rest : List ℕ = flat_map deltas_text xs ++ back in
    let further : Spells (gate_deltas (variable + 1) (length xs) (read ++ x ∷ []) next) rest made =
    deltas_spelled xs (variable + 1) (later_gates variable x xs are) (read ++ x ∷ []) next back made (subst (λ (l : List Gate). Spells (next l) back made) (sym (append_assoc read (x ∷ []) xs)) is) in
    let made_gate : Spells (gate_deltas (variable + 1) (length xs) (read ++ gate_by (literal_of variable) (delta_value (delta_text one)) (delta_value (delta_text other)) ∷ []) next) rest made =
    subst (λ (g : Gate). Spells (gate_deltas (variable + 1) (length xs) (read ++ g ∷ []) next) rest made)
    (sym (ap₂ (λ (a b : ℕ). gate_by (literal_of variable) a b) (delta_text_value one one_small) (delta_text_value other other_small) ∙ gate_again variable x gate)) further in (
      delta_text one,
      delta_text other ++ rest,
      delta_text_is one one_small,
      append_assoc (deltas_text x) (flat_map deltas_text xs) back ∙ append_assoc (delta_text one) (delta_text other) rest,
      (delta_text other, rest, delta_text_is other other_small, refl, made_gate),
    )
