-- Layouts of texts: what a text consists of, from the left. What comes next may depend on the numbers and the lines
-- before it, and at the end they make the parts of a circuit.
use Rattle.std.specs.Prelude.{◌≡◌, ◌≤◌, ◌<◌, ◌⊎◌, ◌+◌, ℕ, List, [], ◌∷◌, ◌++◌, decimal, length, take}
use Rattle.std.specs.List.{Contains, prefix_len}
use Rattle.omega_aiger.specs.Deltas.{IsDelta, IsNoDelta, delta_value}
use Rattle.omega_circuit.specs.declared.parts.CircuitParts.{CircuitParts}
use Rattle.omega_text.specs.Bytes.{is_digit}
use Rattle.omega_text.specs.Limits.{most_number}

pub data Layout : Type 0 where
  -- the text ends, and made these parts
  finish : CircuitParts → Layout
  -- any bytes follow up to the end
  rest : CircuitParts → Layout
  -- this byte, and then what follows
  byte : ℕ → Layout → Layout
  -- this byte and then the first layout, or else the other one
  either : ℕ → Layout → Layout → Layout
  -- a number in decimal, and then what follows by its value
  number : (ℕ → Layout) → Layout
  -- a delta, and then what follows by its value
  delta : (ℕ → Layout) → Layout
  -- any bytes up to a line feed, this, and then what follows by the bytes
  line : (List ℕ → Layout) → Layout

-- a text of this layout makes these parts
abbrev pub Spells : Layout → List ℕ → CircuitParts → Type 0
Spells (finish parts) text made = (text ≡ []) × (parts ≡ made)
Spells (rest parts) text made = parts ≡ made
Spells (byte b next) text made = (back : List ℕ) × (text ≡ b ∷ back) × Spells next back made
Spells (either b first other) text made =
    ((back : List ℕ) × (text ≡ b ∷ back) × Spells first back made) ⊎ Spells other text made
Spells (number next) text made = (n : ℕ) × (back : List ℕ) × (n ≤ most_number)
    × (text ≡ decimal n ++ back) × Spells (next n) back made
Spells (delta next) text made = (bytes : List ℕ) × (back : List ℕ) × IsDelta bytes
    × (text ≡ bytes ++ back) × Spells (next (delta_value bytes)) back made
Spells (line next) text made = (front : List ℕ) × (back : List ℕ) × (Contains front 10 → ⊥)
    × (text ≡ front ++ 10 ∷ back) × Spells (next front) back made

-- where a number is due, there are digits, and all of them are none of the format
pub record IsNoNumber (text : List ℕ) : Type 0 where
  pub some : 0 < prefix_len is_digit text
  pub none : (n : ℕ) → n ≤ most_number → take (prefix_len is_digit text) text ≡ decimal n → ⊥

-- at this place of a text of the layout, a number or a delta is due and there is none
abbrev pub HasNoNumberAt : Layout → List ℕ → ℕ → Type 0
HasNoNumberAt (finish parts) text at = ⊥
HasNoNumberAt (rest parts) text at = ⊥
HasNoNumberAt (byte b next) text at =
    (back : List ℕ) × (p : ℕ) × (text ≡ b ∷ back) × (at ≡ 1 + p) × HasNoNumberAt next back p
HasNoNumberAt (either b first other) text at =
    ((back : List ℕ) × (p : ℕ) × (text ≡ b ∷ back) × (at ≡ 1 + p) × HasNoNumberAt first back p)
    ⊎ HasNoNumberAt other text at
HasNoNumberAt (number next) text at = ((at ≡ 0) × IsNoNumber text)
    ⊎ ((n : ℕ) × (back : List ℕ) × (p : ℕ) × (n ≤ most_number) × (text ≡ decimal n ++ back)
    × (at ≡ length (decimal n) + p) × HasNoNumberAt (next n) back p)
HasNoNumberAt (delta next) text at = ((at ≡ 0) × IsNoDelta text)
    ⊎ ((bytes : List ℕ) × (back : List ℕ) × (p : ℕ) × IsDelta bytes × (text ≡ bytes ++ back)
    × (at ≡ length bytes + p) × HasNoNumberAt (next (delta_value bytes)) back p)
HasNoNumberAt (line next) text at = (front : List ℕ) × (back : List ℕ) × (p : ℕ)
    × (Contains front 10 → ⊥) × (text ≡ front ++ 10 ∷ back) × (at ≡ length front + (1 + p))
    × HasNoNumberAt (next front) back p

-- some text of the layout begins so
abbrev pub Begins : Layout → List ℕ → Type 0
Begins layout front = (more : List ℕ) × (made : CircuitParts) × Spells layout (front ++ more) made

-- the first byte through which no text of the layout begins is at this place; or the text begins one, is none, and
-- ends here
pub record IsWrongAt (layout : Layout) (text : List ℕ) (at : ℕ) : Type 0 where
  pub front : List ℕ
  pub back : List ℕ
  pub split : text ≡ front ++ back
  pub there : at ≡ length front
  pub begins : Begins layout front
  pub ends : (b : ℕ) (more : List ℕ) → back ≡ b ∷ more → Begins layout (front ++ b ∷ []) → ⊥
  pub none : (made : CircuitParts) → Spells layout text made → ⊥
