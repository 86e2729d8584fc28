-- A reader of formulas that goes over the bytes once, and tells where a formula ends and whether it is true.
use Rattle.std.proofs.Common.{◌≡◌, ℕ, Bool, true, false, not, ◌&&◌, ◌||◌, ◌==◌, if◌then◌else◌, List, [], ◌∷◌, ◌++◌, refl, sym, ap, ◌∙◌, append_assoc, append-nil, true≢false}
use Rattle.std.specs.List.{list_all}
use Rattle.std.proofs.lemmas.Bool.{ne_eqb}
use Rattle.omega_text.specs.Bytes.{is_letter}
use Rattle.omega_text.specs.hoa.Forms.{IsQuotable}
use Rattle.omega_hoa_edges.specs.Names.{goes_on}

-- operands that wait for the next: whether a part before an `|` is true, whether all since then are, and whether the
-- next is negated
pub data Level : Type 0 where
  level : (before since negated : Bool) → Level

-- what comes next: an operand, more of a name, more of a name in quotes, a byte behind a backslash, or what follows an
-- operand; each with the levels whose parentheses are open
pub data State : Type 0 where
  wanted : (before since negated : Bool) → List Level → State
  naming quoting escaping : (before since negated : Bool) → List Level → List ℕ → State
  given : (before since : Bool) → List Level → State
  stuck : State

-- the value, turned if it is negated
abbrev pub turned : Bool → Bool → Bool
turned negated value = if negated then not value else value

-- a formula ends here
abbrev pub is_end : ℕ → Bool
is_end byte = byte == 59 || byte == 125

-- both tests hold
pub left_true : (one other : Bool) → (one && other) ≡ true → one ≡ true
left_true true other e = refl
left_true false other e = e

pub right_true : (one other : Bool) → (one && other) ≡ true → other ≡ true
right_true true other e = e
right_true false other e = absurd (true≢false (sym e))

module _ (held : List ℕ → Bool) where
  -- an operand in parentheses
  abbrev pub closed : Bool → List Level → State
  closed value [] = stuck
  closed value (level before since negated ∷ levels) = given before (since && turned negated value) levels

  abbrev pub wanted_step : Bool → Bool → Bool → List Level → ℕ → State
  wanted_step before since negated levels byte =
      if is_letter byte then naming before since negated levels (byte ∷ [])
      else (if byte == 33 then wanted before since (not negated) levels
      else (if byte == 40 then wanted false true false (level before since negated ∷ levels)
      else (if byte == 34 then quoting before since negated levels []
      else (if byte == 48 then given before (since && turned negated false) levels
      else (if byte == 49 then given before (since && turned negated true) levels
      else (if byte == 32 then wanted before since negated levels else stuck))))))

  abbrev pub given_step : Bool → Bool → List Level → ℕ → State
  given_step before since levels byte =
      if byte == 32 then given before since levels
      else (if byte == 38 then wanted before since false levels
      else (if byte == 124 then wanted (before || since) true false levels
      else (if byte == 41 then closed (before || since) levels else stuck)))

  abbrev pub step : State → ℕ → State
  step (wanted before since negated levels) byte = wanted_step before since negated levels byte
  step (naming before since negated levels name) byte =
      if goes_on byte then naming before since negated levels (name ++ byte ∷ [])
      else given_step before (since && turned negated (held name)) levels byte
  step (quoting before since negated levels name) byte =
      if byte == 34 then given before (since && turned negated (held name)) levels
      else (if byte == 92 then escaping before since negated levels (name ++ byte ∷ []) else quoting before since negated levels (name ++ byte ∷ []))
  step (escaping before since negated levels name) byte = quoting before since negated levels (name ++ byte ∷ [])
  step (given before since levels) byte = given_step before since levels byte
  step _ byte = stuck

  abbrev pub stops : State → ℕ → Bool
  stops (naming before since negated levels name) byte = if goes_on byte then false else is_end byte
  stops (given before since levels) byte = is_end byte
  stops _ byte = false

  abbrev pub value_of : State → Bool
  value_of (naming before since negated levels name) = before || (since && turned negated (held name))
  value_of (given before since levels) = before || since
  value_of _ = false

  -- the value of the formula that ends first, and what follows it
  abbrev pub run : State → List ℕ → Bool × List ℕ
  run state [] = (value_of state, [])
  run state (byte ∷ rest) = if stops state byte then (value_of state, byte ∷ rest) else run (step state byte) rest

  -- no byte of a name comes next
  abbrev pub Bounds : List ℕ → Type 0
  Bounds [] = Unit {0}
  Bounds (byte ∷ rest) = goes_on byte ≡ false

  -- a name ends
  pub name_ends : (before since negated : Bool) (levels : List Level) (name rest : List ℕ) → Bounds rest
      → run (naming before since negated levels name) rest ≡ run (given before (since && turned negated (held name)) levels) rest
  name_ends before since negated levels name [] bound = refl
  name_ends before since negated levels name (byte ∷ rest) bound =
      ap (λ (on : Bool). if (if on then false else is_end byte) then (before || (since && turned negated (held name)), byte ∷ rest)
      else run (if on then naming before since negated levels (name ++ byte ∷ []) else given_step before (since && turned negated (held name)) levels byte) rest) bound

  -- a name goes on
  pub name_goes_on : (before since negated : Bool) (levels : List Level) (name more rest : List ℕ) → list_all goes_on more ≡ true
      → run (naming before since negated levels name) (more ++ rest) ≡ run (naming before since negated levels (name ++ more)) rest
  name_goes_on before since negated levels name [] rest on = ap (λ (n : List ℕ). run (naming before since negated levels n) rest) (sym (append-nil name))
  name_goes_on before since negated levels name (byte ∷ more) rest on =
      let first : goes_on byte ≡ true = left_true (goes_on byte) (list_all goes_on more) on in
      let then_rest : list_all goes_on more ≡ true = right_true (goes_on byte) (list_all goes_on more) on in
      ap (λ (on : Bool). if (if on then false else is_end byte) then (before || (since && turned negated (held name)), byte ∷ (more ++ rest))
      else run (if on then naming before since negated levels (name ++ byte ∷ []) else given_step before (since && turned negated (held name)) levels byte) (more ++ rest)) first
      ∙ name_goes_on before since negated levels (name ++ byte ∷ []) more rest then_rest
      ∙ ap (λ (n : List ℕ). run (naming before since negated levels n) rest) (append_assoc name (byte ∷ []) more)

  -- a name in quotes goes on to its end
  pub quotes_end : (before since negated : Bool) (levels : List Level) (name more rest : List ℕ) → IsQuotable more
      → run (quoting before since negated levels name) (more ++ 34 ∷ rest) ≡ run (given before (since && turned negated (held (name ++ more))) levels) rest
  quotes_end before since negated levels name _ rest IsQuotable.empty = ap (λ (n : List ℕ). run (given before (since && turned negated (held n)) levels) rest) (sym (append-nil name))
  quotes_end before since negated levels name _ rest (IsQuotable.plain byte more no_quote no_backslash others) =
      ap (λ (is : Bool). run (if is then given before (since && turned negated (held name)) levels
      else (if byte == 92 then escaping before since negated levels (name ++ byte ∷ []) else quoting before since negated levels (name ++ byte ∷ []))) (more ++ 34 ∷ rest)) (ne_eqb byte 34 no_quote)
      ∙ ap (λ (is : Bool). run (if is then escaping before since negated levels (name ++ byte ∷ []) else quoting before since negated levels (name ++ byte ∷ [])) (more ++ 34 ∷ rest)) (ne_eqb byte 92 no_backslash)
      ∙ quotes_end before since negated levels (name ++ byte ∷ []) more rest others
      ∙ ap (λ (n : List ℕ). run (given before (since && turned negated (held n)) levels) rest) (append_assoc name (byte ∷ []) more)
  quotes_end before since negated levels name _ rest (IsQuotable.escaped byte more others) =
      quotes_end before since negated levels ((name ++ 92 ∷ []) ++ byte ∷ []) more rest others
      ∙ ap (λ (n : List ℕ). run (given before (since && turned negated (held n)) levels) rest)
      (append_assoc (name ++ 92 ∷ []) (byte ∷ []) more ∙ append_assoc name (92 ∷ []) (byte ∷ more))
