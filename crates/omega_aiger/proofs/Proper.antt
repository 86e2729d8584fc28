-- Layouts in which the next byte shows what comes next.
use Rattle.std.proofs.Common.{◌≡◌, inl, inr, ℕ, ◌<◌, ◌==◌, Bool, true, false, List, [], ◌∷◌, ◌++◌, length, decimal, sym, subst, arith}
use Rattle.std.specs.List.{AllPass, prefix_len}
use Rattle.std.proofs.lemmas.List.Sums.{prefix_len_passes}
use Rattle.omega_aiger.specs.Layout.{HasNoNumberAt, Layout, Spells, byte, delta, either, finish, line, number, rest}
use Rattle.omega_aiger.proofs.Splits.{Free}
use Rattle.omega_circuit.specs.declared.parts.CircuitParts.{CircuitParts}
use Rattle.omega_text.specs.Bytes.{is_digit}
use Rattle.omega_text.proofs.pg_texts.Numbers.{decimal_digits}

-- no text of the layout begins with a byte of the class
abbrev pub Avoids : (ℕ → Bool) → Layout → Type 0
Avoids p (finish parts) = Unit {0}
Avoids p (rest parts) = ⊥
Avoids p (byte b next) = p b ≡ false
Avoids p (either b first other) = (p b ≡ false) × Avoids p other
Avoids p (number next) = (b : ℕ) → is_digit b ≡ true → p b ≡ false
Avoids p (delta next) = ⊥
Avoids p (line next) = ⊥

-- the bytes that are this one
abbrev pub is_byte : ℕ → ℕ → Bool
is_byte b c = c == b

-- a number is followed by no digit, and the first byte of a choice decides it
abbrev pub IsProper : Layout → Type 0
IsProper (finish parts) = Unit {0}
IsProper (rest parts) = Unit {0}
IsProper (byte b next) = IsProper next
IsProper (either b first other) = IsProper first × IsProper other × Avoids (is_byte b) other
IsProper (number next) = (n : ℕ) → IsProper (next n) × Avoids is_digit (next n)
IsProper (delta next) = (n : ℕ) → IsProper (next n)
IsProper (line next) = (front : List ℕ) → IsProper (next front)

-- digits begin with none of a class without digits
digits_free : (p : ℕ → Bool) (digits back : List ℕ) → 0 < length digits → AllPass is_digit digits → ((b : ℕ) → is_digit b ≡ true → p b ≡ false) → Free p (digits ++ back)
digits_free p [] back some all avoids = absurd (omega (arith, some))
digits_free p (b ∷ digits) back some all avoids = avoids b (all 0 0 some)

-- a text whose front is some digits
bad_free : (p : ℕ → Bool) (text : List ℕ) → 0 < prefix_len is_digit text → ((b : ℕ) → is_digit b ≡ true → p b ≡ false) → Free p text
bad_free p [] some avoids = tt
bad_free p (b ∷ back) some avoids = avoids b (prefix_len_passes is_digit (b ∷ back) 0 0 some)

pub avoids_free : (p : ℕ → Bool) (layout : Layout) → Avoids p layout → (text : List ℕ) (made : CircuitParts) → Spells layout text made → Free p text
avoids_free p (finish parts) avoids text made is = subst (Free p) (sym is.0) tt
avoids_free p (rest parts) avoids text made is = absurd avoids
avoids_free p (byte b next) avoids text made is = subst (Free p) (sym is.1) avoids
avoids_free p (either b first other) avoids text made (inl is) = subst (Free p) (sym is.1) avoids.0
avoids_free p (either b first other) avoids text made (inr is) = avoids_free p other avoids.1 text made is
avoids_free p (number next) avoids text made is = subst (Free p) (sym is.3) (let d = decimal_digits is.0 in digits_free p (decimal is.0) is.1 d.0 d.1 avoids)
avoids_free p (delta next) avoids text made is = absurd avoids
avoids_free p (line next) avoids text made is = absurd avoids

pub avoids_free_wrong : (p : ℕ → Bool) (layout : Layout) → Avoids p layout → (text : List ℕ) (at : ℕ) → HasNoNumberAt layout text at → Free p text
avoids_free_wrong p (finish parts) avoids text at is = absurd is
avoids_free_wrong p (rest parts) avoids text at is = absurd is
avoids_free_wrong p (byte b next) avoids text at is = subst (Free p) (sym is.2) avoids
avoids_free_wrong p (either b first other) avoids text at (inl is) = subst (Free p) (sym is.2) avoids.0
avoids_free_wrong p (either b first other) avoids text at (inr is) = avoids_free_wrong p other avoids.1 text at is
avoids_free_wrong p (number next) avoids text at (inl is) = bad_free p text is.1.some avoids
avoids_free_wrong p (number next) avoids text at (inr is) = subst (Free p) (sym is.4) (let d = decimal_digits is.0 in digits_free p (decimal is.0) is.1 d.0 d.1 avoids)
avoids_free_wrong p (delta next) avoids text at is = absurd avoids
avoids_free_wrong p (line next) avoids text at is = absurd avoids
