-- The bare text of a lenient solution text: spaces stand for what is passed over in its plain text, which is `-1` where
-- a line may have a successor, and a name at the end of a line. Each other byte stays, so that places are the same.
use Rattle.std.specs.Prelude.{ℕ, ◌+◌, Bool, true, false, ◌==◌, ◌&&◌, ◌||◌, List}
use Rattle.std.specs.Prelude.{[], ◌∷◌, drop, slice_index, nat_lt, if◌then◌else◌}
use Rattle.omega_text.specs.Bytes.{is_digit, is_white}
use Rattle.omega_pg_lenient.specs.Plain.{plain_text}
use Rattle.omega_pg_lenient.specs.declared.line_place.LineContext.{LineContext}
use Rattle.omega_pg_lenient.specs.declared.line_place.LineContext.TheVariants.{Between, Choice}
use Rattle.omega_pg_lenient.specs.declared.line_place.LineContext.TheVariants.{Name, Number, Passed}
use Rattle.omega_pg_lenient.specs.declared.line_place.LinePlace.{LinePlace}

-- the first byte that is not white, or 0 if there is none
abbrev pub next_black : List ℕ → ℕ
next_black [] = 0
next_black (byte ∷ rest) = if is_white byte then next_black rest else byte

-- the bytes after the first quote of a name: the name ends in its line, and `;` is next
abbrev pub is_last_name : List ℕ → Bool
is_last_name [] = false
is_last_name (byte ∷ rest) =
    if byte == 34 then next_black rest == 59 else
    if byte == 10 then false else
    is_last_name rest

-- the bytes after a `-`: it begins `-1`, and `;` or a name is next
abbrev pub is_no_choice : List ℕ → Bool
is_no_choice rest =
    slice_index rest 0 == 49 && (next_black (drop 1 rest) == 59 || next_black (drop 1 rest) == 34)

-- one number more, unless it has begun; three stand for all that are more
abbrev pub counted : LineContext → ℕ → ℕ
counted Number numbers = numbers
counted Between numbers = if nat_lt numbers 3 then numbers + 1 else 3
counted Name numbers = numbers
counted Passed numbers = numbers
counted Choice numbers = numbers

-- a place in a line
abbrev pub place_in_line : LineContext → ℕ → LinePlace
place_in_line context numbers = record { context = context; numbers = numbers }

-- after a quote that begins a name: what ends a line after an identifier and a winner is passed over
abbrev pub after_quote : ℕ → List ℕ → LineContext
after_quote numbers rest = if nat_lt 1 numbers && is_last_name rest then Passed else Name

-- after a byte outside names, by the bytes that follow it
abbrev pub after_byte : LineContext → ℕ → ℕ → List ℕ → LinePlace
after_byte context numbers byte rest =
    if is_digit byte then place_in_line Number (counted context numbers) else
    if byte == 59 then place_in_line Between 0 else
    if byte == 34 then place_in_line (after_quote numbers rest) numbers else
    if (byte == 45 && numbers == 2) && is_no_choice rest then place_in_line Choice numbers else
    place_in_line Between numbers

-- where a line is after a byte, by the bytes that follow it
abbrev pub place_after : LineContext → ℕ → ℕ → List ℕ → LinePlace
place_after Between numbers byte rest = after_byte Between numbers byte rest
place_after Number numbers byte rest = after_byte Number numbers byte rest
place_after Name numbers byte rest = place_in_line (if byte == 34 then Between else Name) numbers
place_after Passed numbers byte rest = place_in_line (if byte == 34 then Between else Passed) numbers
place_after Choice numbers byte rest = place_in_line Between numbers

-- a byte before this context is passed over
abbrev pub is_passed : LineContext → Bool
is_passed Passed = true
is_passed Choice = true
is_passed Between = false
is_passed Number = false
is_passed Name = false

-- what stands for a byte, by where its line is before it and after it
abbrev pub shown_in_line : LineContext → LineContext → ℕ → ℕ
shown_in_line context next byte = if is_passed context || is_passed next then 32 else byte

-- the bare text of the bytes that are left of a plain text
abbrev pub bare_from : LinePlace → List ℕ → List ℕ
bare_from place [] = []
bare_from place (byte ∷ rest) =
    shown_in_line place.context (place_after place.context place.numbers byte rest).context byte
    ∷ bare_from (place_after place.context place.numbers byte rest) rest

-- the bare text of a text
abbrev pub bare_text : List ℕ → List ℕ
bare_text source = bare_from (place_in_line Between 0) (plain_text source)
