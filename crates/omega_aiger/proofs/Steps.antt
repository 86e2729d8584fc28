-- Steps of reading at a place of a text.
use Rattle.std.proofs.Common.{◌≡◌, ◌⊎◌, inl, inr, ℕ, ◌+◌, ◌<◌, ◌≤◌, ◌^◌, true, false, List, ◌∷◌, length, get_or, take, drop, Result, Ok, Err, sym, ap, ◌∙◌, subst, arith, length-drop}
use Rattle.std.specs.Prelude.{IfErr, IfOk}
use Rattle.std.specs.List.{prefix_len}
use Rattle.std.specs.Str.Parse.{digits_value}
use Rattle.std.proofs.lemmas.Bool.{cases_lt, ne_eqb}
use Rattle.std.proofs.lemmas.List.{drop-drop, drop_all, drop_more}
use Rattle.omega_aiger.specs.Deltas.{delta_value, is_high}
use Rattle.omega_aiger.specs.Layout.{Layout, byte, delta, either, line, number}
use Rattle.omega_aiger.specs.private.Outcome.{Fails, GoesOn, Stops, is_in_line, is_number, outcome}
use Rattle.omega_aiger.proofs.Fronts.{delta_cut, delta_great, delta_long, delta_taken, line_cut, line_taken, number_missing, number_refused, number_taken}
use Rattle.omega_aiger.proofs.Outcomes.{byte_refuses, byte_takes, either_skips, either_takes}
use Rattle.omega_aiger.proofs.Proper.{is_byte}
use Rattle.omega_aiger.proofs.Splits.{Free}
use Rattle.omega_text.specs.Bytes.{is_digit}
use Rattle.omega_text.specs.declared.refusal.Refusal.{Refusal}
use Rattle.omega_text.specs.declared.refusal.Refusal.TheVariants.{Automaton, Circuit, Game, Io, Memory, Task, Text}
use Rattle.omega_text.specs.declared.refusal.text.TextFault.TheVariants.{Number, Syntax}

-- reading that goes on and then stops has stopped
pub stops_after : (text : List ℕ) (from to : ℕ) (layout next : Layout) → GoesOn text from layout to next → (refusal : Refusal) → Stops text to next refusal → Stops text from layout refusal
stops_after text from to layout next goes (Text fault) stops = goes ∙ stops
stops_after text from to layout next goes (Game fault) stops = stops
stops_after text from to layout next goes (Automaton fault) stops = stops
stops_after text from to layout next goes (Task fault) stops = stops
stops_after text from to layout next goes Memory stops = tt
stops_after text from to layout next goes Io stops = stops
stops_after text from to layout next goes (Circuit fault) stops = stops

pub stops_fails : (text : List ℕ) (from : ℕ) (layout : Layout) (refusal : Refusal) → Stops text from layout refusal → Fails text from layout refusal
stops_fails text from layout (Text fault) stops = stops
stops_fails text from layout (Game fault) stops = stops
stops_fails text from layout (Automaton fault) stops = stops
stops_fails text from layout (Task fault) stops = stops
stops_fails text from layout Memory stops = tt
stops_fails text from layout Io stops = stops
stops_fails text from layout (Circuit fault) stops = absurd stops

pub fails_after : (text : List ℕ) (from to : ℕ) (layout next : Layout) → GoesOn text from layout to next → (refusal : Refusal) → Fails text to next refusal → Fails text from layout refusal
fails_after text from to layout next goes (Text fault) fails = goes ∙ fails
fails_after text from to layout next goes (Game fault) fails = fails
fails_after text from to layout next goes (Automaton fault) fails = fails
fails_after text from to layout next goes (Task fault) fails = fails
fails_after text from to layout next goes Memory fails = tt
fails_after text from to layout next goes Io fails = fails
fails_after text from to layout next goes (Circuit fault) fails = (fails.0, goes ∙ fails.1, fails.2)

-- the byte at a place
pub byte_there : (text : List ℕ) (at b : ℕ) → at < length text → get_or text at 0 ≡ b → drop at text ≡ b ∷ drop (at + 1) text
byte_there text at b within is = drop_more text at 0 within ∙ ap (λ x. x ∷ drop (at + 1) text) is

-- no such byte at a place
pub byte_absent : (text : List ℕ) (at b : ℕ) → (at < length text → get_or text at 0 ≡ b → ⊥) → Free (is_byte b) (drop at text)
byte_absent text at b none = go (cases_lt at (length text))
  where
    go : (at < length text) ⊎ (length text ≤ at) → Free (is_byte b) (drop at text)
    go (inl within) = subst (Free (is_byte b)) (sym (drop_more text at 0 within)) (ne_eqb (get_or text at 0) b (none within))
    go (inr past) = subst (Free (is_byte b)) (sym (drop_all at text past)) tt

pub step_byte : (text : List ℕ) (at b : ℕ) → at < length text → get_or text at 0 ≡ b → (next : Layout) → GoesOn text at (byte b next) (at + 1) next
step_byte text at b within is next = ap (outcome (byte b next) at) (byte_there text at b within is) ∙ byte_takes b next at (drop (at + 1) text)

pub no_byte_there : (text : List ℕ) (at b : ℕ) → (at < length text → get_or text at 0 ≡ b → ⊥) → (next : Layout) → outcome (byte b next) at (drop at text) ≡ Err (Syntax at)
no_byte_there text at b none next = byte_refuses b next at (drop at text) (byte_absent text at b none)

pub step_first : (text : List ℕ) (at b : ℕ) → at < length text → get_or text at 0 ≡ b → (first other : Layout) → GoesOn text at (either b first other) (at + 1) first
step_first text at b within is first other = ap (outcome (either b first other) at) (byte_there text at b within is) ∙ either_takes b first other at (drop (at + 1) text)

pub step_other : (text : List ℕ) (at b : ℕ) → (at < length text → get_or text at 0 ≡ b → ⊥) → (first other : Layout) → GoesOn text at (either b first other) at other
step_other text at b none first other = either_skips b first other at (drop at text) (byte_absent text at b none)

-- digits at a place
module _ (text : List ℕ) (at count : ℕ) (is_count : count ≡ prefix_len is_digit (drop at text)) where
  pub step_number : (digits : List ℕ) (value : ℕ) → digits ≡ take count (drop at text) → 0 < count → is_number digits ≡ true → value ≡ digits_value 10 digits
      → (next : ℕ → Layout) → GoesOn text at (number next) (at + count) (next value)
  step_number digits value are some is is_value next =
      let same : digits ≡ take (prefix_len is_digit (drop at text)) (drop at text) = are ∙ ap (λ n. take n (drop at text)) is_count in
      number_taken next at (drop at text) (omega (arith, is_count, some)) (ap is_number (sym same) ∙ is)
      ∙ ap (λ v. outcome (next v) (at + prefix_len is_digit (drop at text)) (drop (prefix_len is_digit (drop at text)) (drop at text))) (ap (digits_value 10) (sym same) ∙ sym is_value)
      ∙ ap (λ n. outcome (next value) (at + n) (drop n (drop at text))) (sym is_count)
      ∙ ap (outcome (next value) (at + count)) (drop-drop count at text)

  pub no_number_there : count ≡ 0 → (next : ℕ → Layout) → outcome (number next) at (drop at text) ≡ Err (Syntax at)
  no_number_there none next = number_missing next at (drop at text) (omega (arith, is_count, none))

  pub bad_number_there : (digits : List ℕ) → digits ≡ take count (drop at text) → 0 < count → is_number digits ≡ false → (next : ℕ → Layout) → outcome (number next) at (drop at text) ≡ Err (Number at)
  bad_number_there digits are some is next =
      number_refused next at (drop at text) (omega (arith, is_count, some)) (ap is_number (sym (are ∙ ap (λ n. take n (drop at text)) is_count)) ∙ is)

-- a delta at a place
module _ (text : List ℕ) (at high : ℕ) (is_high_count : high ≡ prefix_len is_high (drop at text)) where
  pub step_delta : (bytes : List ℕ) (value end : ℕ) → bytes ≡ take (high + 1) (drop at text) → high < 5 → high < length (drop at text) → value ≡ delta_value bytes → value < 2 ^ 32
      → end ≡ at + high + 1 → (next : ℕ → Layout) → GoesOn text at (delta next) end (next value)
  step_delta bytes value end are short inside is small ends next =
      let same : bytes ≡ take (prefix_len is_high (drop at text) + 1) (drop at text) = are ∙ ap (λ n. take (n + 1) (drop at text)) is_high_count in
      let of_value : delta_value (take (prefix_len is_high (drop at text) + 1) (drop at text)) ≡ value = ap delta_value (sym same) ∙ sym is in
      delta_taken next at (drop at text) (omega (arith, is_high_count, short)) (omega (arith, is_high_count, inside)) (omega (arith, of_value, small))
      ∙ ap (λ v. outcome (next v) (at + (prefix_len is_high (drop at text) + 1)) (drop (prefix_len is_high (drop at text) + 1) (drop at text))) of_value
      ∙ ap (outcome (next value) (at + (prefix_len is_high (drop at text) + 1))) (drop-drop (prefix_len is_high (drop at text) + 1) at text)
      ∙ ap (λ n. outcome (next value) n (drop n text)) (omega (arith, is_high_count, ends))

  pub long_delta_there : 5 ≤ high → (next : ℕ → Layout) → outcome (delta next) at (drop at text) ≡ Err (Number at)
  long_delta_there long next = delta_long next at (drop at text) (omega (arith, is_high_count, long))

  pub cut_delta_there : high < 5 → length (drop at text) ≤ high → at ≤ length text → (next : ℕ → Layout) → outcome (delta next) at (drop at text) ≡ Err (Syntax (length text))
  cut_delta_there short end within next =
      delta_cut next at (drop at text) (omega (arith, is_high_count, short)) (omega (arith, is_high_count, end))
      ∙ ap (λ n. Err (Syntax n)) (let e = length-drop at text in omega (arith, e, within))

  pub great_delta_there : (bytes : List ℕ) → bytes ≡ take (high + 1) (drop at text) → high < 5 → high < length (drop at text) → 2 ^ 32 ≤ delta_value bytes
      → (next : ℕ → Layout) → outcome (delta next) at (drop at text) ≡ Err (Number at)
  great_delta_there bytes are short inside great next =
      let same : delta_value bytes ≡ delta_value (take (prefix_len is_high (drop at text) + 1) (drop at text)) = ap delta_value (are ∙ ap (λ n. take (n + 1) (drop at text)) is_high_count) in
      delta_great next at (drop at text) (omega (arith, is_high_count, short)) (omega (arith, is_high_count, inside)) (omega (arith, same, great))

-- a line at a place
module _ (text : List ℕ) (at count : ℕ) (is_count : count ≡ prefix_len is_in_line (drop at text)) where
  pub step_line : (front : List ℕ) (end : ℕ) → front ≡ take count (drop at text) → count < length (drop at text) → end ≡ at + count + 1 → (next : List ℕ → Layout) → GoesOn text at (line next) end (next front)
  step_line front end are inside ends next =
      line_taken next at (drop at text) (omega (arith, is_count, inside))
      ∙ ap (λ (l : List ℕ). outcome (next l) (at + (prefix_len is_in_line (drop at text) + 1)) (drop (prefix_len is_in_line (drop at text) + 1) (drop at text)))
      (sym (are ∙ ap (λ n. take n (drop at text)) is_count))
      ∙ ap (outcome (next front) (at + (prefix_len is_in_line (drop at text) + 1))) (drop-drop (prefix_len is_in_line (drop at text) + 1) at text)
      ∙ ap (λ n. outcome (next front) n (drop n text)) (omega (arith, is_count, ends))

  pub cut_line_there : length (drop at text) ≤ count → at ≤ length text → (next : List ℕ → Layout) → outcome (line next) at (drop at text) ≡ Err (Syntax (length text))
  cut_line_there end within next =
      line_cut next at (drop at text) (omega (arith, is_count, end)) ∙ ap (λ n. Err (Syntax n)) (let e = length-drop at text in omega (arith, e, within))

-- what is said of what a call returns
pub ok_says : {A E : Type 0} (result : Result A E) (said wanted : A → Type 0) → ((value : A) → said value → wanted value) → IfOk result said → IfOk result wanted
ok_says (Ok value) said wanted follows is = follows value is
ok_says (Err error) said wanted follows is = is

pub err_says : {A E : Type 0} (result : Result A E) (said wanted : E → Type 0) → ((error : E) → said error → wanted error) → IfErr result said → IfErr result wanted
err_says (Ok value) said wanted follows is = is
err_says (Err error) said wanted follows is = follows error is
