-- Texts of circuits: what reading makes of them, and that it is one.
use Rattle.std.proofs.Common.{◌≡◌, ⊎_elim, ℕ, ◌+◌, ◌<◌, ◌≤◌, ◌==◌, ◌^◌, Bool, true, false, cond, List, [], ◌∷◌, ◌++◌, length, get_or, take, drop, Result, Ok, Err, refl, sym, ap, ◌∙◌, subst, arith, append_assoc, length-append}
use Rattle.std.specs.Prelude.{nat_le, nat_lt}
use Rattle.std.specs.List.{prefix_len}
use Rattle.std.specs.Str.Parse.{digits_value}
use Rattle.std.proofs.lemmas.Bool.{cases_lt}
use Rattle.std.proofs.lemmas.List.{drop_at, drop_more, take-append-drop, take-take, take_at, take_more}
use Rattle.omega_aiger.specs.Deltas.{delta_front, delta_value, is_high}
use Rattle.omega_aiger.specs.Forms.{circuit_layout}
use Rattle.omega_aiger.specs.Laws.{CircuitRefusalsAreOne, CircuitsAreNotRefused, CircuitsOfTextsAreOne}
use Rattle.omega_aiger.specs.Layout.{HasNoNumberAt, IsWrongAt, Layout, Spells, byte, delta, either, finish, line, number, rest}
use Rattle.omega_aiger.specs.Text.{HasCircuitFault, IsBytesFault, IsPartsText, IsReadCircuitRefusal}
use Rattle.omega_aiger.specs.private.Outcome.{Fails, is_in_line, is_number, outcome}
use Rattle.omega_aiger.proofs.Circuits.{circuit_proper}
use Rattle.omega_aiger.proofs.Outcomes.{IsStopped, complete, made_alike, no_number_syntax, not_both_ways, fault_alike, sound, stops}
use Rattle.omega_aiger.proofs.Wrong.{bad_told, told}
use Rattle.omega_circuit.specs.Faults.{IsCircuitOf, IsFirstFault, value_of}
use Rattle.omega_circuit.specs.declared.parts.CircuitParts.{CircuitParts}
use Rattle.omega_circuit.proofs.FirstFaults.{judged}
use Rattle.omega_text.specs.Bytes.{is_digit}
use Rattle.omega_text.specs.Limits.{most_text}
use Rattle.omega_text.specs.declared.refusal.Refusal.{Refusal}
use Rattle.omega_text.specs.declared.refusal.Refusal.TheVariants.{Automaton, Circuit, Game, Io, Memory, Task, Text}
use Rattle.omega_text.specs.declared.refusal.circuit.CircuitFault.{CircuitFault}
use Rattle.omega_text.specs.declared.refusal.text.TextFault.{TextFault}
use Rattle.omega_text.specs.declared.refusal.text.TextFault.TheVariants.{Lex, Number, Syntax, TooLong}

-- reading makes parts or ends with 2 or 3
abbrev IsPlain : Result CircuitParts TextFault → Type 0
IsPlain (Ok made) = Unit {0}
IsPlain (Err (Lex at)) = ⊥
IsPlain (Err (Number at)) = Unit {0}
IsPlain (Err (Syntax at)) = Unit {0}
IsPlain (Err TooLong) = ⊥

plain_choice : (b : Bool) (one other : Result CircuitParts TextFault) → IsPlain one → IsPlain other → IsPlain (cond b one other)
plain_choice true one other first second = first
plain_choice false one other first second = second

plain : (layout : Layout) (at : ℕ) (text : List ℕ) → IsPlain (outcome layout at text)
plain (finish parts) at [] = tt
plain (finish parts) at (b ∷ back) = tt
plain (rest parts) at text = tt
plain (byte b next) at [] = tt
plain (byte b next) at (c ∷ back) = plain_choice (c == b) (outcome next (at + 1) back) (Err (Syntax at)) (plain next (at + 1) back) tt
plain (either b first other) at [] = plain other at []
plain (either b first other) at (c ∷ back) =
    plain_choice (c == b) (outcome first (at + 1) back) (outcome other at (c ∷ back)) (plain first (at + 1) back) (plain other at (c ∷ back))
plain (number next) at text =
    plain_choice (prefix_len is_digit text == 0) (Err (Syntax at)) _ tt
    (plain_choice (is_number (take (prefix_len is_digit text) text)) _ (Err (Number at))
    (plain (next (digits_value 10 (take (prefix_len is_digit text) text))) (at + prefix_len is_digit text) (drop (prefix_len is_digit text) text)) tt)
plain (delta next) at text =
    plain_choice (nat_le 5 (prefix_len is_high text)) (Err (Number at)) _ tt
    (plain_choice (nat_le (length text) (prefix_len is_high text)) (Err (Syntax (at + length text))) _ tt
    (plain_choice (nat_lt (delta_value (delta_front text)) (2 ^ 32)) _ (Err (Number at))
    (plain (next (delta_value (delta_front text))) (at + (prefix_len is_high text + 1)) (drop (prefix_len is_high text + 1) text)) tt))
plain (line next) at text =
    plain_choice (nat_le (length text) (prefix_len is_in_line text)) (Err (Syntax (at + length text))) _ tt
    (plain (next (take (prefix_len is_in_line text) text)) (at + (prefix_len is_in_line text + 1)) (drop (prefix_len is_in_line text + 1) text))

-- what is read is what the text says
pub read_parts_say : (text : List ℕ) (parts : CircuitParts) → length text ≤ most_text → outcome circuit_layout 0 text ≡ Ok parts → IsPartsText text parts
read_parts_say text parts short is = record { short = short; spells = sound circuit_layout 0 text parts is }

-- and the other way round
parts_are_read : (text : List ℕ) (parts : CircuitParts) → IsPartsText text parts → outcome circuit_layout 0 text ≡ Ok parts
parts_are_read text parts says = complete circuit_layout circuit_proper 0 text parts says.spells

-- where reading stops no text goes on
wrong_at : (text : List ℕ) (at : ℕ) → outcome circuit_layout 0 text ≡ Err (Syntax at) → IsWrongAt circuit_layout text at
wrong_at text at is =
    let r : IsStopped circuit_layout 0 text at = stops circuit_layout 0 text at is in
    record {
      front = r.front;
      back = r.back;
      split = r.split;
      there = let e = r.there in omega (arith, e);
      begins = r.begins;
      ends = λ b more is_next more_begins.
          not_both_ways (outcome circuit_layout 0 (r.front ++ b ∷ more_begins.0)) (Syntax at) more_begins.1 (r.ends b more more_begins.0 is_next)
          (ap (outcome circuit_layout 0) (sym (append_assoc r.front (b ∷ []) more_begins.0))
          ∙ complete circuit_layout circuit_proper 0 ((r.front ++ b ∷ []) ++ more_begins.0) more_begins.1 more_begins.2);
      none = λ made spells. not_both_ways (outcome circuit_layout 0 text) (Syntax at) made is (complete circuit_layout circuit_proper 0 text made spells);
    }

bad_is_read : (text : List ℕ) (p : ℕ) → HasNoNumberAt circuit_layout text p → outcome circuit_layout 0 text ≡ Err (Number p)
bad_is_read text p bad = bad_told circuit_layout circuit_proper text p bad 0 p (omega arith)

-- the fault that reading ends with is that of the bytes
pub read_fault_is : (text : List ℕ) (fault : TextFault) → length text ≤ most_text → outcome circuit_layout 0 text ≡ Err fault → IsBytesFault text fault
read_fault_is text (Lex at) short is = subst IsPlain is (plain circuit_layout 0 text)
read_fault_is text (Number at) short is = let r = told circuit_layout 0 text at is in (short, subst (HasNoNumberAt circuit_layout text) (let e = r.there in let p = r.p in omega (arith, e)) r.bad)
read_fault_is text (Syntax at) short is = (
  short,
  wrong_at text at is,
  λ p bad. no_number_syntax p at (fault_alike (outcome circuit_layout 0 text) (Number p) (Syntax at) (bad_is_read text p bad) is),
)
read_fault_is text TooLong short is = absurd (subst IsPlain is (plain circuit_layout 0 text))

-- a text says at most one circuit
pub one_circuit : CircuitsOfTextsAreOne
one_circuit text one other first second =
    first.makes.same
    ∙ ap value_of (made_alike (outcome circuit_layout 0 text) first.parts second.parts (parts_are_read text first.parts first.says) (parts_are_read text second.parts second.says))
    ∙ sym second.makes.same

-- a fault of bytes and parts exclude each other
no_fault : {X : Type 0} (text : List ℕ) (parts : CircuitParts) (fault : TextFault) → IsPartsText text parts → IsBytesFault text fault → X
no_fault text parts (Lex at) says bad = absurd bad
no_fault text parts (Number at) says bad = not_both_ways (outcome circuit_layout 0 text) (Number at) parts (bad_is_read text at bad.1) (parts_are_read text parts says)
no_fault text parts (Syntax at) says bad = absurd (bad.1.none parts says.spells)
no_fault text parts TooLong says bad = absurd (let e = says.short in omega (arith, e, bad))

pub not_refused : CircuitsAreNotRefused
not_refused text c (Text fault) says refused = no_fault text says.parts fault says.says refused
not_refused text c (Circuit fault) says refused =
    (judged refused.parts).apart fault c refused.first
    (subst (λ (parts : CircuitParts). IsCircuitOf parts c)
    (made_alike (outcome circuit_layout 0 text) says.parts refused.parts (parts_are_read text says.parts says.says) (parts_are_read text refused.parts refused.says)) says.makes)
not_refused text c (Game fault) says refused = refused
not_refused text c (Automaton fault) says refused = refused
not_refused text c (Task fault) says refused = refused
not_refused text c Memory says refused = refused
not_refused text c Io says refused = refused

-- of two places at which no text goes on none is before the other
not_before : (layout : Layout) (text : List ℕ) (one other : ℕ) → IsWrongAt layout text one → IsWrongAt layout text other → one < other → ⊥
not_before layout text one other first second before =
    first.ends (get_or text n 0) (drop (n + 1) text) next
    (drop (n + 1) second.front ++ second.begins.0, second.begins.1, subst (λ (l : List ℕ). Spells layout l second.begins.1) longer second.begins.2)
  where
    n : ℕ
    n = length first.front

    long : length text ≡ length second.front + length second.back
    long = ap length second.split ∙ length-append second.front second.back

    inside : length first.front < length text
    inside = let e = long in let a = first.there in let b = second.there in omega (arith, e, a, b, before)

    next : first.back ≡ get_or text (length first.front) 0 ∷ drop (length first.front + 1) text
    next = sym (drop_at first.front first.back (length first.front) refl) ∙ ap (drop (length first.front)) (sym first.split) ∙ drop_more text (length first.front) 0 inside

    same : take (length first.front + 1) second.front ≡ first.front ++ get_or text (length first.front) 0 ∷ []
    same =
        ap (take (length first.front + 1)) (sym (take_at second.front second.back (length second.front) refl) ∙ ap (take (length second.front)) (sym second.split))
        ∙ take-take (length first.front + 1) (length second.front) text (let a = first.there in let b = second.there in omega (arith, a, b, before))
        ∙ take_more text (length first.front) 0 inside
        ∙ ap (λ (l : List ℕ). l ++ get_or text (length first.front) 0 ∷ []) (ap (take (length first.front)) first.split ∙ take_at first.front first.back (length first.front) refl)

    longer : second.front ++ second.begins.0 ≡ (first.front ++ get_or text (length first.front) 0 ∷ []) ++ (drop (length first.front + 1) second.front ++ second.begins.0)
    longer =
        ap (λ (l : List ℕ). l ++ second.begins.0) (sym (take-append-drop (length first.front + 1) second.front) ∙ ap (λ (l : List ℕ). l ++ drop (length first.front + 1) second.front) same)
        ∙ append_assoc (first.front ++ get_or text (length first.front) 0 ∷ []) (drop (length first.front + 1) second.front) second.begins.0

one_place : (layout : Layout) (text : List ℕ) (one other : ℕ) → IsWrongAt layout text one → IsWrongAt layout text other → one ≡ other
one_place layout text one other first second =
    ⊎_elim (λ before. absurd (not_before layout text one other first second before))
    (λ past. ⊎_elim (λ before. absurd (not_before layout text other one second first before)) (λ also. omega (arith, past, also)) (cases_lt other one))
    (cases_lt one other)

one_fault : (text : List ℕ) (one other : TextFault) → IsBytesFault text one → IsBytesFault text other → one ≡ other
one_fault text (Lex at) other first second = absurd first
one_fault text (Number at) (Lex p) first second = absurd second
one_fault text (Number at) (Number p) first second = fault_alike (outcome circuit_layout 0 text) (Number at) (Number p) (bad_is_read text at first.1) (bad_is_read text p second.1)
one_fault text (Number at) (Syntax p) first second = absurd (second.2 at first.1)
one_fault text (Number at) TooLong first second = absurd (omega (arith, first.0, second))
one_fault text (Syntax at) (Lex p) first second = absurd second
one_fault text (Syntax at) (Number p) first second = absurd (first.2 p second.1)
one_fault text (Syntax at) (Syntax p) first second = ap (λ n. Syntax n) (one_place circuit_layout text at p first.1 second.1)
one_fault text (Syntax at) TooLong first second = absurd (omega (arith, first.0, second))
one_fault text TooLong (Lex p) first second = absurd second
one_fault text TooLong (Number p) first second = absurd (omega (arith, second.0, first))
one_fault text TooLong (Syntax p) first second = absurd (omega (arith, second.0, first))
one_fault text TooLong TooLong first second = refl

one_circuit_fault : (text : List ℕ) (one other : CircuitFault) → HasCircuitFault text one → HasCircuitFault text other → one ≡ other
one_circuit_fault text one other first second =
    (judged second.parts).one one other
    (subst (λ (parts : CircuitParts). IsFirstFault parts one)
    (made_alike (outcome circuit_layout 0 text) first.parts second.parts (parts_are_read text first.parts first.says) (parts_are_read text second.parts second.says)) first.first)
    second.first

pub one_refusal : CircuitRefusalsAreOne
one_refusal text (Text fault) (Text other) first second = ap (λ (f : TextFault). Text f) (one_fault text fault other first second)
one_refusal text (Text fault) (Circuit other) first second = no_fault text second.parts fault second.says first
one_refusal text (Circuit fault) (Text other) first second = no_fault text first.parts other first.says second
one_refusal text (Circuit fault) (Circuit other) first second = ap (λ (f : CircuitFault). Circuit f) (one_circuit_fault text fault other first second)
one_refusal text (Text fault) (Game other) first second = absurd second
one_refusal text (Text fault) (Automaton other) first second = absurd second
one_refusal text (Text fault) (Task other) first second = absurd second
one_refusal text (Text fault) Memory first second = absurd second
one_refusal text (Text fault) Io first second = absurd second
one_refusal text (Circuit fault) (Game other) first second = absurd second
one_refusal text (Circuit fault) (Automaton other) first second = absurd second
one_refusal text (Circuit fault) (Task other) first second = absurd second
one_refusal text (Circuit fault) Memory first second = absurd second
one_refusal text (Circuit fault) Io first second = absurd second
one_refusal text (Game fault) other first second = absurd first
one_refusal text (Automaton fault) other first second = absurd first
one_refusal text (Task fault) other first second = absurd first
one_refusal text Memory other first second = absurd first
one_refusal text Io other first second = absurd first

-- the refusal of a call that read parts
pub failed_is_refused : (text : List ℕ) (refusal : Refusal) → length text ≤ most_text → Fails text 0 circuit_layout refusal → IsReadCircuitRefusal text refusal
failed_is_refused text (Text fault) short is = read_fault_is text fault short is
failed_is_refused text (Circuit fault) short is = record { parts = is.0; says = read_parts_say text is.0 short is.1; first = is.2 }
failed_is_refused text (Game fault) short is = is
failed_is_refused text (Automaton fault) short is = is
failed_is_refused text (Task fault) short is = is
failed_is_refused text Memory short is = tt
failed_is_refused text Io short is = is
