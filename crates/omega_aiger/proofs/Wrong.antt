-- Reading ends with the fault of a number exactly where the text has none and one is due.
use Rattle.std.proofs.Common.{◌≡◌, inl, inr, ℕ, ◌+◌, List, [], ◌∷◌, length, Err, decimal, refl, sym, ap, ◌∙◌, arith}
use Rattle.omega_aiger.specs.Deltas.{delta_value}
use Rattle.omega_aiger.specs.Layout.{HasNoNumberAt, Layout, byte, delta, either, finish, line, number, rest}
use Rattle.omega_aiger.specs.private.Outcome.{outcome}
use Rattle.omega_aiger.proofs.Fronts.{DeltaFront, LineFront, NumberFront, a_delta, a_line, a_number, bad_delta, bad_number, cut_delta, cut_line, delta_bad, delta_ends, delta_found, delta_view, line_ends, line_found, line_front, no_digit, number_absent, number_bad, number_found, number_front}
use Rattle.omega_aiger.proofs.Outcomes.{ByteFront, a_byte, byte_front, byte_refuses, byte_takes, either_skips, either_takes, fault_alike, no_byte, no_number_syntax, not_both_ways, number_alike}
use Rattle.omega_aiger.proofs.Proper.{IsProper, avoids_free_wrong, is_byte}
use Rattle.omega_circuit.specs.declared.parts.CircuitParts.{CircuitParts}
use Rattle.omega_text.specs.Bytes.{is_digit}
use Rattle.omega_text.specs.declared.refusal.text.TextFault.TheVariants.{Number, Syntax}

-- from a place on, a number is due and none is there
pub record IsBad (layout : Layout) (at : ℕ) (text : List ℕ) (place : ℕ) : Type 0 where
  pub p : ℕ
  pub there : place ≡ at + p
  pub bad : HasNoNumberAt layout text p

abbrev IsTold : Layout → Type 0
IsTold layout = (at : ℕ) (text : List ℕ) (place : ℕ) → outcome layout at text ≡ Err (Number place) → IsBad layout at text place

told_finish : (parts : CircuitParts) → IsTold (finish parts)
told_finish parts at [] place is = not_both_ways (outcome (finish parts) at []) (Number place) parts is refl
told_finish parts at (c ∷ back) place is = no_number_syntax place at (fault_alike (outcome (finish parts) at (c ∷ back)) (Number place) (Syntax at) is refl)

told_byte : (b : ℕ) (next : Layout) → IsTold next → (at : ℕ) (text : List ℕ) (place : ℕ) → ByteFront b text → outcome (byte b next) at text ≡ Err (Number place)
    → IsBad (byte b next) at text place
told_byte b next further at text place (a_byte back first) is =
    let r : IsBad next (at + 1) back place = further (at + 1) back place (sym (ap (outcome (byte b next) at) first ∙ byte_takes b next at back) ∙ is) in
    record { p = 1 + r.p; there = let e = r.there in omega (arith, e); bad = (back, r.p, first, refl, r.bad) }
told_byte b next further at text place (no_byte free) is = no_number_syntax place at (fault_alike (outcome (byte b next) at text) (Number place) (Syntax at) is (byte_refuses b next at text free))

told_either : (b : ℕ) (first other : Layout) → IsTold first → IsTold other → (at : ℕ) (text : List ℕ) (place : ℕ) → ByteFront b text
    → outcome (either b first other) at text ≡ Err (Number place) → IsBad (either b first other) at text place
told_either b first other one another at text place (a_byte back is_first) is =
    let r : IsBad first (at + 1) back place = one (at + 1) back place (sym (ap (outcome (either b first other) at) is_first ∙ either_takes b first other at back) ∙ is) in
    record { p = 1 + r.p; there = let e = r.there in omega (arith, e); bad = inl (back, r.p, is_first, refl, r.bad) }
told_either b first other one another at text place (no_byte free) is =
    let r : IsBad other at text place = another at text place (sym (either_skips b first other at text free) ∙ is) in
    record { p = r.p; there = r.there; bad = inr r.bad }

-- at this place
bad_here : (layout : Layout) (at : ℕ) (text : List ℕ) (place : ℕ) → outcome layout at text ≡ Err (Number place) → outcome layout at text ≡ Err (Number at) → HasNoNumberAt layout text 0
    → IsBad layout at text place
bad_here layout at text place is here bad =
    record { p = 0; there = let e = number_alike place at (fault_alike (outcome layout at text) (Number place) (Number at) is here) in omega (arith, e); bad = bad }

told_number : (next : ℕ → Layout) → ((n : ℕ) → IsTold (next n)) → (at : ℕ) (text : List ℕ) (place : ℕ) → NumberFront text → outcome (number next) at text ≡ Err (Number place)
    → IsBad (number next) at text place
told_number next further at text place (a_number n back small spelled free) is =
    let r : IsBad (next n) (at + length (decimal n)) back place =
    further n (at + length (decimal n)) back place (sym (ap (outcome (number next) at) spelled ∙ number_found next at n back small free) ∙ is) in
    record { p = length (decimal n) + r.p; there = let e = r.there in omega (arith, e); bad = inr (n, back, r.p, small, spelled, refl, r.bad) }
told_number next further at text place (no_digit free) is = no_number_syntax place at (fault_alike (outcome (number next) at text) (Number place) (Syntax at) is (number_absent next at text free))
told_number next further at text place (bad_number bad) is = bad_here (number next) at text place is (number_bad next at text bad) (inl (refl, bad))

told_delta : (next : ℕ → Layout) → ((n : ℕ) → IsTold (next n)) → (at : ℕ) (text : List ℕ) (place : ℕ) → DeltaFront text → outcome (delta next) at text ≡ Err (Number place)
    → IsBad (delta next) at text place
told_delta next further at text place (a_delta bytes back is_delta spelled) is =
    let r : IsBad (next (delta_value bytes)) (at + length bytes) back place =
    further (delta_value bytes) (at + length bytes) back place (sym (ap (outcome (delta next) at) spelled ∙ delta_found next at bytes back is_delta) ∙ is) in
    record { p = length bytes + r.p; there = let e = r.there in omega (arith, e); bad = inr (bytes, back, r.p, is_delta, spelled, refl, r.bad) }
told_delta next further at text place (cut_delta short all) is =
    no_number_syntax place (at + length text) (fault_alike (outcome (delta next) at text) (Number place) (Syntax (at + length text)) is (delta_ends next at text short all))
told_delta next further at text place (bad_delta bad) is = bad_here (delta next) at text place is (delta_bad next at text bad) (inl (refl, bad))

told_line : (next : List ℕ → Layout) → ((front : List ℕ) → IsTold (next front)) → (at : ℕ) (text : List ℕ) (place : ℕ) → LineFront text → outcome (line next) at text ≡ Err (Number place)
    → IsBad (line next) at text place
told_line next further at text place (a_line front back none spelled) is =
    let r : IsBad (next front) (at + (length front + 1)) back place =
    further front (at + (length front + 1)) back place (sym (ap (outcome (line next) at) spelled ∙ line_found next at front back none) ∙ is) in
    record { p = length front + (1 + r.p); there = let e = r.there in omega (arith, e); bad = (front, back, r.p, none, spelled, refl, r.bad) }
told_line next further at text place (cut_line none) is =
    no_number_syntax place (at + length text) (fault_alike (outcome (line next) at text) (Number place) (Syntax (at + length text)) is (line_ends next at text none))

pub told : (layout : Layout) (at : ℕ) (text : List ℕ) (place : ℕ) → outcome layout at text ≡ Err (Number place) → IsBad layout at text place
told (finish parts) at text place is = told_finish parts at text place is
told (rest parts) at text place is = not_both_ways (outcome (rest parts) at text) (Number place) parts is refl
told (byte b next) at text place is = told_byte b next (told next) at text place (byte_front b text) is
told (either b first other) at text place is = told_either b first other (told first) (told other) at text place (byte_front b text) is
told (number next) at text place is = told_number next (λ n. told (next n)) at text place (number_front text) is
told (delta next) at text place is = told_delta next (λ n. told (next n)) at text place (delta_view text) is
told (line next) at text place is = told_line next (λ front. told (next front)) at text place (line_front text) is

-- the other way round
pub bad_told : (layout : Layout) → IsProper layout → (text : List ℕ) (p : ℕ) → HasNoNumberAt layout text p → (at place : ℕ) → place ≡ at + p → outcome layout at text ≡ Err (Number place)
bad_told (finish parts) proper text p bad at place there = absurd bad
bad_told (rest parts) proper text p bad at place there = absurd bad
bad_told (byte b next) proper text p bad at place there =
    ap (outcome (byte b next) at) bad.2 ∙ byte_takes b next at bad.0 ∙ bad_told next proper bad.0 bad.1 bad.4 (at + 1) place (let e = bad.3 in omega (arith, e, there))
bad_told (either b first other) proper text p (inl bad) at place there =
    ap (outcome (either b first other) at) bad.2 ∙ either_takes b first other at bad.0 ∙ bad_told first proper.0 bad.0 bad.1 bad.4 (at + 1) place (let e = bad.3 in omega (arith, e, there))
bad_told (either b first other) proper text p (inr bad) at place there =
    either_skips b first other at text (avoids_free_wrong (is_byte b) other proper.2 text p bad) ∙ bad_told other proper.1 text p bad at place there
bad_told (number next) proper text p (inl bad) at place there =
    number_bad next at text bad.1 ∙ ap (λ n. Err (Number n)) (let e = bad.0 in omega (arith, e, there))
bad_told (number next) proper text p (inr bad) at place there =
    ap (outcome (number next) at) bad.4
    ∙ number_found next at bad.0 bad.1 bad.3 (avoids_free_wrong is_digit (next bad.0) (proper bad.0).1 bad.1 bad.2 bad.6)
    ∙ bad_told (next bad.0) (proper bad.0).0 bad.1 bad.2 bad.6 (at + length (decimal bad.0)) place (let e = bad.5 in omega (arith, e, there))
bad_told (delta next) proper text p (inl bad) at place there =
    delta_bad next at text bad.1 ∙ ap (λ n. Err (Number n)) (let e = bad.0 in omega (arith, e, there))
bad_told (delta next) proper text p (inr bad) at place there =
    ap (outcome (delta next) at) bad.4
    ∙ delta_found next at bad.0 bad.1 bad.3
    ∙ bad_told (next (delta_value bad.0)) (proper (delta_value bad.0)) bad.1 bad.2 bad.6 (at + length bad.0) place (let e = bad.5 in omega (arith, e, there))
bad_told (line next) proper text p bad at place there =
    ap (outcome (line next) at) bad.4
    ∙ line_found next at bad.0 bad.1 bad.3
    ∙ bad_told (next bad.0) (proper bad.0) bad.1 bad.2 bad.6 (at + (length bad.0 + 1)) place (let e = bad.5 in omega (arith, e, there))
