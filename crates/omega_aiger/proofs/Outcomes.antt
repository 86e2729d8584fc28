-- What reading along a layout makes is what the text spells, and where reading stops no text goes on.
use Rattle.std.proofs.Common.{◌≡◌, inl, inr, ⊎_elim, ℕ, zero, suc, ◌+◌, ◌<◌, ◌≤◌, ◌==◌, ◌^◌, Bool, List, [], ◌∷◌, ◌++◌, length, Result, Ok, Err, decimal, refl, sym, ap, ◌∙◌, subst, arith, append_assoc, length-append}
use Rattle.std.specs.List.{Contains, prefix_len}
use Rattle.std.proofs.Math.Nat.{pow-suc}
use Rattle.std.proofs.lemmas.Bool.{eq-eqb, eqb-true}
use Rattle.std.proofs.lemmas.List.{append-nil}
use Rattle.std.proofs.lemmas.List.Folds.{prefix_len-append}
use Rattle.omega_aiger.specs.Deltas.{IsDelta, delta_value, is_high}
use Rattle.omega_aiger.specs.Layout.{Begins, Layout, Spells, byte, delta, either, finish, line, number, rest}
use Rattle.omega_aiger.specs.private.Outcome.{outcome}
use Rattle.omega_aiger.proofs.Splits.{Free, no, tells, yes}
use Rattle.omega_aiger.proofs.Fronts.{DeltaFront, LineFront, NumberFront, a_delta, a_line, a_number, bad_delta, bad_number, cut_delta, cut_line, delta_bad, delta_ends, delta_found, delta_view, line_ends, line_found, line_front, no_digit, number_absent, number_bad, number_found, number_front}
use Rattle.omega_aiger.proofs.Proper.{IsProper, avoids_free, is_byte}
use Rattle.omega_circuit.specs.declared.parts.CircuitParts.{CircuitParts}
use Rattle.omega_text.specs.Bytes.{is_digit}
use Rattle.omega_text.specs.declared.refusal.text.TextFault.{TextFault}
use Rattle.omega_text.specs.declared.refusal.text.TextFault.TheVariants.{Number, Syntax}

-- reading makes parts or ends with a fault, and only one of each
pub not_both_ways : {X : Type 0} (r : Result CircuitParts TextFault) (fault : TextFault) (made : CircuitParts) → r ≡ Err fault → r ≡ Ok made → X
not_both_ways r fault made one other = absurd (let e = sym one ∙ other in cc)

pub made_alike : (r : Result CircuitParts TextFault) (one other : CircuitParts) → r ≡ Ok one → r ≡ Ok other → one ≡ other
made_alike r one other first second = let e = sym first ∙ second in cc

pub fault_alike : (r : Result CircuitParts TextFault) (one other : TextFault) → r ≡ Err one → r ≡ Err other → one ≡ other
fault_alike r one other first second = let e = sym first ∙ second in cc

pub place_alike : (one other : ℕ) → Syntax one ≡ Syntax other → one ≡ other
place_alike one other same = cc

pub number_alike : (one other : ℕ) → Number one ≡ Number other → one ≡ other
number_alike one other same = cc

pub no_number_syntax : {X : Type 0} (one other : ℕ) → Number one ≡ Syntax other → X
no_number_syntax one other same = absurd (cc)

-- the shortest delta
zero_delta : IsDelta (0 ∷ [])
zero_delta = record { high = refl; short = omega arith; small = omega arith }

none_in_nothing : Contains {X = ℕ} [] 10 → ⊥
none_in_nothing there = omega (arith, there.1)

-- each layout has a text
pub some_text : (layout : Layout) → (text : List ℕ) × (made : CircuitParts) × Spells layout text made
some_text (finish parts) = ([], parts, (refl, refl))
some_text (rest parts) = ([], parts, refl)
some_text (byte b next) = let s = some_text next in (b ∷ s.0, s.1, (s.0, refl, s.2))
some_text (either b first other) = let s = some_text other in (s.0, s.1, inr s.2)
some_text (number next) = let s = some_text (next 0) in (decimal 0 ++ s.0, s.1, (0, s.0, omega arith, refl, s.2))
some_text (delta next) = let s = some_text (next (delta_value (0 ∷ []))) in ((0 ∷ []) ++ s.0, s.1, (0 ∷ [], s.0, zero_delta, refl, s.2))
some_text (line next) = let s = some_text (next []) in ([] ++ 10 ∷ s.0, s.1, ([], s.0, none_in_nothing, refl, s.2))

-- where the byte of a choice isn't next, the other layout is read
pub either_skips : (b : ℕ) (first other : Layout) (at : ℕ) (text : List ℕ) → Free (is_byte b) text → outcome (either b first other) at text ≡ outcome other at text
either_skips b first other at [] free = refl
either_skips b first other at (c ∷ back) free = no (c == b) (outcome first (at + 1) back) (outcome other at (c ∷ back)) free

pub either_takes : (b : ℕ) (first other : Layout) (at : ℕ) (back : List ℕ) → outcome (either b first other) at (b ∷ back) ≡ outcome first (at + 1) back
either_takes b first other at back = yes (b == b) (outcome first (at + 1) back) (outcome other at (b ∷ back)) (eq-eqb b b refl)

pub byte_takes : (b : ℕ) (next : Layout) (at : ℕ) (back : List ℕ) → outcome (byte b next) at (b ∷ back) ≡ outcome next (at + 1) back
byte_takes b next at back = yes (b == b) (outcome next (at + 1) back) (Err (Syntax at)) (eq-eqb b b refl)

pub byte_refuses : (b : ℕ) (next : Layout) (at : ℕ) (text : List ℕ) → Free (is_byte b) text → outcome (byte b next) at text ≡ Err (Syntax at)
byte_refuses b next at [] free = refl
byte_refuses b next at (c ∷ back) free = no (c == b) (outcome next (at + 1) back) (Err (Syntax at)) free

-- a text begins with a byte or not
pub data ByteFront (b : ℕ) (text : List ℕ) : Type 0 where
  a_byte : (back : List ℕ) → text ≡ b ∷ back → ByteFront b text
  no_byte : Free (is_byte b) text → ByteFront b text

pub byte_front : (b : ℕ) (text : List ℕ) → ByteFront b text
byte_front b [] = no_byte tt
byte_front b (c ∷ back) = ⊎_elim (λ same. a_byte back (ap (λ x. x ∷ back) (eqb-true c b same))) (λ apart. no_byte apart) (tells (c == b))

-- what a text spells is made of it
pub complete : (layout : Layout) → IsProper layout → (at : ℕ) (text : List ℕ) (made : CircuitParts) → Spells layout text made → outcome layout at text ≡ Ok made
complete (finish parts) proper at text made is = ap (outcome (finish parts) at) is.0 ∙ ap (λ (p : CircuitParts). Ok p) is.1
complete (rest parts) proper at text made is = ap (λ (p : CircuitParts). Ok p) is
complete (byte b next) proper at text made is = ap (outcome (byte b next) at) is.1 ∙ byte_takes b next at is.0 ∙ complete next proper (at + 1) is.0 made is.2
complete (either b first other) proper at text made (inl is) =
    ap (outcome (either b first other) at) is.1 ∙ either_takes b first other at is.0 ∙ complete first proper.0 (at + 1) is.0 made is.2
complete (either b first other) proper at text made (inr is) =
    either_skips b first other at text (avoids_free (is_byte b) other proper.2 text made is) ∙ complete other proper.1 at text made is
complete (number next) proper at text made is =
    ap (outcome (number next) at) is.3
    ∙ number_found next at is.0 is.1 is.2 (avoids_free is_digit (next is.0) (proper is.0).1 is.1 made is.4)
    ∙ complete (next is.0) (proper is.0).0 (at + length (decimal is.0)) is.1 made is.4
complete (delta next) proper at text made is =
    ap (outcome (delta next) at) is.3 ∙ delta_found next at is.0 is.1 is.2 ∙ complete (next (delta_value is.0)) (proper (delta_value is.0)) (at + length is.0) is.1 made is.4
complete (line next) proper at text made is =
    ap (outcome (line next) at) is.3 ∙ line_found next at is.0 is.1 is.2 ∙ complete (next is.0) (proper is.0) (at + (length is.0 + 1)) is.1 made is.4

-- what is made of a text it spells
abbrev IsSound : Layout → Type 0
IsSound layout = (at : ℕ) (text : List ℕ) (made : CircuitParts) → outcome layout at text ≡ Ok made → Spells layout text made

sound_finish : (parts : CircuitParts) → IsSound (finish parts)
sound_finish parts at [] made is = (refl, made_alike (Ok parts) parts made refl is)
sound_finish parts at (b ∷ back) made is = not_both_ways (outcome (finish parts) at (b ∷ back)) (Syntax at) made refl is

sound_byte : (b : ℕ) (next : Layout) → IsSound next → (at : ℕ) (text : List ℕ) (made : CircuitParts) → ByteFront b text → outcome (byte b next) at text ≡ Ok made
    → Spells (byte b next) text made
sound_byte b next further at text made (a_byte back is) ok =
    (back, is, further (at + 1) back made (sym (ap (outcome (byte b next) at) is ∙ byte_takes b next at back) ∙ ok))
sound_byte b next further at text made (no_byte free) ok = not_both_ways (outcome (byte b next) at text) (Syntax at) made (byte_refuses b next at text free) ok

sound_either : (b : ℕ) (first other : Layout) → IsSound first → IsSound other → (at : ℕ) (text : List ℕ) (made : CircuitParts) → ByteFront b text
    → outcome (either b first other) at text ≡ Ok made → Spells (either b first other) text made
sound_either b first other one another at text made (a_byte back is) ok =
    inl (back, is, one (at + 1) back made (sym (ap (outcome (either b first other) at) is ∙ either_takes b first other at back) ∙ ok))
sound_either b first other one another at text made (no_byte free) ok = inr (another at text made (sym (either_skips b first other at text free) ∙ ok))

sound_number : (next : ℕ → Layout) → ((n : ℕ) → IsSound (next n)) → (at : ℕ) (text : List ℕ) (made : CircuitParts) → NumberFront text → outcome (number next) at text ≡ Ok made
    → Spells (number next) text made
sound_number next further at text made (a_number n back small is free) ok =
    (n, back, small, is, further n (at + length (decimal n)) back made (sym (ap (outcome (number next) at) is ∙ number_found next at n back small free) ∙ ok))
sound_number next further at text made (no_digit free) ok = not_both_ways (outcome (number next) at text) (Syntax at) made (number_absent next at text free) ok
sound_number next further at text made (bad_number bad) ok = not_both_ways (outcome (number next) at text) (Number at) made (number_bad next at text bad) ok

sound_delta : (next : ℕ → Layout) → ((n : ℕ) → IsSound (next n)) → (at : ℕ) (text : List ℕ) (made : CircuitParts) → DeltaFront text → outcome (delta next) at text ≡ Ok made
    → Spells (delta next) text made
sound_delta next further at text made (a_delta bytes back is_delta is) ok =
    (bytes, back, is_delta, is, further (delta_value bytes) (at + length bytes) back made (sym (ap (outcome (delta next) at) is ∙ delta_found next at bytes back is_delta) ∙ ok))
sound_delta next further at text made (cut_delta short all) ok = not_both_ways (outcome (delta next) at text) (Syntax (at + length text)) made (delta_ends next at text short all) ok
sound_delta next further at text made (bad_delta bad) ok = not_both_ways (outcome (delta next) at text) (Number at) made (delta_bad next at text bad) ok

sound_line : (next : List ℕ → Layout) → ((front : List ℕ) → IsSound (next front)) → (at : ℕ) (text : List ℕ) (made : CircuitParts) → LineFront text → outcome (line next) at text ≡ Ok made
    → Spells (line next) text made
sound_line next further at text made (a_line front back none is) ok =
    (front, back, none, is, further front (at + (length front + 1)) back made (sym (ap (outcome (line next) at) is ∙ line_found next at front back none) ∙ ok))
sound_line next further at text made (cut_line none) ok = not_both_ways (outcome (line next) at text) (Syntax (at + length text)) made (line_ends next at text none) ok

pub sound : (layout : Layout) (at : ℕ) (text : List ℕ) (made : CircuitParts) → outcome layout at text ≡ Ok made → Spells layout text made
sound (finish parts) at text made ok = sound_finish parts at text made ok
sound (rest parts) at text made ok = made_alike (Ok parts) parts made refl ok
sound (byte b next) at text made ok = sound_byte b next (sound next) at text made (byte_front b text) ok
sound (either b first other) at text made ok = sound_either b first other (sound first) (sound other) at text made (byte_front b text) ok
sound (number next) at text made ok = sound_number next (λ n. sound (next n)) at text made (number_front text) ok
sound (delta next) at text made ok = sound_delta next (λ n. sound (next n)) at text made (delta_view text) ok
sound (line next) at text made ok = sound_line next (λ front. sound (next front)) at text made (line_front text) ok

-- reading stops at a place: some text begins with what is before it, and reading stops there too if the byte there is
-- followed by any others
pub record IsStopped (layout : Layout) (at : ℕ) (text : List ℕ) (place : ℕ) : Type 0 where
  pub front : List ℕ
  pub back : List ℕ
  pub split : text ≡ front ++ back
  pub there : place ≡ at + length front
  pub begins : Begins layout front
  pub ends : (b : ℕ) (more other : List ℕ) → back ≡ b ∷ more → outcome layout at (front ++ b ∷ other) ≡ Err (Syntax place)

abbrev Stops : Layout → Type 0
Stops layout = (at : ℕ) (text : List ℕ) (place : ℕ) → outcome layout at text ≡ Err (Syntax place) → IsStopped layout at text place

-- the first byte is the same, whatever follows one that is there
same_first : (p : ℕ → Bool) (front : List ℕ) (b : ℕ) (more other : List ℕ) → Free p (front ++ b ∷ more) → Free p (front ++ b ∷ other)
same_first p [] b more other free = free
same_first p (c ∷ front) b more other free = free

-- reading stops at the first byte
stops_here : (layout : Layout) (at : ℕ) (text : List ℕ) (place : ℕ) → outcome layout at text ≡ Err (Syntax place) → outcome layout at text ≡ Err (Syntax at)
    → ((b : ℕ) (more other : List ℕ) → text ≡ b ∷ more → outcome layout at (b ∷ other) ≡ Err (Syntax at)) → IsStopped layout at text place
stops_here layout at text place is here all =
    let same : place ≡ at = place_alike place at (fault_alike (outcome layout at text) (Syntax place) (Syntax at) is here) in
    record {
      front = [];
      back = text;
      split = refl;
      there = omega (arith, same);
      begins = some_text layout;
      ends = λ b more other first. all b more other first ∙ ap (λ n. Err (Syntax n)) (sym same);
    }

-- reading stops at the end of the text
stops_at_end : (layout : Layout) (at : ℕ) (text : List ℕ) (place : ℕ) → place ≡ at + length text → Begins layout text → IsStopped layout at text place
stops_at_end layout at text place there begins = record {
  front = text;
  back = [];
  split = sym (append-nil text);
  there = there;
  begins = begins;
  ends = λ b more other first. absurd (cc);
}

stops_finish : (parts : CircuitParts) → Stops (finish parts)
stops_finish parts at [] place is = not_both_ways (outcome (finish parts) at []) (Syntax place) parts is refl
stops_finish parts at (c ∷ back) place is = record {
  front = [];
  back = c ∷ back;
  split = refl;
  there = let same = place_alike at place (fault_alike (outcome (finish parts) at (c ∷ back)) (Syntax at) (Syntax place) refl is) in omega (arith, same);
  begins = ([], parts, (refl, refl));
  ends = λ b more other first. is;
}

stops_byte : (b : ℕ) (next : Layout) → Stops next → (at : ℕ) (text : List ℕ) (place : ℕ) → ByteFront b text → outcome (byte b next) at text ≡ Err (Syntax place)
    → IsStopped (byte b next) at text place
stops_byte b next further at text place (a_byte back first) is =
    let r : IsStopped next (at + 1) back place = further (at + 1) back place (sym (ap (outcome (byte b next) at) first ∙ byte_takes b next at back) ∙ is) in
    record {
      front = b ∷ r.front;
      back = r.back;
      split = first ∙ ap (λ (l : List ℕ). b ∷ l) r.split;
      there = let e = r.there in omega (arith, e);
      begins = let s = r.begins in (s.0, s.1, (r.front ++ s.0, refl, s.2));
      ends = λ x more other is_first. byte_takes b next at (r.front ++ x ∷ other) ∙ r.ends x more other is_first;
    }
stops_byte b next further at text place (no_byte free) is =
    stops_here (byte b next) at text place is (byte_refuses b next at text free)
    (λ x more other first. byte_refuses b next at (x ∷ other) (subst (Free (is_byte b)) first free))

stops_either : (b : ℕ) (first other : Layout) → Stops first → Stops other → (at : ℕ) (text : List ℕ) (place : ℕ) → ByteFront b text
    → outcome (either b first other) at text ≡ Err (Syntax place) → IsStopped (either b first other) at text place
stops_either b first other one another at text place (a_byte back is_first) is =
    let r : IsStopped first (at + 1) back place = one (at + 1) back place (sym (ap (outcome (either b first other) at) is_first ∙ either_takes b first other at back) ∙ is) in
    record {
      front = b ∷ r.front;
      back = r.back;
      split = is_first ∙ ap (λ (l : List ℕ). b ∷ l) r.split;
      there = let e = r.there in omega (arith, e);
      begins = let s = r.begins in (s.0, s.1, inl (r.front ++ s.0, refl, s.2));
      ends = λ x more rest is_next. either_takes b first other at (r.front ++ x ∷ rest) ∙ r.ends x more rest is_next;
    }
stops_either b first other one another at text place (no_byte free) is =
    let r : IsStopped other at text place = another at text place (sym (either_skips b first other at text free) ∙ is) in
    record {
      front = r.front;
      back = r.back;
      split = r.split;
      there = r.there;
      begins = let s = r.begins in (s.0, s.1, inr s.2);
      ends = λ x more rest is_next.
          either_skips b first other at (r.front ++ x ∷ rest)
          (same_first (is_byte b) r.front x more rest (subst (Free (is_byte b)) (r.split ∙ ap (λ (l : List ℕ). r.front ++ l) is_next) free))
          ∙ r.ends x more rest is_next;
    }

stops_number : (next : ℕ → Layout) → ((n : ℕ) → Stops (next n)) → (at : ℕ) (text : List ℕ) (place : ℕ) → NumberFront text → outcome (number next) at text ≡ Err (Syntax place)
    → IsStopped (number next) at text place
stops_number next further at text place (a_number n back small spelled free) is =
    let r : IsStopped (next n) (at + length (decimal n)) back place =
    further n (at + length (decimal n)) back place (sym (ap (outcome (number next) at) spelled ∙ number_found next at n back small free) ∙ is) in
    record {
      front = decimal n ++ r.front;
      back = r.back;
      split = spelled ∙ ap (λ (l : List ℕ). decimal n ++ l) r.split ∙ sym (append_assoc (decimal n) r.front r.back);
      there = let e = r.there in omega (arith, e, length-append (decimal n) r.front);
      begins = let s = r.begins in (s.0, s.1, (n, r.front ++ s.0, small, append_assoc (decimal n) r.front s.0, s.2));
      ends = λ x more other is_next.
          ap (outcome (number next) at) (append_assoc (decimal n) r.front (x ∷ other))
          ∙ number_found next at n (r.front ++ x ∷ other) small
          (same_first is_digit r.front x more other (subst (Free is_digit) (r.split ∙ ap (λ (l : List ℕ). r.front ++ l) is_next) free))
          ∙ r.ends x more other is_next;
    }
stops_number next further at text place (no_digit free) is =
    stops_here (number next) at text place is (number_absent next at text free) (λ x more other first. number_absent next at (x ∷ other) (subst (Free is_digit) first free))
stops_number next further at text place (bad_number bad) is =
    no_number_syntax at place (fault_alike (outcome (number next) at text) (Number at) (Syntax place) (number_bad next at text bad) is)

-- a last byte of 0 adds nothing
high_value : (bytes : List ℕ) → delta_value (bytes ++ 0 ∷ []) < 128 ^ length bytes
high_value [] = omega arith
high_value (b ∷ bytes) = let e = high_value bytes in let p = pow-suc 128 (length bytes) in omega (arith, e, p)

-- four bytes are below the bound of deltas
four : (value count : ℕ) → value < 128 ^ count → count ≤ 4 → value < 2 ^ 32
four value zero low few = omega (arith, low)
four value (suc zero) low few = omega (arith, low)
four value (suc (suc zero)) low few = omega (arith, low)
four value (suc (suc (suc zero))) low few = omega (arith, low)
four value (suc (suc (suc (suc zero)))) low few = omega (arith, low)
four value (suc (suc (suc (suc (suc n))))) low few = absurd (omega (arith, few))

-- few bytes with the high bit, and then 0, are a delta
cut_delta_is : (text : List ℕ) → length text < 5 → prefix_len is_high text ≡ length text → IsDelta (text ++ 0 ∷ [])
cut_delta_is text short all = record {
  high = ap (λ n. n + 1) (prefix_len-append is_high text (0 ∷ [])
      ∙ yes (prefix_len is_high text == length text) (length text + 0) (prefix_len is_high text) (eq-eqb (prefix_len is_high text) (length text) all))
      ∙ (let long = length-append text (0 ∷ []) in omega (arith, long));
  short = let long = length-append text (0 ∷ []) in omega (arith, long, short);
  small = four (delta_value (text ++ 0 ∷ [])) (length text) (high_value text) (omega (arith, short));
}

cut_begins : (next : ℕ → Layout) (text : List ℕ) → length text < 5 → prefix_len is_high text ≡ length text → Begins (delta next) text
cut_begins next text short all =
    let s = some_text (next (delta_value (text ++ 0 ∷ []))) in
    (0 ∷ s.0, s.1, (text ++ 0 ∷ [], s.0, cut_delta_is text short all, sym (append_assoc text (0 ∷ []) s.0), s.2))

stops_delta : (next : ℕ → Layout) → ((n : ℕ) → Stops (next n)) → (at : ℕ) (text : List ℕ) (place : ℕ) → DeltaFront text → outcome (delta next) at text ≡ Err (Syntax place)
    → IsStopped (delta next) at text place
stops_delta next further at text place (a_delta bytes back is_delta spelled) is =
    let r : IsStopped (next (delta_value bytes)) (at + length bytes) back place =
    further (delta_value bytes) (at + length bytes) back place (sym (ap (outcome (delta next) at) spelled ∙ delta_found next at bytes back is_delta) ∙ is) in
    record {
      front = bytes ++ r.front;
      back = r.back;
      split = spelled ∙ ap (λ (l : List ℕ). bytes ++ l) r.split ∙ sym (append_assoc bytes r.front r.back);
      there = let e = r.there in omega (arith, e, length-append bytes r.front);
      begins = let s = r.begins in (s.0, s.1, (bytes, r.front ++ s.0, is_delta, append_assoc bytes r.front s.0, s.2));
      ends = λ x more other is_next.
          ap (outcome (delta next) at) (append_assoc bytes r.front (x ∷ other)) ∙ delta_found next at bytes (r.front ++ x ∷ other) is_delta ∙ r.ends x more other is_next;
    }
stops_delta next further at text place (cut_delta short all) is =
    stops_at_end (delta next) at text place (place_alike place (at + length text) (fault_alike (outcome (delta next) at text) (Syntax place) (Syntax (at + length text)) is (delta_ends next at text short all)))
    (cut_begins next text short all)
stops_delta next further at text place (bad_delta bad) is =
    no_number_syntax at place (fault_alike (outcome (delta next) at text) (Number at) (Syntax place) (delta_bad next at text bad) is)

stops_line : (next : List ℕ → Layout) → ((front : List ℕ) → Stops (next front)) → (at : ℕ) (text : List ℕ) (place : ℕ) → LineFront text → outcome (line next) at text ≡ Err (Syntax place)
    → IsStopped (line next) at text place
stops_line next further at text place (a_line front back none spelled) is =
    let r : IsStopped (next front) (at + (length front + 1)) back place =
    further front (at + (length front + 1)) back place (sym (ap (outcome (line next) at) spelled ∙ line_found next at front back none) ∙ is) in
    record {
      front = front ++ 10 ∷ r.front;
      back = r.back;
      split = spelled ∙ ap (λ (l : List ℕ). front ++ 10 ∷ l) r.split ∙ sym (append_assoc front (10 ∷ r.front) r.back);
      there = let e = r.there in omega (arith, e, length-append front (10 ∷ r.front));
      begins = let s = r.begins in (s.0, s.1, (front, r.front ++ s.0, none, append_assoc front (10 ∷ r.front) s.0, s.2));
      ends = λ x more other is_next.
          ap (outcome (line next) at) (append_assoc front (10 ∷ r.front) (x ∷ other)) ∙ line_found next at front (r.front ++ x ∷ other) none ∙ r.ends x more other is_next;
    }
stops_line next further at text place (cut_line none) is =
    let s = some_text (next text) in
    stops_at_end (line next) at text place (place_alike place (at + length text) (fault_alike (outcome (line next) at text) (Syntax place) (Syntax (at + length text)) is (line_ends next at text none)))
    (10 ∷ s.0, s.1, (text, s.0, none, refl, s.2))

pub stops : (layout : Layout) (at : ℕ) (text : List ℕ) (place : ℕ) → outcome layout at text ≡ Err (Syntax place) → IsStopped layout at text place
stops (finish parts) at text place is = stops_finish parts at text place is
stops (rest parts) at text place is = not_both_ways (outcome (rest parts) at text) (Syntax place) parts is refl
stops (byte b next) at text place is = stops_byte b next (stops next) at text place (byte_front b text) is
stops (either b first other) at text place is = stops_either b first other (stops first) (stops other) at text place (byte_front b text) is
stops (number next) at text place is = stops_number next (λ n. stops (next n)) at text place (number_front text) is
stops (delta next) at text place is = stops_delta next (λ n. stops (next n)) at text place (delta_view text) is
stops (line next) at text place is = stops_line next (λ front. stops (next front)) at text place (line_front text) is
