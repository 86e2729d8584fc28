-- Texts of formulas go on from each place in one way.
use Rattle.std.proofs.Common.{◌≡◌, ℕ, ◌+◌, ◌<◌, ◌≤◌, ◌⊎◌, inl, inr, false, Option, Some, None, List, length}
use Rattle.std.proofs.Common.{get_or, take, drop, refl, sym, ap, ◌∙◌, subst, arith, length-drop, length-take}
use Rattle.std.specs.List.{prefix_len}
use Rattle.std.proofs.lemmas.Bool.{cases_lt}
use Rattle.std.proofs.lemmas.List.{get_or-drop}
use Rattle.omega_text.specs.Bytes.{is_white}
use Rattle.omega_text.specs.Format.{GoesOneWay, IsLexical, IsPartAfter}
use Rattle.omega_text.specs.Lexeme.{Lexeme, lexeme_at}
use Rattle.omega_text.specs.declared.refusal.text.TextFault.{TextFault}
use Rattle.omega_text.specs.declared.refusal.text.TextFault.TheVariants.{Lex}
use Rattle.omega_text.specs.pg.Cut.{IsGap}
use Rattle.omega_text.proofs.pg_texts.Gaps.{run_black, run_gap}
use Rattle.omega_text.proofs.pg_texts.Unique.{IsBlack, gap_stops, one_gap}
use Rattle.omega_ltl_text.specs.Cut.{Follows, HasFaultFrom, formula_format}
use Rattle.omega_ltl_text.specs.Tokens.{Front, front, front_token}
use Rattle.omega_ltl_text.specs.declared.kind.FormulaKind.{FormulaKind}
use Rattle.omega_ltl_text.proofs.Tokens.{token_black, token_fits}

-- a token is a part of the text
pub follows_part : (source : List ℕ) (from : ℕ) (lexeme : Lexeme FormulaKind) → Follows source from lexeme → IsPartAfter source from lexeme.span
follows_part source from lexeme follows =
    let fits = token_fits (drop lexeme.span.start source) (front lexeme.kind (length lexeme.text)) follows.token in
    let left = length-drop lexeme.span.start source in
    record {
      forward = follows.gap.forward;
      nonempty = omega (arith, follows.end, fits.some);
      within = omega (arith, follows.end, fits.within, fits.some, left);
    }

-- the text is black at a token's beginning
follows_black : (source : List ℕ) (from : ℕ) (lexeme : Lexeme FormulaKind) → Follows source from lexeme → IsBlack source lexeme.span.start
follows_black source from lexeme follows =
    let part = follows_part source from lexeme follows in
    record {
      inside = omega (arith, part.nonempty, part.within);
      black = ap is_white (ap (λ n. get_or source n 0) (let z : lexeme.span.start ≡ lexeme.span.start + 0 = omega arith in z)
          ∙ sym (get_or-drop lexeme.span.start source 0 0))
          ∙ token_black (drop lexeme.span.start source) (front lexeme.kind (length lexeme.text)) follows.token;
    }

fault_black : (source : List ℕ) (from : ℕ) (fault : TextFault) (faults : HasFaultFrom source from fault) → IsBlack source faults.place
fault_black source from fault faults = record { inside = faults.more; black = faults.black }

-- lexemes are equal if their parts are
lexeme_same : (one other : Lexeme FormulaKind) → one.kind ≡ other.kind → one.text ≡ other.text → one.value ≡ other.value → one.span.start ≡ other.span.start → one.span.end ≡ other.span.end → one ≡ other
lexeme_same one other kind text value start end = λ i. record { kind = kind i; text = text i; value = value i; span = record { start = start i; end = end i } }

-- at most one token follows a place
one_follows : (source : List ℕ) (from : ℕ) (one other : Lexeme FormulaKind) → Follows source from one → Follows source from other → one ≡ other
one_follows source from one other first second =
    let start = one_gap source from one.span.start other.span.start first.gap second.gap (follows_black source from one first) (follows_black source from other second) in
    let both : Some (front one.kind (length one.text)) ≡ Some (front other.kind (length other.text)) =
    sym first.token ∙ (ap (λ n. front_token (drop n source)) start ∙ second.token) in
    let same : front one.kind (length one.text) ≡ front other.kind (length other.text) = cc in
    let kind : one.kind ≡ other.kind = ap (λ (f : Front). f.kind) same in
    let count : length one.text ≡ length other.text = ap (λ (f : Front). f.count) same in
    let text : one.text ≡ other.text = first.text ∙ ((λ i. take (count i) (drop (start i) source)) ∙ sym second.text) in
    lexeme_same one other kind text (first.value ∙ sym second.value) start (omega (arith, first.end, second.end, start, count))

-- at most one fault follows a place
one_faults : (source : List ℕ) (from : ℕ) (one other : TextFault) → HasFaultFrom source from one → HasFaultFrom source from other → one ≡ other
one_faults source from one other first second =
    let place = one_gap source from first.place second.place first.gap second.gap (fault_black source from one first) (fault_black source from other second) in
    first.there ∙ (ap Lex place ∙ sym second.there)

-- a token or a fault
token_or_fault : (source : List ℕ) (from : ℕ) (lexeme : Lexeme FormulaKind) (fault : TextFault) → Follows source from lexeme → HasFaultFrom source from fault → ⊥
token_or_fault source from lexeme fault follows faults =
    let place = one_gap source from lexeme.span.start faults.place follows.gap faults.gap (follows_black source from lexeme follows) (fault_black source from fault faults) in
    let clash : Some (front lexeme.kind (length lexeme.text)) ≡ None = sym follows.token ∙ (ap (λ n. front_token (drop n source)) place ∙ faults.none) in
    cc

token_or_end : (source : List ℕ) (from : ℕ) (lexeme : Lexeme FormulaKind) → Follows source from lexeme → IsGap source from (length source) → ⊥
token_or_end source from lexeme follows gap =
    let black = follows_black source from lexeme follows in
    let stops = gap_stops source from (length source) lexeme.span.start gap follows.gap.forward black in
    omega (arith, stops, black.inside)

fault_or_end : (source : List ℕ) (from : ℕ) (fault : TextFault) → HasFaultFrom source from fault → IsGap source from (length source) → ⊥
fault_or_end source from fault faults gap =
    let stops = gap_stops source from (length source) faults.place gap faults.gap.forward (fault_black source from fault faults) in
    omega (arith, stops, faults.more)

-- what follows a place where the text is black
pub token_follows : (source : List ℕ) (from start : ℕ) (token : Front) (text : List ℕ) → IsGap source from start → front_token (drop start source) ≡ Some token
    → text ≡ take token.count (drop start source)
    → Follows source from (record { kind = token.kind; text = text; value = 0; span = record { start = start; end = start + token.count } })
token_follows source from start token text gap e is =
    let fits = token_fits (drop start source) token e in
    let taken = length-take token.count (drop start source) in
    let long : length text ≡ token.count = ap length is ∙ omega (arith, taken, fits.within) in
    record {
      gap = gap;
      token = e ∙ ap (λ n. Some (front token.kind n)) (sym long);
      text = is ∙ ap (λ n. take n (drop start source)) (sym long);
      value = refl;
      end = ap (λ n. start + n) (sym long);
    }

pub lexeme_follows : (source : List ℕ) (from start : ℕ) (bytes : List ℕ) (token : Front) → IsGap source from start → bytes ≡ drop start source → front_token bytes ≡ Some token
    → Follows source from (lexeme_at start token.kind 0 (take token.count bytes))
lexeme_follows source from start bytes token gap bytes_are e =
    let fits = token_fits bytes token e in
    let taken = length-take token.count bytes in
    let long : length (take token.count bytes) ≡ token.count = omega (arith, taken, fits.within) in
    record {
      gap = gap;
      token = ap front_token (sym bytes_are) ∙ (e ∙ ap (λ n. Some (front token.kind n)) (sym long));
      text = ap (λ (l : List ℕ). take token.count l) bytes_are ∙ ap (λ n. take n (drop start source)) (sym long);
      value = refl;
      end = refl;
    }

pub fault_follows : (source : List ℕ) (from start : ℕ) → IsGap source from start → start < length source → is_white (get_or source start 0) ≡ false
    → front_token (drop start source) ≡ None → HasFaultFrom source from (Lex start)
fault_follows source from start gap more black none =
    record { place = start; gap = gap; more = more; black = black; none = none; there = refl }

-- how a text goes on
abbrev Onward : List ℕ → ℕ → Type 0
Onward source from = IsGap source from (length source)
    ⊎ (((lexeme : Lexeme FormulaKind) × Follows source from lexeme) ⊎ ((fault : TextFault) × HasFaultFrom source from fault))

onward : (source : List ℕ) (from : ℕ) → from ≤ length source → Onward source from
onward source from inside = go (cases_lt start (length source))
  where
    start : ℕ
    start = from + prefix_len is_white (drop from source)

    gap : IsGap source from start
    gap = run_gap source from inside

    black : start < length source → is_white (get_or source start 0) ≡ false
    black more = run_black source from inside more

    found : start < length source → (o : Option Front) → front_token (drop start source) ≡ o → Onward source from
    found more None e = inr (inr (Lex start, fault_follows source from start gap more (black more) e))
    found more (Some token) e = inr (inl (
      record { kind = token.kind; text = take token.count (drop start source); value = 0; span = record { start = start; end = start + token.count } },
      token_follows source from start token (take token.count (drop start source)) gap e refl,
    ))

    go : (start < length source) ⊎ (length source ≤ start) → Onward source from
    go (inl more) = found more (front_token (drop start source)) refl
    go (inr none) = let all : start ≡ length source = omega (arith, gap.within, none) in inl (subst (IsGap source from) all gap)

lexical : (source : List ℕ) (from : ℕ) (fault : TextFault) → HasFaultFrom source from fault → IsLexical fault
lexical source from fault faults = subst IsLexical (sym faults.there) tt

pub formula_exact : GoesOneWay formula_format
formula_exact = record {
  following = follows_part;
  lexical = lexical;
  one_token = one_follows;
  one_fault = one_faults;
  no_token_and_fault = token_or_fault;
  no_token_at_end = token_or_end;
  no_fault_at_end = fault_or_end;
  some_way = onward;
}
