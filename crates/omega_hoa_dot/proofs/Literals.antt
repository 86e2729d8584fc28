-- The text of the label of a valuation, one proposition more at a time.
use Rattle.std.proofs.Common.{◌≡◌, ◌==◌, ℕ, zero, suc, ◌+◌, ◌≤◌, ◌/◌, ◌%◌, ◌^◌, Bool, true, false, cond, List, ◌++◌, ap, refl, sym, ◌∙◌, append_assoc, arith}
use Rattle.std.specs.Prelude.{codes, nat_le, nat_lt}
use Rattle.omega_hoa_expression.specs.Writing.{bracketed}
use Rattle.omega_hoa_label.specs.Writing.{label_text}
use Rattle.omega_hoa_label.specs.Label.{negation, proposition}
use Rattle.omega_hoa_dot.specs.Expressions.{named_text}
use Rattle.omega_hoa_edges.proofs.Valuations.{valuation_more}
use Rattle.omega_hoa_edges.specs.Labels.{literal, valuation_label}

-- a proposition and its negation bind tightly
literal_tight : (set : Bool) (p : ℕ) → (label_text (cond set (proposition p) (negation (proposition p)))).rank ≡ 3
literal_tight true p = refl
literal_tight false p = refl

-- no valuation is in parentheses as a left part of `&`
valuation_bare : (index p : ℕ) → 1 ≤ p → nat_lt (label_text (valuation_label index p)).rank 2 ≡ false
valuation_bare index zero some = absurd (omega arith)
valuation_bare index (suc zero) some = ap (λ rank. nat_lt rank 2) (literal_tight ((index / 2 ^ 0) % 2 == 1) 0)
valuation_bare index (suc (suc p)) some = refl

-- the text of a valuation of one proposition more
pub valuation_named : (names : List (List ℕ)) (index p : ℕ) → 1 ≤ p
    → named_text names (valuation_label index (p + 1)) ≡ named_text names (valuation_label index p) ++ (codes " & " ++ named_text names (literal index p))
valuation_named names index p some =
    let left : List ℕ = named_text names (valuation_label index p) in
    let right : List ℕ = named_text names (literal index p) in
    ap (named_text names) (valuation_more index p some)
    ∙ ap (λ within. bracketed within left ++ (codes " & " ++ bracketed (nat_le (label_text (literal index p)).rank 2) right)) (valuation_bare index p some)
    ∙ ap (λ rank. left ++ (codes " & " ++ bracketed (nat_le rank 2) right)) (literal_tight ((index / 2 ^ p) % 2 == 1) p)

-- a literal more is written
pub literal_written : (names : List (List ℕ)) (index p : ℕ) (front out between after : List ℕ) → 1 ≤ p
    → out ≡ front ++ named_text names (valuation_label index p) → between ≡ out ++ codes " & " → after ≡ between ++ named_text names (literal index p)
    → after ≡ front ++ named_text names (valuation_label index (p + 1))
literal_written names index p front out between after some so_far sign step =
    let left : List ℕ = named_text names (valuation_label index p) in
    step ∙ ap (λ list. list ++ named_text names (literal index p)) (sign ∙ ap (λ list. list ++ codes " & ") so_far)
    ∙ append_assoc (front ++ left) (codes " & ") (named_text names (literal index p))
    ∙ append_assoc front left (codes " & " ++ named_text names (literal index p))
    ∙ ap (λ list. front ++ list) (sym (valuation_named names index p some))

-- the text of a proposition or of its negation
pub literal_named : (names : List (List ℕ)) (set : Bool) (p : ℕ) → named_text names (cond set (proposition p) (negation (proposition p)))
    ≡ cond set (named_text names (proposition p)) (codes "!" ++ named_text names (proposition p))
literal_named names true p = refl
literal_named names false p = refl
