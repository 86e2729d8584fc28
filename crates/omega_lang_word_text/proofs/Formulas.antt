-- Formulas over names as trees in which equal operators group to the left: what they say, and their texts.
use Rattle.std.proofs.Common.{◌≡◌, Bool, true, false, not, ◌&&◌, ◌||◌, ℕ, IsTrue, List, ◌++◌, codes, refl, sym, ap, ap₂, ◌∙◌, append_assoc}
use Rattle.omega_hoa_expression.specs.Symbols.{Rank, TakesAnd, TakesOr, conjunctive, disjunctive, unary}
use Rattle.omega_lang_lasso_word.specs.Formulas.{HasTruth, Part}
use Rattle.omega_lang_lasso_word.specs.Formulas as part
use Rattle.omega_lang_lasso_word.specs.Names.{stands_bare}
use Rattle.omega_text.specs.hoa.Forms.{IsQuotable}

pub data Formula : Type 0 where
  value : Bool → Formula
  plain : List ℕ → Formula
  string : List ℕ → Formula
  denial : Formula → Formula
  joint : Formula → Formula → Formula
  choice : Formula → Formula → Formula
  inside : Formula → Formula

-- its text
abbrev pub text_of : Formula → List ℕ
text_of (value false) = codes "0"
text_of (value true) = codes "1"
text_of (plain name) = name
text_of (string name) = codes "\"" ++ (name ++ codes "\"")
text_of (denial one) = codes "!" ++ text_of one
text_of (joint left right) = text_of left ++ (codes " & " ++ text_of right)
text_of (choice left right) = text_of left ++ (codes " | " ++ text_of right)
text_of (inside one) = codes "(" ++ (text_of one ++ codes ")")

-- whether it is true if the names hold of which `held` says so
abbrev pub true_where : (List ℕ → Bool) → Formula → Bool
true_where held (value is) = is
true_where held (plain name) = held name
true_where held (string name) = held name
true_where held (denial one) = not (true_where held one)
true_where held (joint left right) = true_where held left && true_where held right
true_where held (choice left right) = true_where held left || true_where held right
true_where held (inside one) = true_where held one

-- its names can be written as they are, and operators need no more parentheses
abbrev pub IsAt : Rank → Formula → Type 0
IsAt rank (value is) = Unit {0}
IsAt rank (plain name) = IsTrue (stands_bare name)
IsAt rank (string name) = IsQuotable name
IsAt rank (denial one) = IsAt unary one
IsAt rank (joint left right) = TakesAnd rank × (IsAt conjunctive left × IsAt unary right)
IsAt rank (choice left right) = TakesOr rank × (IsAt disjunctive left × IsAt conjunctive right)
IsAt rank (inside one) = IsAt disjunctive one

-- what needs no parentheses below a tighter operator needs none below another
unary_joins : (f : Formula) → IsAt unary f → IsAt conjunctive f
unary_joins (value is) h = h
unary_joins (plain name) h = h
unary_joins (string name) h = h
unary_joins (denial one) h = h
unary_joins (joint left right) h = absurd h.0
unary_joins (choice left right) h = absurd h.0
unary_joins (inside one) h = h

joint_chooses : (f : Formula) → IsAt conjunctive f → IsAt disjunctive f
joint_chooses (value is) h = h
joint_chooses (plain name) h = h
joint_chooses (string name) h = h
joint_chooses (denial one) h = h
joint_chooses (joint left right) h = (tt, h.1)
joint_chooses (choice left right) h = absurd h.0
joint_chooses (inside one) h = h

-- ---- joined to the left

abbrev joined : Formula → Formula → Formula
joined left (joint one other) = joint (joined left one) other
joined left (value is) = joint left (value is)
joined left (plain name) = joint left (plain name)
joined left (string name) = joint left (string name)
joined left (denial one) = joint left (denial one)
joined left (choice one other) = joint left (choice one other)
joined left (inside one) = joint left (inside one)

joined_is : (left right : Formula) → IsAt conjunctive left → IsAt conjunctive right → IsAt conjunctive (joined left right)
joined_is left (joint one other) first second = (tt, (joined_is left one first second.1.0, second.1.1))
joined_is left (value is) first second = (tt, (first, second))
joined_is left (plain name) first second = (tt, (first, second))
joined_is left (string name) first second = (tt, (first, second))
joined_is left (denial one) first second = (tt, (first, second))
joined_is left (choice one other) first second = absurd second.0
joined_is left (inside one) first second = (tt, (first, second))

joined_text : (left right : Formula) → text_of (joined left right) ≡ text_of left ++ (codes " & " ++ text_of right)
joined_text left (joint one other) =
    ap (λ (text : List ℕ). text ++ (codes " & " ++ text_of other)) (joined_text left one)
    ∙ append_assoc (text_of left) (codes " & " ++ text_of one) (codes " & " ++ text_of other)
joined_text left (value is) = refl
joined_text left (plain name) = refl
joined_text left (string name) = refl
joined_text left (denial one) = refl
joined_text left (choice one other) = refl
joined_text left (inside one) = refl

and_regroup : (a b c : Bool) → ((a && b) && c) ≡ (a && (b && c))
and_regroup true b c = refl
and_regroup false b c = refl

joined_truth : (held : List ℕ → Bool) (left right : Formula) → true_where held (joined left right) ≡ (true_where held left && true_where held right)
joined_truth held left (joint one other) =
    ap (λ (b : Bool). b && true_where held other) (joined_truth held left one)
    ∙ and_regroup (true_where held left) (true_where held one) (true_where held other)
joined_truth held left (value is) = refl
joined_truth held left (plain name) = refl
joined_truth held left (string name) = refl
joined_truth held left (denial one) = refl
joined_truth held left (choice one other) = refl
joined_truth held left (inside one) = refl

-- ---- chosen to the left

abbrev chosen : Formula → Formula → Formula
chosen left (choice one other) = choice (chosen left one) other
chosen left (value is) = choice left (value is)
chosen left (plain name) = choice left (plain name)
chosen left (string name) = choice left (string name)
chosen left (denial one) = choice left (denial one)
chosen left (joint one other) = choice left (joint one other)
chosen left (inside one) = choice left (inside one)

chosen_is : (left right : Formula) → IsAt disjunctive left → IsAt disjunctive right → IsAt disjunctive (chosen left right)
chosen_is left (choice one other) first second = (tt, (chosen_is left one first second.1.0, second.1.1))
chosen_is left (value is) first second = (tt, (first, second))
chosen_is left (plain name) first second = (tt, (first, second))
chosen_is left (string name) first second = (tt, (first, second))
chosen_is left (denial one) first second = (tt, (first, second))
chosen_is left (joint one other) first second = (tt, (first, (tt, second.1)))
chosen_is left (inside one) first second = (tt, (first, second))

chosen_text : (left right : Formula) → text_of (chosen left right) ≡ text_of left ++ (codes " | " ++ text_of right)
chosen_text left (choice one other) =
    ap (λ (text : List ℕ). text ++ (codes " | " ++ text_of other)) (chosen_text left one)
    ∙ append_assoc (text_of left) (codes " | " ++ text_of one) (codes " | " ++ text_of other)
chosen_text left (value is) = refl
chosen_text left (plain name) = refl
chosen_text left (string name) = refl
chosen_text left (denial one) = refl
chosen_text left (joint one other) = refl
chosen_text left (inside one) = refl

or_regroup : (a b c : Bool) → ((a || b) || c) ≡ (a || (b || c))
or_regroup true b c = refl
or_regroup false b c = refl

chosen_truth : (held : List ℕ → Bool) (left right : Formula) → true_where held (chosen left right) ≡ (true_where held left || true_where held right)
chosen_truth held left (choice one other) =
    ap (λ (b : Bool). b || true_where held other) (chosen_truth held left one)
    ∙ or_regroup (true_where held left) (true_where held one) (true_where held other)
chosen_truth held left (value is) = refl
chosen_truth held left (plain name) = refl
chosen_truth held left (string name) = refl
chosen_truth held left (denial one) = refl
chosen_truth held left (joint one other) = refl
chosen_truth held left (inside one) = refl

-- ---- texts that have a truth

abbrev pub rank_of : Part → Rank
rank_of part.operand = unary
rank_of part.conjunction = conjunctive
rank_of part.formula = disjunctive

-- a text is that of a formula, which is worth this
pub record IsSaid (held : List ℕ → Bool) (rank : Rank) (text : List ℕ) (is_worth : Bool) : Type 0 where
  pub said : Formula
  pub is : IsAt rank said
  pub written : text ≡ text_of said
  pub worth : is_worth ≡ true_where held said

pub said_of : (held : List ℕ → Bool) (which : Part) (text : List ℕ) (is_worth : Bool) → HasTruth held which text is_worth → IsSaid held (rank_of which) text is_worth
said_of held which text is_worth part.zero_sign = record { said = value false; is = tt; written = refl; worth = refl }
said_of held which text is_worth part.one_sign = record { said = value true; is = tt; written = refl; worth = refl }
said_of held which text is_worth (part.bare name is) = record { said = plain name; is = is; written = refl; worth = refl }
said_of held which text is_worth (part.quoted name is) = record { said = string name; is = is; written = refl; worth = refl }
said_of held which text is_worth (part.denied inner its h) =
    let one = said_of held part.operand inner its h in
    record { said = denial one.said; is = one.is; written = ap (λ (t : List ℕ). codes "!" ++ t) one.written; worth = ap not one.worth }
said_of held which text is_worth (part.enclosed inner its h) =
    let one = said_of held part.formula inner its h in
    record { said = inside one.said; is = one.is; written = ap (λ (t : List ℕ). codes "(" ++ (t ++ codes ")")) one.written; worth = one.worth }
said_of held which text is_worth (part.one_operand inner its h) =
    let one = said_of held part.operand inner its h in
    record { said = one.said; is = unary_joins one.said one.is; written = one.written; worth = one.worth }
said_of held which text is_worth (part.both left right one other h h') =
    let first = said_of held part.conjunction left one h in
    let second = said_of held part.conjunction right other h' in
    record {
      said = joined first.said second.said;
      is = joined_is first.said second.said first.is second.is;
      written = ap₂ (λ (t u : List ℕ). t ++ (codes " & " ++ u)) first.written second.written ∙ sym (joined_text first.said second.said);
      worth = ap₂ (λ (a b : Bool). a && b) first.worth second.worth ∙ sym (joined_truth held first.said second.said);
    }
said_of held which text is_worth (part.one_conjunction inner its h) =
    let one = said_of held part.conjunction inner its h in
    record { said = one.said; is = joint_chooses one.said one.is; written = one.written; worth = one.worth }
said_of held which text is_worth (part.either left right one other h h') =
    let first = said_of held part.formula left one h in
    let second = said_of held part.formula right other h' in
    record {
      said = chosen first.said second.said;
      is = chosen_is first.said second.said first.is second.is;
      written = ap₂ (λ (t u : List ℕ). t ++ (codes " | " ++ u)) first.written second.written ∙ sym (chosen_text first.said second.said);
      worth = ap₂ (λ (a b : Bool). a || b) first.worth second.worth ∙ sym (chosen_truth held first.said second.said);
    }

-- the text of a formula has its truth
abbrev part_of : Rank → Part
part_of unary = part.operand
part_of conjunctive = part.conjunction
part_of disjunctive = part.formula

module _ (held : List ℕ → Bool) where
  lifted : (rank : Rank) (text : List ℕ) (its : Bool) → HasTruth held part.operand text its → HasTruth held (part_of rank) text its
  lifted unary text its h = h
  lifted conjunctive text its h = part.one_operand text its h
  lifted disjunctive text its h = part.one_conjunction text its (part.one_operand text its h)

  joined_both : (left right : List ℕ) (one other : Bool) → HasTruth held part.conjunction left one → HasTruth held part.operand right other
      → HasTruth held part.conjunction (left ++ (codes " & " ++ right)) (one && other)
  joined_both left right one other h h' = part.both left right one other h (part.one_operand right other h')

  pub truth_of : (rank : Rank) (f : Formula) → IsAt rank f → HasTruth held (part_of rank) (text_of f) (true_where held f)
  truth_of rank (value false) is = lifted rank (codes "0") false part.zero_sign
  truth_of rank (value true) is = lifted rank (codes "1") true part.one_sign
  truth_of rank (plain name) is = lifted rank name (held name) (part.bare name is)
  truth_of rank (string name) is = lifted rank (codes "\"" ++ (name ++ codes "\"")) (held name) (part.quoted name is)
  truth_of rank (denial one) is = lifted rank (codes "!" ++ text_of one) (not (true_where held one)) (part.denied (text_of one) (true_where held one) (truth_of unary one is))
  truth_of rank (inside one) is =
      lifted rank (codes "(" ++ (text_of one ++ codes ")")) (true_where held one) (part.enclosed (text_of one) (true_where held one) (truth_of disjunctive one is))
  truth_of unary (joint left right) is = absurd is.0
  truth_of conjunctive (joint left right) is =
      joined_both (text_of left) (text_of right) (true_where held left) (true_where held right) (truth_of conjunctive left is.1.0) (truth_of unary right is.1.1)
  truth_of disjunctive (joint left right) is =
      part.one_conjunction (text_of left ++ (codes " & " ++ text_of right)) (true_where held left && true_where held right)
      (joined_both (text_of left) (text_of right) (true_where held left) (true_where held right) (truth_of conjunctive left is.1.0) (truth_of unary right is.1.1))
  truth_of unary (choice left right) is = absurd is.0
  truth_of conjunctive (choice left right) is = absurd is.0
  truth_of disjunctive (choice left right) is =
      part.either (text_of left) (text_of right) (true_where held left) (true_where held right) (truth_of disjunctive left is.1.0)
      (part.one_conjunction (text_of right) (true_where held right) (truth_of conjunctive right is.1.1))
