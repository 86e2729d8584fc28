-- The text of a word is that of one list of letters.
use Rattle.std.proofs.Common.{◌≡◌, ℕ, zero, suc, Bool, true, false, List, [], ◌∷◌, ◌++◌, drop, map, codes, arith, refl, sym, ap, ap₂, ◌∙◌, subst, append_assoc}
use Rattle.std.specs.List.{AllByRecursion}
use Rattle.std.proofs.lemmas.List.{append_cancel_right}
use Rattle.omega_lang_lasso_word.specs.Form.{others_form, stem_form}
use Rattle.omega_lang_lasso_word.specs.Formulas.{HasTruth, formula}
use Rattle.omega_lang_lasso_word.specs.Fitting.{along, text_of_letters}
use Rattle.omega_lang_lasso_word.proofs.Reader.{run, stuck, wanted}
use Rattle.omega_lang_lasso_word.proofs.Truths.{Ends, formula_read}

-- a letter is a formula, whatever holds
abbrev pub IsLetter : List ℕ → Type 0
IsLetter letter = (held : List ℕ → Bool) → (value : Bool) × HasTruth held formula letter value

-- a letter is a formula where some names hold
abbrev pub IsSomeLetter : List ℕ → Type 0
IsSomeLetter letter = (held : List ℕ → Bool) × ((value : Bool) × HasTruth held formula letter value)

not_nil : {x : ℕ} {xs : List ℕ} → x ∷ xs ≡ [] → ⊥
not_nil {x} {xs} e = subst (λ (l : List ℕ). elim l as (λ m. Type 0) [ [] ↦ ⊥ | y ∷ ys ↦ Unit {0} ]) e tt

-- two letters at the front of one text are one, and so is what follows
split : (one other front_rest other_rest : List ℕ) → IsLetter one → IsSomeLetter other → Ends front_rest → Ends other_rest
    → one ++ front_rest ≡ other ++ other_rest → (one ≡ other) × (front_rest ≡ other_rest)
split one other front_rest other_rest is some ends ends_too same =
    let held = some.0 in
    let first = formula_read held one front_rest (is held).0 (is held).1 ends in
    let second = formula_read held other other_rest some.1.0 some.1.1 ends_too in
    let rests : front_rest ≡ other_rest =
    ap (λ (r : Bool × List ℕ). r.1) (sym first ∙ ap (λ (t : List ℕ). run held (wanted false true false []) t) same ∙ second) in
    (append_cancel_right one other other_rest (subst (λ (r : List ℕ). one ++ r ≡ other ++ other_rest) rests same), rests)

-- the reader finds no formula where a cycle begins
no_letter : (held : List ℕ → Bool) (rest : List ℕ) → run held stuck rest ≡ (false, [])
no_letter held [] = refl
no_letter held (byte ∷ rest) = no_letter held rest

begins_cycle : (letter rest tail : List ℕ) → IsSomeLetter letter → letter ++ (codes "; " ++ rest) ≡ codes "cycle{" ++ tail → ⊥
begins_cycle letter rest tail some same =
    let held = some.0 in
    let read = formula_read held letter (codes "; " ++ rest) some.1.0 some.1.1 refl in
    not_nil (ap (λ (r : Bool × List ℕ). r.1) (sym read ∙ ap (λ (t : List ℕ). run held (wanted false true false []) t) same ∙ no_letter held tail))

abbrev stem_of : List (List ℕ) → List ℕ
stem_of stem = stem_form (λ letter. letter) stem

abbrev others_of : List (List ℕ) → List ℕ
others_of others = others_form (λ letter. letter) others

-- a stem of letters is one
stems_same : (stem other : List (List ℕ)) (tail other_tail : List ℕ) → AllByRecursion IsLetter stem → AllByRecursion IsSomeLetter other
    → stem_of stem ++ (codes "cycle{" ++ tail) ≡ stem_of other ++ (codes "cycle{" ++ other_tail) → (stem ≡ other) × (tail ≡ other_tail)
stems_same [] [] tail other_tail all some same = (refl, ap (λ (t : List ℕ). drop 6 t) same)
stems_same [] (letter ∷ other) tail other_tail all some same =
    absurd (begins_cycle letter (stem_of other ++ (codes "cycle{" ++ other_tail)) tail some.0
    (sym (same ∙ append_assoc (letter ++ codes "; ") (stem_of other) (codes "cycle{" ++ other_tail) ∙ append_assoc letter (codes "; ") (stem_of other ++ (codes "cycle{" ++ other_tail)))))
stems_same (letter ∷ stem) [] tail other_tail all some same =
    absurd (begins_cycle letter (stem_of stem ++ (codes "cycle{" ++ tail)) other_tail ((λ name. false), all.0 (λ name. false))
    (sym (append_assoc (letter ++ codes "; ") (stem_of stem) (codes "cycle{" ++ tail) ∙ append_assoc letter (codes "; ") (stem_of stem ++ (codes "cycle{" ++ tail))) ∙ same))
stems_same (letter ∷ stem) (other_letter ∷ other) tail other_tail all some same =
    let one_rest = stem_of stem ++ (codes "cycle{" ++ tail) in
    let other_rest = stem_of other ++ (codes "cycle{" ++ other_tail) in
    let laid : letter ++ (codes "; " ++ one_rest) ≡ other_letter ++ (codes "; " ++ other_rest) =
    sym (append_assoc (letter ++ codes "; ") (stem_of stem) (codes "cycle{" ++ tail) ∙ append_assoc letter (codes "; ") one_rest)
    ∙ same
    ∙ (append_assoc (other_letter ++ codes "; ") (stem_of other) (codes "cycle{" ++ other_tail) ∙ append_assoc other_letter (codes "; ") other_rest) in
    let cut = split letter other_letter (codes "; " ++ one_rest) (codes "; " ++ other_rest) all.0 some.0 refl refl laid in
    let others = stems_same stem other tail other_tail all.1 some.1 (ap (λ (t : List ℕ). drop 2 t) cut.1) in
    (ap₂ (λ (l : List ℕ) (ls : List (List ℕ)). l ∷ ls) cut.0 others.0, others.1)

rest_ends : (others : List (List ℕ)) → Ends (others_of others ++ codes "}")
rest_ends [] = refl
rest_ends (letter ∷ others) = refl

-- a cycle of letters is one
cycles_same : (first other_first : List ℕ) (others other_others : List (List ℕ)) → IsLetter first → IsSomeLetter other_first
    → AllByRecursion IsLetter others → AllByRecursion IsSomeLetter other_others
    → first ++ (others_of others ++ codes "}") ≡ other_first ++ (others_of other_others ++ codes "}") → (first ≡ other_first) × (others ≡ other_others)
cycles_same first other_first others other_others is some all all_some same =
    let cut = split first other_first (others_of others ++ codes "}") (others_of other_others ++ codes "}") is some (rest_ends others) (rest_ends other_others) same in
    (cut.0, onward others other_others all all_some cut.1)
  where
    head_of : List ℕ → ℕ
    head_of [] = 0
    head_of (x ∷ xs) = x

    semicolon : (brace sign : ℕ) → brace ≡ 125 → sign ≡ 59 → brace ≡ sign → ⊥
    semicolon brace sign is also e = omega (arith, is, also, e)

    onward : (left right : List (List ℕ)) → AllByRecursion IsLetter left → AllByRecursion IsSomeLetter right
        → others_of left ++ codes "}" ≡ others_of right ++ codes "}" → left ≡ right
    onward [] [] a s e = refl
    onward [] (letter ∷ right) a s e = absurd (semicolon 125 59 refl refl (ap head_of e))
    onward (letter ∷ left) [] a s e = absurd (semicolon 125 59 refl refl (sym (ap head_of e)))
    onward (letter ∷ left) (other_letter ∷ right) a s e =
        let laid : letter ++ (others_of left ++ codes "}") ≡ other_letter ++ (others_of right ++ codes "}") =
        sym (append_assoc letter (others_of left) (codes "}")) ∙ ap (λ (t : List ℕ). drop 2 t) e ∙ append_assoc other_letter (others_of right) (codes "}") in
        let cut = split letter other_letter (others_of left ++ codes "}") (others_of right ++ codes "}") a.0 s.0 (rest_ends left) (rest_ends right) laid in
        ap₂ (λ (l : List ℕ) (ls : List (List ℕ)). l ∷ ls) cut.0 (onward left right a.1 s.1 cut.1)

-- letters of a text are one list
pub letters_same : (stem other_stem : List (List ℕ)) (first other_first : List ℕ) (others other_others : List (List ℕ))
    → AllByRecursion IsLetter stem → IsLetter first → AllByRecursion IsLetter others
    → AllByRecursion IsSomeLetter other_stem → IsSomeLetter other_first → AllByRecursion IsSomeLetter other_others
    → text_of_letters stem first others ≡ text_of_letters other_stem other_first other_others
    → (stem ≡ other_stem) × (first ≡ other_first) × (others ≡ other_others)
letters_same stem other_stem first other_first others other_others is_stem is_first are_others some_stem some_first some_others same =
    let stems = stems_same stem other_stem ((first ++ others_of others) ++ codes "}") ((other_first ++ others_of other_others) ++ codes "}") is_stem some_stem same in
    let cycles = cycles_same first other_first others other_others is_first some_first are_others some_others
    (sym (append_assoc first (others_of others) (codes "}")) ∙ stems.1 ∙ append_assoc other_first (others_of other_others) (codes "}")) in
    (stems.0, cycles.0, cycles.1)

-- what holds along a sequence holds of its parts
pub all_along : (P : List ℕ → Type 0) (first : List ℕ) (others stem : List (List ℕ)) → ((i : ℕ) → P (along first others stem i)) → AllByRecursion P stem
all_along P first others [] each = tt
all_along P first others (letter ∷ stem) each = (each zero, all_along P first others stem (λ i. each (suc i)))

pub first_along : (P : List ℕ → Type 0) (first : List ℕ) (others stem : List (List ℕ)) → ((i : ℕ) → P (along first others stem i)) → P first
first_along P first others [] each = each zero
first_along P first others (letter ∷ stem) each = first_along P first others stem (λ i. each (suc i))

pub others_along : (P : List ℕ → Type 0) (first : List ℕ) (others stem : List (List ℕ)) → ((i : ℕ) → P (along first others stem i)) → AllByRecursion P others
others_along P first others [] each = all_along P first others others (λ i. each (suc i))
others_along P first others (letter ∷ stem) each = others_along P first others stem (λ i. each (suc i))

-- letters along a sequence of others
pub along_map : {A : Type 0} (f : A → List ℕ) (first : A) (others stem : List A) (i : ℕ) → along (f first) (map f others) (map f stem) i ≡ f (along first others stem i)
along_map f first others [] zero = refl
along_map f first others [] (suc i) = along_map f first others others i
along_map f first others (x ∷ stem) zero = refl
along_map f first others (x ∷ stem) (suc i) = along_map f first others stem i
