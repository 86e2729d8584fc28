-- The names of the formula of a text are strings.
use Rattle.std.proofs.Common.{◌≡◌, ℕ, suc, ◌==◌, Bool, true, false, Option, Some, None, List, [], ◌∷◌, ◌++◌, length, refl, ap, sym, subst, arith, if◌then◌else◌}
use Rattle.std.specs.Prelude.{option_map}
use Rattle.std.specs.List.{AllByRecursion, list_any}
use Rattle.std.specs.Str.{bytes_eq}
use Rattle.std.proofs.lemmas.Bool.{eqb-true, false≢true}
use Rattle.indexmap.specs.IndexSet.{insert_all, insert_key}
use Rattle.omega_text.specs.hoa.Forms as forms
use Rattle.omega_ltl_formula.specs.Formula.{names_in}
use Rattle.omega_ltl_formula.specs.Table.{tree_of}
use Rattle.omega_ltl_text.specs.Laws.{NamesAreQuotable}
use Rattle.omega_ltl_text.specs.Tokens.{quoted_count}
use Rattle.omega_ltl_text.specs.Written.{IsQuotable}
use Rattle.omega_answers_formula.specs.Laws.{FormulaNamesAreStrings}

-- one less on both sides
one_less : (found : Option ℕ) (n : ℕ) → option_map suc found ≡ Some (suc n) → found ≡ Some n
one_less None n is = absurd (let clash : ◌≡◌ {A = Option ℕ} None (Some (suc n)) = is in cc)
one_less (Some m) n is =
    let both : suc m ≡ suc n = cc in
    let same : m ≡ n = omega (arith, both) in
    ap Some same

-- a byte before what may stand between quotes
byte_is_string : (b : ℕ) (rest : List ℕ) → (quoted_count false (rest ++ 34 ∷ []) ≡ Some (suc (length rest)) → forms.IsQuotable rest)
    → (quoted_count true (rest ++ 34 ∷ []) ≡ Some (suc (length rest)) → forms.IsQuotable (92 ∷ rest))
    → IsQuotable (b ∷ rest) → forms.IsQuotable (b ∷ rest)
byte_is_string b rest plain_rest escaped_rest is = go (b == 34) (b == 92) refl refl is
  where
    go : (quote slash : Bool) → (b == 34) ≡ quote → (b == 92) ≡ slash
        → (if quote then Some 1 else option_map suc (quoted_count slash (rest ++ 34 ∷ []))) ≡ Some (suc (suc (length rest)))
        → forms.IsQuotable (b ∷ rest)
    go true slash q s e = absurd (let clash : 1 ≡ suc (suc (length rest)) = cc in omega (arith, clash))
    go false true q s e = subst (λ (byte : ℕ). forms.IsQuotable (byte ∷ rest)) (sym (eqb-true b 92 s)) (escaped_rest (one_less _ _ e))
    go false false q s e =
        forms.plain b rest (λ is. false≢true (sym (subst (λ (x : ℕ). (x == 34) ≡ false) is q)))
        (λ is. false≢true (sym (subst (λ (x : ℕ). (x == 92) ≡ false) is s))) (plain_rest (one_less _ _ e))

-- what may stand between quotes of a formula may stand between those of the Hanoi format
is_string : (bytes : List ℕ) → IsQuotable bytes → forms.IsQuotable bytes
is_string [] is = forms.empty
is_string (b ∷ []) is =
    byte_is_string b [] (λ _. forms.empty) (λ none. absurd (let clash : ◌≡◌ {A = Option ℕ} None (Some 1) = none in cc)) is
is_string (b ∷ c ∷ cs) is =
    byte_is_string b (c ∷ cs) (is_string (c ∷ cs))
    (λ after. forms.escaped c cs (is_string cs (one_less (quoted_count false (cs ++ 34 ∷ [])) (suc (length cs)) after))) is

all_strings : (names : List (List ℕ)) → AllByRecursion IsQuotable names → AllByRecursion forms.IsQuotable names
all_strings [] all = tt
all_strings (name ∷ names) all = (is_string name all.0, all_strings names all.1)

module _ (P : List ℕ → Type 0) where
  all_with : (xs : List (List ℕ)) (x : List ℕ) → AllByRecursion P xs → P x → AllByRecursion P (xs ++ x ∷ [])
  all_with [] x all holds = (holds, tt)
  all_with (y ∷ ys) x all holds = (all.0, all_with ys x all.1 holds)

  -- a name that is there already is not put in again
  all_inserted_one : (keys : List (List ℕ)) (x : List ℕ) → AllByRecursion P keys → P x → AllByRecursion P (insert_key bytes_eq keys x)
  all_inserted_one keys x all holds = go (list_any (bytes_eq x) keys)
    where
      go : (b : Bool) → AllByRecursion P (if b then keys else keys ++ x ∷ [])
      go true = all
      go false = all_with keys x all holds

  all_inserted : (keys xs : List (List ℕ)) → AllByRecursion P keys → AllByRecursion P xs → AllByRecursion P (insert_all bytes_eq keys xs)
  all_inserted keys [] all holds = all
  all_inserted keys (x ∷ xs) all holds = all_inserted (insert_key bytes_eq keys x) xs (all_inserted_one keys x all holds.0) holds.1

pub names_are_strings : NamesAreQuotable → FormulaNamesAreStrings
names_are_strings quotable text formula is =
    subst (AllByRecursion forms.IsQuotable) (sym is.names)
    (all_inserted forms.IsQuotable [] (names_in (tree_of formula)) tt (all_strings _ (quotable text (tree_of formula) is.read.says)))
