-- A lasso whose stem is shortened: the common suffix of stem and cycle begins the cycle.
use Rattle.std.proofs.Common.{◌≡◌, ℕ, zero, suc, ◌+◌, ◌-◌, ◌<◌, Bool, true, false, ◌&&◌, ◌||◌, not, List, [], ◌∷◌, ◌++◌, length, map, drop, slice_index_or, sym, ap, refl, ◌∙◌, subst, arith, length-append}
use Rattle.omega_hoa_acceptance.specs.Acceptance.{AccTree, accepts, conjunction, constant, disjunction, fin, inf, occurs}
use Rattle.omega_hoa_automaton.specs.Automaton.{Description}
use Rattle.omega_lang_runs.specs.Lasso.{IsAcceptingLasso, Leads, marks_at}
use Rattle.omega_lang_runs.proofs.Leads.{leads_on, occurs_on}
use Rattle.omega_lang_runs.proofs.runs.Steps.{one_source}

or_swap : (x y : Bool) → (x || y) ≡ (y || x)
or_swap true true = refl
or_swap true false = refl
or_swap false true = refl
or_swap false false = refl

occurs_swap : (negated : Bool) (set : ℕ) (xs ys : List (List ℕ)) → occurs (xs ++ ys) negated set ≡ occurs (ys ++ xs) negated set
occurs_swap negated set xs ys =
    occurs_on negated set xs ys ∙ or_swap (occurs xs negated set) (occurs ys negated set) ∙ sym (occurs_on negated set ys xs)

-- a formula holds of marks in whatever order they come
accepts_swap : (xs ys : List (List ℕ)) (f : AccTree) → accepts (xs ++ ys) f ≡ accepts (ys ++ xs) f
accepts_swap xs ys (constant value) = refl
accepts_swap xs ys (inf negated set) = occurs_swap negated set xs ys
accepts_swap xs ys (fin negated set) = ap not (occurs_swap negated set xs ys)
accepts_swap xs ys (conjunction left right) =
    ap (λ b. b && accepts (xs ++ ys) right) (accepts_swap xs ys left) ∙ ap (λ b. accepts (ys ++ xs) left && b) (accepts_swap xs ys right)
accepts_swap xs ys (disjunction left right) =
    ap (λ b. b || accepts (xs ++ ys) right) (accepts_swap xs ys left) ∙ ap (λ b. accepts (ys ++ xs) left || b) (accepts_swap xs ys right)

map_on : (f : ℕ → List ℕ) (xs ys : List ℕ) → map f (xs ++ ys) ≡ map f xs ++ map f ys
map_on f [] ys = refl
map_on f (x ∷ xs) ys = ap (λ list. f x ∷ list) (map_on f xs ys)

-- edges lead to the end of the first of them, and the others on from there
parted : (a : Description) (s : ℕ) (xs ys : List ℕ) (u : ℕ) → Leads a s (xs ++ ys) u → (t : ℕ) × Leads a s xs t × Leads a t ys u
parted a s [] ys u leads = (s, refl, leads)
parted a s (x ∷ xs) ys u leads = let rest = parted a leads.0 xs ys u leads.2 in (rest.0, (leads.0, leads.1, rest.1), rest.2)

-- the same edges lead to one state from one state alone
one_origin : (a : Description) (s t u : ℕ) (xs : List ℕ) → Leads a s xs u → Leads a t xs u → s ≡ t
one_origin a s t u [] first second = first ∙ sym second
one_origin a s t u (x ∷ xs) first second = one_source a s t x x first.0 second.0 refl first.1 second.1

pub turned_lasso : (a : Description) (stem cycle shared : List ℕ) → IsAcceptingLasso a (stem ++ shared) (cycle ++ shared)
    → IsAcceptingLasso a stem (shared ++ cycle)
turned_lasso a stem cycle shared accepting =
    let lasso = accepting.lasso in
    let first = parted a lasso.start stem shared lasso.loop_state lasso.stem_leads in
    let second = parted a lasso.loop_state cycle shared lasso.loop_state lasso.cycle_leads in
    let same : second.0 ≡ first.0 = one_origin a second.0 first.0 lasso.loop_state shared second.2 first.2 in
    record {
      lasso = record {
        start = lasso.start;
        loop_state = first.0;
        begins = lasso.begins;
        stem_leads = first.1;
        cycle_leads = leads_on a first.0 shared lasso.loop_state cycle first.0 first.2 (subst (λ n. Leads a lasso.loop_state cycle n) same second.1);
        longer = omega (arith, lasso.longer, length-append cycle shared, length-append shared cycle);
      };
      accepted = ap (λ marks. accepts marks a.acceptance) (map_on (marks_at a) shared cycle)
          ∙ accepts_swap (map (marks_at a) shared) (map (marks_at a) cycle) a.acceptance
          ∙ ap (λ marks. accepts marks a.acceptance) (sym (map_on (marks_at a) cycle shared))
          ∙ accepting.accepted;
    }

drop_all : (xs : List ℕ) → drop (length xs) xs ≡ []
drop_all [] = refl
drop_all (x ∷ xs) = drop_all xs

drop_next : (xs : List ℕ) (j : ℕ) → j < length xs → drop j xs ≡ slice_index_or xs j 0 ∷ drop (suc j) xs
drop_next [] j within = absurd (omega (arith, within))
drop_next (x ∷ xs) zero within = refl
drop_next (x ∷ xs) (suc j) within = drop_next xs j (omega (arith, within))

-- two lists end alike with no number
pub none_shared : (xs ys : List ℕ) → drop (length xs - 0) xs ≡ drop (length ys - 0) ys
none_shared xs ys =
    let at_end : (zs : List ℕ) → drop (length zs - 0) zs ≡ [] = λ zs. ap (λ n. drop n zs) (omega arith) ∙ drop_all zs in
    at_end xs ∙ sym (at_end ys)

end_cons : (xs : List ℕ) (s : ℕ) → s < length xs → drop (length xs - (s + 1)) xs ≡ slice_index_or xs (length xs - s - 1) 0 ∷ drop (length xs - s) xs
end_cons xs s within =
    let place : length xs - (s + 1) ≡ length xs - s - 1 = omega arith in
    let next : suc (length xs - s - 1) ≡ length xs - s = omega (arith, within) in
    ap (λ n. drop n xs) place ∙ drop_next xs (length xs - s - 1) (omega (arith, within))
    ∙ ap (λ n. slice_index_or xs (length xs - s - 1) 0 ∷ drop n xs) next

-- with one number more, if these are the same
pub one_more_shared : (xs ys : List ℕ) (s : ℕ) → s < length xs → s < length ys
    → slice_index_or xs (length xs - s - 1) 0 ≡ slice_index_or ys (length ys - s - 1) 0 → drop (length xs - s) xs ≡ drop (length ys - s) ys
    → drop (length xs - (s + 1)) xs ≡ drop (length ys - (s + 1)) ys
one_more_shared xs ys s first second same ends =
    end_cons xs s first ∙ ap (λ x. x ∷ drop (length xs - s) xs) same ∙ ap (λ rest. slice_index_or ys (length ys - s - 1) 0 ∷ rest) ends
    ∙ sym (end_cons ys s second)
