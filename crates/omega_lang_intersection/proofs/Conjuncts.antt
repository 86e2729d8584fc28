-- Labels that are joined: their conjuncts are those of both labels, each once, and their propositions those of both.
use Rattle.std.proofs.Common.{◌≡◌, ℕ, ◌<◌, nat_lt, Bool, true, false, ◌&&◌, List, [], ◌∷◌, ◌++◌, Contains, append_assoc, inl, inr, refl, sym, ap, ap₂, subst, ◌∙◌, if◌then◌else◌}
use Rattle.std.specs.Prelude.{fold}
use Rattle.std.specs.List.{AllByRecursion, list_all, list_any}
use Rattle.std.proofs.lemmas.List.{append-nil}
use Rattle.indexmap.specs.IndexSet.{insert_all}
use Rattle.std.proofs.lemmas.Bool.{lt-ltb, ltb-true}
use Rattle.omega_hoa_label.specs.Label.{LabelTree, conjunction, constant, disjunction, negation, proposition, propositions}
use Rattle.omega_hoa_edges.specs.Conjuncts.{all_of, conjuncts, each_once, joined, same_label}
use Rattle.omega_hoa_edges.proofs.Meaning.{joined_mentions}
use Rattle.omega_lang_product.proofs.Membership.{Contains-cases, Contains-here, Contains-nothing, Contains-there}
use Rattle.omega_lang_product.proofs.Holding.{and_both}
use Rattle.omega_lang_intersection.proofs.Strings.{all_both}

-- what is inserted, each once: it is inserted again as it is
module _ {X : Type 0} (same : X → X → Bool) where
  -- each of a list is unlike those before it and those of another list
  abbrev Apart : List X → List X → Type 0
  Apart known [] = Unit {0}
  Apart known (x ∷ xs) = (list_any (same x) known ≡ false) × Apart (known ++ x ∷ []) xs

  record IsInserted (P : X → Type 0) (known xs : List X) : Type 0 where
    pub new : List X
    pub is : insert_all same known xs ≡ known ++ new
    pub apart : Apart known new
    pub all : AllByRecursion P new

  inserted : (P : X → Type 0) (known xs : List X) → AllByRecursion P xs → IsInserted P known xs
  inserted P known [] all = record { new = []; is = sym (append-nil known); apart = tt; all = tt }
  inserted P known (x ∷ xs) all = go (list_any (same x) known) refl (inserted P known xs all.1) (inserted P (known ++ x ∷ []) xs all.1)
    where
      go : (b : Bool) → list_any (same x) known ≡ b → IsInserted P known xs → IsInserted P (known ++ x ∷ []) xs → IsInserted P known (x ∷ xs)
      go true e old new = record {
        new = old.new;
        is = ap (λ c. insert_all same (if c then known else known ++ x ∷ []) xs) e ∙ old.is;
        apart = old.apart;
        all = old.all;
      }
      go false e old new = record {
        new = x ∷ new.new;
        is = ap (λ c. insert_all same (if c then known else known ++ x ∷ []) xs) e ∙ new.is ∙ append_assoc known (x ∷ []) new.new;
        apart = (e, new.apart);
        all = (all.0, new.all);
      }

  again : (known xs : List X) → Apart known xs → insert_all same known xs ≡ known ++ xs
  again known [] apart = sym (append-nil known)
  again known (x ∷ xs) apart =
      ap (λ c. insert_all same (if c then known else known ++ x ∷ []) xs) apart.0 ∙ again (known ++ x ∷ []) xs apart.1
      ∙ append_assoc known (x ∷ []) xs

-- a label that is its only conjunct
abbrev IsOne : LabelTree → Type 0
IsOne label = conjuncts label ≡ label ∷ []

all_one : (label : LabelTree) → AllByRecursion IsOne (conjuncts label)
all_one (constant true) = tt
all_one (constant false) = (refl, tt)
all_one (proposition number) = (refl, tt)
all_one (negation (constant value)) = (refl, tt)
all_one (negation (proposition number)) = (refl, tt)
all_one (negation (negation part)) = all_one part
all_one (negation (conjunction left right)) = (refl, tt)
all_one (negation (disjunction left right)) = (refl, tt)
all_one (conjunction left right) = all_both IsOne (conjuncts left) (conjuncts right) (all_one left) (all_one right)
all_one (disjunction left right) = (refl, tt)

-- the conjuncts of a conjunction of such labels
conjuncts_after : (first : LabelTree) (others : List LabelTree) → AllByRecursion IsOne others
    → conjuncts (fold conjunction first others) ≡ conjuncts first ++ others
conjuncts_after first [] all = sym (append-nil (conjuncts first))
conjuncts_after first (x ∷ xs) all =
    conjuncts_after (conjunction first x) xs all.1 ∙ ap (λ (own : List LabelTree). (conjuncts first ++ own) ++ xs) all.0
    ∙ append_assoc (conjuncts first) (x ∷ []) xs

conjuncts_of_all : (labels : List LabelTree) → AllByRecursion IsOne labels → conjuncts (all_of labels) ≡ labels
conjuncts_of_all [] all = refl
conjuncts_of_all (x ∷ xs) all = conjuncts_after x xs all.1 ∙ ap (λ (own : List LabelTree). own ++ xs) all.0

pub joined_conjuncts : (one other : LabelTree) → each_once (conjuncts (joined one other)) ≡ each_once (conjuncts one ++ conjuncts other)
joined_conjuncts one other =
    let both : List LabelTree = conjuncts one ++ conjuncts other in
    let found = inserted same_label IsOne [] both (all_both IsOne (conjuncts one) (conjuncts other) (all_one one) (all_one other)) in
    ap (λ (labels : List LabelTree). each_once (conjuncts (all_of labels))) found.is
    ∙ ap each_once (conjuncts_of_all found.new found.all)
    ∙ again same_label [] found.new found.apart ∙ sym found.is

-- propositions of a label that are below a bound pass a test
all_pass : (bound : ℕ) (ps : List ℕ) → ((p : ℕ) → Contains ps p → p < bound) → list_all (λ p. nat_lt p bound) ps ≡ true
all_pass bound [] below = refl
all_pass bound (p ∷ ps) below =
    ap₂ ◌&&◌ (lt-ltb p bound (below p (Contains-here p ps))) (all_pass bound ps (λ q h. below q (Contains-there p q ps h)))

each_passes : (bound : ℕ) (ps : List ℕ) → list_all (λ p. nat_lt p bound) ps ≡ true → (p : ℕ) → Contains ps p → p < bound
each_passes bound [] all p within = absurd (Contains-nothing p within)
each_passes bound (q ∷ ps) all p within =
    let both = and_both (nat_lt q bound) (list_all (λ p. nat_lt p bound) ps) all in
    elim (Contains-cases q p ps within) [
      | inl here ↦ subst (λ n. n < bound) here (ltb-true q bound both.0)
      | inr later ↦ each_passes bound ps both.1 p later
    ]

pub joined_below : (one other : LabelTree) (bound : ℕ) → ((p : ℕ) → Contains (propositions one) p → p < bound)
    → ((p : ℕ) → Contains (propositions other) p → p < bound) → (p : ℕ) → Contains (propositions (joined one other)) p → p < bound
joined_below one other bound first second =
    each_passes bound (propositions (joined one other)) (joined_mentions (λ p. nat_lt p bound) one other
    ∙ ap₂ ◌&&◌ (all_pass bound (propositions one) first) (all_pass bound (propositions other) second))
