-- A search in breadth from its sources until nothing is left to follow.
use Rattle.std.proofs.Common.{◌≡◌, ℕ, ◌+◌, ◌<◌, ◌≤◌, ◌⊎◌, inl, inr, false, IsTrue, List, [], length, get_or, replicate, All, Contains, sym, ◌∙◌, ap, subst, arith}
use Rattle.std.proofs.lemmas.Bool.{cases_eq, cases_lt, false≢true}
use Rattle.std.proofs.lemmas.List.{length-replicate}
use Rattle.std.proofs.lemmas.List.Elements.{All-contains}
use Rattle.omega_graph.specs.declared.met.MetState.{MetState}
use Rattle.omega_graph.specs.private.Searching.{AreFollowed, Grows, IsMet, IsSearched, IsStart, IsStep, LeadBack, Trace, mark_at, met_at}
use Rattle.omega_graph.proofs.Growing.{unmarked}

module _ (leaves enters sources : List ℕ) (count : ℕ) where
  -- a search that has followed the edges of what it met before an index
  pub record IsSearching (trace : Trace) (index : ℕ) : Type 0 where
    pub count_is : length trace.marks ≡ count
    pub tree : (i : ℕ) → i < length trace.met → IsMet leaves enters sources trace.met i
    pub found : (v : ℕ) → IsTrue (mark_at trace.marks v) → (i : ℕ) × (i < length trace.met) × ((met_at trace.met i).state ≡ v)
    pub begun : (v : ℕ) → Contains sources v → IsTrue (mark_at trace.marks v)
    pub done : (k : ℕ) → k < index → AreFollowed leaves enters (met_at trace.met k).state trace.marks

  -- it begins with the sources
  pub searching_begins : (before after : Trace) → before.marks ≡ replicate count false → before.met ≡ [] → Grows (IsStart sources) before after
      → ((v : ℕ) → Contains sources v → IsTrue (mark_at after.marks v)) → IsSearching after 0
  searching_begins before after clear empty grows begun = record {
    count_is = grows.count ∙ ap length clear ∙ length-replicate count false;
    tree = λ i within. inl (grows.new i (let none = ap length empty in omega arith) within);
    found = λ v mark. found v (grows.fresh v mark);
    begun = begun;
    done = λ k below. absurd (omega arith);
  }
    where
      found : (v : ℕ) → IsTrue (mark_at before.marks v) ⊎ ((i : ℕ) × (i < length after.met) × ((met_at after.met i).state ≡ v)) → (i : ℕ) × (i < length after.met) × ((met_at after.met i).state ≡ v)
      found v (inl mark) = absurd (false≢true (sym (unmarked count v) ∙ ap (λ m. mark_at m v) (sym clear) ∙ mark))
      found v (inr at) = at

  -- what it met is below the count
  pub met_inside : (trace : Trace) (index : ℕ) → IsSearching trace index → length enters ≡ length leaves
      → All (λ state. state < count) enters → All (λ state. state < count) sources → (i : ℕ) → i < length trace.met → (met_at trace.met i).state < count
  met_inside trace index so_far even inside begun i within = go (so_far.tree i within)
    where
      go : IsMet leaves enters sources trace.met i → (met_at trace.met i).state < count
      go (inl start) = All-contains (λ state. state < count) sources (met_at trace.met i).state begun start.1
      go (inr step) = subst (λ (s : ℕ). s < count) step.2.enter (inside step.2.index 0 (omega (arith, step.2.within)))

  -- it goes on with the edges of what it met at the index
  pub searching_more : (before after : Trace) (index : ℕ) → IsSearching before index → index < length before.met
      → Grows (IsStep leaves enters (met_at before.met index).state index) before after → AreFollowed leaves enters (met_at before.met index).state after.marks
      → IsSearching after (index + 1)
  searching_more before after index so_far inside grows followed = record {
    count_is = grows.count ∙ so_far.count_is;
    tree = λ i within. tree i within (cases_lt i (length before.met));
    found = λ v mark. found v (grows.fresh v mark);
    begun = λ v listed. grows.kept v (so_far.begun v listed);
    done = λ k below i within same. done k below i within same (cases_eq k index);
  }
    where
      older : (i : ℕ) → i < length before.met → IsMet leaves enters sources before.met i → IsMet leaves enters sources after.met i
      older i within (inl start) = inl (subst (λ (m : MetState). IsStart sources m) (sym (grows.same i within)) start)
      older i within (inr step) = inr (
        step.0,
        step.1,
        subst (λ (m : MetState). IsStep leaves enters (met_at after.met step.0).state step.0 m) (sym (grows.same i within))
            (subst (λ (m : MetState). IsStep leaves enters m.state step.0 (met_at before.met i)) (sym (grows.same step.0 (let below : step.0 < i = step.1 in omega arith))) step.2),
      )

      tree : (i : ℕ) → i < length after.met → (i < length before.met) ⊎ (length before.met ≤ i) → IsMet leaves enters sources after.met i
      tree i within (inl old) = older i old (so_far.tree i old)
      tree i within (inr past) = inr (
        index,
        omega arith,
        subst (λ (m : MetState). IsStep leaves enters m.state index (met_at after.met i)) (sym (grows.same index inside)) (grows.new i past within),
      )

      found : (v : ℕ) → IsTrue (mark_at before.marks v) ⊎ ((i : ℕ) × (i < length after.met) × ((met_at after.met i).state ≡ v)) → (i : ℕ) × (i < length after.met) × ((met_at after.met i).state ≡ v)
      found v (inl mark) =
          let at = so_far.found v mark in
          let below : at.0 < length before.met = at.1 in
          (at.0, omega (arith, grows.longer), ap (λ (m : MetState). m.state) (grows.same at.0 at.1) ∙ at.2)
      found v (inr at) = at

      done : (k : ℕ) → k < index + 1 → (i : ℕ) → i < length leaves → get_or leaves i 0 ≡ (met_at after.met k).state → (k ≡ index) ⊎ (k ≡ index → ⊥) → IsTrue (mark_at after.marks (get_or enters i 0))
      done k below i within same (inl here) =
          followed i within (same ∙ ap (λ (n : ℕ). (met_at after.met n).state) here ∙ ap (λ (m : MetState). m.state) (grows.same index inside))
      done k below i within same (inr apart) =
          let earlier : k < index = omega arith in
          grows.kept (get_or enters i 0) (so_far.done k earlier i within (same ∙ ap (λ (m : MetState). m.state) (grows.same k (omega arith))))

  -- and ends if nothing is left
  pub searching_ends : (trace : Trace) (index : ℕ) → IsSearching trace index → length trace.met ≤ index → IsSearched leaves enters sources count trace
  searching_ends trace index so_far all = record {
    count_is = so_far.count_is;
    tree = so_far.tree;
    found = so_far.found;
    begun = so_far.begun;
    closed = λ i within mark.
        let at = so_far.found (get_or leaves i 0) mark in
        let below : at.0 < length trace.met = at.1 in
        so_far.done at.0 (omega arith) i within (sym at.2);
  }

-- what was met leads back
pub leads_back : (leaves enters sources : List ℕ) (met : List MetState) (edges : ℕ) → length leaves ≡ edges
    → ((i : ℕ) → i < length met → IsMet leaves enters sources met i) → LeadBack edges met
leads_back leaves enters sources met edges count tree i within = go (tree i within)
  where
    go : IsMet leaves enters sources met i → ((met_at met i).edge ≡ 0) ⊎ (((met_at met i).edge ≤ edges) × ((met_at met i).origin < i))
    go (inl start) = inl start.0
    go (inr step) =
        let below : step.0 < i = step.1 in
        inr (omega (arith, step.2.edge, step.2.within), omega (arith, step.2.from))
