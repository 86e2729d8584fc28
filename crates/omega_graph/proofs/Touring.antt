-- Tours: a walk through given edges of a connected set, back to the first.
use Rattle.std.proofs.Common.{ℕ, ◌<◌, IsTrue, inl, inr, List, [], ◌∷◌, ◌++◌, length, All, Contains, refl, subst, arith}
use Rattle.std.proofs.lemmas.List.Elements.{All-head, All-tail, Contains-append_right}
use Rattle.omega_graph.specs.Rules.{IsConnected}
use Rattle.omega_graph.specs.Walks.{EdgeSet, MarkedGraph, IsEdgeWalk}
use Rattle.omega_graph.proofs.ClosedWalking.{first_or_later, has_first, has_later, joined}

module _ (graph : MarkedGraph) (edges : EdgeSet) (connected : IsConnected graph edges) where
  -- a walk from an edge through others to the state that the last one leaves
  pub record Tour (number : ℕ) (numbers : List ℕ) (last : ℕ) : Type 0 where
    pub walk : List ℕ
    pub leads : IsEdgeWalk graph edges (graph number).from walk (graph last).from
    pub longer : 0 < length walk
    pub passes : (passed : ℕ) → Contains (number ∷ numbers) passed → Contains walk passed

  -- some such walk stays in the set
  pub tour : (number : ℕ) (numbers : List ℕ) (last : ℕ) → All (λ n. IsTrue (edges n)) (number ∷ numbers) → IsTrue (edges last) → Tour number numbers last
  tour number [] last all is =
      let here = All-head (λ n. IsTrue (edges n)) number [] all in
      let onward = connected number last here is in
      record {
        walk = number ∷ onward.0;
        leads = (here, refl, onward.1);
        longer = omega arith;
        passes = λ passed has. elim (first_or_later number [] passed has) [
          | inl same ↦ subst (Contains (number ∷ onward.0)) same (has_first number onward.0)
          | inr none ↦ let below : none.0 < 0 = none.1 in absurd (omega arith)
        ];
      }
  tour number (next ∷ numbers) last all is =
      let here = All-head (λ n. IsTrue (edges n)) number (next ∷ numbers) all in
      let later = All-tail (λ n. IsTrue (edges n)) number (next ∷ numbers) all in
      let onward = connected number next here (All-head (λ n. IsTrue (edges n)) next numbers later) in
      let rest = tour next numbers last later is in
      record {
        walk = number ∷ (onward.0 ++ rest.walk);
        leads = (here, refl, joined graph edges (graph number).to onward.0 (graph next).from rest.walk (graph last).from onward.1 rest.leads);
        longer = omega arith;
        passes = λ passed has. elim (first_or_later number (next ∷ numbers) passed has) [
          | inl same ↦ subst (Contains (number ∷ (onward.0 ++ rest.walk))) same (has_first number (onward.0 ++ rest.walk))
          | inr among ↦ has_later number (onward.0 ++ rest.walk) passed (Contains-append_right onward.0 rest.walk passed (rest.passes passed among))
        ];
      }
