-- What a strategy reaches from some places: it leads nowhere else, and where the places lead nowhere else it is they.
use Rattle.std.proofs.Common.{◌≡◌, ℕ, ◌+◌, ◌<◌, ◌≤◌, ◌⊎◌, inl, inr, Bool, true, false, IsTrue, Option, List, [], ◌∷◌, ◌++◌, length, set, get_or, take, replicate, Contains, refl, sym, ◌∙◌, subst}
use Rattle.std.proofs.lemmas.Bool.{cases_eq, false≢true}
use Rattle.std.proofs.lemmas.List.{take_more}
use Rattle.std.proofs.lemmas.List.Elements.{Contains-append_left, Contains-push, Contains-push_cases}
use Rattle.omega_game_values.specs.Game.{Node, priority_at}
use Rattle.omega_game_reaching.specs.Reaching.{mark_at, IsLowPath, AreReached}
use Rattle.omega_game_values.specs.Winning.{end_of}
use Rattle.omega_game_values.proofs.elements.Membership.{Contains-nothing}
use Rattle.omega_game_reaching.proofs.Marking.{mark_set, mark_other, mark_kept, reached_on, unmarked}
use Rattle.omega_game.specs.private.checking.Following.{AreMarked, AreClosed}

-- what is reached without a bound leads to what is reached
pub reached_closed : (nodes : List Node) (choices : List (Option ℕ)) (most : ℕ) → ((v : ℕ) → priority_at nodes v ≤ most) → (places : List ℕ) (marks : List Bool)
    → AreReached nodes choices most places marks → AreClosed nodes choices marks
reached_closed nodes choices most low places marks reached v w mark edge =
    (reached w).1 (reached_on nodes choices most places v w ((reached v).0 mark) edge (low w))

-- marked places that lead to none but marked ones are those that are reached from them
pub closed_reached : (nodes : List Node) (choices : List (Option ℕ)) (most : ℕ) → ((v : ℕ) → priority_at nodes v ≤ most) → (places : List ℕ) (marks : List Bool)
    → AreMarked places marks → AreClosed nodes choices marks → AreReached nodes choices most places marks
closed_reached nodes choices most low places marks are closed v = (
  λ mark. record { start = v; listed = (are v).0 mark; after = []; path = low v; ends = refl },
  λ reached. subst (λ u. IsTrue (mark_at marks u)) reached.ends (along reached.start reached.after ((are reached.start).1 reached.listed) reached.path),
)
  where
    along : (u : ℕ) (ws : List ℕ) → IsTrue (mark_at marks u) → IsLowPath nodes choices most u ws → IsTrue (mark_at marks (end_of u ws))
    along u [] mark path = mark
    along u (w ∷ ws) mark path = along w ws (closed u w mark path.1) path.2

-- no place is marked where no mark is set
pub marked_none : (n : ℕ) → AreMarked [] (replicate n false)
marked_none n v = (
  λ mark. absurd (false≢true (sym (unmarked n v) ∙ mark)),
  λ nothing. absurd (Contains-nothing v nothing),
)

-- the places before the i-th are marked, and then that one too
pub marked_more : (xs : List ℕ) (i : ℕ) (marks m : List Bool) → i < length xs → AreMarked (take i xs) marks → get_or xs i 0 < length marks
    → m ≡ set marks (get_or xs i 0) true → AreMarked (take (i + 1) xs) m
marked_more xs i marks m within are below is v = rw (is, take_more xs i 0 within) (
  λ mark. there mark (cases_eq v (get_or xs i 0)),
  λ contained. back (Contains-push_cases (take i xs) (get_or xs i 0) v contained),
)
  where
    there : IsTrue (mark_at (set marks (get_or xs i 0) true) v) → (v ≡ get_or xs i 0) ⊎ (v ≡ get_or xs i 0 → ⊥) → Contains (take i xs ++ get_or xs i 0 ∷ []) v
    there mark (inl e) = subst (λ u. Contains (take i xs ++ get_or xs i 0 ∷ []) u) (sym e) (Contains-push (take i xs) (get_or xs i 0))
    there mark (inr apart) =
        Contains-append_left (take i xs) (get_or xs i 0 ∷ []) v ((are v).0 (sym (mark_other marks (get_or xs i 0) v apart) ∙ mark))

    back : Contains (take i xs) v ⊎ (get_or xs i 0 ≡ v) → IsTrue (mark_at (set marks (get_or xs i 0) true) v)
    back (inl earlier) = mark_kept marks (get_or xs i 0) v below ((are v).1 earlier)
    back (inr e) = mark_set marks (get_or xs i 0) v below e
