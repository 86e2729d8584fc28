-- What judged lines come to.
use Rattle.std.proofs.Common.{◌≡◌, ◌≢◌, ◌↔◌, ℕ, zero, suc, ◌<◌, inl, inr, Bool, true, false, Option, Some, None, IfSome, IsSome, List, [], ◌∷◌, length, map, get_or, refl, ap, sym, ◌∙◌, subst, arith}
use Rattle.std.specs.Prelude.{option_map}
use Rattle.std.specs.List.{range_with_len}
use Rattle.std.proofs.lemmas.Bool.{cases_lt}
use Rattle.std.proofs.lemmas.List.{get_or-map, length-map}
use Rattle.std.proofs.lemmas.List.FromFn.{fill_by_all}
use Rattle.omega_game_values.specs.Game.{HasEdge, Node, no_node, owner_at, greatest_identifier, identifier_at}
use Rattle.omega_game_values.specs.Winning.{Chooses, choice_at}
use Rattle.omega_game_values.specs.declared.player.Player.{Player}
use Rattle.omega_game_values.specs.declared.player.Player.TheVariants.{One, Zero}
use Rattle.omega_pg.specs.solution.BadSolution.{IsNoSolution}
use Rattle.omega_pg.specs.solution.Grammar.{SolutionLine, RawSolution, no_line}
use Rattle.omega_game_values.specs.Solution.{IsSolution, choices_of}
use Rattle.omega_pg.specs.solution.Text.{line_at, raw_solution}
use Rattle.omega_pg.specs.private.solution.reader.Lines.{AreJudged, AreSaid, IsKept, entry_of}
use Rattle.omega_game_values.specs.declared.solution.Solution.{Solution}

-- a header with another number
pub other_number : (nodes : List Node) (greatest : ℕ) (lines : List SolutionLine) → greatest_identifier nodes ≢ greatest
    → IsNoSolution nodes (record { greatest = greatest; lines = lines })
other_number nodes greatest lines other = inl (λ e. other (sym e))

-- another number of lines
other_length : (nodes : List Node) (greatest : ℕ) (lines : List SolutionLine) → length lines ≢ length nodes
    → IsNoSolution nodes (record { greatest = greatest; lines = lines })
other_length nodes greatest lines other =
    inr (inl (λ e. other
    (sym (length-map lines (λ (line : SolutionLine). line.identifier)) ∙ ap length e ∙ length-map nodes (λ (node : Node). node.identifier))))

pub other_count : (nodes : List Node) (greatest : ℕ) (lines : List SolutionLine) (good : Bool) (winners : List Player) (zeros ones : List (Option ℕ))
    → good ≡ true → length winners ≢ length nodes → AreJudged nodes lines good winners zeros ones → IsNoSolution nodes (record { greatest = greatest; lines = lines })
other_count nodes greatest lines false winners zeros ones e other judged = absurd (let clash : false ≡ true = e in cc)
other_count nodes greatest lines true winners zeros ones e other judged =
    other_length nodes greatest lines (λ same. other (judged.winners_count ∙ same))

-- another identifier in some line
other_identifier : (nodes : List Node) (greatest : ℕ) (lines : List SolutionLine) (v : ℕ) → v < length lines → v < length nodes
    → (get_or lines v no_line).identifier ≢ identifier_at nodes v → IsNoSolution nodes (record { greatest = greatest; lines = lines })
other_identifier nodes greatest lines v h k other =
    inr (inl (λ e. other
    (sym (get_or-map (λ (line : SolutionLine). line.identifier) lines v no_line 0 h) ∙ ap (λ list. get_or list v 0) e
    ∙ get_or-map (λ (node : Node). node.identifier) nodes v no_node 0 k)))

-- a wrong line
pub wrong_line : (nodes : List Node) (greatest : ℕ) (lines : List SolutionLine) (good : Bool) (winners : List Player) (zeros ones : List (Option ℕ))
    → good ≡ false → AreJudged nodes lines good winners zeros ones → IsNoSolution nodes (record { greatest = greatest; lines = lines })
wrong_line nodes greatest lines true winners zeros ones e judged = absurd (let clash : true ≡ false = e in cc)
wrong_line nodes greatest lines false winners zeros ones e judged =
    elim (cases_lt judged.place (length nodes)) as (λ _. IsNoSolution nodes (record { greatest = greatest; lines = lines })) [
      | inr past ↦ other_length nodes greatest lines (λ same. omega (arith, judged.inside))
      | inl inside ↦ elim judged.wrong as (λ _. IsNoSolution nodes (record { greatest = greatest; lines = lines })) [
        | inl past ↦ absurd (omega arith)
        | inr wrong ↦ elim wrong as (λ _. IsNoSolution nodes (record { greatest = greatest; lines = lines })) [
          | inl other ↦ other_identifier nodes greatest lines judged.place judged.inside inside other
          | inr successor ↦ inr (inr (record { place = judged.place; inside = judged.inside; wrong = successor }))
        ]
      ]
    ]

-- a place that is chosen has a choice there
choice-from_Chooses : (choices : List (Option ℕ)) (v w : ℕ) → Chooses choices v w → (v < length choices) × (choice_at choices v ≡ Some w)
choice-from_Chooses [] v w e = absurd (let clash : ◌≡◌ {A = Option (Option ℕ)} None (Some (Some w)) = e in cc)
choice-from_Chooses (c ∷ choices) zero w e = (omega arith, (let same : ◌≡◌ {A = Option (Option ℕ)} (Some c) (Some (Some w)) = e in cc))
choice-from_Chooses (c ∷ choices) (suc v) w e =
    let rest = choice-from_Chooses choices v w e in
    (omega (arith, rest.0), rest.1)

-- an entry is the owner's choice
entry-some : (player owner : Player) (choice : Option ℕ) (w : ℕ) → entry_of player owner choice ≡ Some w → (owner ≡ player) × (choice ≡ Some w)
entry-some Zero Zero choice w e = (refl, e)
entry-some Zero One choice w e = absurd (let clash : ◌≡◌ {A = Option ℕ} None (Some w) = e in cc)
entry-some One Zero choice w e = absurd (let clash : ◌≡◌ {A = Option ℕ} None (Some w) = e in cc)
entry-some One One choice w e = (refl, e)

entry-own : (owner : Player) (choice : Option ℕ) → entry_of owner owner choice ≡ choice
entry-own Zero choice = refl
entry-own One choice = refl

-- an entry is there exactly if the owner is the player and wins
entry-chosen : (player owner winner said : Player) (choice : Option ℕ) → winner ≡ said → IsSome choice ↔ (owner ≡ said)
    → IsSome (entry_of player owner choice) ↔ ((owner ≡ player) × (winner ≡ player))
entry-chosen Zero Zero winner said choice e chosen = ((λ some. (refl, e ∙ sym (chosen.0 some))), (λ both. chosen.1 (sym both.1 ∙ e)))
entry-chosen Zero One winner said choice e chosen = ((λ some. absurd (let clash : false ≡ true = some in cc)), (λ both. absurd (let clash : One ≡ Zero = both.0 in cc)))
entry-chosen One Zero winner said choice e chosen = ((λ some. absurd (let clash : false ≡ true = some in cc)), (λ both. absurd (let clash : Zero ≡ One = both.0 in cc)))
entry-chosen One One winner said choice e chosen = ((λ some. (refl, e ∙ sym (chosen.0 some))), (λ both. chosen.1 (sym both.1 ∙ e)))

-- the solution of entries
abbrev pub solution_of : List Player → List (Option ℕ) → List (Option ℕ) → Solution
solution_of winners zeros ones = record { winners = winners; zero = record { choice = zeros }; one = record { choice = ones } }

-- what is kept of a player's choice
kept_entry : (nodes : List Node) (v : ℕ) (line : SolutionLine) (winners : List Player) (zeros ones : List (Option ℕ)) (player : Player)
    → (kept : IsKept nodes v line (get_or winners v Zero) (get_or zeros v None) (get_or ones v None))
    → choice_at (choices_of (solution_of winners zeros ones) player) v ≡ entry_of player (owner_at nodes v) kept.choice
kept_entry nodes v line winners zeros ones Zero kept = kept.zero_kept
kept_entry nodes v line winners zeros ones One kept = kept.one_kept

-- a line with the parts of another is that line
line_same : (id id' : ℕ) (winner winner' : Player) (successor successor' : Option ℕ) → id ≡ id' → winner ≡ winner' → successor ≡ successor'
    → ◌≡◌ {A = SolutionLine} (record { identifier = id; winner = winner; successor = successor }) (record { identifier = id'; winner = winner'; successor = successor' })
line_same id id' winner winner' successor successor' a b c = cc

-- the entries of as many lines as nodes are a solution, which is written so
module _ (nodes : List Node) (lines : List SolutionLine) (winners : List Player) (zeros ones : List (Option ℕ))
    (count : length winners ≡ length nodes) (said : AreSaid nodes lines winners zeros ones) where
  kept : (v : ℕ) → v < length nodes → IsKept nodes v (get_or lines v no_line) (get_or winners v Zero) (get_or zeros v None) (get_or ones v None)
  kept v h = said.said v (omega (arith, h, count, said.winners_count))

  entries_count : (player : Player) → length (choices_of (solution_of winners zeros ones) player) ≡ length nodes
  entries_count Zero = omega (arith, said.zero_count, said.winners_count, count)
  entries_count One = omega (arith, said.one_count, said.winners_count, count)

  chosen_entry : (player : Player) (v w : ℕ) → Chooses (choices_of (solution_of winners zeros ones) player) v w
      → (owner_at nodes v ≡ player) × HasEdge nodes v w
  chosen_entry player v w chooses =
      let there = choice-from_Chooses (choices_of (solution_of winners zeros ones) player) v w chooses in
      let k = kept v (omega (arith, there.0, entries_count player)) in
      let own = entry-some player (owner_at nodes v) k.choice w (sym (kept_entry nodes v (get_or lines v no_line) winners zeros ones player k) ∙ there.1) in
      (own.0, subst (λ o. IfSome o (HasEdge nodes v)) own.1 k.says.listed)

  pub entries_fit : IsSolution nodes (solution_of winners zeros ones)
  entries_fit = record {
    winners = count;
    strategies = λ player. record {
      entries = entries_count player;
      owned = λ v w chooses. (chosen_entry player v w chooses).0;
      listed = λ v w chooses. (chosen_entry player v w chooses).1;
    };
    chosen = λ player v h.
        let k = kept v h in
        subst (λ o. IsSome o ↔ ((owner_at nodes v ≡ player) × (get_or winners v Zero ≡ player)))
        (sym (kept_entry nodes v (get_or lines v no_line) winners zeros ones player k))
        (entry-chosen player (owner_at nodes v) (get_or winners v Zero) (get_or lines v no_line).winner k.choice k.winner_kept k.says.chosen);
  }

  line_kept : (v : ℕ) → v < length nodes → get_or lines v no_line ≡ line_at nodes (solution_of winners zeros ones) v
  line_kept v h =
      let k = kept v h in
      let owner = owner_at nodes v in
      line_same (get_or lines v no_line).identifier (identifier_at nodes v) (get_or lines v no_line).winner (get_or winners v Zero)
      (get_or lines v no_line).successor (option_map (identifier_at nodes) (choice_at (choices_of (solution_of winners zeros ones) owner) v))
      k.says.identifier (sym k.winner_kept)
      (k.says.successor ∙ ap (option_map (identifier_at nodes))
      (sym (kept_entry nodes v (get_or lines v no_line) winners zeros ones owner k ∙ entry-own owner k.choice)))

  pub entries_written : (greatest : ℕ) → greatest ≡ greatest_identifier nodes
      → ◌≡◌ {A = RawSolution} (record { greatest = greatest; lines = lines }) (raw_solution nodes (solution_of winners zeros ones))
  entries_written greatest e =
      let same : lines ≡ map (line_at nodes (solution_of winners zeros ones)) (range_with_len 0 (length nodes)) =
      fill_by_all (line_at nodes (solution_of winners zeros ones)) lines (length nodes) no_line (omega (arith, said.winners_count, count)) line_kept in
      ap (λ n. record { greatest = n; lines = lines }) e ∙ ap (λ list. record { greatest = greatest_identifier nodes; lines = list }) same

-- the same, as a call leaves it
pub outcome_kept : (nodes : List Node) (greatest : ℕ) (lines : List SolutionLine) (good : Bool) (winners ws : List Player) (zeros zs ones os : List (Option ℕ))
    → good ≡ true → length winners ≡ length nodes → greatest ≡ greatest_identifier nodes → ws ≡ winners → zs ≡ zeros → os ≡ ones
    → AreJudged nodes lines good winners zeros ones
    → IsSolution nodes (solution_of ws zs os) × (◌≡◌ {A = RawSolution} (record { greatest = greatest; lines = lines }) (raw_solution nodes (solution_of ws zs os)))
outcome_kept nodes greatest lines false winners ws zeros zs ones os e count top a b c judged = absurd (let clash : false ≡ true = e in cc)
outcome_kept nodes greatest lines true winners ws zeros zs ones os e count top a b c judged =
    let P : Solution → Type 0 = λ s. IsSolution nodes s × (◌≡◌ {A = RawSolution} (record { greatest = greatest; lines = lines }) (raw_solution nodes s)) in
    subst P (ap (λ w. solution_of w zeros ones) (sym a) ∙ ap (λ z. solution_of ws z ones) (sym b) ∙ ap (λ o. solution_of ws zs o) (sym c))
    (entries_fit nodes lines winners zeros ones count judged, entries_written nodes lines winners zeros ones count judged greatest top)
