-- Solution texts: one solution or one refusal, and never both.
use Rattle.std.proofs.Common.{◌≡◌, ◌≢◌, ◌↔◌, ℕ, ◌<◌, inl, inr, true, false, Option, Some, None, IfSome, IsSome, List, length, get_or, map, refl, ap, sym, ◌∙◌, subst, arith}
use Rattle.std.specs.Prelude.{option_map}
use Rattle.std.specs.List.{range_with_len}
use Rattle.std.proofs.lemmas.Bool.{cases_order}
use Rattle.std.proofs.lemmas.List.{get_or-map, length-map}
use Rattle.std.proofs.lemmas.List.Elements.{All-contains}
use Rattle.std.proofs.lemmas.List.FromFn.{fill_by_all, get_or-map-range_with_len, length-map-range_with_len}
use Rattle.std.proofs.lemmas.List.Kept.{AllPairs-from_increasing}
use Rattle.std.proofs.lemmas.Simd.{map-map}
use Rattle.omega_text.specs.Cut.{CutsAreOne}
use Rattle.omega_text.specs.Cases.{never, or_task, or_text}
use Rattle.omega_text.specs.Syntax.{IsTextFault, TextFaultsAreOne, TextsHaveNoFault}
use Rattle.omega_text.specs.pg.Format.{pg_format}
use Rattle.omega_text.specs.declared.refusal.Refusal.{Refusal}
use Rattle.omega_text.specs.declared.refusal.Refusal.TheVariants.{Automaton, Circuit, Game, Io, Memory, Task, Text}
use Rattle.omega_text.specs.declared.refusal.task.TaskFault.TheVariants.{BadSolution}
use Rattle.omega_text.specs.declared.refusal.text.TextFault.{TextFault}
use Rattle.omega_game_values.specs.Game.{IsGame, Node, identifiers, no_node, owner_at, successors_at, identifier_at}
use Rattle.omega_game_values.specs.declared.player.Player.{Player}
use Rattle.omega_game_values.specs.declared.player.Player.TheVariants.{One, Zero}
use Rattle.omega_pg.specs.solution.BadSolution.{IsNoSolution, IsWrongSuccessor}
use Rattle.omega_pg.specs.solution.Grammar.{SolutionLine, RawSolution, no_line, solution_syntax}
use Rattle.omega_game_values.specs.Solution.{IsSolution, choices_of, winner_at}
use Rattle.omega_game_values.specs.Winning.{choice_at}
use Rattle.omega_pg.specs.solution.Refusing.{IsBadSolution}
use Rattle.omega_pg.specs.solution.Text.{line_at, raw_solution}
use Rattle.omega_pg.specs.solution.Laws.{ReasonsAreExact, SolutionRefusalsAreOne, SolutionsAreNotRefused, SolutionsOfTextsAreOne}
use Rattle.omega_game_values.specs.declared.solution.Solution.{Solution}
use Rattle.omega_pg.proofs.reader.Deciding.{texts_one}
use Rattle.omega_pg.proofs.solutions.Outcomes.{solution_of}
use Rattle.omega_pg.proofs.solutions.Decided.{raw_decided}
use Rattle.omega_pg.proofs.solutions.Grammar.{decides_solutions}
use Rattle.omega_pg.proofs.solutions.Choices.{Chooses-from_choice, chosen_inside}

-- the lines of a solution bear the identifiers of the game
pub written_identifiers : (nodes : List Node) (solution : Solution) → map (λ (line : SolutionLine). line.identifier) (raw_solution nodes solution).lines ≡ identifiers nodes
written_identifiers nodes solution =
    map-map (λ (line : SolutionLine). line.identifier) (line_at nodes solution) (range_with_len 0 (length nodes))
    ∙ sym (fill_by_all (identifier_at nodes) (identifiers nodes) (length nodes) 0 (length-map nodes (λ (node : Node). node.identifier))
    (λ v h. get_or-map (λ (node : Node). node.identifier) nodes v no_node 0 h))

-- the successor that the line of a solution names is right
right_successor : (nodes : List Node) (solution : Solution) (v : ℕ) → IsSolution nodes solution → v < length nodes
    → IsWrongSuccessor nodes v (winner_at solution v) (option_map (identifier_at nodes) (choice_at (choices_of solution (owner_at nodes v)) v)) → ⊥
right_successor nodes solution v fits inside =
    let owner = owner_at nodes v in
    let choices = choices_of solution owner in
    let own : IsSome (choice_at choices v) ↔ ((owner ≡ owner) × (winner_at solution v ≡ owner)) = fits.chosen owner v inside in
    elim (choice_at choices v)
    as (λ o. choice_at choices v ≡ o → IsSome o ↔ ((owner ≡ owner) × (winner_at solution v ≡ owner))
    → IsWrongSuccessor nodes v (winner_at solution v) (option_map (identifier_at nodes) o) → ⊥) [
      | None ↦ λ chosen both missing. (let clash : false ≡ true = both.1 (refl, sym missing) in cc)
      | Some w ↦ λ chosen both wrong. elim wrong as (λ _. ⊥) [
        | inl other ↦ other (sym (both.0 refl).1)
        | inr others ↦ All-contains (λ u. identifier_at nodes u ≢ identifier_at nodes w) (successors_at nodes v) w others
            ((fits.strategies owner).listed v w (Chooses-from_choice choices v w chosen)) refl
      ]
    ]
    refl own

-- there is no reason to refuse what is written of a solution
reasons_apart : (nodes : List Node) (solution : Solution) → IsSolution nodes solution → IsNoSolution nodes (raw_solution nodes solution) → ⊥
reasons_apart nodes solution fits (inl other) = other refl
reasons_apart nodes solution fits (inr (inl other)) = other (written_identifiers nodes solution)
reasons_apart nodes solution fits (inr (inr wrong)) =
    let v = wrong.place in
    let inside : v < length nodes = omega (arith, wrong.inside, length-map-range_with_len (line_at nodes solution) 0 (length nodes)) in
    right_successor nodes solution v fits inside
    (subst (λ (line : SolutionLine). IsWrongSuccessor nodes v line.winner line.successor)
    (get_or-map-range_with_len (line_at nodes solution) 0 (length nodes) v v no_line inside (omega arith)) wrong.wrong)

-- so the reasons are exact
pub reasons_exact : ReasonsAreExact
reasons_exact nodes raw = (
  (λ wrong solution fits e. reasons_apart nodes solution fits (subst (IsNoSolution nodes) e wrong)),
  (λ none. elim (raw_decided nodes raw) as (λ _. IsNoSolution nodes raw) [
    | inl found ↦ absurd (none found.0 found.1 found.2)
    | inr wrong ↦ wrong
  ]),
)

-- a text that describes a solution has no refusal
pub solutions_apart : CutsAreOne pg_format → TextsHaveNoFault solution_syntax → SolutionsAreNotRefused
solutions_apart cuts none nodes source solution (Text fault) text refused =
    none source (raw_solution nodes solution) fault text.short text.writes refused
solutions_apart cuts none nodes source solution (Game fault) text refused = refused
solutions_apart cuts none nodes source solution (Automaton fault) text refused = refused
solutions_apart cuts none nodes source solution (Circuit fault) text refused = refused
solutions_apart cuts none nodes source solution (Task fault) text refused =
    let bad = refused.1 in
    let same : bad.raw ≡ raw_solution nodes solution = texts_one decides_solutions cuts source bad.raw (raw_solution nodes solution) bad.writes text.writes in
    reasons_apart nodes solution text.fits (subst (IsNoSolution nodes) same bad.wrong)
solutions_apart cuts none nodes source solution Memory text refused = refused
solutions_apart cuts none nodes source solution Io text refused = refused

-- two refusals are one, if texts of the grammar are refused with `BadSolution` alone
pub refusals_one_by : (source : List ℕ) (IsBad : Type 0) → TextFaultsAreOne solution_syntax
    → ((fault : TextFault) → IsBad → IsTextFault solution_syntax source fault → ⊥) → (one other : Refusal)
    → or_text (IsTextFault solution_syntax source) (or_task (λ fault. (fault ≡ BadSolution) × IsBad) never) one
    → or_text (IsTextFault solution_syntax source) (or_task (λ fault. (fault ≡ BadSolution) × IsBad) never) other → one ≡ other
refusals_one_by source IsBad same none (Text a) (Text b) x y = ap (λ fault. Text fault) (same source a b x y)
refusals_one_by source IsBad same none (Text a) (Task b) x y = absurd (none a y.1 x)
refusals_one_by source IsBad same none (Task a) (Text b) x y = absurd (none b x.1 y)
refusals_one_by source IsBad same none (Task a) (Task b) x y = ap (λ fault. Task fault) (x.0 ∙ sym y.0)
refusals_one_by source IsBad same none (Game a) other x y = absurd x
refusals_one_by source IsBad same none (Automaton a) other x y = absurd x
refusals_one_by source IsBad same none (Circuit a) other x y = absurd x
refusals_one_by source IsBad same none Memory other x y = absurd x
refusals_one_by source IsBad same none Io other x y = absurd x
refusals_one_by source IsBad same none one (Game b) x y = absurd y
refusals_one_by source IsBad same none one (Automaton b) x y = absurd y
refusals_one_by source IsBad same none one (Circuit b) x y = absurd y
refusals_one_by source IsBad same none one Memory x y = absurd y
refusals_one_by source IsBad same none one Io x y = absurd y

-- a text has at most one refusal
pub solution_refusals_one : TextFaultsAreOne solution_syntax → TextsHaveNoFault solution_syntax → SolutionRefusalsAreOne
solution_refusals_one same none nodes source one other x y =
    refusals_one_by source (IsBadSolution nodes source) same (λ fault bad faulty. none source bad.raw fault bad.short bad.writes faulty) one other x y

-- no two nodes of a game have one identifier
identifiers_apart : (nodes : List Node) (v w : ℕ) → IsGame nodes → v < length nodes → w < length nodes → identifier_at nodes v ≡ identifier_at nodes w → v ≡ w
identifiers_apart nodes v w game h k same =
    let ids = identifiers nodes in
    let count = length-map nodes (λ (node : Node). node.identifier) in
    let rising = AllPairs-from_increasing ids game.rising in
    let here : get_or ids v 0 ≡ identifier_at nodes v = get_or-map (λ (node : Node). node.identifier) nodes v no_node 0 h in
    let there : get_or ids w 0 ≡ identifier_at nodes w = get_or-map (λ (node : Node). node.identifier) nodes w no_node 0 k in
    elim (cases_order v w) as (λ _. v ≡ w) [
      | inl e ↦ e
      | inr apart ↦ elim apart as (λ _. v ≡ w) [
        | inl before ↦ absurd (omega (arith, rising v w 0 before (omega (arith, count))))
        | inr following ↦ absurd (omega (arith, rising w v 0 following (omega (arith, count))))
      ]
    ]

-- two choices are one if they are there alike and have one identifier
choice_same : (nodes : List Node) (one other : Option ℕ) (Own : Type 0) → IsGame nodes
    → IfSome one (λ w. w < length nodes) → IfSome other (λ w. w < length nodes) → IsSome one ↔ Own → IsSome other ↔ Own
    → (Own → option_map (identifier_at nodes) one ≡ option_map (identifier_at nodes) other) → one ≡ other
choice_same nodes None None Own game h k a b same = refl
choice_same nodes None (Some w) Own game h k a b same = absurd (let clash : false ≡ true = a.1 (b.0 refl) in cc)
choice_same nodes (Some v) None Own game h k a b same = absurd (let clash : false ≡ true = b.1 (a.0 refl) in cc)
choice_same nodes (Some v) (Some w) Own game h k a b same =
    let names : ◌≡◌ {A = Option ℕ} (Some (identifier_at nodes v)) (Some (identifier_at nodes w)) = same (a.0 refl) in
    ap (λ u. Some u) (identifiers_apart nodes v w game h k (let e : identifier_at nodes v ≡ identifier_at nodes w = cc in e))

-- solutions with the same parts are the same
solution_same : (one other : Solution) → one.winners ≡ other.winners → one.zero.choice ≡ other.zero.choice → one.one.choice ≡ other.one.choice → one ≡ other
solution_same one other a b c =
    ap (λ winners. solution_of winners one.zero.choice one.one.choice) a
    ∙ ap (λ zeros. solution_of other.winners zeros one.one.choice) b
    ∙ ap (λ ones. solution_of other.winners other.zero.choice ones) c

-- two solutions that are written alike are one
module _ (nodes : List Node) (one other : Solution) (game : IsGame nodes) (fits : IsSolution nodes one) (fits' : IsSolution nodes other)
    (alike : raw_solution nodes one ≡ raw_solution nodes other) where
  line_same : (v : ℕ) → v < length nodes → line_at nodes one v ≡ line_at nodes other v
  line_same v h =
      sym (get_or-map-range_with_len (line_at nodes one) 0 (length nodes) v v no_line h (omega arith))
      ∙ ap (λ (raw : RawSolution). get_or raw.lines v no_line) alike
      ∙ get_or-map-range_with_len (line_at nodes other) 0 (length nodes) v v no_line h (omega arith)

  winner_same : (v : ℕ) → v < length nodes → winner_at one v ≡ winner_at other v
  winner_same v h = ap (λ (line : SolutionLine). line.winner) (line_same v h)

  winners_same : one.winners ≡ other.winners
  winners_same =
      fill_by_all (winner_at other) one.winners (length nodes) Zero fits.winners winner_same
      ∙ sym (fill_by_all (winner_at other) other.winners (length nodes) Zero fits'.winners (λ v h. refl))

  entry_same : (player : Player) (v : ℕ) → v < length nodes → choice_at (choices_of one player) v ≡ choice_at (choices_of other player) v
  entry_same player v h =
      let Own : Type 0 = (owner_at nodes v ≡ player) × (winner_at one v ≡ player) in
      let b = fits'.chosen player v h in
      choice_same nodes (choice_at (choices_of one player) v) (choice_at (choices_of other player) v) Own game
      (chosen_inside nodes player (choices_of one player) v game (fits.strategies player))
      (chosen_inside nodes player (choices_of other player) v game (fits'.strategies player))
      (fits.chosen player v h)
      ((λ some. ((b.0 some).0, winner_same v h ∙ (b.0 some).1)), (λ own. b.1 (own.0, sym (winner_same v h) ∙ own.1)))
      (λ own. subst (λ p. option_map (identifier_at nodes) (choice_at (choices_of one p) v) ≡ option_map (identifier_at nodes) (choice_at (choices_of other p) v))
      own.0 (ap (λ (line : SolutionLine). line.successor) (line_same v h)))

  choices_same : (player : Player) → choices_of one player ≡ choices_of other player
  choices_same player =
      fill_by_all (choice_at (choices_of other player)) (choices_of one player) (length nodes) None (fits.strategies player).entries (entry_same player)
      ∙ sym (fill_by_all (choice_at (choices_of other player)) (choices_of other player) (length nodes) None (fits'.strategies player).entries (λ v h. refl))

  pub alike_same : one ≡ other
  alike_same = solution_same one other winners_same (choices_same Zero) (choices_same One)

-- a text describes at most one solution
pub solutions_one : CutsAreOne pg_format → SolutionsOfTextsAreOne
solutions_one cuts nodes source one other game a b =
    alike_same nodes one other game a.fits b.fits
    (texts_one decides_solutions cuts source (raw_solution nodes one) (raw_solution nodes other) a.writes b.writes)
