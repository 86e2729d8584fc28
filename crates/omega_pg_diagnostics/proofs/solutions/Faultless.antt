-- Nothing is at fault in what is written exactly if there is no reason to refuse it.
use Rattle.std.proofs.Common.{◌≡◌, ℕ, zero, suc, ◌+◌, ◌<◌, ◌≤◌, inl, inr, Bool, true, false, Option, Some, None, List, [], ◌∷◌, ◌++◌, length, map, drop, get_or, refl, ap, sym, ◌∙◌, subst, arith, if◌then◌else◌}
use Rattle.std.proofs.lemmas.Bool.{cases_eq, cases_lt, eq-eqb, eqb-true, lt-ltb, ltb-true, ne_eqb}
use Rattle.std.proofs.lemmas.List.{drop_all, ext_get_or, get_or-map, length-drop, length-map}
use Rattle.std.proofs.lemmas.List.Folds.{list_any_at, list_any_none}
use Rattle.std.specs.List.{cons_option}
use Rattle.std.specs.Prelude.{◌==◌, ◌&&◌, nat_lt, position}
use Rattle.omega_game_values.specs.Game.{Node, greatest_identifier, identifier_at, identifiers, no_node, owner_at, successors_at}
use Rattle.omega_game_values.specs.Player.{player_number}
use Rattle.omega_game_values.specs.declared.player.Player.{Player}
use Rattle.omega_game_values.specs.declared.player.Player.TheVariants.{One, Zero}
use Rattle.omega_pg.specs.solution.BadSolution.{IsNoSolution, IsWrongSuccessor}
use Rattle.omega_pg.specs.solution.Grammar.{RawSolution, SolutionLine, no_line}
use Rattle.omega_pg_diagnostics.specs.SolutionCauses.{choice_fault, faults_in, greatest_line, header_faults, identifier_fault, line_fault, line_faults, may_choose, missing_line, missing_nodes, owner_wins, wrong_choice_line}

-- nothing is at fault: the header has the greatest identifier, no line is at fault, and no line is missing
pub record IsFaultless (nodes : List Node) (raw : RawSolution) : Type 0 where
  pub number : raw.greatest ≡ greatest_identifier nodes
  pub lines : (k : ℕ) → k < length raw.lines → line_fault nodes k (get_or raw.lines k no_line) ≡ None
  pub count : length nodes ≤ length raw.lines

-- ---- it is so exactly if there are no faults

none-both : (lines others : List (List ℕ)) → lines ++ others ≡ [] → (lines ≡ []) × (others ≡ [])
none-both [] others e = (refl, e)
none-both (line ∷ lines) others e = absurd cc

header-right : (nodes : List Node) (number : ℕ) → header_faults nodes number ≡ [] → number ≡ greatest_identifier nodes
header-right nodes number = go (number == greatest_identifier nodes) refl
  where
    go : (b : Bool) → (number == greatest_identifier nodes) ≡ b → (if b then [] else greatest_line number (greatest_identifier nodes) ∷ []) ≡ []
        → number ≡ greatest_identifier nodes
    go true e none = eqb-true number (greatest_identifier nodes) e
    go false e none = absurd cc

lines-right : (nodes : List Node) (place : ℕ) (lines : List SolutionLine) → line_faults nodes place lines ≡ []
    → (k : ℕ) → k < length lines → line_fault nodes (place + k) (get_or lines k no_line) ≡ None
lines-right nodes place [] none k h = absurd (omega (arith, h))
lines-right nodes place (line ∷ lines) none k h =
    go (line_fault nodes place line) refl none k h (λ rest j later. lines-right nodes (place + 1) lines rest j later)
  where
    at : (k : ℕ) → k < length (line ∷ lines) → line_fault nodes place line ≡ None → line_faults nodes (place + 1) lines ≡ []
        → (line_faults nodes (place + 1) lines ≡ [] → (j : ℕ) → j < length lines → line_fault nodes ((place + 1) + j) (get_or lines j no_line) ≡ None)
        → line_fault nodes (place + k) (get_or (line ∷ lines) k no_line) ≡ None
    at zero h here rest later =
        let same : place + 0 ≡ place = omega arith in subst (λ (v : ℕ). line_fault nodes v line ≡ None) (sym same) here
    at (suc k) h here rest later =
        let same : (place + 1) + k ≡ place + suc k = omega arith in
        subst (λ (v : ℕ). line_fault nodes v (get_or lines k no_line) ≡ None) same (later rest k (omega (arith, h)))

    go : (fault : Option (List ℕ)) → line_fault nodes place line ≡ fault → cons_option fault (line_faults nodes (place + 1) lines) ≡ []
        → (k : ℕ) → k < length (line ∷ lines)
        → (line_faults nodes (place + 1) lines ≡ [] → (j : ℕ) → j < length lines → line_fault nodes ((place + 1) + j) (get_or lines j no_line) ≡ None)
        → line_fault nodes (place + k) (get_or (line ∷ lines) k no_line) ≡ None
    go None here rest k h later = at k h here rest later
    go (Some fault) here rest k h later = absurd cc

pub ids-count : (nodes : List Node) → length (identifiers nodes) ≡ length nodes
ids-count nodes = length-map nodes (λ (node : Node). node.identifier)

nodes-there : (nodes : List Node) (count : ℕ) → missing_nodes nodes count ≡ [] → length nodes ≤ count
nodes-there nodes count none =
    let sizes : length (missing_nodes nodes count) ≡ 0 = ap (λ (lines : List (List ℕ)). length lines) none in
    omega (arith, sizes, length-map (drop count (identifiers nodes)) missing_line, length-drop count (identifiers nodes), ids-count nodes)

pub faultless : (nodes : List Node) (raw : RawSolution) → faults_in nodes raw ≡ [] → IsFaultless nodes raw
faultless nodes raw none =
    let parts = none-both (header_faults nodes raw.greatest) (line_faults nodes 0 raw.lines ++ missing_nodes nodes (length raw.lines)) none in
    let rest = none-both (line_faults nodes 0 raw.lines) (missing_nodes nodes (length raw.lines)) parts.1 in
    record {
      number = header-right nodes raw.greatest parts.0;
      lines = λ k h.
          let same : 0 + k ≡ k = omega arith in
          subst (λ (v : ℕ). line_fault nodes v (get_or raw.lines k no_line) ≡ None) same (lines-right nodes 0 raw.lines rest.0 k h);
      count = nodes-there nodes (length raw.lines) rest.1;
    }

pub header-none : (nodes : List Node) (number : ℕ) → number ≡ greatest_identifier nodes → header_faults nodes number ≡ []
header-none nodes number same =
    ap (λ (b : Bool). if b then [] else greatest_line number (greatest_identifier nodes) ∷ []) (eq-eqb number (greatest_identifier nodes) same)

lines-none : (nodes : List Node) (place : ℕ) (lines : List SolutionLine)
    → ((k : ℕ) → k < length lines → line_fault nodes (place + k) (get_or lines k no_line) ≡ None) → line_faults nodes place lines ≡ []
lines-none nodes place [] each = refl
lines-none nodes place (line ∷ lines) each =
    let here : line_fault nodes place line ≡ None =
    let same : place + 0 ≡ place = omega arith in subst (λ (v : ℕ). line_fault nodes v line ≡ None) same (each 0 (omega arith)) in
    ap (λ (fault : Option (List ℕ)). cons_option fault (line_faults nodes (place + 1) lines)) here
    ∙ lines-none nodes (place + 1) lines (λ k h.
    let same : place + suc k ≡ (place + 1) + k = omega arith in
    subst (λ (v : ℕ). line_fault nodes v (get_or lines k no_line) ≡ None) same (each (suc k) (omega (arith, h))))

pub faultless-none : (nodes : List Node) (raw : RawSolution) → IsFaultless nodes raw → faults_in nodes raw ≡ []
faultless-none nodes raw right =
    ap (λ (front : List (List ℕ)). front ++ (line_faults nodes 0 raw.lines ++ missing_nodes nodes (length raw.lines))) (header-none nodes raw.greatest right.number)
    ∙ ap (λ (front : List (List ℕ)). front ++ missing_nodes nodes (length raw.lines))
    (lines-none nodes 0 raw.lines (λ k h.
    let same : k ≡ 0 + k = omega arith in
    subst (λ (v : ℕ). line_fault nodes v (get_or raw.lines k no_line) ≡ None) same (right.lines k h)))
    ∙ ap (map missing_line) (drop_all (length raw.lines) (identifiers nodes) (omega (arith, right.count, ids-count nodes)))

-- ---- the tests of a line

-- whether the line of a place is that of the node there, and its choice
abbrev judged : List Node → ℕ → SolutionLine → (inside same : Bool) → Option (List ℕ)
judged nodes v line inside same =
    if inside && same then choice_fault nodes v (owner_wins nodes v line.winner) line.successor
    else Some (identifier_fault nodes v line.identifier (position (λ id. id == line.identifier) (identifiers nodes)))

-- a line without a fault is that of the node at its place, and its choice is right
pub record IsRightLine (nodes : List Node) (v : ℕ) (line : SolutionLine) : Type 0 where
  pub inside : v < length nodes
  pub identifier : identifier_at nodes v ≡ line.identifier
  pub choice : choice_fault nodes v (owner_wins nodes v line.winner) line.successor ≡ None

pub right-line : (nodes : List Node) (v : ℕ) (line : SolutionLine) → line_fault nodes v line ≡ None → IsRightLine nodes v line
right-line nodes v line = go (nat_lt v (length nodes)) (identifier_at nodes v == line.identifier) refl refl
  where
    go : (inside same : Bool) → nat_lt v (length nodes) ≡ inside → (identifier_at nodes v == line.identifier) ≡ same
        → judged nodes v line inside same ≡ None → IsRightLine nodes v line
    go true true a b none = record { inside = ltb-true v (length nodes) a; identifier = eqb-true (identifier_at nodes v) line.identifier b; choice = none }
    go true false a b none = absurd cc
    go false same a b none = absurd cc

line-right : (nodes : List Node) (v : ℕ) (line : SolutionLine) → IsRightLine nodes v line → line_fault nodes v line ≡ None
line-right nodes v line right =
    ap (λ (inside : Bool). judged nodes v line inside (identifier_at nodes v == line.identifier)) (lt-ltb v (length nodes) right.inside)
    ∙ ap (judged nodes v line true) (eq-eqb (identifier_at nodes v) line.identifier right.identifier) ∙ right.choice

-- players of one number are one
numbers-apart : (one other : Player) → player_number one ≡ player_number other → one ≡ other
numbers-apart Zero Zero e = refl
numbers-apart Zero One e = absurd (omega (arith, e))
numbers-apart One Zero e = absurd (omega (arith, e))
numbers-apart One One e = refl

pub wins-if : (nodes : List Node) (v : ℕ) (winner : Player) → owner_at nodes v ≡ winner → owner_wins nodes v winner ≡ true
wins-if nodes v winner same = eq-eqb (player_number (owner_at nodes v)) (player_number winner) (ap player_number same)

pub wins-not : (nodes : List Node) (v : ℕ) (winner : Player) → owner_wins nodes v winner ≡ true → owner_at nodes v ≡ winner
wins-not nodes v winner wins =
    numbers-apart (owner_at nodes v) winner (eqb-true (player_number (owner_at nodes v)) (player_number winner) wins)

-- a choice without a fault is no wrong successor
choice-right : (nodes : List Node) (v : ℕ) (winner : Player) (choice : Option ℕ) (wins : Bool) → owner_wins nodes v winner ≡ wins
    → choice_fault nodes v wins choice ≡ None → IsWrongSuccessor nodes v winner choice → ⊥
choice-right nodes v winner None true e none wrong = cc
choice-right nodes v winner None false e none wrong = let wins = wins-if nodes v winner wrong in cc
choice-right nodes v winner (Some id) false e none wrong = cc
choice-right nodes v winner (Some id) true e none (inl other) = other (wins-not nodes v winner e)
choice-right nodes v winner (Some id) true e none (inr others) = go (may_choose nodes v id) refl none
  where
    go : (b : Bool) → may_choose nodes v id ≡ b → (if b then None else Some (wrong_choice_line (identifier_at nodes v) id)) ≡ None → ⊥
    go true may none =
        let never = list_any_none (λ w. identifier_at nodes w == id) (successors_at nodes v) (λ k d h. ne_eqb (identifier_at nodes (get_or (successors_at nodes v) k d)) id (others k d h)) in cc
    go false may none = cc

-- and a choice that is no wrong successor has no fault
right-choice : (nodes : List Node) (v : ℕ) (winner : Player) (choice : Option ℕ) (wins : Bool) → owner_wins nodes v winner ≡ wins
    → (IsWrongSuccessor nodes v winner choice → ⊥) → choice_fault nodes v wins choice ≡ None
right-choice nodes v winner None true e right = absurd (right (wins-not nodes v winner e))
right-choice nodes v winner None false e right = refl
right-choice nodes v winner (Some id) false e right = absurd (right (inl (λ same. let wins = wins-if nodes v winner same in cc)))
right-choice nodes v winner (Some id) true e right = go (may_choose nodes v id) refl
  where
    go : (b : Bool) → may_choose nodes v id ≡ b → (if b then None else Some (wrong_choice_line (identifier_at nodes v) id)) ≡ None
    go true may = refl
    go false may =
        absurd (right (inr (λ k d h same.
        let found = list_any_at (λ w. identifier_at nodes w == id) (successors_at nodes v) k d h (eq-eqb (identifier_at nodes (get_or (successors_at nodes v) k d)) id same) in cc)))

-- ---- what is faultless has no reason, and what has none is faultless

module _ (nodes : List Node) (raw : RawSolution) where
  abbrev named : List ℕ
  named = map (λ line. line.identifier) raw.lines

  named-count : length named ≡ length raw.lines
  named-count = length-map raw.lines (λ (line : SolutionLine). line.identifier)

  named-at : (k : ℕ) → k < length raw.lines → get_or named k 0 ≡ (get_or raw.lines k no_line).identifier
  named-at k h = get_or-map (λ (line : SolutionLine). line.identifier) raw.lines k no_line 0 h

  pub id-at : (k : ℕ) → k < length nodes → get_or (identifiers nodes) k 0 ≡ identifier_at nodes k
  id-at k h = get_or-map (λ (node : Node). node.identifier) nodes k no_node 0 h

  few-lines : IsFaultless nodes raw → length raw.lines ≤ length nodes
  few-lines right =
      elim (cases_lt (length nodes) (length raw.lines)) as (λ _. length raw.lines ≤ length nodes) [
        | inl more ↦ (let line = right-line nodes (length nodes) (get_or raw.lines (length nodes) no_line) (right.lines (length nodes) more) in absurd (omega (arith, line.inside)))
        | inr few ↦ few
      ]

  same-named : IsFaultless nodes raw → named ≡ identifiers nodes
  same-named right =
      ext_get_or 0 named (identifiers nodes)
      (let few = few-lines right in omega (arith, few, right.count, named-count, ids-count nodes))
      (λ k h.
      let here : k < length raw.lines = omega (arith, h, named-count) in
      let line = right-line nodes k (get_or raw.lines k no_line) (right.lines k here) in
      named-at k here ∙ sym line.identifier ∙ sym (id-at k line.inside))

  pub faultless-unrefused : IsFaultless nodes raw → IsNoSolution nodes raw → ⊥
  faultless-unrefused right (inl other) = other right.number
  faultless-unrefused right (inr (inl other)) = other (same-named right)
  faultless-unrefused right (inr (inr wrong)) =
      let line = get_or raw.lines wrong.place no_line in
      let is = right-line nodes wrong.place line (right.lines wrong.place wrong.inside) in
      choice-right nodes wrong.place line.winner line.successor (owner_wins nodes wrong.place line.winner) refl is.choice wrong.wrong

  module _ (none : IsNoSolution nodes raw → ⊥) where
    -- the identifiers are not others
    not-other : (named ≡ identifiers nodes → ⊥) → ⊥
    not-other other = none (inr (inl other))

    line-inside : (k : ℕ) → k < length raw.lines → k < length nodes
    line-inside k h =
        elim (cases_lt k (length nodes)) as (λ _. k < length nodes) [
          | inl inside ↦ inside
          | inr past ↦ absurd (not-other (λ same.
              let sizes : length named ≡ length (identifiers nodes) = ap (λ (ids : List ℕ). length ids) same in
              omega (arith, sizes, named-count, ids-count nodes, past, h)))
        ]

    line-named : (k : ℕ) → k < length raw.lines → identifier_at nodes k ≡ (get_or raw.lines k no_line).identifier
    line-named k h =
        elim (cases_eq (identifier_at nodes k) (get_or raw.lines k no_line).identifier) as (λ _. identifier_at nodes k ≡ (get_or raw.lines k no_line).identifier) [
          | inl same ↦ same
          | inr other ↦ absurd (not-other (λ same.
              other (sym (id-at k (line-inside k h)) ∙ ap (λ (ids : List ℕ). get_or ids k 0) (sym same) ∙ named-at k h)))
        ]

    pub unrefused-faultless : IsFaultless nodes raw
    unrefused-faultless = record {
      number = elim (cases_eq raw.greatest (greatest_identifier nodes)) as (λ _. raw.greatest ≡ greatest_identifier nodes) [
        | inl same ↦ same
        | inr other ↦ absurd (none (inl other))
      ];
      lines = λ k h.
          let line = get_or raw.lines k no_line in
          line-right nodes k line (record {
            inside = line-inside k h;
            identifier = line-named k h;
            choice = right-choice nodes k line.winner line.successor (owner_wins nodes k line.winner) refl
                (λ wrong. none (inr (inr (record { place = k; inside = h; wrong = wrong }))));
          });
      count = elim (cases_lt (length raw.lines) (length nodes)) as (λ _. length nodes ≤ length raw.lines) [
        | inr all ↦ all
        | inl few ↦ absurd (not-other (λ same.
            let sizes : length named ≡ length (identifiers nodes) = ap (λ (ids : List ℕ). length ids) same in
            omega (arith, sizes, named-count, ids-count nodes, few)))
      ];
    }
