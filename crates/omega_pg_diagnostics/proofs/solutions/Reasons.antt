-- What is at fault first in what is written is a reason to refuse it.
use Rattle.std.proofs.Common.{◌≡◌, ◌≢◌, ℕ, zero, suc, ◌+◌, ◌<◌, ◌≤◌, ◌⊎◌, inl, inr, Bool, true, false, cond, Option, Some, None, List, [], ◌∷◌, ◌++◌, length, map, get_or, refl, ap, sym, ◌∙◌, subst, arith, All, if◌then◌else◌}
use Rattle.std.proofs.lemmas.Bool.{cases_lt, eq-eqb, eqb-false, eqb-true, lt-ltb, ltb-false, ltb-true}
use Rattle.std.proofs.lemmas.List.{drop_all, get_or-map, length-map}
use Rattle.std.proofs.lemmas.List.Folds.{list_any_at}
use Rattle.std.proofs.lemmas.List.Quantifiers.{position-Some}
use Rattle.std.proofs.lemmas.List.Sums.{fails_before_first}
use Rattle.std.specs.List.{cons_option, position_or_len}
use Rattle.std.specs.Prelude.{◌==◌, ◌&&◌, nat_lt, position}
use Rattle.omega_game_values.specs.Game.{Node, greatest_identifier, identifier_at, identifiers, successors_at}
use Rattle.omega_game_values.specs.declared.player.Player.{Player}
use Rattle.omega_pg.specs.solution.Grammar.{RawSolution, SolutionLine, no_line}
use Rattle.omega_pg_diagnostics.specs.GameCauses.{twice_line}
use Rattle.omega_pg_diagnostics.specs.SolutionCauses.{choice_fault, faults_in, first_of, greatest_line, header_faults, identifier_fault, is_of, line_fault, line_faults, may_choose, missing_line, missing_nodes, owner_wins, wrong_choice_line}
use Rattle.omega_pg_diagnostics.specs.SolutionReasons.{TellsChoice, TellsChoiceOf, TellsMissing, TellsReason, TellsTwice, TellsUnknown, named_at}
use Rattle.omega_pg_diagnostics.proofs.solutions.Faultless.{header-none, id-at, ids-count, right-line, wins-if, wins-not}
use Rattle.omega_pg_diagnostics.proofs.solutions.Faults.{missing}

-- ---- the first line at fault

-- lines before it have no fault
record FirstFault (nodes : List Node) (place : ℕ) (lines : List SolutionLine) (rest : List (List ℕ)) : Type 0 where
  pub at : ℕ
  pub inside : at < length lines
  pub before : (j : ℕ) → j < at → line_fault nodes (place + j) (get_or lines j no_line) ≡ None
  pub fault : List ℕ
  pub is : line_fault nodes (place + at) (get_or lines at no_line) ≡ Some fault
  pub first : first_of (line_faults nodes place lines ++ rest) ≡ fault

first_fault : (nodes : List Node) (place : ℕ) (lines : List SolutionLine) (rest : List (List ℕ))
    → (line_faults nodes place lines ≡ []) ⊎ FirstFault nodes place lines rest
first_fault nodes place [] rest = inl refl
first_fault nodes place (line ∷ lines) rest = go (line_fault nodes place line) refl (first_fault nodes (place + 1) lines rest)
  where
    here : place + 0 ≡ place
    here = omega arith

    behind : (j : ℕ) → (place + 1) + j ≡ place + suc j
    behind j = omega arith

    earlier : (found : FirstFault nodes (place + 1) lines rest) → line_fault nodes place line ≡ None → (j : ℕ) → j < suc found.at
        → line_fault nodes (place + j) (get_or (line ∷ lines) j no_line) ≡ None
    earlier found e zero h = subst (λ (v : ℕ). line_fault nodes v line ≡ None) (sym here) e
    earlier found e (suc j) h =
        subst (λ (v : ℕ). line_fault nodes v (get_or lines j no_line) ≡ None) (behind j) (found.before j (omega (arith, h)))

    go : (fault : Option (List ℕ)) → line_fault nodes place line ≡ fault
        → (line_faults nodes (place + 1) lines ≡ []) ⊎ FirstFault nodes (place + 1) lines rest
        → (line_faults nodes place (line ∷ lines) ≡ []) ⊎ FirstFault nodes place (line ∷ lines) rest
    go (Some fault) e later = inr (record {
      at = 0;
      inside = omega arith;
      before = λ j h. absurd (omega (arith, h));
      fault = fault;
      is = subst (λ (v : ℕ). line_fault nodes v line ≡ Some fault) (sym here) e;
      first = ap (λ (o : Option (List ℕ)). first_of (cons_option o (line_faults nodes (place + 1) lines) ++ rest)) e;
    })
    go None e (inl none) = inl (ap (λ (o : Option (List ℕ)). cons_option o (line_faults nodes (place + 1) lines)) e ∙ none)
    go None e (inr found) = inr (record {
      at = suc found.at;
      inside = let below = found.inside in omega (arith, below);
      before = earlier found e;
      fault = found.fault;
      is = subst (λ (v : ℕ). line_fault nodes v (get_or lines found.at no_line) ≡ Some found.fault) (behind found.at) found.is;
      first = ap (λ (o : Option (List ℕ)). first_of (cons_option o (line_faults nodes (place + 1) lines) ++ rest)) e ∙ found.first;
    })

-- ---- what it tells

-- an identifier that no node has
none-has : (id : ℕ) (ids : List ℕ) → position (λ other. other == id) ids ≡ None → All (λ other. other ≢ id) ids
none-has id ids e k d h =
    let past : length ids ≤ position_or_len (λ other. other == id) ids = ltb-false (position_or_len (λ other. other == id) ids) (length ids) (test _ _ e) in
    eqb-false (get_or ids k d) id (fails_before_first (λ other. other == id) ids k d (omega (arith, past, h)))
  where
    test : (b : Bool) (n : ℕ) → cond b (Some n) None ≡ None → b ≡ false
    test true n e = cc
    test false n e = refl

module _ (nodes : List Node) (lines : List SolutionLine) (at : ℕ) (inside : at < length lines)
    (before : (j : ℕ) → j < at → line_fault nodes j (get_or lines j no_line) ≡ None) (fault : List ℕ) where
  abbrev the_line : SolutionLine
  the_line = get_or lines at no_line

  -- about the line of another node
  abbrev IsToldIdentifier : Type 0
  IsToldIdentifier = TellsUnknown nodes lines fault ⊎ (TellsTwice lines fault ⊎ TellsMissing nodes lines fault)

  -- the line at the place is not that of the node there
  not-node : is_of nodes at the_line.identifier ≡ false → at < length nodes → named_at lines at ≢ identifier_at nodes at
  not-node unlike node same =
      let alike : is_of nodes at the_line.identifier ≡ true =
      ap (λ b. b && (identifier_at nodes at == the_line.identifier)) (lt-ltb at (length nodes) node)
      ∙ eq-eqb (identifier_at nodes at) the_line.identifier (sym same) in cc

  twice-told : (w : ℕ) → w < at → w < length nodes → get_or (identifiers nodes) w 0 ≡ the_line.identifier
      → twice_line the_line.identifier ≡ fault → TellsTwice lines fault
  twice-told w less node has said =
      let right = right-line nodes w (get_or lines w no_line) (before w less) in
      record {
        first = w;
        second = at;
        later = less;
        inside = inside;
        same = sym right.identifier ∙ sym (id-at nodes (record { greatest = 0; lines = lines }) w node) ∙ has;
        said = sym said;
      }

  identifier-told : (found : Option ℕ) → position (λ id. id == the_line.identifier) (identifiers nodes) ≡ found
      → is_of nodes at the_line.identifier ≡ false → identifier_fault nodes at the_line.identifier found ≡ fault → IsToldIdentifier
  identifier-told None e unlike said = inl (record {
    id = the_line.identifier;
    written = (
      at,
      subst (λ n. at < n) (sym (length-map lines (λ (line : SolutionLine). line.identifier))) inside,
      get_or-map (λ (line : SolutionLine). line.identifier) lines at no_line the_line.identifier inside,
    );
    unknown = none-has the_line.identifier (identifiers nodes) e;
    said = sym said;
  })
  identifier-told (Some w) e unlike said =
      let found = position-Some (λ id. id == the_line.identifier) (identifiers nodes) w 0 e in
      let node : w < length nodes = let below = found.0 in omega (arith, below, ids-count nodes) in
      let has : get_or (identifiers nodes) w 0 ≡ the_line.identifier = eqb-true (get_or (identifiers nodes) w 0) the_line.identifier found.1 in
      go (nat_lt w at) refl node has said
    where
      go : (b : Bool) → nat_lt w at ≡ b → w < length nodes → get_or (identifiers nodes) w 0 ≡ the_line.identifier
          → (if b then twice_line the_line.identifier else missing_line (identifier_at nodes at)) ≡ fault → IsToldIdentifier
      go true less node has said = inr (inl (twice-told w (ltb-true w at less) node has said))
      go false more node has said =
          let behind : at ≤ w = ltb-false w at more in
          let here : at < length nodes = omega (arith, behind, node) in
          inr (inr (record { place = at; node = here; missing = λ _. not-node unlike here; said = sym said }))

  -- about a wrong choice
  choice-told : (winner : Player) (choice : Option ℕ) (wins : Bool) → owner_wins nodes at winner ≡ wins → choice_fault nodes at wins choice ≡ Some fault
      → TellsChoiceOf nodes at winner choice fault
  choice-told winner None true e is = (wins-not nodes at winner e, cc)
  choice-told winner None false e is = absurd cc
  choice-told winner (Some id) false e is = inl ((λ same. let wins = wins-if nodes at winner same in cc), cc)
  choice-told winner (Some id) true e is = go (may_choose nodes at id) refl is
    where
      go : (b : Bool) → may_choose nodes at id ≡ b → (if b then None else Some (wrong_choice_line (identifier_at nodes at) id)) ≡ Some fault
          → TellsChoiceOf nodes at winner (Some id) fault
      go true may is = absurd cc
      go false may is = inr (
        (λ k d h same.
            let found = list_any_at (λ w. identifier_at nodes w == id) (successors_at nodes at) k d h
            (eq-eqb (identifier_at nodes (get_or (successors_at nodes at) k d)) id same) in cc),
        cc,
      )

  named-right : is_of nodes at the_line.identifier ≡ true → named_at lines at ≡ identifier_at nodes at
  named-right = go (nat_lt at (length nodes)) (identifier_at nodes at == the_line.identifier) refl
    where
      go : (a b : Bool) → (identifier_at nodes at == the_line.identifier) ≡ b → (a && b) ≡ true → named_at lines at ≡ identifier_at nodes at
      go true true e is = sym (eqb-true (identifier_at nodes at) the_line.identifier e)
      go true false e is = absurd cc
      go false b e is = absurd cc

  -- the fault of the line, where it is known whether it is that of the node at its place
  abbrev judged_by : Bool → Option (List ℕ)
  judged_by b =
      if b then choice_fault nodes at (owner_wins nodes at the_line.winner) the_line.successor
      else Some (identifier_fault nodes at the_line.identifier (position (λ id. id == the_line.identifier) (identifiers nodes)))

  line-told : line_fault nodes at the_line ≡ Some fault → IsToldIdentifier ⊎ TellsChoice nodes lines fault
  line-told = go (is_of nodes at the_line.identifier) refl
    where
      same-fault : (other : List ℕ) → ◌≡◌ {A = Option (List ℕ)} (Some other) (Some fault) → other ≡ fault
      same-fault other e = cc

      go : (b : Bool) → is_of nodes at the_line.identifier ≡ b
          → judged_by b ≡ Some fault
          → IsToldIdentifier ⊎ TellsChoice nodes lines fault
      go true alike is = inr (record {
        place = at;
        inside = inside;
        named = named-right alike;
        wrong = choice-told the_line.winner the_line.successor (owner_wins nodes at the_line.winner) refl is;
      })
      go false unlike is =
          inl (identifier-told (position (λ id. id == the_line.identifier) (identifiers nodes)) refl unlike
          (same-fault (identifier_fault nodes at the_line.identifier (position (λ id. id == the_line.identifier) (identifiers nodes))) is))

-- ---- the reason

-- it is one of the reasons
as-reason : (nodes : List Node) (raw : RawSolution) (line : List ℕ)
    → (TellsUnknown nodes raw.lines line ⊎ (TellsTwice raw.lines line ⊎ TellsMissing nodes raw.lines line)) ⊎ TellsChoice nodes raw.lines line
    → TellsReason nodes raw line
as-reason nodes raw line (inl (inl unknown)) = inr (inl unknown)
as-reason nodes raw line (inl (inr (inl twice))) = inr (inr (inl twice))
as-reason nodes raw line (inl (inr (inr lost))) = inr (inr (inr (inl lost)))
as-reason nodes raw line (inr choice) = inr (inr (inr (inr choice)))

module _ (nodes : List Node) (raw : RawSolution) (some : faults_in nodes raw ≡ [] → ⊥) where
  abbrev lost : List (List ℕ)
  lost = missing_nodes nodes (length raw.lines)

  -- nothing is at fault in the header or in a line
  behind-told : header_faults nodes raw.greatest ≡ [] → line_faults nodes 0 raw.lines ≡ [] → TellsReason nodes raw (first_of (faults_in nodes raw))
  behind-told header none =
      let all : faults_in nodes raw ≡ lost =
      ap (λ (front : List (List ℕ)). front ++ (line_faults nodes 0 raw.lines ++ lost)) header ∙ ap (λ (front : List (List ℕ)). front ++ lost) none in
      elim (cases_lt (length raw.lines) (length nodes)) as (λ _. TellsReason nodes raw (first_of (faults_in nodes raw))) [
        | inl few ↦ inr (inr (inr (inl (record {
          place = length raw.lines;
          node = few;
          missing = λ h. absurd (omega (arith, h));
          said = ap first_of all ∙ sym (missing nodes (length raw.lines) few);
        }))))
        | inr full ↦ absurd (some (all ∙ ap (map missing_line) (drop_all (length raw.lines) (identifiers nodes) (omega (arith, full, ids-count nodes)))))
      ]

  lines-told : header_faults nodes raw.greatest ≡ [] → TellsReason nodes raw (first_of (faults_in nodes raw))
  lines-told header =
      let front : first_of (faults_in nodes raw) ≡ first_of (line_faults nodes 0 raw.lines ++ lost) =
      ap (λ (front : List (List ℕ)). first_of (front ++ (line_faults nodes 0 raw.lines ++ lost))) header in
      elim (first_fault nodes 0 raw.lines lost) as (λ _. TellsReason nodes raw (first_of (faults_in nodes raw))) [
        | inl none ↦ behind-told header none
        | inr found ↦ subst (TellsReason nodes raw) (sym (front ∙ found.first))
            (as-reason nodes raw found.fault
            (line-told nodes raw.lines found.at found.inside
            (λ j h. subst (λ (v : ℕ). line_fault nodes v (get_or raw.lines j no_line) ≡ None) (same j) (found.before j h)) found.fault
            (subst (λ (v : ℕ). line_fault nodes v (get_or raw.lines found.at no_line) ≡ Some found.fault) (same found.at) found.is)))
      ]
    where
      same : (j : ℕ) → 0 + j ≡ j
      same j = omega arith

  pub reason-told : TellsReason nodes raw (first_of (faults_in nodes raw))
  reason-told = go (raw.greatest == greatest_identifier nodes) refl
    where
      go : (b : Bool) → (raw.greatest == greatest_identifier nodes) ≡ b → TellsReason nodes raw (first_of (faults_in nodes raw))
      go true e = lines-told (header-none nodes raw.greatest (eqb-true raw.greatest (greatest_identifier nodes) e))
      go false e = inl (record {
        other = eqb-false raw.greatest (greatest_identifier nodes) e;
        said = ap (λ (b : Bool). first_of ((if b then [] else greatest_line raw.greatest (greatest_identifier nodes) ∷ []) ++ (line_faults nodes 0 raw.lines ++ lost))) e;
      })
