-- The cause of what is written is that of its fault.
use Rattle.std.proofs.Common.{◌≡◌, ℕ, ◌+◌, ◌<◌, ◌≤◌, Bool, true, false, not, inl, inr, nat_eq, nat_lt, Option, Some, None, List, [], ◌∷◌, ◌++◌, map, refl, ap, sym, subst, ◌∙◌, arith, if◌then◌else◌}
use Rattle.std.specs.Prelude.{◌==◌, ◌||◌, cond, count_by, length}
use Rattle.std.specs.Option.{is_some, option_map}
use Rattle.std.specs.List.{AllByRecursion, IsDistinct, find, flat_map, list_any}
use Rattle.std.proofs.lemmas.Bool.{eq-eqb, eqb-false, eqb-true, le-ltb, lt-ltb, ne_eqb}
use Rattle.std.proofs.lemmas.Bool.Decides.{eqb_tells}
use Rattle.std.proofs.lemmas.List.Sums.{sum_by-append, sum_by-cons}
use Rattle.omega_pg_diagnostics.specs.GameCauses.{IsCauseOf, IsFirstRepeat, NamesAbove, NamesRepeat, NamesUndefined, first_above, first_undefined, is_among, listed_pairs, specified_ids}
use Rattle.omega_pg_diagnostics.proofs.games.FaultLines.{IsCauseForAny}
use Rattle.omega_game_values.specs.Building.{has_duplicate, has_undefined, listed_successors, specified_times}
use Rattle.omega_game_values.specs.Limits.{most_nodes, most_successors}
use Rattle.omega_game_values.specs.declared.node_spec.NodeSpec.{NodeSpec}
use Rattle.omega_pg.specs.game.Grammar.{RawGame}
use Rattle.omega_pg.specs.game.Refusing.{fault_in, is_header_small}
use Rattle.omega_text.specs.declared.refusal.game.GameFault.{GameFault}
use Rattle.omega_text.specs.declared.refusal.game.GameFault.TheVariants.{DuplicateNode, HeaderTooSmall, TooManyEdges, TooManyNodes, UndefinedSuccessor}

-- tests of lists

any_step : {X : Type 0} (b : Bool) (x : X) (rest : Bool) (found : Option X) → rest ≡ is_some found → (b || rest) ≡ is_some (cond b (Some x) found)
any_step true x rest found e = refl
any_step false x rest found e = e

-- some element passes if one is found
any_found : {X : Type 0} (p : X → Bool) (xs : List X) → list_any p xs ≡ is_some (find p xs)
any_found p [] = refl
any_found p (x ∷ xs) = any_step (p x) x (list_any p xs) (find p xs) (any_found p xs)

any_map : {X Y : Type 0} (g : X → Y) (q : Y → Bool) (xs : List X) → list_any q (map g xs) ≡ list_any (λ x. q (g x)) xs
any_map g q [] = refl
any_map g q (x ∷ xs) = ap (λ b. q (g x) || b) (any_map g q xs)

or_assoc : (a b c : Bool) → (a || (b || c)) ≡ ((a || b) || c)
or_assoc true b c = refl
or_assoc false b c = refl

or_true : (a : Bool) → (a || true) ≡ true
or_true true = refl
or_true false = refl

any_append : {X : Type 0} (q : X → Bool) (xs ys : List X) → list_any q (xs ++ ys) ≡ (list_any q xs || list_any q ys)
any_append q [] ys = refl
any_append q (x ∷ xs) ys = ap (λ b. q x || b) (any_append q xs ys) ∙ or_assoc (q x) (list_any q xs) (list_any q ys)

any_flat : {X Y : Type 0} (f : X → List Y) (q : Y → Bool) (xs : List X) → list_any q (flat_map f xs) ≡ list_any (λ x. list_any q (f x)) xs
any_flat f q [] = refl
any_flat f q (x ∷ xs) = any_append q (f x) (flat_map f xs) ∙ ap (λ b. list_any q (f x) || b) (any_flat f q xs)

any_same : {X : Type 0} (q r : X → Bool) (xs : List X) → ((x : X) → q x ≡ r x) → list_any q xs ≡ list_any r xs
any_same q r [] e = refl
any_same q r (x ∷ xs) e = ap (λ b. b || list_any q xs) (e x) ∙ ap (λ b. r x || b) (any_same q r xs e)

none_any : {X : Type 0} (q : X → Bool) (xs : List X) → ((x : X) → q x ≡ false) → list_any q xs ≡ false
none_any q [] e = refl
none_any q (x ∷ xs) e = ap (λ b. b || list_any q xs) (e x) ∙ none_any q xs e

any_middle : (q : ℕ → Bool) (front rest : List ℕ) (id : ℕ) → q id ≡ true → list_any q (front ++ id ∷ rest) ≡ true
any_middle q [] rest id e = ap (λ b. b || list_any q rest) e
any_middle q (x ∷ front) rest id e = ap (λ b. q x || b) (any_middle q front rest id e) ∙ or_true (q x)

-- how often a number is in a list

abbrev times : ℕ → List ℕ → ℕ
times id ids = count_by (λ x. x == id) ids

abbrev once : ℕ → ℕ → ℕ
once id x = cond (x == id) 1 0

times_cons : (id x : ℕ) (xs : List ℕ) → times id (x ∷ xs) ≡ once id x + times id xs
times_cons id x xs = sum_by-cons (λ y. cond (y == id) 1 0) x xs

-- an identifier is specified as often as it is among the identifiers
times_ids : (specs : List NodeSpec) (id : ℕ) → specified_times specs id ≡ times id (specified_ids specs)
times_ids [] id = refl
times_ids (spec ∷ specs) id =
    sum_by-cons (λ (s : NodeSpec). cond (s.id == id) 1 0) spec specs
    ∙ ap (λ n. cond (spec.id == id) 1 0 + n) (times_ids specs id)
    ∙ sym (times_cons id spec.id (specified_ids specs))

turned : (a b : ℕ) → (a == b) ≡ (b == a)
turned a b = elim (eqb_tells a b) [ inl e ↦ e.0 ∙ sym (eq-eqb b a (sym e.1)) | inr n ↦ n.0 ∙ sym (ne_eqb b a (λ e. n.1 (sym e))) ]

among_step : (b turned : Bool) (n : ℕ) (rest : Bool) → b ≡ turned → (n == 0) ≡ not rest → ((cond b 1 0 + n) == 0) ≡ not (turned || rest)
among_step true true n rest e h = ne_eqb (1 + n) 0 (λ zero. omega (arith, zero))
among_step true false n rest e h = cc
among_step false true n rest e h = cc
among_step false false n rest e h = let same : 0 + n ≡ n = omega arith in ap (λ m. m == 0) same ∙ h

-- a number is there no time if it is not among the others
among_or_none : (ids : List ℕ) (id : ℕ) → (times id ids == 0) ≡ not (is_among id ids)
among_or_none [] id = refl
among_or_none (x ∷ ids) id =
    ap (λ n. n == 0) (times_cons id x ids) ∙ among_step (x == id) (nat_eq id x) (times id ids) (is_among id ids) (turned x id) (among_or_none ids id)

-- a repeated identifier is specified twice
repeated : (specs : List NodeSpec) (id : ℕ) → IsFirstRepeat (specified_ids specs) id → has_duplicate specs ≡ true
repeated specs id repeat =
    let before : times id repeat.front ≡ 0 → ⊥ = eqb-false (times id repeat.front) 0 (among_or_none repeat.front id ∙ ap not repeat.again) in
    let here : once id id ≡ 1 = ap (λ b. cond b 1 0) (eq-eqb id id refl) in
    let all : specified_times specs id ≡ times id repeat.front + (1 + times id repeat.rest) =
    times_ids specs id ∙ ap (times id) repeat.split ∙ sum_by-append (λ y. cond (y == id) 1 0) repeat.front (id ∷ repeat.rest)
    ∙ ap (λ n. times id repeat.front + n) (times_cons id id repeat.rest ∙ ap (λ n. n + times id repeat.rest) here) in
    let many : 1 < specified_times specs id = omega (arith, all, before) in
    sym (any_map (λ (spec : NodeSpec). spec.id) (λ x. nat_lt 1 (specified_times specs x)) specs)
    ∙ ap (list_any (λ x. nat_lt 1 (specified_times specs x))) repeat.split
    ∙ any_middle (λ x. nat_lt 1 (specified_times specs x)) repeat.front repeat.rest id (lt-ltb 1 (specified_times specs id) many)

-- a number that differs from all others is none of them
absent : (x id : ℕ) (ys : List ℕ) → (x == id) ≡ true → AllByRecursion (λ y. nat_eq x y ≡ false) ys → times id ys ≡ 0
absent x id [] e h = refl
absent x id (y ∷ ys) e h =
    let other : (y == id) ≡ false = turned y id ∙ subst (λ n. (n == y) ≡ false) (eqb-true x id e) h.0 in
    times_cons id y ys ∙ ap (λ b. cond b 1 0 + times id ys) other ∙ ap (λ n. 0 + n) (absent x id ys e h.1)

once_step : (b : Bool) (n : ℕ) → (b ≡ true → n ≡ 0) → n ≤ 1 → cond b 1 0 + n ≤ 1
once_step true n zero few = omega (arith, zero refl)
once_step false n zero few = omega (arith, few)

-- each of numbers that differ is there once
distinct_once : (ids : List ℕ) (id : ℕ) → IsDistinct nat_eq ids → times id ids ≤ 1
unfolding IsDistinct
distinct_once [] id different = omega arith
distinct_once (x ∷ ids) id different =
    subst (λ n. n ≤ 1) (sym (times_cons id x ids))
    (once_step (x == id) (times id ids) (λ e. absent x id ids e different.0) (distinct_once ids id different.1))

-- identifiers that differ are specified once
distinct : (specs : List NodeSpec) → IsDistinct nat_eq (specified_ids specs) → has_duplicate specs ≡ false
distinct specs different =
    none_any (λ (spec : NodeSpec). nat_lt 1 (specified_times specs spec.id)) specs
    (λ spec. le-ltb 1 (specified_times specs spec.id) (omega (arith, times_ids specs spec.id, distinct_once (specified_ids specs) spec.id different)))

-- a successor is undefined if one is found
undefined_found : (specs : List NodeSpec) → has_undefined specs ≡ is_some (first_undefined specs)
undefined_found specs =
    let missing : ℕ × ℕ → Bool = λ pair. not (is_among pair.1 (specified_ids specs)) in
    any_same (λ (spec : NodeSpec). list_any (λ w. specified_times specs w == 0) spec.successors)
    (λ (spec : NodeSpec). list_any missing (map (λ w. (spec.id, w)) spec.successors)) specs
    (λ spec. any_same (λ w. specified_times specs w == 0) (λ w. missing (spec.id, w)) spec.successors
    (λ w. ap (λ n. n == 0) (times_ids specs w) ∙ among_or_none (specified_ids specs) w)
    ∙ sym (any_map (λ w. (spec.id, w)) missing spec.successors))
    ∙ sym (any_flat (λ (spec : NodeSpec). map (λ w. (spec.id, w)) spec.successors) missing specs)
    ∙ any_found missing (listed_pairs specs)

some_mapped : {X Y : Type 0} (g : X → Y) (o : Option X) → is_some o ≡ is_some (option_map g o)
some_mapped g None = refl
some_mapped g (Some x) = refl

-- a header is too small if a node above it is found
small_found : (header : Option ℕ) (specs : List NodeSpec) → is_header_small header specs ≡ is_some (first_above header (specified_ids specs))
small_found None specs = refl
small_found (Some n) specs =
    sym (any_map (λ (spec : NodeSpec). spec.id) (nat_lt n) specs) ∙ any_found (nat_lt n) (specified_ids specs)
    ∙ some_mapped (λ id. (n, id)) (find (nat_lt n) (specified_ids specs))

-- the fault by its tests
abbrev chosen : (duplicate undefined small nodes edges : Bool) → Option GameFault
chosen duplicate undefined small nodes edges =
    if duplicate then Some DuplicateNode else
    if undefined then Some UndefinedSuccessor else
    if small then Some HeaderTooSmall else
    if nodes then Some TooManyNodes else
    if edges then Some TooManyEdges else
    None

repeat_told : (d u s n e : Bool) (raw : RawGame) (line : List ℕ) → d ≡ true → NamesRepeat raw.specs line → IsCauseForAny (chosen d u s n e) raw line
repeat_told true u s n e raw line is names = names
repeat_told false u s n e raw line is names = absurd (cc)

undefined_told : (d u s n e : Bool) (raw : RawGame) (line : List ℕ) → d ≡ false → u ≡ true → NamesUndefined raw.specs line → IsCauseForAny (chosen d u s n e) raw line
undefined_told true u s n e raw line single is names = absurd (cc)
undefined_told false true s n e raw line single is names = names
undefined_told false false s n e raw line single is names = absurd (cc)

above_told : (d u s n e : Bool) (raw : RawGame) (line : List ℕ) → d ≡ false → u ≡ false → s ≡ true → NamesAbove raw.header raw.specs line → IsCauseForAny (chosen d u s n e) raw line
above_told true u s n e raw line single none is names = absurd (cc)
above_told false true s n e raw line single none is names = absurd (cc)
above_told false false true n e raw line single none is names = names
above_told false false false n e raw line single none is names = absurd (cc)

nothing_told : (d u s n e : Bool) (raw : RawGame) (line : List ℕ) → d ≡ false → u ≡ false → s ≡ false → line ≡ [] → IsCauseForAny (chosen d u s n e) raw line
nothing_told true u s n e raw line single none low said = absurd (cc)
nothing_told false true s n e raw line single none low said = absurd (cc)
nothing_told false false true n e raw line single none low said = absurd (cc)
nothing_told false false false true e raw line single none low said = said
nothing_told false false false false true raw line single none low said = said
nothing_told false false false false false raw line single none low said = said

-- the cause of what is written is that of its fault
pub cause_for : (raw : RawGame) (line : List ℕ) → IsCauseOf raw line → IsCauseForAny (fault_in raw) raw line
cause_for raw line cause =
    let duplicate = has_duplicate raw.specs in
    let undefined = has_undefined raw.specs in
    let small = is_header_small raw.header raw.specs in
    let nodes = nat_lt most_nodes (length raw.specs) in
    let edges = nat_lt most_successors (listed_successors raw.specs) in
    elim cause [
      | inl names ↦ repeat_told duplicate undefined small nodes edges raw line (repeated raw.specs names.id names.first) names
      | inr others ↦ (
          let unique = distinct raw.specs others.0 in
          elim others.1 [
            | inl names ↦ undefined_told duplicate undefined small nodes edges raw line unique (undefined_found raw.specs ∙ ap is_some names.first) names
            | inr more ↦ (
                let defined = undefined_found raw.specs ∙ ap is_some more.0 in
                elim more.1 [
                  | inl names ↦ above_told duplicate undefined small nodes edges raw line unique defined (small_found raw.header raw.specs ∙ ap is_some names.first) names
                  | inr nothing ↦ nothing_told duplicate undefined small nodes edges raw line unique defined (small_found raw.header raw.specs ∙ ap is_some nothing.none) nothing.said
                ])
          ])
    ]
