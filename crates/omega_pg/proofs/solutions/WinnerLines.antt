-- Lines of solution texts, kept by their winners.
use Rattle.std.proofs.Common.{◌≡◌, ◌≢◌, ℕ, ◌<◌, Bool, true, false, List, [], ◌∷◌, ◌++◌, length, get_or, ap, sym, ◌∙◌, subst, arith, length-append, append_assoc, append-nil}
use Rattle.std.proofs.Math.Seq.{get_or-append_seam}
use Rattle.std.proofs.lemmas.List.{get_or-map, length-map, map-append}
use Rattle.omega_game_values.specs.Game.{Node, identifiers, no_node}
use Rattle.omega_game_values.specs.declared.player.Player.{Player}
use Rattle.omega_pg.specs.solution.Grammar.{SolutionLine}
use Rattle.omega_pg.specs.solution.Winners.{identifiers_of, winners_of}
use Rattle.omega_pg.specs.private.solution.winners.Lines.{AreKept, IsNext}

-- there are as many identifiers as nodes, and as lines
nodes-count : (nodes : List Node) → length (identifiers nodes) ≡ length nodes
nodes-count nodes = length-map nodes (λ (node : Node). node.identifier)

lines-count : (lines : List SolutionLine) → length (identifiers_of lines) ≡ length lines
lines-count lines = length-map lines (λ (line : SolutionLine). line.identifier)

-- and as many winners as lines
winners-count : (lines : List SolutionLine) (winners : List Player) → winners ≡ winners_of lines → length winners ≡ length lines
winners-count lines winners e = ap length e ∙ length-map lines (λ (line : SolutionLine). line.winner)

-- the identifiers of lines and some more
more-named : (lines more : List SolutionLine) (rest : List ℕ) → identifiers_of (lines ++ more) ++ rest ≡ identifiers_of lines ++ (identifiers_of more ++ rest)
more-named lines more rest =
    ap (λ list. list ++ rest) (map-append (λ (line : SolutionLine). line.identifier) lines more)
    ∙ append_assoc (identifiers_of lines) (identifiers_of more) rest

-- ---- one line more

-- the identifier at the place after those of a beginning
at_seam : (nodes : List Node) (front rest : List ℕ) (id : ℕ) → front ++ id ∷ rest ≡ identifiers nodes → IsNext nodes (length front) id
at_seam nodes front rest id whole =
    let sizes : length (front ++ id ∷ rest) ≡ length nodes = ap length whole ∙ nodes-count nodes in
    let inside : length front < length nodes = omega (arith, length-append front (id ∷ rest), sizes) in (
      inside,
      sym (get_or-map (λ (node : Node). node.identifier) nodes (length front) no_node 0 inside)
          ∙ ap (λ list. get_or list (length front) 0) (sym whole) ∙ get_or-append_seam front id rest 0,
    )

-- a line that does not name the next node
pub winner_missed : (nodes : List Node) (lines : List SolutionLine) (line : SolutionLine) (good after : Bool) (winners winners' : List Player) (place : ℕ)
    → place ≡ length winners → good ≡ true → after ≡ false → (IsNext nodes place line.identifier → ⊥)
    → AreKept nodes lines good winners → AreKept nodes (lines ++ line ∷ []) after winners'
winner_missed nodes lines line false after winners winners' place p e f other kept = absurd (let clash : false ≡ true = e in cc)
winner_missed nodes lines line true true winners winners' place p e f other kept = absurd (let clash : true ≡ false = f in cc)
winner_missed nodes lines line true false winners winners' place p e f other kept =
    λ named. other
    (subst (λ v. IsNext nodes v line.identifier) (lines-count lines ∙ sym (winners-count lines winners kept.0) ∙ sym p)
    (at_seam nodes (identifiers_of lines) named.0 line.identifier (sym (more-named lines (line ∷ []) named.0) ∙ named.1)))

-- the rest after a beginning begins with the identifier of the next node
next_named : (nodes : List Node) (front rest : List ℕ) (id : ℕ) → front ++ rest ≡ identifiers nodes → IsNext nodes (length front) id
    → (after : List ℕ) × (front ++ id ∷ after ≡ identifiers nodes)
next_named nodes front [] id whole next =
    let sizes : length front ≡ length nodes = ap length (sym (append-nil front) ∙ whole) ∙ nodes-count nodes in
    absurd (omega (arith, next.0, sizes))
next_named nodes front (first ∷ rest) id whole next =
    let there = at_seam nodes front rest first whole in
    let same : first ≡ id = sym there.1 ∙ next.1 in
    (rest, subst (λ n. front ++ n ∷ rest ≡ identifiers nodes) same whole)

-- a line that names the next node
pub winner_kept : (nodes : List Node) (lines : List SolutionLine) (line : SolutionLine) (good after : Bool) (winners winners' : List Player) (place : ℕ)
    → place ≡ length winners → good ≡ true → after ≡ good → IsNext nodes place line.identifier → winners' ≡ winners ++ line.winner ∷ []
    → AreKept nodes lines good winners → AreKept nodes (lines ++ line ∷ []) after winners'
winner_kept nodes lines line false after winners winners' place p e f next w kept = absurd (let clash : false ≡ true = e in cc)
winner_kept nodes lines line true false winners winners' place p e f next w kept = absurd (let clash : false ≡ true = f in cc)
winner_kept nodes lines line true true winners winners' place p e f next w kept =
    let there : IsNext nodes (length (identifiers_of lines)) line.identifier =
    subst (λ v. IsNext nodes v line.identifier) (p ∙ winners-count lines winners kept.0 ∙ sym (lines-count lines)) next in
    let named = next_named nodes (identifiers_of lines) kept.1.0 line.identifier kept.1.1 there in (
      w ∙ ap (λ list. list ++ line.winner ∷ []) kept.0 ∙ sym (map-append (λ (line : SolutionLine). line.winner) lines (line ∷ [])),
      (named.0, more-named lines (line ∷ []) named.0 ∙ named.1),
    )

-- ---- the end

-- lines that are wrong do not name all nodes
pub others_named : (nodes : List Node) (lines : List SolutionLine) (good : Bool) (winners : List Player) → good ≡ false
    → AreKept nodes lines good winners → identifiers_of lines ≢ identifiers nodes
others_named nodes lines true winners e kept = absurd (let clash : true ≡ false = e in cc)
others_named nodes lines false winners e kept = λ same. kept ([], append-nil (identifiers_of lines) ∙ same)

-- nor do too few or too many
pub count_named : (nodes : List Node) (lines : List SolutionLine) (good : Bool) (winners : List Player) → good ≡ true → length winners ≢ length nodes
    → AreKept nodes lines good winners → identifiers_of lines ≢ identifiers nodes
count_named nodes lines false winners e other kept = absurd (let clash : false ≡ true = e in cc)
count_named nodes lines true winners e other kept =
    λ same. other (winners-count lines winners kept.0 ∙ sym (lines-count lines) ∙ ap length same ∙ nodes-count nodes)

-- as many lines as nodes name them all
pub all_named : (nodes : List Node) (lines : List SolutionLine) (good : Bool) (winners : List Player) → good ≡ true → length winners ≡ length nodes
    → AreKept nodes lines good winners → identifiers_of lines ≡ identifiers nodes
all_named nodes lines false winners e count kept = absurd (let clash : false ≡ true = e in cc)
all_named nodes lines true winners e count kept = alone kept.1.0 kept.1.1
  where
    alone : (rest : List ℕ) → identifiers_of lines ++ rest ≡ identifiers nodes → identifiers_of lines ≡ identifiers nodes
    alone [] whole = sym (append-nil (identifiers_of lines)) ∙ whole
    alone (first ∷ rest) whole =
        let sizes : length (identifiers_of lines ++ first ∷ rest) ≡ length nodes = ap length whole ∙ nodes-count nodes in
        absurd (omega (arith, length-append (identifiers_of lines) (first ∷ rest), sizes, lines-count lines, winners-count lines winners kept.0, count))

-- and their winners are kept
pub winners_named : (nodes : List Node) (lines : List SolutionLine) (good : Bool) (winners : List Player) → good ≡ true
    → AreKept nodes lines good winners → winners ≡ winners_of lines
winners_named nodes lines false winners e kept = absurd (let clash : false ≡ true = e in cc)
winners_named nodes lines true winners e kept = kept.0
