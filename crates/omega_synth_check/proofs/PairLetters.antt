-- A letter of the environment in a state of the product that no way out answers is one in the pair of both, and the
-- other way round.
use Rattle.std.proofs.Common.{◌≡◌, ◌==◌, ℕ, ◌<◌, inl, inr, Bool, true, false, not, if◌then◌else◌, nat_lt, List, [], ◌∷◌, length, get_or, Contains, Some, refl, sym, ap, subst, ◌∙◌, arith, eqb-true, eq-eqb, true≢false}
use Rattle.std.specs.List.{position_or_len}
use Rattle.std.specs.Str.{bytes_eq}
use Rattle.std.proofs.lemmas.Bool.{cases_lt, le-ltb, lt-ltb}
use Rattle.std.proofs.lemmas.List.Sums.{passes_at_first}
use Rattle.std.proofs.lemmas.Slice.Eq.{bytes_eq-Decides}
use Rattle.omega_hoa_automaton.specs.Automaton.{BodyEdge, Description, IsAutomaton, edge_at}
use Rattle.omega_hoa_automaton.specs.Branching.{has_universal_branching}
use Rattle.omega_hoa_edges.specs.Determinism.{IsDeterministic}
use Rattle.omega_lang_complement.specs.Complement.{IsComplement}
use Rattle.omega_lang_product.specs.PairGraph.{IsPairGraph}
use Rattle.omega_lang_product.specs.Pairs.{Pair, pair_number}
use Rattle.omega_lang_product.specs.declared.graph.PairGraph.{PairGraph}
use Rattle.omega_lang_product.proofs.Holding.{and_both, both_and}
use Rattle.omega_lang_runs.specs.Lasso.{label_of}
use Rattle.omega_lang_runs.specs.Words.{Allows, CanBeTaken}
use Rattle.omega_lang_word_laws.specs.Graphs.{IsGraphOf}
use Rattle.omega_lang_word_laws.proofs.meeting.Lists.{same_some}
use Rattle.omega_lang_word_laws.proofs.naming.Named.{allowed_same, own_place}
use Rattle.omega_synth_controllers.specs.Controllers.{Answers}
use Rattle.omega_synth_check.specs.CounterJudging.{GoesAt, GoesOn, HasLetter, IsGiven, NamedLetter}
use Rattle.omega_synth_check.specs.CounterRefusing.{system_numbers}
use Rattle.omega_synth_check.specs.WaysOut.{HasLetterIn, HasWayOut, IsWayOut, is_way_out}
use Rattle.omega_synth_check.proofs.Joint.{IsSplit, IsTogether, pairs, sides_go, split, tells, together}
use Rattle.omega_synth_check.proofs.Rests.{Lacks, goes_or_lacks, goes_within, lacks_stays, lost_goes, rest_goes}
use Rattle.omega_synth_check.proofs.Sides.{seen}
use Rattle.omega_synth_check.proofs.Steps.{step_leaves}
use Rattle.omega_synth_check.proofs.SystemNames.{system_has, system_named}

module _ (one own rest both : Description) (graph : PairGraph) (automaton : IsAutomaton one) (plain : has_universal_branching one ≡ false)
    (is_own : IsAutomaton own) (deterministic : IsDeterministic own) (complemented : IsComplement own rest) (is_rest : IsAutomaton rest)
    (plain' : has_universal_branching rest ≡ false) (is_both : IsAutomaton both) (is : IsPairGraph one rest graph) (of : IsGraphOf one rest graph is both)
    (plain_both : has_universal_branching both ≡ false) (controlled : List (List ℕ)) (out : ℕ → Bool)
    (out_is : (number : ℕ) (edge : BodyEdge) → edge_at both number ≡ Some edge
    → out number ≡ is_way_out rest own.states (get_or graph.edges.seconds.items number 0)) where
  abbrev ps : List Pair
  ps = pairs one rest both graph automaton is_rest plain plain' is of

  abbrev names : List (List ℕ)
  names = both.propositions

  abbrev system : List ℕ
  system = system_numbers names controlled

  abbrev place : List ℕ → ℕ
  place name = position_or_len (bytes_eq name) names

  abbrev Split : ℕ → BodyEdge → Type 0
  Split number edge = IsSplit one rest both graph automaton is_rest plain plain' is of number edge

  placed : (p : ℕ) → p < length names → place (get_or names p []) ≡ p
  placed p below = own_place names is_both.unlike p below

  named_there : (name : List ℕ) → place name < length names → get_or names (place name) [] ≡ name
  named_there name below = sym ((bytes_eq-Decides name (get_or names (place name) [])).0 (passes_at_first (bytes_eq name) names [] below))

  -- a way out leads from a pair in which the strategy is to one with the sink
  pub out_way : (number : ℕ) (edge : BodyEdge) → edge_at both number ≡ Some edge → (s : Split number edge) → out number ≡ true
      → (s.second.target ≡ own.states) × (s.pair.1 ≡ own.states → ⊥)
  out_way number edge at s is_out =
      let parts = and_both (s.second.target == own.states) (not (s.pair.1 == own.states)) (sym (out_is number edge at ∙ s.way own.states) ∙ is_out) in (
        eqb-true s.second.target own.states parts.0,
        λ same. differs (s.pair.1 == own.states) (eq-eqb s.pair.1 own.states same) parts.1,
      )
    where
      differs : (b : Bool) → b ≡ true → not b ≡ true → ⊥
      differs true e f = true≢false (sym f)
      differs false e f = true≢false (sym e)

  way_out : (number : ℕ) (edge : BodyEdge) → edge_at both number ≡ Some edge → (s : Split number edge) → s.second.target ≡ own.states → (s.pair.1 ≡ own.states → ⊥)
      → out number ≡ true
  way_out number edge at s target apart =
      out_is number edge at ∙ s.way own.states
      ∙ both_and (s.second.target == own.states) (not (s.pair.1 == own.states)) (eq-eqb s.second.target own.states target)
      (not_same (s.pair.1 == own.states) refl)
    where
      not_same : (b : Bool) → (s.pair.1 == own.states) ≡ b → not b ≡ true
      not_same true e = absurd (apart (eqb-true s.pair.1 own.states e))
      not_same false e = refl

  module _ (s t : ℕ) (within : Contains ps (s, t)) (below : t < own.states) where
    abbrev at_pair : ℕ
    at_pair = pair_number ps (s, t)

    -- ---- from numbers to names
    module _ (letter : ℕ → Bool) (none : (number : ℕ) → IsWayOut both out at_pair number → ¬ Answers both system number letter) where
      abbrev given : NamedLetter
      given name = letter (place name)

      module _ (held : NamedLetter) (agree : IsGiven controlled given held) where
        -- the letter by numbers that the product sees, and beyond its propositions the one that is given
        abbrev by_number : ℕ → Bool
        by_number p = if nat_lt p (length names) then seen names held p else letter p

        by_below : (p : ℕ) → p < length names → seen names held p ≡ by_number p
        by_below p low = sym (ap (λ b. if b then seen names held p else letter p) (lt-ltb p (length names) low))

        agrees : (p : ℕ) → ¬ Contains system p → letter p ≡ by_number p
        agrees p free = elim (cases_lt p (length names)) [
          | inl low ↦
              let name : List ℕ = get_or names p [] in
              let same : given name ≡ held name = agree name (λ has. free (system_has names controlled p low has)) in
              sym (ap letter (placed p low)) ∙ same ∙ by_below p low
          | inr past ↦ sym (ap (λ b. if b then seen names held p else letter p) (le-ltb p (length names) past))
        ]

        module _ (first : GoesOn one held s) (lacks : Lacks own is_own deterministic held t) where
          abbrev on : IsTogether one rest both graph automaton is_rest plain plain' is of held (s, t) (first.0, own.states)
          on = together one rest both graph automaton is_rest plain plain' is of held (s, t) (first.0, own.states) within first.1
              (lost_goes own rest is_own deterministic complemented is_rest held t below lacks)

          abbrev number : ℕ
          number = on.goes.number

          abbrev edge : BodyEdge
          edge = on.goes.step.edge

          cut : Split number edge
          cut = split one rest both graph automaton is_rest plain plain' is of number edge on.goes.step.numbered

          single : (x y : ℕ) → x ∷ [] ≡ y ∷ [] → x ≡ y
          single x y e = cc

          pair_is : ◌≡◌ {A = Pair} (s, t) cut.pair
          pair_is = tells one rest both graph automaton is_rest plain plain' is of (s, t) cut.pair within (sym on.goes.step.leaves ∙ cut.here)

          target_is : ◌≡◌ {A = Pair} (first.0, own.states) (cut.first.target, cut.second.target)
          target_is = tells one rest both graph automaton is_rest plain plain' is of (first.0, own.states) (cut.first.target, cut.second.target) on.within
              (single (pair_number ps (first.0, own.states)) (pair_number ps (cut.first.target, cut.second.target)) (sym on.goes.step.enters ∙ cut.enters))

          is_out : out number ≡ true
          is_out = way_out number edge on.goes.step.numbered cut (sym (ap (λ (q : Pair). q.1) target_is))
              (λ same. itself (ap (λ (q : Pair). q.1) pair_is ∙ same))
            where
              itself : t ≡ own.states → ⊥
              itself e = omega (arith, below, e)

          taken : CanBeTaken both number by_number
          taken = record {
            edge = on.goes.taken.edge;
            numbered = on.goes.taken.numbered;
            allowed = allowed_same both is_both (λ i. seen names held) (λ i. by_number) (λ i p low. by_below p low) number 0 on.goes.taken.edge on.goes.taken.numbered
                on.goes.taken.allowed;
          }

          never : ⊥
          never =
              none number (record { leaves = step_leaves both at_pair number (pair_number ps (first.0, own.states)) on.goes.step; is_out = is_out })
              (record { letter = by_number; agrees = agrees; taken = taken })

        goes_too : GoesOn one held s → GoesOn own held t
        goes_too first = elim (goes_or_lacks own is_own deterministic held t) [
          | inl second ↦ second
          | inr lacks ↦ absurd (never first lacks)
        ]

      letter_named : HasLetter one own controlled s t
      letter_named = record { given = given; follows = goes_too }

    pub has_letter : HasLetterIn both system out at_pair → HasLetter one own controlled s t
    has_letter has = letter_named has.0 has.1

    -- ---- from names to numbers
    module _ (each : (given : ℕ → Bool) → HasWayOut both system out at_pair given) (has : HasLetter one own controlled s t) where
      abbrev way : HasWayOut both system out at_pair (seen names has.given)
      way = each (seen names has.given)

      abbrev l : ℕ → Bool
      l = way.2.letter

      abbrev answer : NamedLetter
      answer name = if nat_lt (place name) (length names) then l (place name) else has.given name

      answer_named : (name : List ℕ) → place name < length names → answer name ≡ l (place name)
      answer_named name low = ap (λ b. if b then l (place name) else has.given name) (lt-ltb (place name) (length names) low)

      is_given : IsGiven controlled has.given answer
      is_given name free = elim (cases_lt (place name) (length names)) [
        | inl low ↦
            let named : get_or names (place name) [] ≡ name = named_there name low in
            let spared : ¬ Contains system (place name) = λ listed. free (subst (Contains controlled) named (system_named names controlled (place name) listed)) in
            sym (ap has.given named) ∙ way.2.agrees (place name) spared ∙ sym (answer_named name low)
        | inr past ↦ sym (ap (λ b. if b then l (place name) else has.given name) (le-ltb (place name) (length names) past))
      ]

      seen_below : (p : ℕ) → p < length names → l p ≡ seen names answer p
      seen_below p low =
          let name : List ℕ = get_or names p [] in
          let here : place name ≡ p = placed p low in
          sym (answer_named name (subst (λ (n : ℕ). n < length names) (sym here) low) ∙ ap l here)

      abbrev way_edge : BodyEdge
      way_edge = way.1.leaves.edge

      same_edge : way.2.taken.edge ≡ way_edge
      same_edge = same_some way.2.taken.edge way_edge (sym way.2.taken.numbered ∙ way.1.leaves.numbered)

      allowed : Allows both way.0 (label_of way_edge) (seen names answer)
      allowed =
          allowed_same both is_both (λ i. l) (λ i. seen names answer) (λ i p low. seen_below p low) way.0 0 way_edge way.1.leaves.numbered
          (subst (λ (e : BodyEdge). Allows both way.0 (label_of e) l) same_edge way.2.taken.allowed)

      way_cut : Split way.0 way_edge
      way_cut = split one rest both graph automaton is_rest plain plain' is of way.0 way_edge way.1.leaves.numbered

      sides : GoesAt one answer way_cut.pair.0 way_cut.first.target × GoesAt rest answer way_cut.pair.1 way_cut.second.target
      sides = sides_go one rest both graph automaton is_rest plain plain' is of answer way.0 way_edge way_cut allowed

      way_pair : ◌≡◌ {A = Pair} (s, t) way_cut.pair
      way_pair = tells one rest both graph automaton is_rest plain plain' is of (s, t) way_cut.pair within (sym way.1.leaves.leaves ∙ way_cut.here)

      lost : (way_cut.second.target ≡ own.states) × (way_cut.pair.1 ≡ own.states → ⊥)
      lost = out_way way.0 way_edge way.1.leaves.numbered way_cut way.1.is_out

      first : GoesOn one answer s
      first = (way_cut.first.target, subst (λ (q : Pair). GoesAt one answer q.0 way_cut.first.target) (sym way_pair) sides.0)

      second : GoesAt rest answer t own.states
      second = subst (λ (to : ℕ). GoesAt rest answer t to) lost.0 (subst (λ (q : Pair). GoesAt rest answer q.1 way_cut.second.target) (sym way_pair) sides.1)

      pub no_letter : ⊥
      no_letter = elim (rest_goes own rest is_own deterministic complemented is_rest answer t own.states below second) [
        | inl goes ↦ let less : own.states < own.states = goes_within own is_own answer t own.states goes in omega (arith, less)
        | inr lacks ↦ lacks_stays own is_own deterministic answer t lacks.0 (has.follows answer is_given first)
      ]
