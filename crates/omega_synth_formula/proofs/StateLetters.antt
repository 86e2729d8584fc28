-- A letter of the environment in a state of the complement that no way to the sink answers is one that the strategy
-- follows, and the other way round.
use Rattle.std.proofs.Common.{◌≡◌, ◌==◌, ◌&&◌, ℕ, ◌<◌, inl, inr, Bool, true, false, not, if◌then◌else◌, nat_lt, List, [], ◌∷◌, length, get_or, Contains, Some, refl, sym, ap, subst, ◌∙◌, arith, eqb-true, eq-eqb}
use Rattle.std.proofs.lemmas.Bool.{cases_lt, le-ltb, lt-ltb}
use Rattle.omega_hoa_automaton.specs.Automaton.{BodyEdge, Description, IsAutomaton, edge_at}
use Rattle.omega_hoa_automaton.specs.Branching.{has_universal_branching}
use Rattle.omega_hoa_edges.specs.Determinism.{IsDeterministic}
use Rattle.omega_lang_complement.specs.Complement.{IsComplement}
use Rattle.omega_lang_product.proofs.Holding.{and_both, both_and}
use Rattle.omega_lang_runs.specs.Lasso.{label_of}
use Rattle.omega_lang_runs.specs.Words.{Allows, CanBeTaken}
use Rattle.omega_lang_runs.proofs.SingleTargets.{EntersOne, enters_one}
use Rattle.omega_lang_word_laws.proofs.meeting.Lists.{same_some}
use Rattle.omega_lang_word_laws.proofs.naming.Named.{allowed_same}
use Rattle.omega_synth_controllers.specs.Controllers.{Answers}
use Rattle.omega_synth_check.specs.CounterJudging.{GoesAt, GoesOn, IsGiven, NamedLetter}
use Rattle.omega_synth_check.specs.CounterRefusing.{system_numbers}
use Rattle.omega_synth_check.specs.WaysOut.{HasLetterIn, HasWayOut, IsWayOut, enters_sink, is_way_out}
use Rattle.omega_synth_check.proofs.Rests.{Lacks, goes_or_lacks, goes_within, lacks_stays, lost_goes, rest_goes}
use Rattle.omega_synth_check.proofs.Sides.{goes_by, seen}
use Rattle.omega_synth_check.proofs.Steps.{step_leaves}
use Rattle.omega_synth_check.proofs.SystemNames.{system_has, system_named}
use Rattle.omega_synth_formula.specs.Following.{HasFollowedLetter}
use Rattle.omega_synth_formula.proofs.Merging.{merged, merged_given, merged_seen, place, placed}

module _ (own rest : Description) (is_own : IsAutomaton own) (deterministic : IsDeterministic own) (complemented : IsComplement own rest) (is_rest : IsAutomaton rest)
    (plain : has_universal_branching rest ≡ false) (controlled : List (List ℕ)) (out : ℕ → Bool)
    (out_is : (number : ℕ) (edge : BodyEdge) → edge_at rest number ≡ Some edge → out number ≡ is_way_out rest own.states number) where
  abbrev names : List (List ℕ)
  names = rest.propositions

  abbrev system : List ℕ
  system = system_numbers names controlled

  -- the test of an edge
  tested : (number : ℕ) (edge : BodyEdge) → edge_at rest number ≡ Some edge
      → out number ≡ ((get_or edge.edge.targets 0 0 == own.states) && not (edge.source.number == own.states))
  tested number edge at = out_is number edge at ∙ ap (enters_sink own.states) at

  module _ (t : ℕ) (below : t < own.states) where
    -- ---- from numbers to names
    module _ (letter : ℕ → Bool) (none : (number : ℕ) → IsWayOut rest out t number → ¬ Answers rest system number letter) where
      abbrev given : NamedLetter
      given name = letter (place rest is_rest name)

      module _ (held : NamedLetter) (agree : IsGiven controlled given held) where
        -- the letter by numbers that the complement sees, and beyond its propositions the one that is given
        abbrev by_number : ℕ → Bool
        by_number p = if nat_lt p (length names) then seen names held p else letter p

        by_below : (p : ℕ) → p < length names → seen names held p ≡ by_number p
        by_below p low = sym (ap (λ b. if b then seen names held p else letter p) (lt-ltb p (length names) low))

        agrees : (p : ℕ) → ¬ Contains system p → letter p ≡ by_number p
        agrees p free = elim (cases_lt p (length names)) [
          | inl low ↦
              let name : List ℕ = get_or names p [] in
              let same : given name ≡ held name = agree name (λ has. free (system_has names controlled p low has)) in
              sym (ap letter (placed rest is_rest p low)) ∙ same ∙ by_below p low
          | inr past ↦ sym (ap (λ b. if b then seen names held p else letter p) (le-ltb p (length names) past))
        ]

        module _ (lacks : Lacks own is_own deterministic held t) where
          abbrev on : GoesAt rest held t own.states
          on = lost_goes own rest is_own deterministic complemented is_rest held t below lacks

          abbrev number : ℕ
          number = on.number

          abbrev edge : BodyEdge
          edge = on.step.edge

          apart : (b : Bool) → (edge.source.number == own.states) ≡ b → not b ≡ true
          apart true e = absurd (itself (sym on.step.leaves ∙ eqb-true edge.source.number own.states e))
            where
              itself : t ≡ own.states → ⊥
              itself same = omega (arith, below, same)
          apart false e = refl

          is_out : out number ≡ true
          is_out =
              tested number edge on.step.numbered
              ∙ both_and (get_or edge.edge.targets 0 0 == own.states) (not (edge.source.number == own.states))
              (eq-eqb (get_or edge.edge.targets 0 0) own.states (ap (λ (targets : List ℕ). get_or targets 0 0) on.step.enters))
              (apart (edge.source.number == own.states) refl)

          taken : CanBeTaken rest number by_number
          taken = record {
            edge = on.taken.edge;
            numbered = on.taken.numbered;
            allowed = allowed_same rest is_rest (λ i. seen names held) (λ i. by_number) (λ i p low. by_below p low) number 0 on.taken.edge on.taken.numbered on.taken.allowed;
          }

          never : ⊥
          never =
              none number (record { leaves = step_leaves rest t number own.states on.step; is_out = is_out })
              (record { letter = by_number; agrees = agrees; taken = taken })

        goes_on : GoesOn own held t
        goes_on = elim (goes_or_lacks own is_own deterministic held t) [
          | inl on ↦ on
          | inr lacks ↦ absurd (never lacks)
        ]

      letter_named : HasFollowedLetter own controlled t
      letter_named = record { given = given; follows = goes_on }

    pub has_letter : HasLetterIn rest system out t → HasFollowedLetter own controlled t
    has_letter has = letter_named has.0 has.1

    -- ---- from names to numbers
    module _ (each : (given : ℕ → Bool) → HasWayOut rest system out t given) (has : HasFollowedLetter own controlled t) where
      abbrev way : HasWayOut rest system out t (seen names has.given)
      way = each (seen names has.given)

      abbrev l : ℕ → Bool
      l = way.2.letter

      abbrev answer : NamedLetter
      answer = merged rest is_rest has.given l

      is_given : IsGiven controlled has.given answer
      is_given = merged_given rest is_rest has.given l controlled (λ p low free. way.2.agrees p (λ listed. free (system_named names controlled p listed)))

      seen_below : (p : ℕ) → p < length names → l p ≡ seen names answer p
      seen_below p low = sym (merged_seen rest is_rest has.given l p low)

      abbrev way_edge : BodyEdge
      way_edge = way.1.leaves.edge

      same_edge : way.2.taken.edge ≡ way_edge
      same_edge = same_some way.2.taken.edge way_edge (sym way.2.taken.numbered ∙ way.1.leaves.numbered)

      allowed : Allows rest way.0 (label_of way_edge) (seen names answer)
      allowed =
          allowed_same rest is_rest (λ i. l) (λ i. seen names answer) (λ i p low. seen_below p low) way.0 0 way_edge way.1.leaves.numbered
          (subst (λ (e : BodyEdge). Allows rest way.0 (label_of e) l) same_edge way.2.taken.allowed)

      parts : ((get_or way_edge.edge.targets 0 0 == own.states) ≡ true) × (not (way_edge.source.number == own.states) ≡ true)
      parts =
          and_both (get_or way_edge.edge.targets 0 0 == own.states) (not (way_edge.source.number == own.states))
          (sym (tested way.0 way_edge way.1.leaves.numbered) ∙ way.1.is_out)

      one : EntersOne rest.states way_edge
      one = enters_one rest is_rest plain way.0 way_edge way.1.leaves.numbered

      target_is : one.target ≡ own.states
      target_is =
          sym (ap (λ (targets : List ℕ). get_or targets 0 0) one.enters)
          ∙ eqb-true (get_or way_edge.edge.targets 0 0) own.states parts.0

      lost : GoesAt rest answer t own.states
      lost =
          goes_by rest answer t own.states way.0 way_edge way.1.leaves.numbered way.1.leaves.leaves
          (one.enters ∙ ap (λ (s : ℕ). s ∷ []) target_is) allowed

      pub no_letter : ⊥
      no_letter = elim (rest_goes own rest is_own deterministic complemented is_rest answer t own.states below lost) [
        | inl goes ↦ let less : own.states < own.states = goes_within own is_own answer t own.states goes in omega (arith, less)
        | inr lacks ↦ lacks_stays own is_own deterministic answer t lacks.0 (has.follows answer is_given)
      ]
