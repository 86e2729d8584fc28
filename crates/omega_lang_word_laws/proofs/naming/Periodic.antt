-- Each word of which a deterministic automaton sees an ultimately periodic part is accepted by it or by its complement:
-- a run that goes round on such a word shows which.
use Rattle.std.proofs.Common.{◌≡◌, ◌==◌, ℕ, suc, ◌+◌, ◌-◌, ◌<◌, ◌≤◌, ◌⊎◌, inl, inr, Bool, true, false, if◌then◌else◌, List, length, refl, sym, ap, subst, ◌∙◌, arith, eqb-true}
use Rattle.omega_graph.specs.Marks.{meets}
use Rattle.omega_hoa_automaton.specs.Automaton.{Description, IsAutomaton}
use Rattle.omega_hoa_automaton.specs.Meaning.{Means}
use Rattle.omega_hoa_automaton.proofs.validity.Automata.{means_is_automaton}
use Rattle.omega_hoa_syntax.specs.declared.raw_automaton.RawAutomaton.{RawAutomaton}
use Rattle.omega_hoa_edges.specs.Determinism.{IsDeterministic}
use Rattle.omega_lang_complement.specs.Complement.{IsComplement}
use Rattle.omega_lang_complement.specs.Written.{IsWrittenComplement}
use Rattle.omega_lang_runs.specs.Words.{IsAccepted}
use Rattle.omega_lang_runs.proofs.Repeats.{Repeats, repeats}
use Rattle.omega_lang_word_laws.proofs.naming.Named.{AgreeBelow, accepted_same}
use Rattle.omega_lang_word_laws.proofs.naming.Same.{same_names}
use Rattle.omega_lang_word_laws.proofs.parting.Cover.{IsNext, IsRunOn, covered, own_next, run_on}
use Rattle.omega_lang_word_laws.proofs.parting.Periods.{same_on_round, times, times_gap, times_more}
use Rattle.omega_lang_word_laws.proofs.parting.Plain.{IsGood}
use Rattle.omega_lang_word_laws.proofs.parting.Rounds.{after, recurs_on_round, round}

module _ (a c : Description) (is_a : IsAutomaton a) (deterministic : IsDeterministic a) (raw : RawAutomaton) (written : IsWrittenComplement a raw) (means : Means raw c) (is_c : IsAutomaton c) where
  -- a run that is in one state twice can go round from there on
  module _ (word : ℕ → ℕ → Bool) (run : IsRunOn a c is_a deterministic raw written means is_c word) (first second : ℕ) (later : first < second)
      (same : run.states first ≡ run.states second) where
    abbrev Next : ℕ → (ℕ → Bool) → ℕ → Type 0
    Next = IsNext a c is_a deterministic raw written means is_c

    on_round : (m : ℕ) → Next (run.states m) (word m) (run.states (after first second later m))
    on_round m = go ((suc m) == second) refl
      where
        go : (b : Bool) → ((suc m) == second) ≡ b → Next (run.states m) (word m) (run.states (if b then first else suc m))
        go true e =
            let back : run.states (suc m) ≡ run.states first = ap run.states (eqb-true (suc m) second e) ∙ sym same in
            subst (λ (to : ℕ). Next (run.states m) (word m) to) back (run.step m)
        go false e = run.step m

    -- its word is that of the letters on the round
    abbrev word_round : ℕ → ℕ → Bool
    word_round i = word (round first second later i)

    abbrev round_run : IsRunOn a c is_a deterministic raw written means is_c word_round
    round_run = record {
      states = λ i. run.states (round first second later i);
      good = λ i. run.good (round first second later i);
      step = λ i. on_round (round first second later i);
      begins = run.begins;
    }

    abbrev own_at : ℕ → List ℕ
    own_at m = own_next a c is_a deterministic raw written means is_c (run.states m) (word m) (run.states (after first second later m)) (on_round m)

    round_accepted : IsAccepted a word_round ⊎ IsAccepted c word_round
    round_accepted =
        covered a c is_a deterministic raw written means is_c word_round round_run
        (recurs_on_round first second later (λ m. run.states m == a.states))
        (λ negated set. recurs_on_round first second later (λ m. meets negated set (own_at m)))

    -- where the word repeats itself, it is accepted as the word of the round is
    module _ (alike : AgreeBelow (length a.propositions) word_round word) (names : length c.propositions ≡ length a.propositions) where
      accepted_by_one : IsAccepted a word ⊎ IsAccepted c word
      accepted_by_one = go round_accepted
        where
          go : IsAccepted a word_round ⊎ IsAccepted c word_round → IsAccepted a word ⊎ IsAccepted c word
          go (inl accepted) = inl (accepted_same a is_a word_round word alike accepted)
          go (inr accepted) = inr (accepted_same c is_c word_round word (λ i p below. alike i p (omega (arith, below, names))) accepted)

  module _ (word : ℕ → ℕ → Bool) (start period : ℕ) (some : 0 < period)
      (repeated : (i p : ℕ) → start ≤ i → p < length a.propositions → word (i + period) p ≡ word i p) (names : length c.propositions ≡ length a.propositions) where
    run : IsRunOn a c is_a deterministic raw written means is_c word
    run = run_on a c is_a deterministic raw written means is_c word

    low : (n : ℕ) → IsGood a written.sink n → n < suc a.states
    low n (inl below) = omega (arith, below)
    low n (inr (is, sink)) = omega (arith, is)

    -- a state comes again after some periods
    twice : Repeats (λ q. run.states (start + times period q))
    twice = repeats (λ q. run.states (start + times period q)) (suc a.states) (λ q. low (run.states (start + times period q)) (run.good (start + times period q)))

    abbrev first : ℕ
    first = start + times period twice.first

    abbrev second : ℕ
    second = start + times period twice.second

    later : first < second
    later = omega (arith, times_more period twice.first twice.second some twice.later)

    whole : second ≡ first + times period (twice.second - twice.first)
    whole = omega (arith, times_gap period twice.first twice.second twice.later)

    reached : start ≤ first
    reached = omega arith

    alike : AgreeBelow (length a.propositions) (λ i. word (round first second later i)) word
    alike i p below =
        same_on_round period start first second (twice.second - twice.first) later reached whole (λ (k : ℕ). word k p) (λ k past. repeated k p past below) i

    pub periodic_covered : IsAccepted a word ⊎ IsAccepted c word
    periodic_covered = accepted_by_one word run first second later twice.same alike names

-- the premise is what the automaton sees of the word
pub complements_over_periodic : (a c : Description) (word : ℕ → ℕ → Bool) → IsAutomaton a → IsDeterministic a → IsComplement a c → (start period : ℕ) → 0 < period
    → ((i p : ℕ) → start ≤ i → p < length a.propositions → word (i + period) p ≡ word i p) → IsAccepted a word ⊎ IsAccepted c word
complements_over_periodic a c word is_a deterministic (raw, written, means) start period some repeated =
    let names : length c.propositions ≡ length a.propositions = ap length (same_names a c (raw, written, means)) in
    periodic_covered a c is_a deterministic raw written means (means_is_automaton raw c means) word start period some repeated names
