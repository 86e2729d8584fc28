-- What a union is formed of is the union, and why it is too large.
use Rattle.std.proofs.Common.{◌≡◌, ℕ, ◌+◌, ◌<◌, ◌≤◌, inl, inr, Option, List, ◌++◌, map, refl, sym, ap, ap₂, subst, ◌∙◌}
use Rattle.std.proofs.lemmas.Bool.{cases_lt}
use Rattle.std.proofs.lemmas.List.{append_assoc, map-append}
use Rattle.std.proofs.lemmas.List.Elements.{Contains-append_left, Contains-append_right}
use Rattle.omega_acc.specs.WritingLaws.{WrittenFormulasMean, WrittenLabelsMean}
use Rattle.omega_hoa_automaton.specs.Automaton.{Description, IsAutomaton, edge_count}
use Rattle.omega_hoa_automaton.specs.Meaning.{Means}
use Rattle.omega_hoa_automaton.specs.declared.state.State.{State}
use Rattle.omega_hoa_syntax.specs.declared.raw_automaton.RawAutomaton.{RawAutomaton}
use Rattle.omega_hoa_syntax.specs.declared.raw_state.RawState.{RawState}
use Rattle.omega_hoa_edges.specs.Limits.{most_edges, most_states}
use Rattle.omega_lang_product.specs.Joining.{places_among}
use Rattle.omega_lang_product.specs.Limits.{IsWithin}
use Rattle.omega_text.specs.Limits.{most_number}
use Rattle.omega_lang_trim.specs.Written.{state_written, written}
use Rattle.omega_lang_trim.specs.private.Writing.{StatesHaveDeepLabel}
use Rattle.omega_lang_trim.proofs.Meant.{automaton_meant}
use Rattle.omega_lang_union.specs.Parts.{Part}
use Rattle.omega_lang_union.specs.Refusing.{IsOversized, many_edges, many_states}
use Rattle.omega_lang_union.specs.Sharing.{IsSharing}
use Rattle.omega_lang_union.specs.Union.{united}
use Rattle.omega_lang_union.specs.private.Operands.{AreLarge, first_over, second_over}
use Rattle.omega_lang_union.specs.declared.sharing.Sharing.{Sharing}
use Rattle.omega_lang_union.proofs.Counted.{edges_of_both}
use Rattle.omega_lang_union.proofs.Rising.{united_rises}

abbrev pub part_with : List ℕ → ℕ → ℕ → Option ℕ → Part
part_with places states sets guard = record { places = places; states = states; sets = sets; guard = guard }

-- a label that is too deep is so in the union
pub deep_left : (xs ys : List State) → StatesHaveDeepLabel xs → StatesHaveDeepLabel (xs ++ ys)
deep_left xs ys (state, has, deep) = (state, Contains-append_left xs ys state has, deep)

pub deep_right : (xs ys : List State) → StatesHaveDeepLabel ys → StatesHaveDeepLabel (xs ++ ys)
deep_right xs ys (state, has, deep) = (state, Contains-append_right xs ys state has, deep)

-- the states of one automaton and of the other
pub both_written : (xs ys : List State) (before first all : List RawState) → first ≡ before ++ map state_written xs → all ≡ first ++ map state_written ys
    → all ≡ before ++ map state_written (xs ++ ys)
both_written xs ys before first all one other =
    other
    ∙ ap (λ (rows : List RawState). rows ++ map state_written ys) one
    ∙ append_assoc before (map state_written xs) (map state_written ys)
    ∙ ap (λ (rows : List RawState). before ++ rows) (sym (map-append state_written xs ys))

-- how the union has each of the two over some names
pub first_is : (sharing : Sharing) (names : List (List ℕ)) (one : Description) (places : List ℕ) → places ≡ places_among names one.propositions
    → part_with places 0 0 sharing.first ≡ first_over sharing names one
first_is sharing names one places is = ap (λ (p : List ℕ). part_with p 0 0 sharing.first) is

pub second_is : (sharing : Sharing) (names : List (List ℕ)) (one other : Description) (places : List ℕ) (states : ℕ) → places ≡ places_among names other.propositions
    → states ≡ one.states → part_with places states sharing.before sharing.second ≡ second_over sharing names one other
second_is sharing names one other places states is count = ap₂ (λ (p : List ℕ) (n : ℕ). part_with p n sharing.before sharing.second) is count

module _ (sharing : Sharing) (one other : Description) where
  -- too many states or edges
  pub large_oversized : AreLarge one other → IsOversized (united sharing one other)
  large_oversized (inl states) = many_states states
  large_oversized (inr edges) = many_edges (subst (λ (n : ℕ). most_edges < n) (sym (edges_of_both sharing one other)) edges)

  pub few_states : (AreLarge one other → ⊥) → one.states + other.states ≤ most_states
  few_states small = elim (cases_lt most_states (one.states + other.states)) [ inl many ↦ absurd (small (inl many)) | inr few ↦ few ]

  pub few_edges : (AreLarge one other → ⊥) → edge_count one + edge_count other ≤ most_edges
  few_edges small = elim (cases_lt most_edges (edge_count one + edge_count other)) [ inl many ↦ absurd (small (inr many)) | inr few ↦ few ]

  pub united_within : (AreLarge one other → ⊥) → sharing.sets ≤ most_number → IsWithin (united sharing one other)
  united_within small sets = record {
    states = few_states small;
    edges = subst (λ (n : ℕ). n ≤ most_edges) (sym (edges_of_both sharing one other)) (few_edges small);
    sets = sets;
  }

  -- what its written form means
  pub united_meant : WrittenLabelsMean → WrittenFormulasMean → IsSharing one other sharing → IsAutomaton one → IsAutomaton other → (raw : RawAutomaton) (a : Description)
      → raw ≡ written (united sharing one other) → Means raw a → a ≡ united sharing one other
  united_meant labels formulas shared first second raw a is means =
      automaton_meant labels formulas (united sharing one other) a refl refl refl (united_rises one other sharing shared first second)
      (subst (λ (r : RawAutomaton). Means r a) is means)

  pub united_written : (raw : RawAutomaton) (a : Description) → raw ≡ written (united sharing one other) → a ≡ united sharing one other → Means raw a → Means (written a) a
  united_written raw a is same means =
      subst (λ (d : Description). Means (written d) a) (sym same) (subst (λ (r : RawAutomaton). Means r a) is means)
