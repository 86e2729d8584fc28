-- The states and edges of a complement as they are written: labels over the propositions, targets and marks within
-- their counts.
use Rattle.std.proofs.Common.{◌≡◌, ◌==◌, ℕ, zero, suc, ◌+◌, ◌-◌, ◌<◌, ◌≤◌, ◌/◌, ◌%◌, ◌^◌, ◌⊎◌, inl, inr, Bool, true, false, ◌||◌, if◌then◌else◌, nat_le, nat_lt, List, [], ◌∷◌, ◌++◌, length, Contains, slice_get, Option, Some, None, unwrap_or, refl, sym, ap, subst, ◌∙◌, arith, true≢false}
use Rattle.std.specs.Prelude.{IfSome}
use Rattle.std.specs.List.{list_all, list_any, range_with_len}
use Rattle.std.specs.Option.{option_or}
use Rattle.std.proofs.lemmas.Bool.{cases_lt}
use Rattle.std.proofs.lemmas.List.Elements.{All-contains, Contains-append_cases}
use Rattle.std.proofs.lemmas.List.Folds.{list_all-append}
use Rattle.std.proofs.lemmas.Option.{slice_get_within}
use Rattle.omega_hoa_label.specs.Writing.{label_written}
use Rattle.omega_hoa_label.specs.Label.{LabelTree, propositions}
use Rattle.omega_hoa_label.specs.Label as label
use Rattle.omega_hoa_label.specs.Raw.{RawLabelTree}
use Rattle.omega_hoa_automaton.specs.Automaton.{AreBelow, Description, IsAutomaton, IsEdge, IsLabel, IsState}
use Rattle.omega_hoa_automaton.specs.Faults.{passes}
use Rattle.omega_hoa_automaton.specs.declared.edge.Edge.{Edge}
use Rattle.omega_hoa_syntax.specs.declared.raw_automaton.RawAutomaton.{RawAutomaton}
use Rattle.omega_hoa_syntax.specs.declared.raw_edge.RawEdge.{RawEdge}
use Rattle.omega_hoa_syntax.specs.declared.raw_state.RawState.{RawState}
use Rattle.omega_hoa_edges.specs.Determinism.{IsDeterministic}
use Rattle.omega_hoa_edges.specs.AutomatonLabels.{labels_at, state_at}
use Rattle.omega_lang_complement.specs.Letters.{IsAnyOf, IsRestLabel, alone, halves}
use Rattle.omega_lang_complement.specs.Written.{IsMissing, IsTurned, IsWrittenComplement, further_edges, one_if, sink_state, sinks, turned_edge, turned_edges}
use Rattle.omega_hoa_edges.proofs.Bits.{both_true}
use Rattle.omega_hoa_edges.proofs.Rows.{each_at}
use Rattle.omega_hoa_edges.proofs.StateNumbers.{state_number}
use Rattle.omega_hoa_edges.specs.Labels.{label_at, literal, valuation_label}
use Rattle.omega_lang_word_laws.proofs.parting.Apart.{edge_of, get_Contains}
use Rattle.omega_lang_word_laws.proofs.parting.Meant.{range_at}
use Rattle.omega_lang_word_laws.proofs.parting.Numbered.{get_left, get_right, never_some, same_some, zip_right}
use Rattle.omega_lang_word_laws.proofs.parting.Plain.{target_of}

pub lt_true : (m n : ℕ) → m < n → nat_lt m n ≡ true
lt_true m n less = grind arith

pub le_false : (m n : ℕ) → n < m → nat_le m n ≡ false
le_false m n less = grind arith

-- a test that no element passes
pub any_none : {X : Type 0} (p : X → Bool) (xs : List X) → ((k : ℕ) (x : X) → slice_get xs k ≡ Some x → p x ≡ false) → list_any p xs ≡ false
any_none p [] none = refl
any_none p (x ∷ xs) none = either (p x) (list_any p xs) (none 0 x refl) (any_none p xs (λ k y e. none (suc k) y e))
  where
    either : (b c : Bool) → b ≡ false → c ≡ false → (b || c) ≡ false
    either true c e f = e
    either false c e f = f

pub all_pass : {X : Type 0} (p : X → Bool) (xs : List X) → ((k : ℕ) (x : X) → slice_get xs k ≡ Some x → p x ≡ true) → list_all p xs ≡ true
all_pass p [] all = refl
all_pass p (x ∷ xs) all = both_true (p x) (list_all p xs) (all 0 x refl) (all_pass p xs (λ k y e. all (suc k) y e))

-- numbers that are all below a count
abbrev pub are_below : ℕ → List ℕ → Bool
are_below count numbers = list_all (λ number. nat_lt number count) numbers

pub below_pass : (count : ℕ) (numbers : List ℕ) → AreBelow count numbers → are_below count numbers ≡ true
below_pass count numbers below =
    all_pass (λ number. nat_lt number count) numbers
    (λ k x e. lt_true x count (All-contains (λ (m : ℕ). m < count) numbers x below (get_Contains numbers k x e)))

pub joined_below : (count : ℕ) (xs ys : List ℕ) → are_below count xs ≡ true → are_below count ys ≡ true → are_below count (xs ++ ys) ≡ true
joined_below count xs ys left right =
    list_all-append (λ number. nat_lt number count) xs ys ∙ both_true (are_below count xs) (are_below count ys) left right

-- a label is over propositions below a count
abbrev pub is_over : ℕ → LabelTree → Bool
is_over count tree = are_below count (propositions tree)

literal_over : (count index p : ℕ) → p < count → is_over count (literal index p) ≡ true
literal_over count index p below = go ((index / 2 ^ p) % 2 == 1)
  where
    one : nat_lt p count ≡ true
    one = lt_true p count below

    go : (b : Bool) → is_over count (if b then label.proposition p else label.negation (label.proposition p)) ≡ true
    go true = both_true (nat_lt p count) true one refl
    go false = both_true (nat_lt p count) true one refl

valuation_over : (count index n : ℕ) → n ≤ count → is_over count (valuation_label index n) ≡ true
valuation_over count index zero few = refl
valuation_over count index (suc zero) few = literal_over count index 0 (omega (arith, few))
valuation_over count index (suc (suc n)) few =
    joined_below count (propositions (valuation_label index (suc n))) (propositions (literal index (suc n))) (valuation_over count index (suc n) (omega (arith, few)))
    (literal_over count index (suc n) (omega (arith, few)))

any_over : (count : ℕ) (labels : List LabelTree) (any : LabelTree) → IsAnyOf labels any → ((k : ℕ) (l : LabelTree) → slice_get labels k ≡ Some l → is_over count l ≡ true)
    → is_over count any ≡ true
any_over count labels any (alone l) all = all 0 l refl
any_over count labels any (halves left right x y even first second) all =
    joined_below count (propositions x) (propositions y)
    (any_over count left x first (λ k l e. all k l (get_left left right k (slice_get_within left k l e) ∙ e)))
    (any_over count right y second
    (λ k l e.
    let back : (length left + k) - length left ≡ k = omega arith in
    all (length left + k) l (get_right left right (length left + k) (omega arith) ∙ ap (slice_get right) back ∙ e)))

rest_over : (count : ℕ) (labels : List LabelTree) (rest : LabelTree) → IsRestLabel labels rest → ((k : ℕ) (l : LabelTree) → slice_get labels k ≡ Some l → is_over count l ≡ true)
    → is_over count rest ≡ true
rest_over count [] rest is all = ap (is_over count) is
rest_over count (l ∷ labels) rest is all = ap (is_over count) is.2 ∙ any_over count (l ∷ labels) is.0 is.1 all

-- an edge as it is written: a label over the propositions, one target, and marks below the count of sets
pub record IsPart (count states sets : ℕ) (edge : RawEdge) : Type 0 where
  pub tree : LabelTree
  pub label : edge.label ≡ Some (label_written tree)
  pub over : is_over count tree ≡ true
  pub target : ℕ
  pub targets : edge.targets ≡ target ∷ []
  pub within : target < states
  pub unmarked : passes (list_any (nat_le sets)) edge.marks ≡ false

-- a state as it is written
pub record IsWhole (count states sets : ℕ) (state : RawState) : Type 0 where
  pub label : state.label ≡ None
  pub marks : state.marks ≡ None
  pub within : state.number < states
  pub edges : (k : ℕ) (edge : RawEdge) → slice_get state.edges k ≡ Some edge → IsPart count states sets edge

module _ (a : Description) (is_a : IsAutomaton a) (deterministic : IsDeterministic a) where
  label_over : (n index : ℕ) (edge : Edge) → slice_get (state_at a n).edges index ≡ Some edge → is_over (length a.propositions) (label_at (length a.propositions) (state_at a n) index edge) ≡ true
  label_over n index edge at = go (state_at a n).label edge.label both.0.label both.1.label
    where
      both : IsState a (state_at a n) × IsEdge a edge
      both = edge_of a is_a n index edge at

      go : (x y : Option LabelTree) → IfSome x (IsLabel a) → IfSome y (IsLabel a)
          → is_over (length a.propositions) (unwrap_or (option_or x y) (valuation_label index (length a.propositions))) ≡ true
      go (Some l) y one other = below_pass (length a.propositions) (propositions l) one.below
      go None (Some l) one other = below_pass (length a.propositions) (propositions l) other.below
      go None None one other = valuation_over (length a.propositions) index (length a.propositions) (omega arith)

  labels_over : (n k : ℕ) (l : LabelTree) → slice_get (labels_at a n) k ≡ Some l → is_over (length a.propositions) l ≡ true
  labels_over n k l e =
      let at = each_at (label_at (length a.propositions) (state_at a n)) (state_at a n).edges k l e in
      ap (is_over (length a.propositions)) at.1.1 ∙ label_over n k at.0 at.1.0

  turned_part : (n index : ℕ) (edge : Edge) (states sets : ℕ) → slice_get (state_at a n).edges index ≡ Some edge → a.states ≤ states → a.sets ≤ sets
      → IsPart (length a.propositions) states sets (turned_edge (length a.propositions) (state_at a n) index edge)
  turned_part n index edge states sets at many wide =
      let target = target_of a is_a deterministic n index edge at in
      record {
        tree = label_at (length a.propositions) (state_at a n) index edge;
        label = refl;
        over = label_over n index edge at;
        target = target.0;
        targets = target.1;
        within = omega (arith, many, All-contains (λ (m : ℕ). m < a.states) (target.0 ∷ []) target.0 (subst (AreBelow a.states) target.1 both.1.targets.below) (0, omega arith, refl));
        unmarked = any_none (nat_le sets) ((state_at a n).marks ++ edge.marks)
            (λ k mark e. le_false sets mark (omega (arith, wide, marked mark (Contains-append_cases (state_at a n).marks edge.marks mark (get_Contains ((state_at a n).marks ++ edge.marks) k mark e)))));
      }
    where
      both : IsState a (state_at a n) × IsEdge a edge
      both = edge_of a is_a n index edge at

      marked : (mark : ℕ) → Contains (state_at a n).marks mark ⊎ Contains edge.marks mark → mark < a.sets
      marked mark (inl there) = All-contains (λ (m : ℕ). m < a.sets) (state_at a n).marks mark both.0.marks.below there
      marked mark (inr there) = All-contains (λ (m : ℕ). m < a.sets) edge.marks mark both.1.marks.below there

  turned_whole : (n : ℕ) (r : RawState) (states sets : ℕ) → n < a.states → a.states ≤ states → a.sets ≤ sets → ((w : RawLabelTree) → IsMissing (labels_at a n) (Some w) → a.states < states)
      → IsTurned (length a.propositions) a.states (state_at a n) r → IsWhole (length a.propositions) states sets r
  turned_whole n r states sets below many wide limits turned = record {
    label = turned.label;
    marks = turned.marks;
    within = omega (arith, below, many, turned.number, state_number a.defined n);
    edges = λ k edge e. go k edge (cases_lt k (length front)) (sym (ap (λ (es : List RawEdge). slice_get es k) turned.edges) ∙ e);
  }
    where
      front : List RawEdge
      front = turned_edges (length a.propositions) (state_at a n)

      further : (o : Option RawLabelTree) (k : ℕ) (edge : RawEdge) → IsMissing (labels_at a n) o → slice_get (further_edges a.states o) k ≡ Some edge
          → ((w : RawLabelTree) → o ≡ Some w → a.states < states) → IsPart (length a.propositions) states sets edge
      further None k edge missing e less = absurd (never_some edge e)
      further (Some w) (suc k) edge missing e less = absurd (never_some edge e)
      further (Some w) zero edge missing e less =
          subst (IsPart (length a.propositions) states sets) (same_some (record { label = Some w; targets = a.states ∷ []; marks = None }) edge e)
          (record {
            tree = missing.1.0;
            label = ap Some missing.1.2;
            over = rest_over (length a.propositions) (labels_at a n) missing.1.0 missing.1.1 (labels_over n);
            target = a.states;
            targets = refl;
            within = less w refl;
            unmarked = refl;
          })

      less_for : (o : Option RawLabelTree) → IsMissing (labels_at a n) o → (w : RawLabelTree) → o ≡ Some w → a.states < states
      less_for None missing w e = absurd (never_some w e)
      less_for (Some v) missing w e = limits v missing

      go : (k : ℕ) (edge : RawEdge) → (k < length front) ⊎ (length front ≤ k) → slice_get (front ++ further_edges a.states turned.missing) k ≡ Some edge
          → IsPart (length a.propositions) states sets edge
      go k edge (inl before) e =
          let own = each_at (turned_edge (length a.propositions) (state_at a n)) (state_at a n).edges k edge (sym (get_left front (further_edges a.states turned.missing) k before) ∙ e) in
          subst (IsPart (length a.propositions) states sets) (sym own.1.1) (turned_part n k own.0 states sets own.1.0 many wide)
      go k edge (inr past) e =
          further turned.missing (k - length front) edge turned.is_missing (sym (get_right front (further_edges a.states turned.missing) k past) ∙ e)
          (less_for turned.missing turned.is_missing)

  module _ (raw : RawAutomaton) (written : IsWrittenComplement a raw) where
    pub states_whole : (b : Bool) → written.sink ≡ b → (k : ℕ) (r : RawState) → slice_get raw.states k ≡ Some r
        → IsWhole (length a.propositions) (a.states + one_if b) (a.sets + one_if b) r
    states_whole b is k r e = go (cases_lt k (length written.turned)) (sym (ap (λ (rs : List RawState). slice_get rs k) written.body) ∙ e)
      where
        more : (c : Bool) → written.sink ≡ c → (n : ℕ) → n < a.states → (w : RawLabelTree) → IsMissing (labels_at a n) (Some w) → a.states < a.states + one_if c
        more true same n below w missing = omega arith
        more false same n below w missing = absurd (true≢false (sym (written.needed.1 (inr (n, below, missing.0))) ∙ same))

        following : (c : Bool) (j : ℕ) → slice_get (sinks a c) j ≡ Some r → IsWhole (length a.propositions) (a.states + one_if c) (a.sets + one_if c) r
        following false j at = absurd (never_some r at)
        following true (suc j) at = absurd (never_some r at)
        following true zero at =
            subst (IsWhole (length a.propositions) (a.states + 1) (a.sets + 1)) (same_some (sink_state a) r at)
            (record {
              label = refl;
              marks = refl;
              within = omega arith;
              edges = λ j edge f. sink_part j edge f;
            })
          where
            sink_edge : RawEdge
            sink_edge = record { label = Some (label_written (label.constant true)); targets = a.states ∷ []; marks = Some (a.sets ∷ []) }

            sink_part : (j : ℕ) (edge : RawEdge) → slice_get (sink_state a).edges j ≡ Some edge → IsPart (length a.propositions) (a.states + 1) (a.sets + 1) edge
            sink_part zero edge f =
                subst (IsPart (length a.propositions) (a.states + 1) (a.sets + 1)) (same_some (record { label = Some (label_written (label.constant true)); targets = a.states ∷ []; marks = Some (a.sets ∷ []) }) edge f)
                (record {
                  tree = label.constant true;
                  label = refl;
                  over = refl;
                  target = a.states;
                  targets = refl;
                  within = omega arith;
                  unmarked = ap (λ v. v || false) (le_false (a.sets + 1) a.sets (omega arith));
                })
            sink_part (suc j) edge f = absurd (never_some edge f)

        go : (k < length written.turned) ⊎ (length written.turned ≤ k) → slice_get (written.turned ++ sinks a written.sink) k ≡ Some r
            → IsWhole (length a.propositions) (a.states + one_if b) (a.sets + one_if b) r
        go (inl before) at =
            let found = zip_right (λ number. IsTurned (length a.propositions) a.states (state_at a number)) (range_with_len 0 a.states) written.turned k r written.states
            (sym (get_left written.turned (sinks a written.sink) k before) ∙ at) in
            let place = range_at 0 a.states k found.0 found.1.0 in
            let below : found.0 < a.states = omega (arith, place.0, place.1) in
            turned_whole found.0 r (a.states + one_if b) (a.sets + one_if b) below (omega arith) (omega arith) (more b is found.0 below) found.1.1
        go (inr past) at =
            subst (λ c. IsWhole (length a.propositions) (a.states + one_if c) (a.sets + one_if c) r) is
            (following written.sink (k - length written.turned) (sym (get_right written.turned (sinks a written.sink) k past) ∙ at))
