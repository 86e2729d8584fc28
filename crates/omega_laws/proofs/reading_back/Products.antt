-- A product as it is written has the form of what is read: so its canonical text is read back.
use Rattle.std.proofs.Common.{◌≡◌, ℕ, zero, suc, ◌+◌, ◌<◌, ◌≤◌, inl, inr, List, [], length, map, codes, Option, Some, None, refl, sym, ap, subst, ◌∙◌, arith}
use Rattle.std.specs.Prelude.{IfSome}
use Rattle.std.specs.List.{AllByRecursion}
use Rattle.std.proofs.lemmas.List.Sums.{AllPass-from_list_all}
use Rattle.omega_text.specs.Bytes.{is_word_byte}
use Rattle.omega_text.specs.Forms.{IsWord}
use Rattle.omega_text.specs.Limits.{most_number, most_text}
use Rattle.omega_text.specs.hoa.Forms.{IsQuotable}
use Rattle.omega_hoa_acceptance.specs.Writing.{acc_written}
use Rattle.omega_acc.specs.WritingLaws.{WrittenFormulasMean, WrittenLabelsMean}
use Rattle.omega_hoa_acceptance.specs.Acceptance.{AccTree}
use Rattle.omega_hoa_acceptance.specs.Raw.{RawAccTree}
use Rattle.omega_hoa_acceptance.specs.declared.name.AccName.{AccName}
use Rattle.omega_hoa_syntax.specs.Grammar.{IsRawItem}
use Rattle.omega_hoa_syntax.specs.declared.raw_automaton.RawAutomaton.{RawAutomaton}
use Rattle.omega_hoa_automaton.specs.Automaton.{Description}
use Rattle.omega_hoa_automaton.specs.Laws.{MeaningsAreAutomata}
use Rattle.omega_canon.specs.Canonical.{canonical_automaton}
use Rattle.omega_hoa.specs.Alone.{IsAutomatonText}
use Rattle.omega_hoa.specs.Laws.{AutomataFillSegments}
use Rattle.omega_lang_product.specs.Acceptance.{IsJointAcceptance, buchi_name}
use Rattle.omega_lang_product.specs.Joining.{joined_names}
use Rattle.omega_lang_product.specs.Limits.{IsWithin}
use Rattle.omega_hoa_edges.specs.Limits.{most_states}
use Rattle.omega_lang_product.specs.Pairs.{Pair, first_leaving, pair_number, same_pair, second_leaving, start_pairs}
use Rattle.omega_lang_product.specs.Product.{joint_plain_edges}
use Rattle.omega_lang_product.specs.Written.{IsWritten, name_items, raw_edge, raw_product, raw_start, raw_state_of}
use Rattle.omega_lang_product.specs.declared.plain_edge.PlainEdge.{PlainEdge}
use Rattle.omega_lang_product.proofs.Formulas.{place_within}
use Rattle.omega_lang_product.proofs.Meaning.{sets_written, states_written}
use Rattle.omega_hoa_round_trips.specs.Laws.{ReadAutomataAreWritable, WasRead}
use Rattle.omega_hoa_round_trips.specs.Writable.{IsWritableName, IsWritableNumber, IsWritableParameter, IsWritableState}
use Rattle.omega_hoa_round_trips.proofs.meanings.Meant.{Meanings}
use Rattle.omega_hoa_round_trips.proofs.meanings.ReadBack.{meant-read}
use Rattle.omega_hoa_round_trips.proofs.texts.Spelled.{Known}
use Rattle.omega_hoa_round_trips.proofs.values.Rows.{IsReadAutomaton, IsReadEdge, IsReadItem, IsReadState}
use Rattle.omega_laws.proofs.reading_back.Quotable.{all_both, all_filtered, all_made, name_quotable}

-- an acceptance name of a word that is neither `t` nor `f`, and of numbers that a text can have, can be written
word_writable : (name : AccName) → IsWord name.name → (name.name ≡ codes "t" → ⊥) → (name.name ≡ codes "f" → ⊥) → AllByRecursion IsWritableParameter name.parameters
    → IsWritableName name
word_writable name word t f parameters = record { name_is = (word, t, f); parameters = parameters }

longer : (word letter : List ℕ) → length letter < length word → word ≡ letter → ⊥
longer word letter less e = let same : length word ≡ length letter = ap length e in omega (arith, less, same)

-- the names of acceptances in which each set has to recur are identifiers
writable_name : (sets : ℕ) → sets ≤ most_number → IsWritableName (buchi_name sets)
writable_name zero small =
    word_writable (buchi_name 0) (omega arith, refl, AllPass-from_list_all is_word_byte (codes "all") refl) (longer _ _ (omega arith)) (longer _ _ (omega arith)) tt
writable_name (suc zero) small =
    word_writable (buchi_name 1) (omega arith, refl, AllPass-from_list_all is_word_byte (codes "Buchi") refl) (longer _ _ (omega arith)) (longer _ _ (omega arith)) tt
writable_name (suc (suc more)) small =
    word_writable (buchi_name (suc (suc more))) (omega arith, refl, AllPass-from_list_all is_word_byte (codes "generalized-Buchi") refl)
    (longer _ _ (omega arith)) (longer _ _ (omega arith)) (small, tt)

module _ (mean : WrittenLabelsMean) (formulas : WrittenFormulasMean) (one other : Description) (own : AllByRecursion IsWritableState one.defined)
    (its : AllByRecursion IsWritableState other.defined) (pairs : List Pair) (few : length pairs ≤ most_states) where
  number_small : (pair : Pair) → IsWritableNumber (pair_number pairs pair)
  number_small pair = let within = place_within (same_pair pair) pairs in omega (arith, within, few)

  -- states of the product
  edges_read : (ts : List PlainEdge) → AllByRecursion IsReadEdge (map raw_edge ts)
  edges_read ts = all_made IsReadEdge raw_edge ts (λ t. record { label = (mean [] t.label).is })

  state_read : (pair : Pair) → IsReadState (raw_state_of one other pairs pair)
  state_read pair = record {
    label = tt;
    name = name_quotable one other own its pair;
    edges = edges_read (joint_plain_edges pairs (first_leaving one other pair) (second_leaving one other pair));
  }

  -- the header
  start_read : (pair : Pair) → IsReadItem (raw_start pairs pair)
  start_read pair = (number_small pair, tt)

  start_raw : (pair : Pair) → IsRawItem (raw_start pairs pair)
  start_raw pair = omega arith

  name_read : (name : Option AccName) → IfSome name IsWritableName → AllByRecursion IsReadItem (name_items name)
  name_read None is = tt
  name_read (Some n) is = (is, tt)

  name_raw : (name : Option AccName) → AllByRecursion IsRawItem (name_items name)
  name_raw None = tt
  name_raw (Some n) = (tt, tt)

  -- the product
  product_read : (name : Option AccName) (tree : AccTree) → IfSome name IsWritableName → one.sets + other.sets ≤ most_number
      → AllByRecursion IsQuotable (joined_names one.propositions other.propositions) → IsReadAutomaton (raw_product one other pairs name (acc_written tree))
  product_read name tree named small quotable = record {
    items = (
      omega arith,
      (
        quotable,
        (
          (small, (formulas tree).is),
          all_both IsReadItem (name_items name) (map (raw_start pairs) (start_pairs one other)) (name_read name named)
              (all_made IsReadItem (raw_start pairs) (start_pairs one other) start_read),
        ),
      ),
    );
    states = all_made IsReadState (raw_state_of one other pairs) pairs state_read;
  }

  items_raw : (name : Option AccName) (tree : AccTree) → AllByRecursion IsRawItem (raw_product one other pairs name (acc_written tree)).items
  items_raw name tree = (
    tt,
    (
      tt,
      (
        tt,
        all_both IsRawItem (name_items name) (map (raw_start pairs) (start_pairs one other)) (name_raw name)
            (all_made IsRawItem (raw_start pairs) (start_pairs one other) start_raw),
      ),
    ),
  )

-- the name of the acceptance of both
pub joint_named : (one other : Description) (name : Option AccName) (tree : AccTree) → IsJointAcceptance one other name tree → IfSome name IsWritableName
joint_named one other name tree (inl buchi) =
    subst (λ (n : Option AccName). IfSome n IsWritableName) (sym buchi.name_is)
    (writable_name (one.sets + other.sets) (omega (arith, buchi.both.few)))
joint_named one other name tree (inr conjoined) = subst (λ (n : Option AccName). IfSome n IsWritableName) (sym conjoined.name_is) tt

pub product-read : Known → Meanings → MeaningsAreAutomata → AutomataFillSegments → ReadAutomataAreWritable → (one other a : Description) → WasRead one → WasRead other
    → IsWritten one other a → IsWithin a → length (canonical_automaton a) ≤ most_text → IsAutomatonText (canonical_automaton a) a
product-read known meanings automata fill writable one other a was was' is within short =
    let product = is.product in
    let few : length product.pairs ≤ most_states = omega (arith, states_written is.written a one other product is.means, within.states) in
    let small : one.sets + other.sets ≤ most_number = omega (arith, sets_written is.written a one other product is.means, within.sets) in
    let quotable : AllByRecursion IsQuotable (joined_names one.propositions other.propositions) =
    all_both IsQuotable one.propositions _ (writable one was).propositions (all_filtered IsQuotable _ other.propositions (writable other was').propositions) in
    let P : RawAutomaton → Type 0 = IsReadAutomaton in
    let Q : RawAutomaton → Type 0 = λ raw. AllByRecursion IsRawItem raw.items in
    let raw_is : is.written ≡ raw_product one other product.pairs product.name (acc_written product.accepted.tree) =
    product.is ∙ ap (λ (f : RawAccTree). raw_product one other product.pairs product.name f) product.accepted.written in
    let read : IsReadAutomaton is.written =
    subst P (sym raw_is) (product_read known.label_means known.formula_means one other (writable one was).defined (writable other was').defined product.pairs few product.name product.accepted.tree
    (joint_named one other product.name product.accepted.tree product.accepted.joint) small quotable) in
    let raw : AllByRecursion IsRawItem is.written.items =
    subst Q (sym raw_is) (items_raw known.label_means known.formula_means one other (writable one was).defined (writable other was').defined product.pairs few product.name product.accepted.tree) in
    meant-read known meanings automata fill is.written a read raw is.means short
