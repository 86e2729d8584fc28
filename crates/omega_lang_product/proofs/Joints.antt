-- Joint edges that are appended one after the other.
use Rattle.std.proofs.Common.{◌≡◌, ℕ, zero, suc, ◌+◌, ◌<◌, ◌≤◌, Bool, true, false, List, [], ◌∷◌, ◌++◌, length, map, filter, take, get_or, Contains, refl, sym, ap, subst, ◌∙◌, arith, append_assoc}
use Rattle.std.specs.List.{flat_map}
use Rattle.std.proofs.lemmas.List.{map-append, take_all}
use Rattle.omega_lang_product.specs.JointEdges.{AreJoints, Joint, Numbered, joint_of, marks_of_both, numbered_from}
use Rattle.omega_lang_product.specs.declared.joint_edges.JointEdges.{JointEdges}
use Rattle.omega_lang_product.specs.declared.plain_edge.PlainEdge.{PlainEdge}
use Rattle.omega_graph.specs.Graph.{edge_of}
use Rattle.omega_graph.specs.declared.edge.Edge.{Edge}
use Rattle.std.specs.Prelude.{Result, Ok, Err, OnOk}
use Rattle.indexmap.specs.IndexSet.{insert_all}
use Rattle.omega_lang_product.specs.Pairs.{Pair, pair_number, same_pair}
use Rattle.omega_lang_product.specs.private.Adding.{Adds, AddsAmong}
use Rattle.omega_lang_product.proofs.Reaching.{Extended, extended_number, extends_by}
use Rattle.omega_lang_product.proofs.Steps.{append_nil, filter_dropped, filter_kept, flat_one}

-- edges of a row are as many as their plain edges, and in their order
pub numbered_length : (first : ℕ) (ts : List PlainEdge) → length (numbered_from first ts) ≡ length ts
numbered_length first [] = refl
numbered_length first (t ∷ ts) = ap suc (numbered_length (first + 1) ts)

pub numbered_here : (first : ℕ) (ts : List PlainEdge) (i : ℕ) (t : PlainEdge) (d : Numbered) → i < length ts
    → record { number = first + i; plain_edge = get_or ts i t } ≡ get_or (numbered_from first ts) i d
numbered_here first [] i t d below = absurd (omega (arith, below))
numbered_here first (x ∷ ts) zero t d below =
    let e : first + 0 ≡ first = omega arith in
    ap {B = Numbered} (λ (n : ℕ). record { number = n; plain_edge = x }) e
numbered_here first (x ∷ ts) (suc i) t d below =
    let e : first + suc i ≡ (first + 1) + i = omega arith in
    ap {B = Numbered} (λ (n : ℕ). record { number = n; plain_edge = get_or ts i t }) e ∙ numbered_here (first + 1) ts i t d (omega (arith, below))

pub numbered_below : (first : ℕ) (ts : List PlainEdge) (i : ℕ) → i < length ts → i < length (numbered_from first ts)
numbered_below first ts i below = omega (arith, below, numbered_length first ts)

pub numbered_all : (first : ℕ) (ts : List PlainEdge) (at : ℕ) → length ts ≤ at → take at (numbered_from first ts) ≡ numbered_from first ts
numbered_all first ts at past = take_all at (numbered_from first ts) (omega (arith, past, numbered_length first ts))

-- nothing is appended
pub adds_nothing : (edges : JointEdges) → Adds [] edges edges
adds_nothing edges earlier are = subst (λ (js : List Joint). AreJoints js edges) (sym (append_nil earlier)) are

-- some are appended, and then others
pub adds_both : (joints more : List Joint) (a b c : JointEdges) → Adds joints a b → Adds more b c → Adds (joints ++ more) a c
adds_both joints more a b c first second earlier are =
    subst (λ (js : List Joint). AreJoints js c) (append_assoc earlier joints more) (second (earlier ++ joints) (first earlier are))

-- the edges of a row are gone through, one more
module _ (xs : List Numbered) (i : ℕ) (x : Numbered) (below : i < length xs) (here : x ≡ get_or xs i x) (a b : JointEdges) where
  pub adds_kept : (p : Numbered → Bool) (f : Numbered → Joint) → p x ≡ true → (c : JointEdges) → Adds (map f (filter p (take i xs))) a b → Adds (f x ∷ []) b c
      → Adds (map f (filter p (take (i + 1) xs))) a c
  adds_kept p f passes c so_far one =
      let more : map f (filter p (take (i + 1) xs)) ≡ map f (filter p (take i xs)) ++ f x ∷ [] =
      ap (map f) (filter_kept xs i x below here p passes) ∙ map-append f (filter p (take i xs)) (x ∷ []) in
      subst (λ (js : List Joint). Adds js a c) (sym more) (adds_both (map f (filter p (take i xs))) (f x ∷ []) a b c so_far one)

  pub adds_dropped : (p : Numbered → Bool) (f : Numbered → Joint) → p x ≡ false → Adds (map f (filter p (take i xs))) a b
      → Adds (map f (filter p (take (i + 1) xs))) a b
  adds_dropped p f fails so_far = subst (λ (js : List Joint). Adds js a b) (sym (ap (map f) (filter_dropped xs i x below here p fails))) so_far

  pub adds_flat : (f : Numbered → List Joint) (c : JointEdges) → Adds (flat_map f (take i xs)) a b → Adds (f x) b c → Adds (flat_map f (take (i + 1) xs)) a c
  adds_flat f c so_far more =
      subst (λ (js : List Joint). Adds js a c) (sym (flat_one xs i x below here f)) (adds_both (flat_map f (take i xs)) (f x) a b c so_far more)

-- one is pushed in each column
pub adds_one : (joint : Joint) (a b : JointEdges) → b.ends.items ≡ a.ends.items ++ edge_of joint.from joint.to ∷ [] → b.marks.items ≡ a.marks.items ++ marks_of_both joint ∷ []
    → b.firsts.items ≡ a.firsts.items ++ joint.first.number ∷ [] → b.seconds.items ≡ a.seconds.items ++ joint.second.number ∷ [] → Adds (joint ∷ []) a b
adds_one joint a b ends marks firsts seconds earlier are = record {
  ends = ends ∙ ap (λ (s : List Edge). s ++ edge_of joint.from joint.to ∷ []) are.ends ∙ sym (map-append (λ (j : Joint). edge_of j.from j.to) earlier (joint ∷ []));
  marks = marks ∙ ap (λ (s : List (List ℕ)). s ++ marks_of_both joint ∷ []) are.marks ∙ sym (map-append marks_of_both earlier (joint ∷ []));
  firsts = firsts ∙ ap (λ (s : List ℕ). s ++ joint.first.number ∷ []) are.firsts ∙ sym (map-append (λ (j : Joint). j.first.number) earlier (joint ∷ []));
  seconds = seconds ∙ ap (λ (s : List ℕ). s ++ joint.second.number ∷ []) are.seconds ∙ sym (map-append (λ (j : Joint). j.second.number) earlier (joint ∷ []));
}

-- what is appended whatever pairs are found later, is so when some are found
pub among_later : (ps qs : List Pair) (joints : List Pair → List Joint) (a b : JointEdges) → Extended ps qs → AddsAmong ps joints a b → AddsAmong qs joints a b
among_later ps qs joints a b more so_far later =
    let same : ps ++ (more.extra ++ later) ≡ qs ++ later = sym (append_assoc ps more.extra later) ∙ ap (λ (s : List Pair). s ++ later) (sym more.is) in
    subst (λ (all : List Pair). Adds (joints all) a b) same (so_far (more.extra ++ later))

module _ (xs : List Numbered) (i : ℕ) (x : Numbered) (below : i < length xs) (here : x ≡ get_or xs i x) (ps : List Pair) (a b : JointEdges) where
  pub among_kept : (p : Numbered → Bool) (f : List Pair → Numbered → Joint) → p x ≡ true → (qs : List Pair) (c : JointEdges) → Extended ps qs
      → AddsAmong ps (λ all. map (f all) (filter p (take i xs))) a b → AddsAmong qs (λ all. f all x ∷ []) b c
      → AddsAmong qs (λ all. map (f all) (filter p (take (i + 1) xs))) a c
  among_kept p f passes qs c more so_far one later =
      adds_kept xs i x below here a b p (f (qs ++ later)) passes c (among_later ps qs (λ all. map (f all) (filter p (take i xs))) a b more so_far later) (one later)

  pub among_dropped : (p : Numbered → Bool) (f : List Pair → Numbered → Joint) → p x ≡ false → AddsAmong ps (λ all. map (f all) (filter p (take i xs))) a b
      → AddsAmong ps (λ all. map (f all) (filter p (take (i + 1) xs))) a b
  among_dropped p f fails so_far later = adds_dropped xs i x below here a b p (f (ps ++ later)) fails (so_far later)

  pub among_flat : (f : List Pair → Numbered → List Joint) (qs : List Pair) (c : JointEdges) → Extended ps qs
      → AddsAmong ps (λ all. flat_map (f all) (take i xs)) a b → AddsAmong qs (λ all. f all x) b c → AddsAmong qs (λ all. flat_map (f all) (take (i + 1) xs)) a c
  among_flat f qs c more so_far one later =
      adds_flat xs i x below here a b (f (qs ++ later)) c (among_later ps qs (λ all. flat_map (f all) (take i xs)) a b more so_far later) (one later)

-- the edges that leave a pair which was found have its number, whatever pairs are found later
pub found_edges : (ks more xs : List Pair) (pair : Pair) → Contains ks pair → (from : ℕ) → from ≡ pair_number ks pair → {T E : Type 0} (result : Result T E) → OnOk result (more ≡ insert_all same_pair ks xs)
    → (with_number : List Pair → ℕ → List Joint) (joints : List Pair → List Joint) → ((all : List Pair) → with_number all (pair_number all pair) ≡ joints all)
    → (a b : JointEdges) → OnOk result (AddsAmong more (λ all. with_number all from) a b) → OnOk result (AddsAmong more joints a b)
found_edges ks more xs pair listed from is (Err e) pairs with_number joints same a b edges = tt
found_edges ks more xs pair listed from is (Ok x) pairs with_number joints same a b edges = λ later.
    (let number : from ≡ pair_number (more ++ later) pair = is ∙ sym (extended_number ks more later pair (extends_by ks more xs pairs) listed) in
    subst (λ (js : List Joint). Adds js a b) (ap (with_number (more ++ later)) number ∙ same (more ++ later)) (edges later))

-- a joint edge is pushed, whose target has its number whatever pairs are found later
pub joint_pushed : (more : List Pair) (from to : ℕ) (first second : Numbered) (marks : List ℕ) → ((later : List Pair) → to ≡ pair_number (more ++ later) (first.plain_edge.target, second.plain_edge.target))
    → marks ≡ first.plain_edge.marks ++ second.plain_edge.marks → (a b : JointEdges) {T E : Type 0} (result : Result T E)
    → OnOk result (b.ends.items ≡ a.ends.items ++ edge_of from to ∷ []) → OnOk result (b.marks.items ≡ a.marks.items ++ marks ∷ [])
    → OnOk result (b.firsts.items ≡ a.firsts.items ++ first.number ∷ []) → OnOk result (b.seconds.items ≡ a.seconds.items ++ second.number ∷ [])
    → OnOk result (AddsAmong more (λ all. joint_of all from first second ∷ []) a b)
joint_pushed more from to first second marks number same a b (Err e) ends its_marks firsts seconds = tt
joint_pushed more from to first second marks number same a b (Ok x) ends its_marks firsts seconds = λ later.
    adds_one (joint_of (more ++ later) from first second) a b (ends ∙ ap (λ n. a.ends.items ++ edge_of from n ∷ []) (number later))
    (its_marks ∙ ap (λ (ms : List ℕ). a.marks.items ++ ms ∷ []) same) firsts seconds
