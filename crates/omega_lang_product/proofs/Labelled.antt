-- Joint edges and their labels.
use Rattle.std.proofs.Common.{◌≡◌, ℕ, zero, suc, ◌+◌, ◌-◌, ◌<◌, ◌≤◌, inl, inr, Bool, true, false, cond, List, [], ◌∷◌, ◌++◌, length, map, take, get_or, Contains, refl, sym, ap, ap₂, subst, ◌∙◌, arith}
use Rattle.std.specs.Prelude.{sum_by}
use Rattle.std.specs.List.{flat_map}
use Rattle.std.proofs.lemmas.List.{get_or-map, map-append, map_more, take_all}
use Rattle.std.proofs.lemmas.List.Concat.{get_or-flat_map}
use Rattle.std.proofs.lemmas.List.Elements.{Contains-append_cases}
use Rattle.std.proofs.lemmas.List.Folds.{length-flat_map-take}
use Rattle.std.proofs.lemmas.List.Sums.{sum_by_more}
use Rattle.omega_graph.specs.Graph.{edge_of}
use Rattle.omega_graph.specs.declared.edge.Edge.{Edge}
use Rattle.omega_hoa_syntax.specs.declared.raw_edge.RawEdge.{RawEdge}
use Rattle.omega_hoa_automaton.specs.Automaton.{Description}
use Rattle.omega_lang_product.specs.JointEdges.{AreJoints, Joint, Numbered, joint_of, joints_between, joints_with, marks_of_both, numbered_from, numbered_partners}
use Rattle.omega_lang_product.specs.PairGraph.{first_numbered, joints_at, joints_of, second_numbered}
use Rattle.omega_hoa_automaton.specs.Automaton.{edges_before}
use Rattle.omega_lang_product.specs.Pairs.{Pair, can_meet, first_leaving, pair_number, partners, second_leaving, targets_of}
use Rattle.omega_lang_product.specs.Product.{joint_edges_of, joint_plain_edges, taken_together}
use Rattle.omega_lang_product.specs.Refusing.{AreReachable, HasDeepMeeting}
use Rattle.omega_lang_product.specs.declared.joint_edges.JointEdges.{JointEdges}
use Rattle.omega_lang_product.specs.declared.row.Row.{Row}
use Rattle.omega_lang_product.specs.Written.{raw_edge}
use Rattle.omega_lang_product.specs.declared.plain_edge.PlainEdge.{PlainEdge}
use Rattle.omega_lang_product.specs.private.Explored.{past_before}
use Rattle.omega_lang_product.specs.private.Labelling.{AreJointsFrom, HasDeepLabel, HasEdge, IsJointAt, edge_numbered, labelled, no_edge}
use Rattle.omega_lang_product.proofs.Crossing.{all_edges, pair_edges}
use Rattle.omega_lang_product.proofs.Formulas.{same_default}
use Rattle.omega_lang_product.proofs.Membership.{Contains-cases, Contains-nothing}

-- joint edges with their labels are the edges of the product
labelled_with : (pairs : List Pair) (from m n : ℕ) (t : PlainEdge) (us : List PlainEdge)
    → map (taken_together pairs t) (partners t us) ≡ map labelled (joints_with pairs from (record { number = m; plain_edge = t }) (numbered_from n us))
labelled_with pairs from m n t [] = refl
labelled_with pairs from m n t (u ∷ us) = go (can_meet t u) (labelled_with pairs from m (n + 1) t us)
  where
    first : Numbered
    first = record { number = m; plain_edge = t }

    x : Numbered
    x = record { number = n; plain_edge = u }

    others : List Numbered
    others = numbered_partners first (numbered_from (n + 1) us)

    go : (b : Bool) → map (taken_together pairs t) (partners t us) ≡ map labelled (map (joint_of pairs from first) others)
        → map (taken_together pairs t) (cond b (u ∷ partners t us) (partners t us)) ≡ map labelled (map (joint_of pairs from first) (cond b (x ∷ others) others))
    go true e = ap (λ (rest : List PlainEdge). taken_together pairs t u ∷ rest) e
    go false e = e

labelled_all : (pairs : List Pair) (from m n : ℕ) (ts us : List PlainEdge)
    → joint_plain_edges pairs ts us ≡ map labelled (joints_between pairs from (numbered_from m ts) (numbered_from n us))
labelled_all pairs from m n [] us = refl
labelled_all pairs from m n (t ∷ ts) us =
    let first : Numbered = record { number = m; plain_edge = t } in
    ap₂ ◌++◌ (labelled_with pairs from m n t us) (labelled_all pairs from (m + 1) n ts us)
    ∙ sym (map-append labelled (joints_with pairs from first (numbered_from n us)) (joints_between pairs from (numbered_from (m + 1) ts) (numbered_from n us)))

-- a joint edge takes an edge of each row, and the two can be taken together
pub record IsMade (firsts seconds : List Numbered) (joint : Joint) : Type 0 where
  pub first : Contains firsts joint.first
  pub second : Contains seconds joint.second
  pub meet : can_meet joint.first.plain_edge joint.second.plain_edge ≡ true

later_first : (f : Numbered) (firsts seconds : List Numbered) (joint : Joint) → IsMade firsts seconds joint → IsMade (f ∷ firsts) seconds joint
later_first f firsts seconds joint made = record { first = there f joint.first firsts made.first; second = made.second; meet = made.meet }
  where
    there : (x y : Numbered) (xs : List Numbered) → Contains xs y → Contains (x ∷ xs) y
    there x y xs contained = (suc contained.0, omega (arith, contained.1), contained.2)

made_with : (pairs : List Pair) (from : ℕ) (f : Numbered) (firsts seconds all : List Numbered) (joint : Joint) → ((x : Numbered) → Contains seconds x → Contains all x)
    → Contains (joints_with pairs from f seconds) joint → IsMade (f ∷ firsts) all joint
made_with pairs from f firsts [] all joint within listed = absurd (Contains-nothing joint listed)
made_with pairs from f firsts (s ∷ seconds) all joint within listed =
    go (can_meet f.plain_edge s.plain_edge) refl listed
    (λ later. made_with pairs from f firsts seconds all joint (λ x inside. within x (suc inside.0, omega (arith, inside.1), inside.2)) later)
  where
    here : (x : Numbered) (xs : List Numbered) → Contains (x ∷ xs) x
    here x xs = (0, omega arith, refl)

    others : List Numbered
    others = numbered_partners f seconds

    go : (b : Bool) → can_meet f.plain_edge s.plain_edge ≡ b → Contains (map (joint_of pairs from f) (cond b (s ∷ others) others)) joint
        → (Contains (joints_with pairs from f seconds) joint → IsMade (f ∷ firsts) all joint) → IsMade (f ∷ firsts) all joint
    go true meets inside rest = elim (Contains-cases (joint_of pairs from f s) joint (map (joint_of pairs from f) others) inside) [
      | inl is ↦ subst (IsMade (f ∷ firsts) all) is (record { first = here f firsts; second = within s (here s seconds); meet = meets })
      | inr later ↦ rest later
    ]
    go false meets inside rest = rest inside

made_between : (pairs : List Pair) (from : ℕ) (firsts seconds : List Numbered) (joint : Joint) → Contains (joints_between pairs from firsts seconds) joint → IsMade firsts seconds joint
made_between pairs from [] seconds joint listed = absurd (Contains-nothing joint listed)
made_between pairs from (f ∷ firsts) seconds joint listed =
    elim (Contains-append_cases (joints_with pairs from f seconds) (joints_between pairs from firsts seconds) joint listed) [
      | inl own ↦ made_with pairs from f firsts seconds seconds joint (λ x inside. inside) own
      | inr others ↦ later_first f firsts seconds joint (made_between pairs from firsts seconds joint others)
    ]

-- an edge of a row by its number
record IsInRow (before : ℕ) (ts : List PlainEdge) (x : Numbered) : Type 0 where
  pub place : ℕ
  pub below : place < length ts
  pub number : x.number ≡ before + place
  pub is : x.plain_edge ≡ get_or ts place no_edge

in_row : (before : ℕ) (ts : List PlainEdge) (x : Numbered) → Contains (numbered_from before ts) x → IsInRow before ts x
in_row before [] x listed = absurd (Contains-nothing x listed)
in_row before (t ∷ ts) x listed = elim (Contains-cases (record { number = before; plain_edge = t }) x (numbered_from (before + 1) ts) listed) [
  | inl is ↦ record { place = 0; below = omega arith; number = first_number is; is = first_is is }
  | inr later ↦
      let rest = in_row (before + 1) ts x later in
      record { place = suc rest.place; below = omega (arith, rest.below); number = omega (arith, rest.number); is = rest.is }
]
  where
    first_number : record { number = before; plain_edge = t } ≡ x → x.number ≡ before + 0
    first_number is = let same : before ≡ before + 0 = omega arith in ap {A = Numbered} (λ (y : Numbered). y.number) (sym is) ∙ same

    first_is : record { number = before; plain_edge = t } ≡ x → x.plain_edge ≡ t
    first_is is = ap {A = Numbered} (λ (y : Numbered). y.plain_edge) (sym is)

row_has : (row : Row) (x : Numbered) → Contains (numbered_from row.before row.edges.now) x → HasEdge row x.number
row_has row x listed = let inside = in_row row.before row.edges.now x listed in
    record { after = omega (arith, inside.number); below = omega (arith, inside.number, inside.below) }

row_edge : (row : Row) (x : Numbered) → Contains (numbered_from row.before row.edges.now) x → edge_numbered row x.number ≡ x.plain_edge
row_edge row x listed =
    let inside = in_row row.before row.edges.now x listed in
    let place : x.number - row.before ≡ inside.place = omega (arith, inside.number) in
    ap (λ (i : ℕ). get_or row.edges.now i no_edge) place ∙ sym inside.is

-- how many edges leave the pairs before one
counted_before : (f : Pair → ℕ) (pairs : List Pair) (past : List ℕ) → ((k : ℕ) → k < length pairs → get_or past k 0 ≡ sum_by f (take (k + 1) pairs)) → (at : ℕ) → at ≤ length pairs
    → past_before past at ≡ sum_by f (take at pairs)
counted_before f pairs past each zero within = refl
counted_before f pairs past each (suc at) within =
    let same : at + 1 ≡ suc at = omega arith in
    each at (omega (arith, within)) ∙ ap (λ n. sum_by f (take n pairs)) same

-- the edges that leave the pair with a number
module _ (one other : Description) (pairs : List Pair) (at : ℕ) (below : at < length pairs) (edges : JointEdges) (are : AreJoints (joints_of one other pairs) edges) (firsts seconds : Row) where
  abbrev own : List Joint
  own = joints_at one other pairs (get_or pairs at (0, 0))

  abbrev start : ℕ
  start = sum_by (λ p. length (targets_of one other p)) (take at pairs)

  start_is : length (flat_map (joints_at one other pairs) (take at pairs)) ≡ start
  start_is = all_edges one other pairs (take at pairs)

  placed : (i : ℕ) (joint d : Joint) → i < length own → joint ≡ get_or own i joint → get_or (joints_of one other pairs) (start + i) d ≡ joint
  placed i joint d inside here =
      ap (λ n. get_or (joints_of one other pairs) (n + i) d) (sym start_is)
      ∙ get_or-flat_map (joints_at one other pairs) pairs at i (0, 0) d below inside
      ∙ same_default own i d joint inside ∙ sym here

  column : {Y : Type 0} (f : Joint → Y) (d : Y) (i : ℕ) (joint : Joint) → i < length own → joint ≡ get_or own i joint → start + i < length (joints_of one other pairs)
      → get_or (map f (joints_of one other pairs)) (start + i) d ≡ f joint
  column f d i joint inside here within = get_or-map f (joints_of one other pairs) (start + i) joint d within ∙ ap f (placed i joint joint inside here)

  within : (i : ℕ) → i < length own → start + i < length (joints_of one other pairs)
  within i inside = omega (arith, inside, start_is, length-flat_map-take (joints_at one other pairs) pairs at (0, 0) below)

  made : (joint : Joint) → Contains own joint → IsMade (first_numbered one other (get_or pairs at (0, 0))) (second_numbered one other (get_or pairs at (0, 0))) joint
  made joint listed =
      made_between pairs (pair_number pairs (get_or pairs at (0, 0))) (first_numbered one other (get_or pairs at (0, 0))) (second_numbered one other (get_or pairs at (0, 0))) joint listed

  module _ (first_row : numbered_from firsts.before firsts.edges.now ≡ first_numbered one other (get_or pairs at (0, 0)))
      (second_row : numbered_from seconds.before seconds.edges.now ≡ second_numbered one other (get_or pairs at (0, 0))) where
    is_joint : (i : ℕ) (joint : Joint) → i < length own → joint ≡ get_or own i joint → IsJointAt edges firsts seconds (start + i) joint
    is_joint i joint inside here =
        let is_made = made joint (i, inside, sym here) in
        let first_listed : Contains (numbered_from firsts.before firsts.edges.now) joint.first = subst (λ (xs : List Numbered). Contains xs joint.first) (sym first_row) is_made.first in
        let second_listed : Contains (numbered_from seconds.before seconds.edges.now) joint.second = subst (λ (xs : List Numbered). Contains xs joint.second) (sym second_row) is_made.second in
        let first_is : get_or edges.firsts.items (start + i) 0 ≡ joint.first.number =
        ap (λ (xs : List ℕ). get_or xs (start + i) 0) are.firsts ∙ column (λ (j : Joint). j.first.number) 0 i joint inside here (within i inside) in
        let second_is : get_or edges.seconds.items (start + i) 0 ≡ joint.second.number =
        ap (λ (xs : List ℕ). get_or xs (start + i) 0) are.seconds ∙ column (λ (j : Joint). j.second.number) 0 i joint inside here (within i inside) in
        record {
          to = ap (λ (e : Edge). e.to)
              (ap (λ (xs : List Edge). get_or xs (start + i) (edge_of 0 0)) are.ends
              ∙ column (λ (j : Joint). edge_of j.from j.to) (edge_of 0 0) i joint inside here (within i inside));
          marks = ap (λ (xs : List (List ℕ)). get_or xs (start + i) []) are.marks ∙ column marks_of_both [] i joint inside here (within i inside);
          has_first = subst (HasEdge firsts) (sym first_is) (row_has firsts joint.first first_listed);
          first = ap (edge_numbered firsts) first_is ∙ row_edge firsts joint.first first_listed;
          has_second = subst (HasEdge seconds) (sym second_is) (row_has seconds joint.second second_listed);
          second = ap (edge_numbered seconds) second_is ∙ row_edge seconds joint.second second_listed;
        }

    joints_from : (begin end : ℕ) → begin ≡ sum_by (λ p. length (targets_of one other p)) (take at pairs) → end ≡ sum_by (λ p. length (targets_of one other p)) (take (at + 1) pairs)
        → AreJointsFrom edges firsts seconds begin end (joints_at one other pairs (get_or pairs at (0, 0)))
    joints_from begin end begins ends = record {
      many = omega (
        arith,
        begins,
        ends,
        pair_edges one other pairs (get_or pairs at (0, 0)),
        sum_by_more (λ p. length (targets_of one other p)) pairs at (0, 0) below,
      );
      each = λ i joint inside here. subst (λ n. IsJointAt edges firsts seconds (n + i) joint) (sym begins) (is_joint i joint inside here);
    }

  pub joints_leaving : (pair : Pair) → pair ≡ get_or pairs at (0, 0)
      → numbered_from firsts.before firsts.edges.now ≡ first_numbered one other pair → numbered_from seconds.before seconds.edges.now ≡ second_numbered one other pair
      → (past : List ℕ) → ((k : ℕ) → k < length pairs → get_or past k 0 ≡ sum_by (λ p. length (targets_of one other p)) (take (k + 1) pairs))
      → (begin end : ℕ) → begin ≡ past_before past at → end ≡ past_before past (at + 1)
      → AreJointsFrom edges firsts seconds begin end (joints_at one other pairs (get_or pairs at (0, 0)))
  joints_leaving pair here first_row second_row past each begin end begins ends =
      joints_from (first_row ∙ ap (first_numbered one other) here) (second_row ∙ ap (second_numbered one other) here) begin end
      (begins ∙ counted_before (λ p. length (targets_of one other p)) pairs past each at (omega (arith, below)))
      (ends ∙ counted_before (λ p. length (targets_of one other p)) pairs past each (at + 1) (omega (arith, below)))

  pub edges_labelled : joint_edges_of one other pairs (get_or pairs at (0, 0)) ≡ map labelled (joints_at one other pairs (get_or pairs at (0, 0)))
  edges_labelled =
      labelled_all pairs (pair_number pairs (get_or pairs at (0, 0))) (edges_before one.defined (get_or pairs at (0, 0)).0) (edges_before other.defined (get_or pairs at (0, 0)).1)
      (first_leaving one other (get_or pairs at (0, 0))) (second_leaving one other (get_or pairs at (0, 0)))

  pub deep_meeting_of : AreReachable one other pairs → HasDeepLabel (joints_at one other pairs (get_or pairs at (0, 0))) → HasDeepMeeting one other
  deep_meeting_of reachable has =
      let is_made = made has.joint has.listed in
      let first = plain_edge_listed (edges_before one.defined (get_or pairs at (0, 0)).0) (first_leaving one other (get_or pairs at (0, 0))) has.joint.first is_made.first in
      let second = plain_edge_listed (edges_before other.defined (get_or pairs at (0, 0)).1) (second_leaving one other (get_or pairs at (0, 0))) has.joint.second is_made.second in
      record {
        plain_edge = has.joint.first.plain_edge;
        partner = has.joint.second.plain_edge;
        met = record {
          pair = get_or pairs at (0, 0);
          reachable = reachable.each (get_or pairs at (0, 0)) (at, below, same_default pairs at (get_or pairs at (0, 0)) (0, 0) below);
          first = first;
          second = second;
        };
        deep = record { meet = is_made.meet; deep = has.deep };
      }
    where
      plain_edge_listed : (before : ℕ) (ts : List PlainEdge) (x : Numbered) → Contains (numbered_from before ts) x → Contains ts x.plain_edge
      plain_edge_listed before ts x listed =
          let inside = in_row before ts x listed in (inside.place, inside.below, same_default ts inside.place x.plain_edge no_edge inside.below ∙ sym inside.is)

-- a joint edge of which nothing is known
pub no_joint : Joint
no_joint = record { from = 0; to = 0; first = record { number = 0; plain_edge = no_edge }; second = record { number = 0; plain_edge = no_edge } }

-- the edges of a table, one more
module _ (edges : JointEdges) (firsts seconds : Row) (start end : ℕ) (joints : List Joint) (are : AreJointsFrom edges firsts seconds start end joints) where
  module _ (place : ℕ) (after : start ≤ place) (below : place < end) where
    inside : place - start < length joints
    inside = omega (arith, are.many, after, below)

    pub joint_here : IsJointAt edges firsts seconds place (get_or joints (place - start) no_joint)
    joint_here =
        let sum : start + (place - start) ≡ place = omega (arith, after) in
        subst (λ n. IsJointAt edges firsts seconds n (get_or joints (place - start) no_joint)) sum
        (are.each (place - start) (get_or joints (place - start) no_joint) inside
        (same_default joints (place - start) no_joint (get_or joints (place - start) no_joint) inside))

    pub listed_here : Contains joints (get_or joints (place - start) no_joint)
    listed_here = (place - start, inside, same_default joints (place - start) (get_or joints (place - start) no_joint) no_joint inside)

    pub labelled_more : (raw more : List RawEdge) (edge : RawEdge) → raw ≡ map raw_edge (map labelled (take (place - start) joints)) → more ≡ raw ++ edge ∷ []
        → edge ≡ raw_edge (labelled (get_or joints (place - start) no_joint)) → more ≡ map raw_edge (map labelled (take ((place + 1) - start) joints))
    labelled_more raw more edge so_far pushed is =
        let next : (place - start) + 1 ≡ (place + 1) - start = omega (arith, after) in
        pushed ∙ ap (λ (e : RawEdge). raw ++ e ∷ []) is
        ∙ ap (λ (es : List RawEdge). es ++ raw_edge (labelled (get_or joints (place - start) no_joint)) ∷ []) so_far
        ∙ sym (map-append raw_edge (map labelled (take (place - start) joints)) (labelled (get_or joints (place - start) no_joint) ∷ []))
        ∙ ap (map raw_edge) (sym (map_more labelled joints (place - start) no_joint inside))
        ∙ ap (λ n. map raw_edge (map labelled (take n joints))) next

  pub labelled_none : map raw_edge (map labelled (take (start - start) joints)) ≡ []
  labelled_none = let none : start - start ≡ 0 = omega arith in ap (λ n. map raw_edge (map labelled (take n joints))) none

  pub labelled_whole : (place : ℕ) (raw : List RawEdge) → end ≤ place → raw ≡ map raw_edge (map labelled (take (place - start) joints)) → raw ≡ map raw_edge (map labelled joints)
  labelled_whole place raw past so_far =
      so_far ∙ ap (λ (js : List Joint). map raw_edge (map labelled js)) (take_all (place - start) joints (omega (arith, past, are.many)))
