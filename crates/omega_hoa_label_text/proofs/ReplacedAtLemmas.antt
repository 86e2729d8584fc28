-- Where the nodes of a definition stand among those that are out, while more are put out.
use Rattle.std.proofs.Common.{◌≡◌, ℕ, ◌+◌, ◌-◌, ◌≤◌, List, [], ◌++◌, Some, length, take, drop, ap, subst, sym, ◌∙◌, arith, append_assoc, append-nil, length-append, length-drop}
use Rattle.std.proofs.Math.Seq.{drop-append_seam, take-length}
use Rattle.std.proofs.lemmas.List.{drop-append-le, take-append-le}
use Rattle.std.proofs.Math.Seq.{take-add}
use Rattle.std.proofs.lemmas.List.{drop-drop}
use Rattle.std.specs.List.{slice_range}
use Rattle.omega_hoa_label_text.specs.Expanding.{Defined, entries_of, replaced}
use Rattle.omega_hoa_label.specs.Raw.{RawLabelTree}
use Rattle.omega_hoa_label_text.specs.private.Emitting.{IsBodyAt, IsReplacedAt, nodes_of}
use Rattle.omega_hoa_label.specs.declared.label.LabelNode.{LabelNode}

-- at first there are none
pub replaced-none : (definitions : List Defined) (limit : ℕ) (out : List LabelNode) → IsReplacedAt definitions limit out limit 0 0
replaced-none definitions limit out = record { forward = omega arith; within = omega arith; nodes = λ body lt is. absurd (omega (arith, lt)) }

-- what stands stays
pub stretch-kept : (out more : List LabelNode) (start stop : ℕ) → start ≤ stop → stop ≤ length out → slice_range (out ++ more) start stop ≡ slice_range out start stop
stretch-kept out more start stop forward within =
    let lower : start ≤ length out = omega arith in
    let fits : stop - start ≤ length (drop start out) = simp length-drop (omega arith) in
    ap (take (stop - start)) (drop-append-le start out more lower) ∙ take-append-le (stop - start) (drop start out) more fits

pub replaced-kept : (definitions : List Defined) (limit : ℕ) (out more all : List LabelNode) (place start stop : ℕ)
    → IsReplacedAt definitions limit out place start stop → all ≡ out ++ more → IsReplacedAt definitions limit all place start stop
replaced-kept definitions limit out more all place start stop at is = record {
  forward = at.forward;
  within = omega (arith, at.within, ap length is, length-append out more);
  nodes = λ body lt here. ap (λ nodes. slice_range nodes start stop) is ∙ (stretch-kept out more start stop at.forward at.within ∙ at.nodes body lt here);
}

-- and so it is where it is named alike
pub replaced-moved : (definitions : List Defined) (limit : ℕ) (out more all : List LabelNode) (place start stop at from to : ℕ)
    → IsReplacedAt definitions limit out place start stop → all ≡ out ++ more → at ≡ place → from ≡ start → to ≡ stop
    → IsReplacedAt definitions limit all at from to
replaced-moved definitions limit out more all place start stop at from to there is same_place same_start same_stop =
    subst (λ n. IsReplacedAt definitions limit all n from to) (sym same_place)
    (subst (λ n. IsReplacedAt definitions limit all place n to) (sym same_start)
    (subst (IsReplacedAt definitions limit all place start) (sym same_stop) (replaced-kept definitions limit out more all place start stop there is)))

-- what was put out last stands there
stretch-new : (out more : List LabelNode) → slice_range (out ++ more) (length out) (length (out ++ more)) ≡ more
stretch-new out more =
    let count : length (out ++ more) - length out ≡ length more = omega (arith, length-append out more) in
    ap (take (length (out ++ more) - length out)) (drop-append_seam out more) ∙ (ap (λ n. take n more) count ∙ take-length more)

same-body : (one other : RawLabelTree) → Some one ≡ Some other → one ≡ other
same-body one other e = cc

pub replaced-new : (definitions : List Defined) (limit : ℕ) (out all : List LabelNode) (place start stop : ℕ) (body : RawLabelTree)
    → IsBodyAt definitions place body → all ≡ out ++ nodes_of (replaced (take place (entries_of [] definitions)) body)
    → start ≡ length out → stop ≡ length all → IsReplacedAt definitions limit all place start stop
replaced-new definitions limit out all place start stop body here is first last =
    let more = nodes_of (replaced (take place (entries_of [] definitions)) body) in
    record {
      forward = omega (arith, first, last, ap length is, length-append out more);
      within = omega (arith, last);
      nodes = λ other lt there.
          ap (λ n. slice_range all n stop) first
          ∙ (ap (λ n. slice_range all (length out) n) last
          ∙ (ap (λ nodes. slice_range nodes (length out) (length nodes)) is
          ∙ (stretch-new out more
          ∙ ap (λ tree. nodes_of (replaced (take place (entries_of [] definitions)) tree)) (same-body body other (sym here ∙ there)))));
    }

-- ---- a stretch that is copied part by part

-- nothing of it
pub stretch-none : (old : List LabelNode) (start : ℕ) → old ≡ old ++ slice_range old start start
stretch-none old start =
    let none : 0 ≡ start - start = omega arith in
    sym (append-nil old) ∙ ap (λ n. old ++ take n (drop start old)) none

-- a part, and the one after it
stretch-more : (old : List LabelNode) (start middle stop : ℕ) → start ≤ middle → middle ≤ stop → slice_range old start middle ++ slice_range old middle stop ≡ slice_range old start stop
stretch-more old start middle stop first last =
    let place : middle ≡ start + (middle - start) = omega (arith, first) in
    let size : (middle - start) + (stop - middle) ≡ stop - start = omega (arith, first, last) in
    let there : drop middle old ≡ drop (middle - start) (drop start old) = ap (λ n. drop n old) place ∙ sym (drop-drop (middle - start) start old) in
    ap (λ rest. take (middle - start) (drop start old) ++ take (stop - middle) rest) there
    ∙ (sym (take-add (middle - start) (stop - middle) (drop start old)) ∙ ap (λ n. take n (drop start old)) size)

-- one part more
pub stretch-goes-on : (old out now : List LabelNode) (start middle stop : ℕ) → start ≤ middle → middle ≤ stop → stop ≤ length old
    → out ≡ old ++ slice_range old start middle → now ≡ out ++ slice_range out middle stop → now ≡ old ++ slice_range old start stop
stretch-goes-on old out now start middle stop first last within before is =
    is
    ∙ (ap (λ nodes. nodes ++ slice_range nodes middle stop) before
    ∙ (ap (λ part. (old ++ slice_range old start middle) ++ part) (stretch-kept old (slice_range old start middle) middle stop last within)
    ∙ (append_assoc old (slice_range old start middle) (slice_range old middle stop)
    ∙ ap (λ part. old ++ part) (stretch-more old start middle stop first last))))

-- there is room in what was put out
pub stretch-within : (old out : List LabelNode) (start middle stop : ℕ) → stop ≤ length old → out ≡ old ++ slice_range old start middle → stop ≤ length out
stretch-within old out start middle stop within before =
    let size = ap length before ∙ length-append old (slice_range old start middle) in
    omega (arith, size, within)
