-- one state more
use Rattle.std.proofs.Common.{◌≡◌, ◌+◌, ◌≤◌, ℕ, Bool, List, [], ◌∷◌, ◌++◌, map, ap, sym, ◌∙◌, arith}
use Rattle.std.specs.List.{range_with_len}
use Rattle.std.proofs.lemmas.List.FromFn.{map-range_with_len_more}
use Rattle.omega_synth_text.specs.Winner.{number_of}
use Rattle.omega_synth_text.specs.private.Parts.{flag}
use Rattle.omega_synth_text.proofs.Ranges.{count_more, count_range}
use Rattle.omega_synth_text.proofs.numbering.new_numbers.Goals as goal

pub overflow_add-count : goal.overflow_add-count
overflow_add-count c =
    let test : ℕ → Bool = flag c.args.reached.now in
    let next : c.loop-state.count + c.one_if-count.result ≡ number_of test (c.loop-state.state + 1) =
    ap (λ (k : ℕ). c.loop-state.count + k) c.one_if-count.ensures
    ∙ count_more test c.loop-state.state c.loop-state.count c.is_set.result c.loop-state.invariant.1 c.is_set.ensures in
    let low : number_of test (c.loop-state.state + 1) ≤ c.loop-state.state + 1 = count_range test (c.loop-state.state + 1) in
    omega (arith, next, low, c.loop-state-test.true, c.ranges.states.fits)

pub loop-state-preserved : goal.loop-state-preserved
loop-state-preserved c =
    let test : ℕ → Bool = flag c.args.reached.now in
    let state : ℕ = c.loop-state.state in (
      c.in_ok-push.ensures.items ∙ ap (λ (xs : List ℕ). xs ++ c.loop-state.count ∷ []) c.loop-state.invariant.0
          ∙ ap (λ (k : ℕ). map (number_of test) (range_with_len 0 state) ++ k ∷ []) c.loop-state.invariant.1
          ∙ sym (map-range_with_len_more (number_of test) 0 state state (omega arith)),
      ap (λ (k : ℕ). c.loop-state.count + k) c.one_if-count.ensures
          ∙ count_more test state c.loop-state.count c.is_set.result c.loop-state.invariant.1 c.is_set.ensures,
    )
