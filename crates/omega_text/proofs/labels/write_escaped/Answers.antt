-- `write_escaped`: a chunk more is written.
use Rattle.std.proofs.Common.{◌≡◌, ℕ, ◌<◌, List, ◌++◌, length, ap, ◌∙◌, rules}
use Rattle.omega_text.specs.Labels.{escaped_bytes}
use Rattle.omega_text.proofs.Chunks.{chunk_written, last_chunk_written, nothing_left}
use Rattle.omega_text.proofs.labels.write_escaped.Goals as goal

pub loop-chunk-preserved-in-Continue-branch-2 : goal.loop-chunk-preserved-in-Continue-branch-2
loop-chunk-preserved-in-Continue-branch-2 c =
    let steps = c.in-Some.ensures.steps in
    let some : 0 < length c.in-Some.chunk.invalid.now = search rules in
    let text : c.write_escaped_bytes.new.out.items ≡ c.loop-chunk.out.items ++ escaped_bytes c.in-Some.chunk.valid.now =
    c.in_ok-write_escaped_bytes.ensures.ok ∙ ap (λ (bytes : List ℕ). c.loop-chunk.out.items ++ escaped_bytes bytes) (c.as_bytes.ensures.value ∙ c.valid.ensures) in
    chunk_written _ _ _ _ c.loop-chunk.out.items _ _ _ steps.0 steps.3.0 steps.3.1 some text c.in_ok-extend_from_slice.ensures.items c.loop-chunk.invariant

pub loop-chunk-preserved : goal.loop-chunk-preserved
loop-chunk-preserved c =
    let steps = c.in-Some.ensures.steps in
    let none : length c.in-Some.chunk.invalid.now ≡ 0 = search rules in
    let text : c.write_escaped_bytes.new.out.items ≡ c.loop-chunk.out.items ++ escaped_bytes c.in-Some.chunk.valid.now =
    c.in_ok-write_escaped_bytes.ensures.ok ∙ ap (λ (bytes : List ℕ). c.loop-chunk.out.items ++ escaped_bytes bytes) (c.as_bytes.ensures.value ∙ c.valid.ensures) in
    last_chunk_written _ _ _ _ c.loop-chunk.out.items _ _ steps.0 steps.3.0 none (steps.2 none) text c.loop-chunk.invariant

pub returns-clause-ok : goal.returns-clause-ok
returns-clause-ok c = nothing_left _ c.loop-chunk.out.items _ c.in-None.ensures.steps.0 c.loop-chunk.invariant
