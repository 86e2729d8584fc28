-- A name ends at the next quote, or the bytes begin no form.
use Rattle.std.proofs.Common.{◌≡◌, ◌+◌, ◌<◌, length, get_or, drop, inl, refl, ap, ◌∙◌, arith, length-drop}
use Rattle.std.proofs.lemmas.List.Sums.{prefix_len-le-length}
use Rattle.std.specs.List.{prefix_len}
use Rattle.omega_text.specs.pg.Forms.{is_name_byte}
use Rattle.omega_text.proofs.pg_texts.Quoted.{longest_name, no_name}
use Rattle.omega_text.proofs.pg_texts.Tokens.{front_as}
use Rattle.omega_text.proofs.pg.token.first_name.Goals as goal
use Rattle.omega_text.proofs.pg.token.first_name.Goals.{After-name_count-close, else-close-bytes-via-then-close-bytes+else-bytes-close-eq34, else-close-bytes-via-else-close-bytes}

-- where the bytes of the name end
counted : (c : After-name_count-close) → 1 + c.name_count-close.result ≡ 1 + prefix_len is_name_byte (drop 1 c.args.bytes.now)
counted c = ap (λ n. 1 + n) (c.name_count-close.ensures ∙ ap (prefix_len is_name_byte) c.tail.ensures)

pub overflow_add-close : goal.overflow_add-close
overflow_add-close c =
    let is = counted (goal.at.overflow_add-close c).After-name_count-close in
    omega (arith, prefix_len-le-length is_name_byte (drop 1 c.args.bytes.now), length-drop 1 c.args.bytes.now)

pub returns-then-bytes-close-eq34-clause-form : goal.returns-then-bytes-close-eq34-clause-form
returns-then-bytes-close-eq34-clause-form c =
    let name = longest_name c.args.bytes.now c.requires.some c.requires.quote _ (counted (goal.at.returns-then-bytes-close-eq34-clause-form c).After-name_count-close) c.if-close-bytes.true c.if-bytes-close-eq34.true in
    front_as _ _ _ _ _ _ c.plain_form.ensures.kind c.plain_form.ensures.value c.plain_form.ensures.count name.0 (refl, name.1)

pub returns-else-close-bytes-clause-fault : goal.returns-else-close-bytes-clause-fault
returns-else-close-bytes-clause-fault c =
    let is = counted (goal.at.returns-else-close-bytes-clause-fault c).After-name_count-close in
    let close = 1 + c.name_count-close.result in
    let unclosed : close < length c.args.bytes.now → get_or c.args.bytes.now close 0 ≡ 34 → ⊥ = elim c.else-close-bytes.branch [
      | else-close-bytes-via-then-close-bytes+else-bytes-close-eq34 w ↦ λ inside quote. w.if-bytes-close-eq34.false quote
      | else-close-bytes-via-else-close-bytes w ↦ λ inside quote. absurd (omega (arith, w.if-close-bytes.false))
    ] in
    (refl, inl (no_name c.args.bytes.now c.requires.some c.requires.quote close is unclosed))
