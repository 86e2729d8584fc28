-- The number comes after the gap.
use Rattle.omega_text.proofs.pg_texts.Tokens.{form_after}
use Rattle.omega_text.proofs.pg.token.next_pg_number.Goals as goal

pub returns-clause-token : goal.returns-clause-token
returns-clause-token c =
    form_after _ _ _ _ _ _ _ _ c.blank_end-start.ensures c.tail-bytes.ensures c.in_ok-front.ensures.form c.front_token.ensures
