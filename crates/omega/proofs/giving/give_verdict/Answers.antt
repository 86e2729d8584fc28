-- `give_verdict`: the verdict is written and the text is held, or there is no memory for it.
use Rattle.std.proofs.Common.{inl, inr, refl}
use Rattle.omega_text.specs.declared.refusal.Refusal.TheVariants.{Memory}
use Rattle.omega_io.specs.Refused.{about_none}
use Rattle.omega.proofs.giving.give_verdict.Goals as goal

pub returns-in-Ok : goal.returns-in-Ok
returns-in-Ok c =
    inl (record {
      exit = c.args.exit;
      verdict = c.verdict_number.ensures;
      text = record { outcome_is = c.success.ensures; output = c.args.output.items; is_right = (refl, refl); held = c.in-Ok.ensures };
    })

pub returns-in-Err : goal.returns-in-Err
returns-in-Err c =
    inr (refl, record { refused = about_none Memory; refuses_so = refl; outcome_is = c.of_one.ensures; kept = refl })
