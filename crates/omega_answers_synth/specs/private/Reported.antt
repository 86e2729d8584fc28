-- Refusals of the judges, as they are reported.
use Rattle.omega_text.specs.declared.refusal.Refusal.{Refusal}
use Rattle.omega_hoa_automaton.specs.Automaton.{Description}
use Rattle.omega_io.specs.declared.refused.Refused.{Refused}
use Rattle.omega_answers_synth.specs.Counter.{counter_text}
use Rattle.omega_answers_synth.specs.Verify.{text_about}

-- it names the text that it is about
abbrev pub judge_reported : Description → Refusal → Refused
judge_reported controller refusal = record {
  refusal = refusal;
  text = text_about controller refusal;
}

-- of the judge of counter-strategies too
abbrev pub counter_reported : Refusal → Refused
counter_reported refusal = record { refusal = refusal; text = counter_text refusal }
