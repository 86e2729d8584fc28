-- `marks_of`: the places and the steps that were added are those of the lasso.
use Rattle.omega_game_dot.proofs.marks.marks_of.Goals as goal

pub returns-clause-marks : goal.returns-clause-marks
returns-clause-marks c = record {
  node = λ place. cc (c.in_ok-add_places.ensures.found place, c.in_ok-add_places-2.ensures.found place);
  edge = λ v w. cc (c.first_of-first.ensures, c.in_ok-add_steps.ensures.found v w, c.in_ok-add_steps-2.ensures.found v w);
}
