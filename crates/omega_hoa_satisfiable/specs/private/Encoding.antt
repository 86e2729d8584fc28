-- How a label is encoded as steps of a search.
use Rattle.std.specs.Prelude.{◌≡◌, ℕ, ◌+◌, ◌*◌, ◌<◌, ◌≤◌, ◌==◌, Bool, true}
use Rattle.std.specs.Prelude.{false, not, ◌&&◌, ◌||◌, List, [], ◌∷◌, length}
use Rattle.omega_hoa_label.specs.Label.{LabelTree, truth}
use Rattle.omega_hoa_satisfiable.specs.declared.steps.Step.{Step}
use Rattle.omega_hoa_satisfiable.specs.declared.exits.Exits.{Exits}
use Rattle.omega_hoa_satisfiable.specs.declared.left_parts.WaitingPart.{WaitingPart}
use Rattle.omega_hoa_satisfiable.specs.declared.part.LabelPart.{LabelPart}
use Rattle.omega_hoa_satisfiable.specs.Cubes.{cubes, literals_in}
use Rattle.omega_hoa_satisfiable.specs.private.Leading.{is_as, leads}
use Rattle.omega_hoa_satisfiable.specs.private.Visits.{visits}

-- the exits of the right one of two parts, for a conjunction or for a disjunction
abbrev pub right_exits : Bool → Exits → Exits
right_exits true exits = record { after = exits.after; otherwise = 0; whole = true }
right_exits false exits = exits

-- the exits of the left one of two parts, if the right one is encoded at a place
abbrev pub left_exits : Bool → Exits → ℕ → Exits
left_exits true exits right = record {
  after = right;
  otherwise = exits.otherwise;
  whole = exits.otherwise == 0;
}
left_exits false exits right = record {
  after = exits.after;
  otherwise = right;
  whole = exits.whole;
}

-- the part of a negation
abbrev pub negated_part : LabelPart → LabelPart
negated_part part = record { wanted = not part.wanted; exits = part.exits }

-- the right one of two parts, both of which are to hold, or one
abbrev pub right_part : Bool → LabelPart → LabelPart
right_part both part = record { wanted = part.wanted; exits = right_exits both part.exits }

-- the left one, if the right one is encoded at a place
abbrev pub left_part : Bool → LabelPart → ℕ → LabelPart
left_part both part right = record {
  wanted = part.wanted;
  exits = left_exits both part.exits right;
}

-- the next of the left parts that wait, if the right one is encoded at a place; the last part if none waits
abbrev pub next_part : LabelPart → List WaitingPart → ℕ → LabelPart
next_part last [] right = last
next_part last (joined ∷ waiting) right = left_part joined.both joined.whole right

-- those that wait after it
abbrev pub parts_below : List WaitingPart → List WaitingPart
parts_below [] = []
parts_below (joined ∷ waiting) = waiting

-- whether a valuation leads to the end by a part that holds or not, if `onward` says from which places it does
abbrev pub leads_past : (ℕ → Bool) → Exits → Bool → Bool
leads_past onward exits holds = (holds && onward exits.after) || onward exits.otherwise

-- the exits are places among steps, and whole only if each valuation that leads to the end from the other place also
-- does after the part
pub record AreExits (steps : List Step) (exits : Exits) : Type 0 where
  pub after_there : exits.after < length steps
  pub otherwise_there : exits.otherwise < length steps
  pub whole_is :
      exits.whole ≡ true → (held : ℕ → Bool)
      → leads held steps exits.otherwise ≡ true → leads held steps exits.after ≡ true

-- no more than this are visited from a label with these cubes on. These are for each literal one step and one where it
-- fails, but after the last literal of a cube as many as `after` says, and at the end as many as `otherwise` says.
abbrev pub AreVisited : List (List LabelTree) → (after otherwise count : ℕ) → Type 0
AreVisited all after otherwise count =
    count + length all ≤ 2 * literals_in all + length all * after + otherwise

-- the new steps encode a label, or its negation if it is not wanted. From a place among them a valuation leads to the
-- end exactly if it does by the label and the exits among the old steps. No more are visited than by its cubes.
pub record IsEncoded (old new : List Step) (tree : LabelTree) (wanted : Bool) (exits : Exits)
    (place : ℕ) : Type 0 where
  pub there : place < length new
  pub leading : (held : ℕ → Bool)
      → leads held new place ≡ leads_past (leads held old) exits (is_as wanted (truth held tree))
  pub visited : AreVisited (cubes wanted tree) (visits old exits.after)
      (visits old exits.otherwise) (visits new place)
