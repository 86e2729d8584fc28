-- The lasso text in a walk's text: what else it has is covered by spaces, so that all stays at its place.
use Rattle.std.specs.Prelude.{ℕ, ◌+◌, ◌-◌, ◌==◌, ◌||◌, Bool, eqb, if◌then◌else◌}
use Rattle.std.specs.Prelude.{List, [], ◌∷◌, codes, drop, slice_index}
use Rattle.std.specs.List.{prefix_len, starts_with}
use Rattle.omega_text.specs.pg.Forms.{is_name_byte}

-- how many bytes of a line `no` the bytes begin with: its three or none
abbrev pub no_size : List ℕ → ℕ
no_size bytes = if starts_with eqb bytes (codes "no\n") then 3 else 0

-- whether the bytes begin with the line of a player
abbrev pub begins_with_player : List ℕ → Bool
begins_with_player bytes =
    starts_with eqb bytes (codes "player 0\n") || starts_with eqb bytes (codes "player 1\n")

-- how many bytes of such a line the bytes begin with: its nine or none
abbrev pub player_size : List ℕ → ℕ
player_size bytes = if begins_with_player bytes then 9 else 0

-- how many bytes the lines before the stem have: that of `no`, and then that of the player
abbrev pub front_size : List ℕ → ℕ
front_size bytes = no_size bytes + player_size (drop (no_size bytes) bytes)

-- how many bytes of a name and of the double quote at its end the bytes begin with: none without such a quote
abbrev pub name_size : List ℕ → ℕ
name_size bytes =
    let count = prefix_len is_name_byte bytes in
    if slice_index bytes count == 34 then count + 1 else 0

-- how many bytes of a name in double quotes the bytes begin with, the quotes counted: none without both
abbrev pub quoted_size : List ℕ → ℕ
quoted_size [] = 0
quoted_size (byte ∷ rest) =
    if byte == 34 then (if name_size rest == 0 then 0 else name_size rest + 1) else 0

-- how many of the bytes are to be covered from here on, if so many are left of what began before
abbrev pub left_from : ℕ → List ℕ → ℕ
left_from left bytes = if left == 0 then quoted_size bytes else left

-- the byte that stands for one, if `now` bytes are to be covered from it on: itself, or a space
abbrev pub shown : (now byte : ℕ) → ℕ
shown now byte = if now == 0 then byte else 32

-- the bytes with spaces in place of the first `left` of them, and of each name in double quotes after these
abbrev pub covered : (left : ℕ) → List ℕ → List ℕ
covered left [] = []
covered left (byte ∷ rest) =
    let now = left_from left (byte ∷ rest) in
    shown now byte ∷ covered (now - 1) rest

-- the lasso text in a walk's text
abbrev pub lasso_in : List ℕ → List ℕ
lasso_in source = covered (front_size source) source
