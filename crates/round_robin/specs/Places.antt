-- Frames at 16 places: what a put and a take do to them.
use Rattle.std.specs.Prelude.{ℕ, ◌+◌, ◌-◌, ◌%◌, Bool, cond, ◌&&◌, List, [], ◌∷◌, ◌++◌, length, Some, None, Option, ◌==◌, nat_lt, slice_index_or, slice_set, find}
use Rattle.std.specs.List.{range_with_len}
use Rattle.link.specs.Frames.{Frame}

-- the frames by place, the place of the oldest, and the place where the next round begins
pub record Places : Type 0 where
  pub frames : List Frame
  pub oldest : ℕ
  pub next : ℕ

abbrev pub new_places : Places
new_places = record { frames = []; oldest = 0; next = 0 }

-- what a read past the taken places gives
abbrev pub no_frame : Frame
no_frame = (0, [])

abbrev pub at : List Frame → ℕ → Frame
at w p = slice_index_or w p no_frame

-- a frame of over 128 bytes is lost, and one that comes when all places are taken replaces the oldest
abbrev pub round_put : Places → ℕ → List ℕ → Places
round_put m a b =
    cond (nat_lt 128 (length b)) m
    (cond (nat_lt (length m.frames) 16)
    (record { frames = m.frames ++ (a, b) ∷ []; oldest = m.oldest; next = m.next })
    (record { frames = slice_set m.frames m.oldest (a, b); oldest = (m.oldest + 1) % 16; next = m.next }))

-- the place has a frame for the address
abbrev pub is_to : List Frame → ℕ → ℕ → Bool
is_to w a p = nat_lt p (length w) && (at w p).0 == a

-- the places in the order of a round that begins at p
abbrev pub round_from : ℕ → List ℕ
round_from p = range_with_len p (16 - p) ++ range_with_len 0 p

-- the first place for the address in a round that begins at p
abbrev pub round : List Frame → ℕ → ℕ → Option ℕ
round w a p = find (is_to w a) (round_from p)

-- the next round begins after the place
abbrev pub moved : Places → ℕ → Places
moved m p = record { frames = m.frames; oldest = m.oldest; next = (p + 1) % 16 }

-- the bytes at the place that the round came to, and the places after they are handed out
abbrev pub handed : Places → Option ℕ → Option (List ℕ) × Places
handed m None = (None, m)
handed m (Some p) = (Some (at m.frames p).1, moved m p)

abbrev pub round_take : Places → ℕ → Option (List ℕ) × Places
round_take m a = handed m (round m.frames a m.next)
