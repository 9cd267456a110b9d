-- Which frames count as repeats, and what is answered for them.
use Rattle.std.specs.Prelude.{ℕ, ◌-◌, Bool, cond, ◌&&◌, List, [], ◌∷◌, ◌++◌, length, drop, Some, None, Option, ◌==◌}
use Rattle.std.specs.List.{list_any}
use Rattle.std.specs.Str.{bytes_eq}
use Rattle.link.specs.Frames.{Frame}

-- the same address and the same bytes
abbrev pub same_frame : Frame → Frame → Bool
same_frame f g = f.0 == g.0 && bytes_eq f.1 g.1

-- the frame is one of those
abbrev pub seen : Frame → List Frame → Bool
seen f rs = list_any (same_frame f) rs

abbrev pub last_eight : List Frame → List Frame
last_eight h = drop (length h - 8) h

-- what is answered for what the inner link answered, and the last eight after it: a repeat is swallowed
abbrev pub filtered : List Frame → ℕ → Option (List ℕ) → Option (List ℕ) × List Frame
filtered rs a None = (None, rs)
filtered rs a (Some b) = cond (seen (a, b) rs) (None, rs) (Some b, last_eight (rs ++ (a, b) ∷ []))
