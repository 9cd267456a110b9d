use Rattle.std.proofs.Common.{◌≡◌, ◌+◌, ◌-◌, ◌%◌}
use Rattle.hashed.specs.Places.{home_of, seek, place_of}
use Rattle.hashed.proofs.place.Given as goal

abbrev pub invariant-loop-steps : goal.invariant-loop-steps
invariant-loop-steps l = (l.first ≡ home_of l.key) × (place_of l.slots l.key ≡ seek l.slots l.key (128 - l.steps) ((l.first + l.steps) % 128))
