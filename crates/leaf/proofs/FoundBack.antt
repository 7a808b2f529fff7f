-- Nothing is lost in what a walk finds as floats. Assumes nothing.
use mathlib.Core.List.{List}
use mathlib.Core.Path.{◌≡◌, refl}
use Prim.Native.Nat.{◌<◌}
use lib.Ieee.{Float, nan}
use lib.ListN.{length, set}
use lib.Seq.{get_or-set_same}
use Rattle.geometry.specs.Vector.{vector_from}
use Rattle.leaf.specs.declared.leaf.Crossing.{Crossing}
use Rattle.leaf.specs.declared.leaf.Frame.{Frame}
use Rattle.leaf.specs.Found.{t_at, distance_from, crossing_from, frame_from, found_floats}

pub crossing_back : (at : Crossing) (f : Frame) → crossing_from (found_floats at f) ≡ at
unfolding crossing_from found_floats
crossing_back at f = refl

pub frame_back : (at : Crossing) (f : Frame) → frame_from (found_floats at f) ≡ f
unfolding frame_from found_floats vector_from
frame_back at f = refl

pub distance_back : (x l : List Float) (t : Float) → x ≡ set l t_at t → t_at < length l → distance_from x ≡ t
unfolding distance_from
distance_back x l t e h = rw e (get_or-set_same l t_at t nan h)
