-- Nothing is lost in a record's floats. Assumes nothing.
use mathlib.Core.Path.{◌≡◌, refl}
use lib.ListN.{length}
use Rattle.geometry.specs.Normal.{normal_of}
use Rattle.geometry.specs.Point.{point_from}
use Rattle.geometry.specs.Vector.{vector_from}
use Rattle.interaction.specs.declared.SurfaceInteraction.{SurfaceInteraction}
use Rattle.interaction.specs.Floats.{record_size, record_floats, record_from}

pub length-record : (h : SurfaceInteraction) → length (record_floats h) ≡ record_size
unfolding record_floats
length-record h = refl

pub record_back : (h : SurfaceInteraction) → record_from (record_floats h) ≡ h
unfolding record_floats record_from normal_of point_from vector_from
record_back h = refl
