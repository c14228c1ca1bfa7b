-- What carriers have alike of a record.
use Rattle.std.specs.Prelude.{◌≡◌}
use Rattle.marker_format.specs.declared.marker.Marker.{Marker}
use Rattle.array_model.specs.Reading.{aside}

-- the records stand at one place in sets of one code
pub record StandAlike (one other : Marker) : Type 0 where
  pub kind : one.kind ≡ other.kind
  pub k : one.k ≡ other.k
  pub n : one.n ≡ other.n
  pub set : one.set ≡ other.set
  pub position : one.position ≡ other.position
  pub fragment : one.fragment ≡ other.fragment
  pub array : one.array ≡ other.array

-- they say the same, but for the index and a head's rebuilt mark
pub record SayAlike (one other : Marker) : Type 0 where
  pub stamp : one.stamp ≡ other.stamp
  pub upload : one.upload ≡ other.upload
  pub part : (aside one).part ≡ (aside other).part
  pub parts : one.parts ≡ other.parts
  pub length : one.length ≡ other.length
  pub payload : one.payload ≡ other.payload
  pub name : one.name ≡ other.name
